use Rattle.std.proofs.Common.{subst, ◌∙◌}
use Rattle.fil_ast.specs.Rules.{FilRules}
use Rattle.fil_ast.specs.Tree.{design_of}
use Rattle.fil_ast.specs.declared.tree.FilDesign.{FilDesign}
use Rattle.fil_check.proofs.ToldLemmas.{told}
use Rattle.fil_check.proofs.weight.fil_weight.Goals as goal

pub returns : goal.returns
returns c = λ comp at.
    let d = c.args.ok.now in
    let F : FilDesign → Type 0 = λ design. FilRules (design_of design) in
    let rules : FilRules (design_of d) = subst F c.design-design.ensures.same c.design-design.ensures.rules in
    c.min.ensures ∙ told (design_of d) rules.keeps c.args.comp comp at c.in_ok-weights.weights.items c.index.result.now c.in_ok-weights.ensures c.index.ensures
