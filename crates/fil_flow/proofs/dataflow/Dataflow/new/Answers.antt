use Rattle.std.proofs.Common.{subst}
use Rattle.fil_ast.specs.Rules.{FilRules}
use Rattle.fil_ast.specs.Tree.{design_of}
use Rattle.fil_ast.specs.declared.tree.FilDesign.{FilDesign}
use Rattle.fil_flow.proofs.DataflowLemmas.{is_dataflow}
use Rattle.fil_flow.proofs.dataflow.Dataflow.new.Goals as goal

pub returns : goal.returns
returns c = λ comp at.
    let d = c.args.ok.now in
    let F : FilDesign → Type 0 = λ design. FilRules (design_of design) in
    let rules : FilRules (design_of d) = subst F c.design-design.ensures.same c.design-design.ensures.rules in
    is_dataflow (design_of d) comp (record { plans = c.in_ok-plans.plans; comp = c.args.comp }) rules.keeps at c.in_ok-plans.ensures
