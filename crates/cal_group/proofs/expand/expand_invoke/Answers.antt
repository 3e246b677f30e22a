use Rattle.std.proofs.Common.{List, ap, subst, ◌∙◌}
use Rattle.hw_names.specs.Name.{KeepsTexts, Text}
use Rattle.cal_ast.specs.Rules.{CalRules}
use Rattle.cal_ast.specs.Tree.{design_of}
use Rattle.cal_ast.specs.declared.tree.CalDesign.{CalDesign}
use Rattle.cal_group.specs.inside.Expanded.{expanded_design}
use Rattle.cal_group.proofs.ExpandsLemmas.{expands}
use Rattle.cal_group.proofs.StableLemmas.{KeepsTexts-refl, KeepsTexts-trans}
use Rattle.cal_group.proofs.expand.expand_invoke.Goals as goal

pub returns-clause-expands : goal.returns-clause-expands
returns-clause-expands c =
    let source = c.design-source.result.now.names in
    let first = c.port_names.new.names in
    let new = c.expanded_components.new.made.names in
    let K : List Text → Type 0 = λ names. KeepsTexts names first in
    let kept = KeepsTexts-trans source first new (subst K c.in_ok-names.ensures c.in_ok-ports.ensures.kept) c.in_ok-comps.ensures.kept in
    let rules = subst (λ (d : CalDesign). CalRules (design_of d)) c.design-source.ensures.same c.design-source.ensures.rules in
    expands (design_of c.args.ok.now) _ rules
    (c.in_ok-comps.ensures.trees new (KeepsTexts-refl new, kept) ∙ ap (λ (d : CalDesign). expanded_design (design_of d)) c.design-source.ensures.same)

pub returns-clause-numbers : goal.returns-clause-numbers
returns-clause-numbers c =
    let source = c.design-source.result.now.names in
    let first = c.port_names.new.names in
    let new = c.expanded_components.new.made.names in
    let K : List Text → Type 0 = λ names. KeepsTexts names first in
    let kept = KeepsTexts-trans source first new (subst K c.in_ok-names.ensures c.in_ok-ports.ensures.kept) c.in_ok-comps.ensures.kept in
    c.in_ok-comps.ensures.numbers new (KeepsTexts-refl new, kept)
