use Rattle.std.proofs.Common.{Bool, sym, subst}
use Rattle.net_core.specs.declared.net.Guard.TheVariants as variants
use Rattle.net_guard.proofs.TopLemmas.{negated_guard}
use Rattle.net_guard.specs.inside.Folding.{IsGuardOf, core_tree, negated_tree}
use Rattle.net_guard.proofs.tops.Open.guard.Goals as goal

pub returns-in_ok-new : goal.returns-in_ok-new
returns-in_ok-new c = λ names has.
    let tree = core_tree names c.args.self.core in
    let G : Bool → Type 0 = λ negated. IsGuardOf names (negated_tree negated tree) (variants.Not c.in_ok-new.field-0) in
    subst G (sym c.if-negated.true) (negated_guard names tree c.in_ok-guard.guard c.in_ok-new.field-0 c.in_ok-new.ensures.ok (c.in_ok-guard.ensures names has))

pub returns-else-negated : goal.returns-else-negated
returns-else-negated c = λ names has.
    let tree = core_tree names c.args.self.core in
    let G : Bool → Type 0 = λ negated. IsGuardOf names (negated_tree negated tree) c.in_ok-guard.guard in
    subst G (sym c.if-negated.false) (c.in_ok-guard.ensures names has)
