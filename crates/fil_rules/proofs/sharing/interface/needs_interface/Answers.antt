use Rattle.std.proofs.Common.{inl, inr, is_some, sym, ◌∙◌}
use Rattle.fil_place.proofs.GeneralLemmas.{clash}
use Rattle.fil_rules.proofs.sharing.interface.needs_interface.Goals as goal

pub returns-else-is_some : goal.returns-else-is_some
returns-else-is_some c with v lists =
    let used = c.is_used.ensures with v lists in (
      λ t. inr (used.0 t),
      λ why. elim why [
        | inl some ↦ absurd (clash (is_some c.args.event.now.go) some (sym c.is_some.ensures ∙ c.if-is_some.false))
        | inr before ↦ used.1 before
      ],
    )
