use Rattle.std.proofs.Common.{◌≡◌, Contains, IsSome, None, Some, slice_get, refl, sym, subst}
use Rattle.hw_names.specs.declared.names.NameId.{NameId}
use Rattle.hw_names.proofs.NameLemmas.{Contains-slice_get}
use Rattle.hw_names.proofs.OwnedTexts.{slice_get-position, list_any-Contains}
use Rattle.hw_names.proofs.names.Names.find.Goals as goal

text_there : (c : goal.In_ok-index) → slice_get c.args.self.now c.in_ok-index.index ≡ Some c.args.text.now
text_there c =
    rw (← c.self.view_is) (slice_get-position (λ owned. owned.bytes.items) c.args.text.now c.self.inside.texts.keys c.in_ok-index.index (sym c.in_ok-index.ensures.index))

not_there : (c : goal.After-from_residual) → ¬ Contains c.args.self.now c.args.text.now
not_there c there =
    let in_set = subst (λ names. Contains names c.args.text.now) (sym c.self.view_is) there in
    let found = list_any-Contains (λ owned. owned.bytes.items) c.args.text.now c.self.inside.texts.keys in_set in
    cc (found, c.in_err-index.ensures.found)

none : IsSome {T = NameId} None → ⊥
none some = cc

pub returns-in_err-index-clause-present : goal.returns-in_err-index-clause-present
returns-in_err-index-clause-present c =
    rw c.from_residual.ensures (λ some. absurd (none some), λ there. absurd (not_there c there))

pub returns-clause-text : goal.returns-clause-text
returns-clause-text c = text_there c

pub returns-clause-present : goal.returns-clause-present
returns-clause-present c =
    (λ _. Contains-slice_get c.args.self.now c.in_ok-index.index c.args.text.now (text_there c), λ _. refl)
