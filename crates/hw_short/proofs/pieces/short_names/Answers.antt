use Rattle.std.proofs.Common.{ℕ, List, length, refl, sym, subst, subst₂}
use Rattle.std.specs.Prelude.{All}
use Rattle.hw_short.specs.inside.ShortNames.{AreNamed, AreWithin, IsPlainPiece}
use Rattle.hw_short.specs.declared.pieces.Piece.{Piece}
use Rattle.hw_short.specs.declared.pieces.Places.{Places}
use Rattle.hw_short.proofs.ShortNameLemmas.{pieces_told, places_within, names_tell}
use Rattle.hw_short.proofs.pieces.short_names.Goals as goal

pub names_by-requires-clause-places : goal.names_by-requires-clause-places
names_by-requires-clause-places c =
    let texts = c.args.texts.now.all in
    let pieces = c.all_places.new.pieces.keys in
    let ranks = c.in_ok-ranks.ranks.items in
    let told = pieces_told texts pieces c.as_slice-3.result.now c.in_ok-same.same.items c.deref.result.now ranks c.deref.ensures.value c.in_ok-same.ensures c.as_slice-3.ensures.keys c.in_ok-ranks.ensures in
    subst₂ (λ (l : List ℕ) (m : List Places). All (AreWithin (length l)) m) (sym c.deref-2.ensures.value) (sym c.deref-3.ensures.value)
    (places_within texts pieces ranks c.args.full.now c.in_ok-places.places.items told c.in_ok-places.ensures.places)

pub returns : goal.returns
returns c =
    let texts = c.args.texts.now.all in
    let pieces = c.all_places.new.pieces.keys in
    let ranks = c.in_ok-ranks.ranks.items in
    let places = c.in_ok-places.places.items in
    let told = pieces_told texts pieces c.as_slice-3.result.now c.in_ok-same.same.items c.deref.result.now ranks c.deref.ensures.value c.in_ok-same.ensures c.as_slice-3.ensures.keys c.in_ok-ranks.ensures in
    let plain : All (IsPlainPiece texts) pieces = subst (λ (l : List Piece). All (IsPlainPiece texts) l) c.as_slice.ensures.keys (c.if-not-are_plain.ensures refl) in
    let named : AreNamed ranks places c.in_ok-names_by.field-0 = subst₂ (λ (l : List ℕ) (m : List Places). AreNamed l m c.in_ok-names_by.field-0) c.deref-2.ensures.value c.deref-3.ensures.value c.in_ok-names_by.ensures in
    names_tell texts pieces ranks told plain named.few c.args.full.now places c.in_ok-names_by.field-0 c.in_ok-places.ensures.places named
