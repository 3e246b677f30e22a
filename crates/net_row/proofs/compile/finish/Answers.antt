use Rattle.std.proofs.Common.{◌∙◌, Some, length, ap, refl, sym, subst}
use Rattle.std.proofs.lemmas.List.{length-map}
use Rattle.net_row.proofs.FlatSourceLemmas.{have_room}
use Rattle.net_row.proofs.ProgramLemmas.{program_is}
use Rattle.net_row.specs.inside.Compiling.{net_of}
use Rattle.net_row.specs.Places.{ArePlaces}
use Rattle.net_row.proofs.compile.finish.Goals as goal

pub places_of-requires-clause-kinds : goal.places_of-requires-clause-kinds
places_of-requires-clause-kinds c = c.as_slice.ensures.value ∙ c.requires.numbered.kinds

pub places_of-requires-clause-room : goal.places_of-requires-clause-room
places_of-requires-clause-room c =
    let numbered = c.args.numbered.now in
    let compiled = c.requires.numbered.compiled in
    have_room (net_of numbered) compiled.valid numbered.cells.now compiled.listed (length c.as_slice-2.result.now)
    (ap length c.as_slice-2.ensures.value ∙ sym (length-map c.in_ok-ports.ports.items Some) ∙ ap length (sym c.in_ok-ports.ensures) ∙ c.requires.made.count)

pub returns : goal.returns
returns c =
    let numbered = c.args.numbered.now in
    let places = subst (λ ports. ArePlaces numbered.cells.now ports c.in_ok-places.places.items) c.as_slice-2.ensures.value c.in_ok-places.ensures in
    program_is numbered c.requires.numbered c.args.made c.requires.made c.next_kept.new.steps _ c.in_ok-next.ensures c.in_ok-ports.ensures places (c.in_ok-runs.ensures ∙ c.operations.ensures) (c.in_ok-choices.ensures.items ∙ c.choices.ensures) (c.in_ok-assumed.ensures.items ∙ c.assumed.ensures) refl
