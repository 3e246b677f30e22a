use Rattle.std.proofs.Common.{◌≡◌, ℕ, ◌<◌, List, Some, length, get_or, sym, ap, ◌∙◌, arith, subst}
use Rattle.std.specs.Prelude.{slice_get}
use Rattle.std.proofs.lemmas.Option.{slice_get-get_or, get_or_from_slice_get}
use Rattle.hw_prims.specs.declared.prim.Primitive.TheVariants.{StdConst}
use Rattle.net_sim.proofs.GiverLemmas.{at_some}
use Rattle.net_sim.specs.declared.cells.CellPorts.{CellPorts}
use Rattle.net_row.proofs.FlatOtherLemmas.{AreOfFirst, first_none, first_more, first_skip, first_all}
use Rattle.net_row.proofs.RowLemmas.{length-kinds_after}
use Rattle.net_row.specs.Kinds.{kinds_of}
use Rattle.net_row.specs.Places.{IsPlaces}
use Rattle.net_row.specs.declared.kinds.Kind.TheVariants.{Other}
use Rattle.net_row.proofs.places.places_of.Goals.{in-Other+in_ok-push, in_default}
use Rattle.net_row.proofs.places.places_of.Goals as goal

pub bounds : goal.bounds
bounds c = omega (arith, ap length c.requires.kinds, length-kinds_after 0 0 c.args.cells.now)

pub input_places-requires : goal.input_places-requires
input_places-requires c =
    let d : CellPorts = record { prim = StdConst 0 0; first = 0 } in
    c.requires.room c.loop-number.number (get_or c.args.cells.now c.loop-number.number d) (slice_get-get_or c.args.cells.now c.loop-number.number d (omega arith))

pub loop-number-init : goal.loop-number-init
loop-number-init c =
    subst (λ (places : List (List ℕ)). AreOfFirst (IsPlaces c.args.ports.now) c.args.cells.now 0 places) (sym c.new-places.ensures.items)
    (first_none (IsPlaces c.args.ports.now) c.args.cells.now)

pub loop-number-preserved : goal.loop-number-preserved
loop-number-preserved c =
    let d : CellPorts = record { prim = StdConst 0 0; first = 0 } in
    let cells = c.args.cells.now in
    let ports = c.args.ports.now in
    let i = c.loop-number.number in
    let lt : i < length cells = omega arith in
    let lt_kinds : i < length c.args.kinds.now = omega (arith, lt, ap length c.requires.kinds, length-kinds_after 0 0 cells) in
    let cell = get_or cells i d in
    let at : slice_get cells i ≡ Some (get_or cells i d) = slice_get-get_or cells i d lt in
    let kind = at_some c.args.kinds.now i lt_kinds in
    let at_kind : slice_get (kinds_of cells) i ≡ Some kind.0 = ap (λ l. slice_get l i) (sym c.requires.kinds) ∙ kind.1 in
    elim c.match-kinds-number.branch [
      | in-Other+in_ok-push w ↦
          let is : kind.0 ≡ Other w.in-Other.field-0 = sym (get_or_from_slice_get c.args.kinds.now i kind.0 _ kind.1) ∙ w.in-Other.is in
          rw (w.places-is, w.in_ok-push.ensures.items) (first_more (IsPlaces ports) cells i c.loop-number.places.items c.loop-number.invariant cell kind.0 at at_kind w.in-Other.field-0 w.input_places.result is w.input_places.ensures)
      | in_default w ↦
          let passed : (m : ℕ) → kind.0 ≡ Other m → ⊥ = λ m e. w.in_default.not-Other m (get_or_from_slice_get c.args.kinds.now i kind.0 _ kind.1 ∙ e) in
          rw w.places-is (first_skip (IsPlaces ports) cells i c.loop-number.places.items c.loop-number.invariant cell kind.0 at at_kind passed)
    ]

pub returns : goal.returns
returns c = first_all (IsPlaces c.args.ports.now) c.args.cells.now c.loop-number.number c.loop-number.places.items (omega arith) c.loop-number.invariant
