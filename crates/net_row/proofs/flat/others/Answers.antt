use Rattle.std.proofs.Common.{◌≡◌, ℕ, ◌<◌, [], Some, length, get_or, sym, ap, ◌∙◌, arith}
use Rattle.std.specs.Prelude.{slice_get}
use Rattle.std.proofs.lemmas.List.Elements.{All-push}
use Rattle.std.proofs.lemmas.Option.{slice_get-get_or, get_or_from_slice_get}
use Rattle.hw_prims.specs.Meaning.{opening_state}
use Rattle.hw_prims.specs.declared.prim.Primitive.TheVariants.{StdConst}
use Rattle.net_sim.proofs.GiverLemmas.{at_some}
use Rattle.net_sim.specs.declared.cells.CellPorts.{CellPorts}
use Rattle.net_steps.specs.declared.other.Other.{Other as OtherCell}
use Rattle.net_row.proofs.FlatOtherLemmas.{first_more, first_skip, first_all}
use Rattle.net_row.proofs.RowLemmas.{length-kinds_after}
use Rattle.net_row.specs.Flats.{IsOther}
use Rattle.net_row.specs.Kinds.{kinds_of}
use Rattle.net_row.specs.declared.kinds.Kind.TheVariants.{Other}
use Rattle.net_row.proofs.flat.others.Goals.{in-Other+in_ok-other+in_ok-push, in_default}
use Rattle.net_row.proofs.flat.others.Goals as goal

pub bounds : goal.bounds
bounds c = omega (arith, ap length c.requires.kinds, length-kinds_after 0 0 c.args.cells.now)

pub loop-number-preserved : goal.loop-number-preserved
loop-number-preserved c =
    let d : CellPorts = record { prim = StdConst 0 0; first = 0 } in
    let cells = c.args.cells.now in
    let i = c.loop-number.number in
    let lt : i < length cells = omega arith in
    let lt_kinds : i < length c.args.kinds.now = omega (arith, lt, ap length c.requires.kinds, length-kinds_after 0 0 cells) in
    let cell = get_or cells i d in
    let at : slice_get cells i ≡ Some (get_or cells i d) = slice_get-get_or cells i d lt in
    let kind = at_some c.args.kinds.now i lt_kinds in
    let at_kind : slice_get (kinds_of cells) i ≡ Some kind.0 = ap (λ l. slice_get l i) (sym c.requires.kinds) ∙ kind.1 in
    elim c.match-kinds-number.branch [
      | in-Other+in_ok-other+in_ok-push w ↦
          let is : kind.0 ≡ Other w.in-Other.field-0 = sym (get_or_from_slice_get c.args.kinds.now i kind.0 _ kind.1) ∙ w.in-Other.is in
          record {
            upto = rw (w.others-is, w.in_ok-push.ensures.items) (first_more IsOther cells i c.loop-number.others.items c.loop-number.invariant.upto cell kind.0 at at_kind w.in-Other.field-0 w.in_ok-other.other is w.in_ok-other.ensures.is);
            opening = rw (w.others-is, w.in_ok-push.ensures.items) (All-push (λ (other : OtherCell). other.state.state ≡ opening_state other.state.prim []) c.loop-number.others.items w.in_ok-other.other c.loop-number.invariant.opening w.in_ok-other.ensures.opening);
          }
      | in_default w ↦
          let passed : (m : ℕ) → kind.0 ≡ Other m → ⊥ = λ m e. w.in_default.not-Other m (get_or_from_slice_get c.args.kinds.now i kind.0 _ kind.1 ∙ e) in
          record {
            upto = rw w.others-is (first_skip IsOther cells i c.loop-number.others.items c.loop-number.invariant.upto cell kind.0 at at_kind passed);
            opening = rw w.others-is c.loop-number.invariant.opening;
          }
    ]

pub returns-clause-are : goal.returns-clause-are
returns-clause-are c = first_all IsOther c.args.cells.now c.loop-number.number c.loop-number.others.items (omega arith) c.loop-number.invariant.upto
