use Rattle.std.proofs.Common.{List, length, get_or, ap, subst, arith}
use Rattle.std.proofs.lemmas.List.{take_all}
use Rattle.hw_cells.proofs.PairLemmas.{AddsSome, starts_end, starts_next, starts_none}
use Rattle.hw_cells.specs.declared.cell.Pin.{Pin}
use Rattle.hw_cells.specs.declared.pairs.Start.{Start}
use Rattle.hw_cells.proofs.pairs.add_starts.Goals as goal

pub loop-output-init : goal.loop-output-init
loop-output-init c = starts_none c.args.cell.now c.args.starts.now.items

pub loop-output-preserved : goal.loop-output-preserved
loop-output-preserved c =
    let outputs_are = c.as_slice-output-items.ensures.value in
    let k = c.loop-output.output-index in
    let zero : Pin = record { port = 0; node = 0 } in
    let start : Start = record { output = get_or c.as_slice-output-items.result.now k zero; inputs = c.deref.result } in
    starts_next c.args.cell.now k zero start c.args.starts.now.items c.loop-output.starts.items c.push.new.self.items
    (omega (arith, c.loop-output-test.true, ap length outputs_are)) (ap (λ (l : List Pin). get_or l k zero) outputs_are) c.deref.ensures.value c.in_ok-push.ensures.items c.loop-output.invariant

pub returns : goal.returns
returns c =
    let cell = c.args.cell.now in
    let items = c.as_slice-output-items.ensures.value in
    starts_end cell c.args.starts.now.items c.loop-output.starts.items
    (subst (λ (list : List Pin). AddsSome cell list c.args.starts.now.items c.loop-output.starts.items) (take_all c.loop-output.output-index cell.outputs.items (omega (arith, c.loop-output-test.false, ap length items))) c.loop-output.invariant)
