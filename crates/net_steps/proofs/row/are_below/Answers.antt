use Rattle.std.proofs.Common.{length, length-append, take, ap, subst, arith}
use Rattle.net_steps.specs.Operations.{AreBelow}
use Rattle.net_steps.specs.Runs.{all_operations, operations_of}
use Rattle.net_steps.proofs.RunLemmas.{below_run, operations_more, operations_room}
use Rattle.net_steps.proofs.row.are_below.Goals as goal

pub is_run_below-requires-clause-room : goal.is_run_below-requires-clause-room
is_run_below-requires-clause-room c =
    let room = operations_room c.args.runs.now c.loop-run.run-index c.run-item.result c.loop-run-test.true c.run-item.is in
    omega (arith, room, c.requires.room, c.loop-run.invariant.first)

pub overflow_add-first : goal.overflow_add-first
overflow_add-first c =
    let room = operations_room c.args.runs.now c.loop-run.run-index c.run-item.result c.loop-run-test.true c.run-item.is in
    omega (arith, room, c.requires.room, c.loop-run.invariant.first, c.count-first.ensures)

pub loop-run-preserved : goal.loop-run-preserved
loop-run-preserved c =
    let runs = c.args.runs.now in
    let i = c.loop-run.run-index in
    let run = c.run-item.result in
    let first = c.loop-run.invariant.first in
    let more = operations_more runs i run c.loop-run-test.true c.run-item.is in
    let others = c.args.others.now in
    let choices = c.args.choices.now in
    record {
      first = omega (arith, first, c.count-first.ensures, ap length more, length-append (all_operations (take i runs)) (operations_of run));
      below = below_run others choices c.args.base runs i run c.loop-run-test.true c.run-item.is c.loop-run.invariant.below
          (subst (λ slot. AreBelow others choices slot (operations_of run)) first (c.is_run_below.ensures c.if-not-is_run_below.false));
    }
