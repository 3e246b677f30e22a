use Rattle.std.proofs.Common.{length, length-append, take, sym, ap, subst, ◌∙◌, arith}
use Rattle.net_steps.specs.Operations.{AreBelow, AreMade}
use Rattle.net_steps.specs.Runs.{all_operations, operations_of}
use Rattle.net_steps.proofs.RunLemmas.{made_run, operations_more, operations_room, run_below}
use Rattle.net_steps.proofs.row.run_all.Goals as goal

pub make_run-requires-clause-room : goal.make_run-requires-clause-room
make_run-requires-clause-room c =
    let room = operations_room c.args.runs.now c.loop-run.run-index c.run-item.result c.loop-run-test.true c.run-item.is in
    omega (arith, room, c.requires.room, c.loop-run.invariant.first, c.loop-run.invariant.count)

pub make_run-requires-clause-below : goal.make_run-requires-clause-below
make_run-requires-clause-below c =
    subst (λ slot. AreBelow c.args.others.now c.args.choices.now slot (operations_of c.run-item.result)) (sym c.loop-run.invariant.first)
    (run_below c.args.others.now c.args.choices.now c.args.base c.args.runs.now c.loop-run.run-index c.run-item.result c.loop-run-test.true c.run-item.is c.requires.below)

pub overflow_add-first : goal.overflow_add-first
overflow_add-first c =
    let room = operations_room c.args.runs.now c.loop-run.run-index c.run-item.result c.loop-run-test.true c.run-item.is in
    omega (arith, room, c.requires.room, c.loop-run.invariant.first, c.loop-run.invariant.count, c.count-first.ensures)

pub loop-run-preserved : goal.loop-run-preserved
loop-run-preserved c =
    let runs = c.args.runs.now in
    let i = c.loop-run.run-index in
    let run = c.run-item.result in
    let first = c.loop-run.invariant.first in
    let more = operations_more runs i run c.loop-run-test.true c.run-item.is in
    let others = c.args.others.now in
    let choices = c.args.choices.now in
    record {
      count = c.make_run.auto.slots ∙ c.loop-run.invariant.count;
      first = omega (arith, first, c.count-first.ensures, ap length more, length-append (all_operations (take i runs)) (operations_of run));
      opening = λ k lt. c.make_run.ensures.opening k (omega (arith, lt, first)) ∙ c.loop-run.invariant.opening k lt;
      made = made_run others choices c.args.base runs i run c.loop-run.slots c.make_run.new.slots c.loop-run-test.true c.run-item.is c.requires.below c.loop-run.invariant.made
          (λ k lt. c.make_run.ensures.opening k (omega (arith, lt, first)))
          (subst (λ slot. AreMade others choices slot (operations_of run) c.make_run.new.slots) first c.make_run.ensures.made);
    }
