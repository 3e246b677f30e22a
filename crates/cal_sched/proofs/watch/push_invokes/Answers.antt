use Rattle.std.proofs.Common.{arith}
use Rattle.cal_sched.proofs.KnownLemmas.{invoke_in, invoke_there}
use Rattle.cal_sched.proofs.WatchLemmas.{count_groups, invoke_more, invokes_told, no_invokes}
use Rattle.cal_sched.proofs.watch.push_invokes.Goals as goal

pub loop-place-init : goal.loop-place-init
loop-place-init c = record {
  within = omega arith;
  watches = λ design comp can told. no_invokes design comp c.args.names.now c.args.ports.now c.args.watches.now.items told;
}

pub push_invoke-requires-clause-there : goal.push_invoke-requires-clause-there
push_invoke-requires-clause-there c =
    let (design, comp, can) = c.requires in
    let names = c.args.names.now in
    let ports = c.args.ports.now in
    let control = c.args.control.now in
    let items = c.deref-invoke-items.result.now in
    invoke_there design comp names ports control can _ (invoke_in design comp names ports control can items c.loop-place.place _ c.deref-invoke-items.ensures.value c.loop-place-test.true)

pub loop-place-preserved : goal.loop-place-preserved
loop-place-preserved c = record {
  within = omega (arith, c.loop-place-test.true);
  watches = λ design comp can told.
      let names = c.args.names.now in
      let ports = c.args.ports.now in
      let control = c.args.control.now in
      let items = c.deref-invoke-items.result.now in
      let count = count_groups design comp names ports control can c.len-groups.result c.len-groups.ensures in
      invoke_more design comp names ports items c.loop-place.place c.len-groups.result _ c.loop-place.watches.items c.push_invoke.new.watches.items c.loop-place-test.true count
      (c.loop-place.invariant.watches design comp can told) c.in_ok-push_invoke.ensures;
}

pub returns : goal.returns
returns c = λ design comp can told.
    let items = c.deref-invoke-items.result.now in
    invokes_told design comp c.args.names.now c.args.ports.now c.args.control.now items c.loop-place.place c.loop-place.watches.items can c.deref-invoke-items.ensures.value (omega (arith, c.loop-place-test.false))
    (c.loop-place.invariant.watches design comp can told)
