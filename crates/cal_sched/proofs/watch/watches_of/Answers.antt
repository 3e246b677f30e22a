use Rattle.std.proofs.Common.{arith}
use Rattle.std.proofs.lemmas.List.Elements.{All-same}
use Rattle.cal_ast.specs.declared.tree.DoneSet.{DoneSet}
use Rattle.cal_sched.proofs.KnownLemmas.{dones_there, group_in}
use Rattle.cal_sched.proofs.WatchLemmas.{group_more, groups_are_told}
use Rattle.cal_sched.specs.Watching.{HasPorts, done_reads}
use Rattle.cal_sched.proofs.watch.watches_of.Goals as goal

pub push_dones-requires-clause-there : goal.push_dones-requires-clause-there
push_dones-requires-clause-there c =
    let (design, comp, can) = c.requires in
    let names = c.args.names.now in
    let ports = c.args.ports.now in
    let control = c.args.control.now in
    let g = c.group-item.result in
    let has = group_in design comp names ports control can c.deref-group-items.result.now c.loop-actor.actor g c.deref-group-items.ensures.value c.loop-actor-test.true c.group-item.is in
    All-same (λ (d : DoneSet). HasPorts ports (done_reads names d)) c.deref.result.now g.dones.items c.deref.ensures.value (dones_there design comp names ports control can g has)

pub loop-actor-preserved : goal.loop-actor-preserved
loop-actor-preserved c = record {
  within = omega (arith, c.loop-actor-test.true);
  watches =
      group_more c.args.names.now c.args.ports.now c.deref-group-items.result.now c.loop-actor.actor c.group-item.result c.deref.result.now c.loop-actor.watches.items c.push_dones.new.watches.items
      c.loop-actor-test.true c.group-item.is c.deref.ensures.value c.loop-actor.invariant.watches c.in_ok-push_dones.ensures;
}

pub returns : goal.returns
returns c = λ design comp can.
    let items = c.deref-group-items.result.now in
    c.in_ok-push_invokes.ensures design comp can
    (groups_are_told design comp c.args.names.now c.args.ports.now c.args.control.now can items c.loop-actor.actor c.loop-actor.watches.items c.deref-group-items.ensures.value
    (omega (arith, c.loop-actor-test.false)) c.loop-actor.invariant.watches)
