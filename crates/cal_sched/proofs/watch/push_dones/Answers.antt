use Rattle.std.proofs.Common.{◌+◌, take, refl}
use Rattle.cal_ast.specs.Tree.{done_tree}
use Rattle.cal_ast.specs.declared.tree.DoneSet.{DoneSet}
use Rattle.cal_walk.proofs.OverLemmas.{at_index, one_more}
use Rattle.cal_walk.proofs.WithinLemmas.{all_at}
use Rattle.cal_sched.proofs.KnownLemmas.{guard_there, source_there}
use Rattle.cal_sched.proofs.LookLemmas.{over_within, watch_reads}
use Rattle.cal_sched.proofs.WatchLemmas.{puts_more, puts_one}
use Rattle.cal_sched.specs.Watching.{HasPorts, done_reads}
use Rattle.cal_sched.specs.declared.watch.Watch.{Watch}
use Rattle.cal_sched.proofs.watch.push_dones.Goals as goal

pub when_over-requires-clause-there : goal.when_over-requires-clause-there
when_over-requires-clause-there c =
    let names = c.args.names.now in
    let ports = c.args.ports.now in
    let dones = c.args.dones.now in
    let d = c.done-item.result in
    guard_there names ports d (all_at (λ (x : DoneSet). HasPorts ports (done_reads names x)) dones dones c.loop-done.done-index d refl c.requires.there c.loop-done-test.true c.done-item.is)

pub source_over-requires-clause-there : goal.source_over-requires-clause-there
source_over-requires-clause-there c =
    let names = c.args.names.now in
    let ports = c.args.ports.now in
    let dones = c.args.dones.now in
    let d = c.done-item.result in
    source_there names ports d (all_at (λ (x : DoneSet). HasPorts ports (done_reads names x)) dones dones c.loop-done.done-index d refl c.requires.there c.loop-done-test.true c.done-item.is)

pub loop-done-preserved : goal.loop-done-preserved
loop-done-preserved c =
    let names = c.args.names.now in
    let ports = c.args.ports.now in
    let dones = c.args.dones.now in
    let actor = c.args.actor in
    let i = c.loop-done.done-index in
    let d = c.done-item.result in
    let old = c.args.watches.now.items in
    let mid = c.loop-done.watches.items in
    let new = c.push.new.self.items in
    let guard = c.in_ok-guard.ensures in
    let src = c.in_ok-src.ensures in
    let w : Watch = record { actor = actor; guard = c.in_ok-guard.guard; src = c.in_ok-src.src } in
    let more = one_more dones i d (at_index dones i d c.loop-done-test.true c.done-item.is) in
    puts_more ports actor (done_tree names) (take i dones) (take (i + 1) dones) d old mid new more c.loop-done.invariant
    (puts_one ports actor (done_tree names d) mid new w c.in_ok-push.ensures.items refl (over_within names ports d w guard src) (λ row. watch_reads names ports row d w guard src))
