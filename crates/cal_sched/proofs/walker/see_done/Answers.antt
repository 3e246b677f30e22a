use Rattle.std.proofs.Common.{◌+◌, ◌<◌, Bool, List, length, refl, sym, ◌∙◌, subst, take, arith}
use Rattle.cal_walk.proofs.WithinLemmas.{all_at}
use Rattle.cal_sched.proofs.DoneLemmas.{done_all, done_more, done_still}
use Rattle.cal_sched.specs.Walking.{TellsDone}
use Rattle.cal_sched.specs.Watching.{ActorIsBelow, WatchIsWithin}
use Rattle.cal_sched.proofs.walker.see_done.Goals as goal
use Rattle.cal_sched.proofs.walker.see_done.Goals.{then-reads_one, else-reads_one}

pub reads_one-requires : goal.reads_one-requires
reads_one-requires c =
    let watches = c.args.watches.now in
    all_at (WatchIsWithin c.args.sim.now.values) watches watches c.loop-watch.watch-index c.watch-item.result refl c.requires.within c.loop-watch-test.true c.watch-item.is

pub loop-watch-preserved : goal.loop-watch-preserved
loop-watch-preserved c =
    let values = c.args.sim.now.values in
    let watches = c.args.watches.now in
    let i = c.loop-watch.watch-index in
    let watch = c.watch-item.result in
    let done = c.loop-watch.done in
    let so_far = c.loop-watch.invariant.told in
    let here = all_at (ActorIsBelow (length c.args.done.now)) watches watches i watch refl c.requires.actors c.loop-watch-test.true c.watch-item.is in
    let there : watch.actor < length done = omega (arith, here, c.loop-watch.invariant.sized) in
    let T : List Bool → Type 0 = TellsDone values (take (i + 1) watches) in
    record {
      sized = c.if-reads_one.auto.done ∙ c.loop-watch.invariant.sized;
      told = elim c.if-reads_one.branch [
        | then-reads_one b ↦ subst T (sym b.done-is) (done_more values watches i watch c.loop-watch-test.true c.watch-item.is done so_far (sym c.reads_one.ensures ∙ b.if-reads_one.true) there)
        | else-reads_one b ↦ subst T (sym b.done-is) (done_still values watches i watch c.loop-watch-test.true c.watch-item.is done so_far (sym c.reads_one.ensures ∙ b.if-reads_one.false))
      ];
    }

pub returns-clause-done : goal.returns-clause-done
returns-clause-done c = done_all c.args.sim.now.values c.args.watches.now c.loop-watch.watch-index c.loop-watch.done c.loop-watch-test.false c.loop-watch.invariant.told
