use Rattle.std.proofs.Common.{◌≡◌, ◌≤◌, cond, drop, map, not}
use Rattle.net_core.specs.Graph.{guard_ports}
use Rattle.net_core.specs.Guard.{all_hold, any_holds, guard_tree, guards_of, holds}
use Rattle.net_core.specs.declared.net.Guard.{size-Guard}
use Rattle.cal_sched.specs.Watching.{AreWithin, numbers_only, value_at}
use Rattle.cal_sched.proofs.guards.+holds.Given as goal

-- the guard holds where what is left does, or where it does not, behind an odd number of `!`; what is left is no deeper
abbrev pub invariant-holds-loop-inner : goal.invariant-holds-loop-inner
invariant-holds-loop-inner l =
    let inner = holds (value_at l.sim.values) (guard_tree numbers_only l.inner) in
    record {
      value : holds (value_at l.sim.values) (guard_tree numbers_only l.guard) ≡ cond l.negated (not inner) inner;
      within : AreWithin l.sim.values (guard_ports (guard_tree numbers_only l.inner));
      depth : size-Guard _ l.inner ≤ size-Guard _ l.guard;
    }

-- the guards so far hold
abbrev pub invariant-all_hold-loop-guard : goal.invariant-all_hold-loop-guard
invariant-all_hold-loop-guard l =
    all_hold (value_at l.sim.values) (guards_of (map (guard_tree numbers_only) l.guards))
    ≡ all_hold (value_at l.sim.values) (guards_of (map (guard_tree numbers_only) (drop l.guard-index l.guards)))

-- none of the guards so far holds
abbrev pub invariant-any_holds-loop-guard : goal.invariant-any_holds-loop-guard
invariant-any_holds-loop-guard l =
    any_holds (value_at l.sim.values) (guards_of (map (guard_tree numbers_only) l.guards))
    ≡ any_holds (value_at l.sim.values) (guards_of (map (guard_tree numbers_only) (drop l.guard-index l.guards)))
