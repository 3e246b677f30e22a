use Rattle.std.proofs.Common.{◌≡◌, List}
use Rattle.hw_names.specs.Name.{Text}
use Rattle.net_core.specs.Graph.{guard_ports}
use Rattle.net_core.specs.Guard.{guard_tree}
use Rattle.cal_sched.specs.Watching.{named, negations, numbers_only}
use Rattle.cal_sched.proofs.guards.negate.Given as goal

abbrev pub invariant-loop : goal.invariant-loop
invariant-loop l =
    record {
      tree : (ports : List Text) → guard_tree (named ports) l.negated ≡ negations l.counter (guard_tree (named ports) l.fn.guard);
      ports : guard_ports (guard_tree numbers_only l.negated) ≡ guard_ports (guard_tree numbers_only l.fn.guard);
    }
