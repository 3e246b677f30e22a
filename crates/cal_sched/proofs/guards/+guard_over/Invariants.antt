use Rattle.std.proofs.Common.{◌≡◌, ◌≤◌, take}
use Rattle.net_core.specs.Guard.{guard_tree}
use Rattle.net_core.specs.declared.net.Guard.{size-Guard}
use Rattle.cal_ast.specs.Numbers.{GuardHasNumbers}
use Rattle.cal_sched.specs.Watching.{AreGuardsOver, HasPorts, guard_reads, negations, top_port}
use Rattle.cal_sched.proofs.guards.+guard_over.Given as goal

-- the guard is what is left behind so many `!`, and that has numbers and ports and is no deeper
abbrev pub invariant-guard_over-loop-inner : goal.invariant-guard_over-loop-inner
invariant-guard_over-loop-inner l =
    record {
      rest : negations l.count (guard_tree (top_port l.names) l.inner) ≡ guard_tree (top_port l.names) l.guard;
      numbers : GuardHasNumbers l.names l.inner;
      there : HasPorts l.ports (guard_reads l.names l.inner);
      depth : size-Guard _ l.inner ≤ size-Guard _ l.guard;
    }

abbrev pub invariant-guards_over-loop-guard : goal.invariant-guards_over-loop-guard
invariant-guards_over-loop-guard l = AreGuardsOver l.names l.ports (take l.guard-index l.guards) l.found.items
