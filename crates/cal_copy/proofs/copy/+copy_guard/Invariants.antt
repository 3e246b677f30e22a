use Rattle.std.proofs.Common.{◌≡◌, ◌≤◌, List, take}
use Rattle.std.specs.List.{AllZip}
use Rattle.hw_names.specs.Name.{Text}
use Rattle.net_core.specs.declared.net.Guard.{size-Guard}
use Rattle.cal_ast.specs.Numbers.{GuardHasNumbers}
use Rattle.cal_copy.specs.inside.Copies.{IsGuardCopy, port_guard}
use Rattle.cal_copy.specs.inside.Negations.{negations}
use Rattle.cal_copy.proofs.copy.+copy_guard.Given as goal

-- the guard is what is left behind so many `!`, and that has numbers where the guard has and is no deeper
abbrev pub invariant-copy_guard-loop-inner : goal.invariant-copy_guard-loop-inner
invariant-copy_guard-loop-inner l =
    record {
      rest : (names : List Text) → negations l.count (port_guard names l.inner) ≡ port_guard names l.guard;
      numbers : (names : List Text) → GuardHasNumbers names l.guard → GuardHasNumbers names l.inner;
      depth : size-Guard _ l.inner ≤ size-Guard _ l.guard;
    }

abbrev pub invariant-copy_guards-loop-guard : goal.invariant-copy_guards-loop-guard
invariant-copy_guards-loop-guard l = AllZip IsGuardCopy (take l.guard-index l.guards) l.copies.items
