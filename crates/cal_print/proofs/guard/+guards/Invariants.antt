use Rattle.std.proofs.Common.{◌≡◌, ◌++◌, ◌==◌, ◌≤◌, take, map}
use Rattle.net_core.specs.declared.net.Guard.{size-Guard}
use Rattle.net_core.specs.Guard.{guard_tree, guards_of}
use Rattle.cal_ast.specs.Numbers.{GuardHasNumbers}
use Rattle.cal_ast.specs.Tree.{port_tree}
use Rattle.cal_ast.specs.declared.tree.CalPort.{CalPort}
use Rattle.cal_print.specs.Layout.{guard_text, guards_text}
use Rattle.cal_print.proofs.guard.+guards.Given as goal

abbrev pub invariant-put_guard-loop-rest : goal.invariant-put_guard-loop-rest
invariant-put_guard-loop-rest l = record {
  size : size-Guard CalPort l.rest ≤ size-Guard CalPort l.guard;
  numbers : GuardHasNumbers l.names l.rest;
  text : l.out.items ++ guard_text (guard_tree (port_tree l.names) l.rest) ≡ l.initial.out.items ++ guard_text (guard_tree (port_tree l.names) l.guard);
}

abbrev pub invariant-put_guards-loop-guard : goal.invariant-put_guards-loop-guard
invariant-put_guards-loop-guard l = record {
  first : l.first ≡ (l.guard-index == 0);
  text : l.out.items ≡ l.initial.out.items ++ guards_text l.between (guards_of (map (guard_tree (port_tree l.names)) (take l.guard-index l.guards)));
}
