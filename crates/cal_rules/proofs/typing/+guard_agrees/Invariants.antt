use Rattle.std.proofs.Common.{◌↔◌, ◌≤◌, All, take}
use Rattle.net_core.specs.Guard.{guard_tree}
use Rattle.net_core.specs.declared.net.Guard.{Guard, size-Guard}
use Rattle.cal_ast.specs.Numbers.{GuardHasNumbers}
use Rattle.cal_ast.specs.Tree.{port_tree}
use Rattle.cal_ast.specs.Typing.{GuardAgrees}
use Rattle.cal_ast.specs.declared.tree.CalPort.{CalPort}
use Rattle.cal_place.specs.Around.{comp_at, design_at, names_at}
use Rattle.cal_rules.proofs.typing.+guard_agrees.Given as goal

-- what is left agrees exactly where the guard does, has numbers that have texts, and is no deeper
abbrev pub invariant-guard_agrees-loop-inner : goal.invariant-guard_agrees-loop-inner
invariant-guard_agrees-loop-inner l = record {
  same : GuardAgrees (design_at l.place) (comp_at l.place) (guard_tree (port_tree (names_at l.place)) l.inner) ↔ GuardAgrees (design_at l.place) (comp_at l.place) (guard_tree (port_tree (names_at l.place)) l.guard);
  numbers : GuardHasNumbers (names_at l.place) l.inner;
  depth : size-Guard _ l.inner ≤ size-Guard _ l.guard;
}

abbrev pub invariant-guards_agree-loop-guard : goal.invariant-guards_agree-loop-guard
invariant-guards_agree-loop-guard l =
    All (λ (g : Guard CalPort). GuardAgrees (design_at l.place) (comp_at l.place) (guard_tree (port_tree (names_at l.place)) g)) (take l.guard-index l.guards)
