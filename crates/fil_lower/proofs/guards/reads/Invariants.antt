use Rattle.std.proofs.Common.{◌≡◌, List, All, map, take}
use Rattle.hw_names.specs.Name.{Text}
use Rattle.net_core.specs.Guard.{Reads, guard_tree}
use Rattle.net_core.specs.declared.net.Src.TheVariants.{Port}
use Rattle.cal_ast.specs.Numbers.{GuardHasNumbers, PortHasNumbers}
use Rattle.cal_ast.specs.Tree.{port_tree}
use Rattle.fil_lower.proofs.guards.reads.Given as goal

abbrev pub invariant-loop-bit : goal.invariant-loop-bit
invariant-loop-bit l = record {
  shown : (names : List Text) → map (guard_tree (port_tree names)) l.guards.items ≡ map (λ bit. Reads (Port bit)) (map (port_tree names) (take l.bit-index l.bits));
  numbers : (names : List Text) → All (PortHasNumbers names) l.bits → All (GuardHasNumbers names) l.guards.items;
}
