-- The weight of a netlist, which limits what a run of it costs. This project's.
use Rattle.std.specs.Prelude.{ℕ, ◌+◌, ◌-◌, ◌^◌, min, length, sum_by, Option, Some, None}
use Rattle.net_core.specs.Guard.{GuardTree, GuardTrees, Reads, Compares, Negates, AllOf, AnyOf, NoGuards, MoreGuards}
use Rattle.net_core.specs.Netlist.{Netlist, SetLine}

-- the nodes of a guard: a comparison, a lone source, a negation, and a whole list are one each
abbrev mutual
  pub node_count : {P : Type 0} → GuardTree P → ℕ
  node_count (Reads s) = 1
  node_count (Compares op a b) = 1
  node_count (Negates g) = 1 + node_count g
  node_count (AllOf gs) = 1 + nodes_count gs
  node_count (AnyOf gs) = 1 + nodes_count gs

  pub nodes_count : {P : Type 0} → GuardTrees P → ℕ
  nodes_count NoGuards = 0
  nodes_count (MoreGuards g gs) = node_count g + nodes_count gs

abbrev pub option_nodes : {P : Type 0} → Option (GuardTree P) → ℕ
option_nodes None = 0
option_nodes (Some g) = node_count g

-- an assignment and the nodes of its guard
abbrev pub set_weight : SetLine → ℕ
set_weight a = 1 + option_nodes a.guard

-- the cells, the assignments and their guards' nodes
abbrev pub weight_of : Netlist → ℕ
weight_of n = length n.cells + sum_by set_weight n.sets

-- the number, but no more than the greatest of 64 bits
abbrev pub saturated : ℕ → ℕ
saturated n = min n (2 ^ 64 - 1)
