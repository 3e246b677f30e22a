-- A graph as a list, for each port, of the ports that it reads; orders and cycles in it. This project's.
use Rattle.std.specs.Prelude.{◌≡◌, ℕ, ◌+◌, ◌-◌, ◌<◌, List, [], length, take, Contains, slice_index, slice_index_or}
use Rattle.hw_names.specs.Name.{Text}
use Rattle.hw_graph.specs.ByName.{IsAtMost}

-- the port reads the other
abbrev pub HasRead : List (List ℕ) → ℕ → ℕ → Type 0
HasRead reads port other = Contains (slice_index_or reads port []) other

-- what is read is one of the ports
abbrev pub AreInRange : List (List ℕ) → Type 0
AreInRange reads = (port other : ℕ) → HasRead reads port other → other < length reads

-- each port once, after all ports that it reads
pub record IsReadOrder (reads : List (List ℕ)) (order : List ℕ) : Type 0 where
  pub in_range : (i : ℕ) → i < length order → slice_index order i < length reads
  pub each : (port : ℕ) → port < length reads → Contains order port
  pub once : (i j : ℕ) → i < length order → j < length order → slice_index order i ≡ slice_index order j → i ≡ j
  pub after : (i port : ℕ) → i < length order → HasRead reads (slice_index order i) port → Contains (take i order) port

-- no port stands in the list twice
abbrev pub AreDistinct : List ℕ → Type 0
AreDistinct ports = (i j : ℕ) → i < length ports → j < length ports → slice_index ports i ≡ slice_index ports j → i ≡ j

-- distinct ports, of which each reads the next
pub record IsTrail (reads : List (List ℕ)) (ports : List ℕ) : Type 0 where
  pub in_range : (i : ℕ) → i < length ports → slice_index ports i < length reads
  pub along : (i : ℕ) → i + 1 < length ports → HasRead reads (slice_index ports i) (slice_index ports (i + 1))
  pub once : (i j : ℕ) → i < length ports → j < length ports → slice_index ports i ≡ slice_index ports j → i ≡ j

-- a trail whose last port reads the first
pub record IsCycle (reads : List (List ℕ)) (ports : List ℕ) : Type 0 where
  pub some : 0 < length ports
  pub trail : IsTrail reads ports
  pub back : HasRead reads (slice_index ports (length ports - 1)) (slice_index ports 0)

-- a cycle that starts with this port
pub record IsCycleFrom (reads : List (List ℕ)) (start : ℕ) (ports : List ℕ) : Type 0 where
  pub is_cycle : IsCycle reads ports
  pub first : slice_index ports 0 ≡ start

-- the port reads the other, directly or through others
pub data Reaches (reads : List (List ℕ)) : ℕ → ℕ → Type 0 where
  Directly : (port other : ℕ) → HasRead reads port other → Reaches reads port other
  Through : (port next other : ℕ) → HasRead reads port next → Reaches reads next other → Reaches reads port other

-- the port lies on no cycle
abbrev pub IsOffCycles : List (List ℕ) → ℕ → Type 0
IsOffCycles reads port = Reaches reads port port → ⊥

-- a cycle that starts with the least port, by the bytes of its name, that lies on any
pub record IsLeastCycle (reads : List (List ℕ)) (names : List Text) (ports : List ℕ) : Type 0 where
  pub is_cycle : IsCycle reads ports
  pub least : (port : ℕ) → Reaches reads port port → IsAtMost names (slice_index ports 0) port

-- a cycle that starts with the least port that lies on any, by the bytes of its name; the ports are the first nodes, as many as have names
pub record IsLeastCycleAmong (reads : List (List ℕ)) (names : List Text) (ports : List ℕ) : Type 0 where
  pub is_cycle : IsCycle reads ports
  pub named : slice_index ports 0 < length names
  pub least : (port : ℕ) → port < length names → Reaches reads port port → IsAtMost names (slice_index ports 0) port
