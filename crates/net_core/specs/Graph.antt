-- The wire graph of a netlist: which port reads which within a row, and loops. This project's.
use Rattle.std.specs.Prelude.{◌≡◌, ◌≢◌, ℕ, true, List, [], ◌∷◌, ◌++◌, slice_get, Option, Some, None, Contains}
use Rattle.std.specs.Cmp.Lexicographic.{slice_cmp}
use Rattle.std.specs.Ordering.{nat_cmp}
use Rattle.std.specs.declared.cmp.Ordering.TheVariants.{Greater}
use Rattle.hw_names.specs.Name.{Text, dotted}
use Rattle.hw_prims.specs.Meaning.{is_through}
use Rattle.hw_prims.specs.Table.{inputs_of, outputs_of, pin_names}
use Rattle.hw_prims.specs.declared.prim.Primitive.{Primitive}
use Rattle.net_core.specs.Guard.{GuardTree, GuardTrees, Reads, Compares, Negates, AllOf, AnyOf, NoGuards, MoreGuards}
use Rattle.net_core.specs.Netlist.{Netlist, SetLine}
use Rattle.net_core.specs.NetRun.{IsNetCell}
use Rattle.net_core.specs.declared.net.Src.{Src}
use Rattle.net_core.specs.declared.net.Src.TheVariants.{Port, Lit}

-- the port that a source reads, if it is one
abbrev pub source_ports : {P : Type 0} → Src P → List P
source_ports (Port p) = p ∷ []
source_ports (Lit width value) = []

-- the ports that a guard reads
abbrev mutual
  pub guard_ports : {P : Type 0} → GuardTree P → List P
  guard_ports (Reads s) = source_ports s
  guard_ports (Compares op a b) = source_ports a ++ source_ports b
  guard_ports (Negates g) = guard_ports g
  guard_ports (AllOf gs) = guards_ports gs
  guard_ports (AnyOf gs) = guards_ports gs

  pub guards_ports : {P : Type 0} → GuardTrees P → List P
  guards_ports NoGuards = []
  guards_ports (MoreGuards g gs) = guard_ports g ++ guards_ports gs

abbrev pub option_ports : {P : Type 0} → Option (GuardTree P) → List P
option_ports None = []
option_ports (Some g) = guard_ports g

-- the ports that an assignment reads
abbrev pub set_ports : SetLine → List Text
set_ports a = option_ports a.guard ++ source_ports a.src

-- the port reads the other within a row
pub data ReadsPort (n : Netlist) (port other : Text) : Type 0 where
  -- an assignment of the port has the other in its source or guard
  ByAssignment : (k : ℕ) (a : SetLine) → slice_get n.sets k ≡ Some a → a.dst ≡ port → Contains (set_ports a) other → ReadsPort n port other
  -- the port is an output of a cell that depends on the other, an input of it, within a row
  ByCell : (cell : Text) (prim : Primitive) (input output : Text) → IsNetCell n cell prim → Contains (pin_names (inputs_of prim)) input →
      Contains (pin_names (outputs_of prim)) output → is_through prim input output ≡ true → dotted cell output ≡ port → dotted cell input ≡ other →
      ReadsPort n port other

-- each port of the list reads the next, and the last reads `back`
abbrev pub ReadsAlong : Netlist → List Text → Text → Type 0
ReadsAlong n [] back = Unit {0}
ReadsAlong n (p ∷ []) back = ReadsPort n p back
ReadsAlong n (p ∷ q ∷ ps) back = ReadsPort n p q × ReadsAlong n (q ∷ ps) back

-- no port occurs twice
abbrev pub HasNoTwice : List Text → Type 0
HasNoTwice ports = (i j : ℕ) (p : Text) → slice_get ports i ≡ Some p → slice_get ports j ≡ Some p → i ≡ j

-- a cycle of distinct ports from this one
pub record IsLoop (n : Netlist) (first : Text) (others : List Text) : Type 0 where
  pub along : ReadsAlong n (first ∷ others) first
  pub distinct : HasNoTwice (first ∷ others)

-- the loop starts with the least port, by bytes, that lies on one
pub record IsLeastLoop (n : Netlist) (first : Text) (others : List Text) : Type 0 where
  pub is_loop : IsLoop n first others
  pub least : (port : Text) (ports : List Text) → IsLoop n port ports → slice_cmp nat_cmp first port ≢ Greater

-- N6: there is no loop
abbrev pub HasNoLoop : Netlist → Type 0
HasNoLoop n = (first : Text) (others : List Text) → IsLoop n first others → ⊥
