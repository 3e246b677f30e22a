-- The rule B1 of a netlist whose runs go side by side, and the first line that breaks it. This project's.
use Rattle.std.specs.Prelude.{◌≡◌, ℕ, ◌+◌, ◌<◌, List, Bool, true, false, nat_lt, slice_get, Some}
use Rattle.std.specs.List.{list_any}
use Rattle.hw_prims.specs.Table.{Pin, pins_of}
use Rattle.hw_prims.specs.declared.prim.Primitive.{Primitive}
use Rattle.net_core.specs.Netlist.{Netlist, Line, lines_of}
use Rattle.net_core.specs.Rules.{PortLine, ports_at}
use Rattle.net_lanes.specs.declared.narrow.TheConstants.{LANE_BITS}

-- none of the items passes the test
abbrev pub HasNone : {A : Type 0} → (A → Bool) → List A → Type 0
HasNone {A} test items = (k : ℕ) (item : A) → slice_get items k ≡ Some item → test item ≡ false

-- the item at this place is the first that does
pub record IsFirst {A : Type 0} (test : A → Bool) (items : List A) (place : ℕ) : Type 0 where
  pub item : A
  pub at : slice_get items place ≡ Some item
  pub passes : test item ≡ true
  pub earlier : (k : ℕ) (other : A) → k < place → slice_get items k ≡ Some other → test other ≡ false

-- wider, in bits, than a value in a lane
abbrev pub is_wide : ℕ → Bool
is_wide width = nat_lt LANE_BITS width

-- a primitive has a port that is
abbrev pub has_wide_pin : Primitive → Bool
has_wide_pin prim = list_any (λ (p : Pin). is_wide p.width) (pins_of prim)

-- a line makes a port that is
abbrev pub has_wide_port : Line → Bool
has_wide_port line = list_any (λ (p : PortLine). is_wide p.width) (ports_at line)

-- B1: no line makes one
abbrev pub IsNarrow : Netlist → Type 0
IsNarrow n = HasNone has_wide_port (lines_of n)

-- the line with this number is the first that breaks B1; an item is the number of a line, counted from 1
pub record BreaksB1 (n : Netlist) (item : ℕ) : Type 0 where
  pub place : ℕ
  pub counted : place + 1 ≡ item
  pub first : IsFirst has_wide_port (lines_of n) place
