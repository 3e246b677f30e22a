-- What lowering adds to a component: wires and registers of one bit, each with the one assignment that drives it. Calyx, ASPLOS 2021, has state registers;
-- their names and this form are this project's.
use Rattle.std.specs.Prelude.{ℕ, List, [], ◌∷◌, ◌++◌, false, codes, decimal, Option, Some, None}
use Rattle.hw_names.specs.Name.{Text}
use Rattle.net_core.specs.Guard.{GuardTree, Reads, AllOf, AnyOf, guards_of}
use Rattle.net_core.specs.declared.net.Src.{Src}
use Rattle.net_core.specs.declared.net.Src.TheVariants.{Port, Lit}
use Rattle.cal_ast.specs.Actors.{Actor, GroupNamed, InvokeAt}
use Rattle.cal_ast.specs.Tree.{PortName, port_of, Assignment, CellDef}
use Rattle.cal_token.specs.inside.Tokens.{Token, Going, Starting, Ended, Again}

-- ---- names: each starts with `c$`, and the letter after it says which kind it is

abbrev pub token_name : Token → Text
token_name (Going k) = codes "c$goes" ++ decimal k
token_name (Starting k) = codes "c$next" ++ decimal k
token_name (Ended k) = codes "c$past" ++ decimal k
token_name (Again k) = codes "c$turn" ++ decimal k

-- the part with this number ends in the row
abbrev pub ends_name : ℕ → Text
ends_name k = codes "c$ends" ++ decimal k

-- the group acts in the row, and is done in it
abbrev pub acts_name : Text → Text
acts_name group = codes "c$acts$" ++ group

abbrev pub done_name : Text → Text
done_name group = codes "c$done$" ++ group

-- control starts in the row; it runs, after a row in which it started and before its done row; the row is its done row
abbrev pub start_name : Text
start_name = codes "c$start"

abbrev pub busy_name : Text
busy_name = codes "c$busy"

abbrev pub over_name : Text
over_name = codes "c$over"

-- ---- guards

-- what a wire or a register shows
abbrev pub shown : Text → PortName
shown name = port_of name (codes "out")

-- it shows 1
abbrev pub is_set : Text → GuardTree PortName
is_set name = Reads (Port (shown name))

abbrev pub has_token : Token → GuardTree PortName
has_token t = is_set (token_name t)

abbrev pub reads : PortName → GuardTree PortName
reads port = Reads (Port port)

abbrev pub never : GuardTree PortName
never = Reads (Lit 1 0)

abbrev pub either : GuardTree PortName → GuardTree PortName → GuardTree PortName
either a b = AnyOf (guards_of (a ∷ b ∷ []))

abbrev pub both : GuardTree PortName → GuardTree PortName → GuardTree PortName
both a b = AllOf (guards_of (a ∷ b ∷ []))

-- one of them is true, and all of them are; a list of one is that one
abbrev pub any_of : List (GuardTree PortName) → GuardTree PortName
any_of [] = never
any_of (g ∷ []) = g
any_of (g ∷ h ∷ gs) = AnyOf (guards_of (g ∷ h ∷ gs))

abbrev pub all_of : List (GuardTree PortName) → GuardTree PortName
all_of [] = Reads (Lit 1 1)
all_of (g ∷ []) = g
all_of (g ∷ h ∷ gs) = AllOf (guards_of (g ∷ h ∷ gs))

-- the group that an actor names; plain designs have no invokes
abbrev pub group_name : Actor → Text
group_name (GroupNamed name) = name
group_name (InvokeAt k) = []

abbrev pub is_done : Actor → GuardTree PortName
is_done actor = is_set (done_name (group_name actor))

-- ---- pieces

pub data Kind : Type 0 where
  -- it shows what drives it, in the same row
  Wire : Kind
  -- it shows in a row what drove it in the row before, and 0 in the first
  Register : Kind

-- a wire or a register, and what drives it: the source where the guard is true, and else 0
pub record Piece : Type 0 where
  pub kind : Kind
  pub name : Text
  pub guard : Option (GuardTree PortName)
  pub src : Src PortName

-- it is driven by 1 where the guard is true
abbrev pub piece : Kind → Text → GuardTree PortName → Piece
piece kind name guard = record { kind = kind; name = name; guard = Some guard; src = Lit 1 1 }

abbrev pub made_by : Kind → Text
made_by Wire = codes "std_wire"
made_by Register = codes "std_reg"

abbrev pub piece_cell : Piece → CellDef
piece_cell p = record { name = p.name; made = made_by p.kind; params = 1 ∷ []; external = false }

abbrev pub piece_set : Piece → Assignment
piece_set p = record { dst = port_of p.name (codes "in"); guard = p.guard; src = p.src }

-- a register takes what drives it in every row
abbrev pub enables_piece : Kind → Text → List Assignment
enables_piece Wire name = []
enables_piece Register name = record { dst = port_of name (codes "write_en"); guard = None; src = Lit 1 1 } ∷ []

abbrev pub piece_sets : Piece → List Assignment
piece_sets p = piece_set p ∷ enables_piece p.kind p.name
