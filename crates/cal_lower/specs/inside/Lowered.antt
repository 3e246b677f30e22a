-- What a design with control is lowered to: bare components whose groups act where rules over one-bit registers say so. Calyx, ASPLOS 2021; that each
-- place of control has a bit of its own is this project's.
use Rattle.std.specs.Prelude.{◌≡◌, ℕ, ◌+◌, ◌^◌, ◌≤◌, List, [], ◌∷◌, ◌++◌, map, flat_map, if◌then◌else◌, codes, None, All}
use Rattle.net_core.specs.Guard.{GuardTree, Negates}
use Rattle.net_core.specs.declared.net.Src.TheVariants.{Port}
use Rattle.cal_ast.specs.Actors.{GroupNamed}
use Rattle.cal_ast.specs.Holes.{ActivityRule}
use Rattle.cal_ast.specs.Plan.{Plan, plan_of}
use Rattle.cal_ast.specs.Ports.{is_bare, inputs_in, outputs_in}
use Rattle.cal_ast.specs.Tree.{PortName, own, Assignment, DoneLine, GroupDef, Absent, Component, Design}
use Rattle.cal_token.specs.inside.Tokens.{size}
use Rattle.cal_walk.specs.Left.{is_over}
use Rattle.cal_lower.specs.inside.Parts.{part_ends, part_pieces, enabling, testing}
use Rattle.cal_lower.specs.inside.Pieces.{Piece, Wire, Register, piece, piece_cell, piece_sets, shown, is_set, reads, never, either, both, any_of, all_of}
use Rattle.cal_lower.specs.inside.Pieces.{is_done, acts_name, done_name, start_name, busy_name, over_name}

-- ---- the groups

-- in the row of a test the combinational group of its condition acts; another group acts where it is enabled and not done
abbrev pub acts_guard : Plan → GroupDef → GuardTree PortName
acts_guard plan g =
    if g.comb then any_of (testing 0 plan (is_set start_name) (GroupNamed g.name))
    else both (any_of (enabling 0 plan (is_set start_name) (GroupNamed g.name))) (Negates (is_done (GroupNamed g.name)))

abbrev pub acts_wire : Plan → GroupDef → Piece
acts_wire plan g = piece Wire (acts_name g.name) (acts_guard plan g)

-- a wire shows what a done line gives
abbrev pub done_wire : DoneLine → Piece
done_wire d = record { kind = Wire; name = done_name d.group; guard = d.guard; src = d.src }

abbrev pub group_pieces : Plan → GroupDef → List Piece
group_pieces plan g = acts_wire plan g ∷ map done_wire g.dones

-- ---- the component

-- control ends in the row: of a plan that takes no row it is the row in which it starts
abbrev pub control_ends : Plan → GuardTree PortName
control_ends plan = if is_over plan then is_set start_name else part_ends 0

-- it starts in a row with go in which it doesn't run and which isn't its done row
abbrev pub start_guard : GuardTree PortName
start_guard = all_of (reads (own (codes "go")) ∷ Negates (is_set busy_name) ∷ Negates (is_set over_name) ∷ [])

abbrev pub instance_pieces : Plan → List Piece
instance_pieces plan =
    piece Wire start_name start_guard ∷
    piece Register busy_name (both (either (is_set start_name) (is_set busy_name)) (Negates (control_ends plan))) ∷
    piece Register over_name (control_ends plan) ∷ []

abbrev pub plan_pieces : Plan → List Piece
plan_pieces plan = if is_over plan then [] else part_pieces 0 plan (is_set start_name)

abbrev pub control_pieces : Component → List Piece
control_pieces c = instance_pieces (plan_of c) ++ flat_map (group_pieces (plan_of c)) c.groups ++ plan_pieces (plan_of c)

-- its done is 1 in its done row
abbrev pub done_set : Assignment
done_set = record { dst = own (codes "done"); guard = None; src = Port (shown over_name) }

abbrev pub with_registers : Component → Component
with_registers c =
    record c {
      ins = inputs_in c;
      outs = outputs_in c;
      cells = c.cells ++ map piece_cell (control_pieces c);
      sets = c.sets ++ flat_map piece_sets (control_pieces c) ++ done_set ∷ [];
      control = Absent;
    }

-- the component without control; a bare one stays as it is
abbrev pub lowered : Component → Component
lowered c = if is_bare c then record c { control = Absent } else with_registers c

-- ---- the rules

-- the groups of a bare component never act
abbrev pub rule_of : ℕ → Component → GroupDef → ActivityRule
rule_of n c g = record { comp = n; group = g.name; when = if is_bare c then never else is_set (acts_name g.name) }

-- the rules of components that are counted from n
abbrev pub rules_from : ℕ → Design → List ActivityRule
rules_from n [] = []
rules_from n (c ∷ cs) = map (rule_of n c) c.groups ++ rules_from (n + 1) cs

-- the numbers of the parts of its control are written in full
abbrev pub HasFewParts : Component → Type 0
HasFewParts c = size (plan_of c) ≤ 2 ^ 64

-- the design and its rules are this one lowered
pub record IsLoweringOf (source answer : Design) (rules : List ActivityRule) : Type 0 where
  pub few : All HasFewParts source
  pub design : answer ≡ map lowered source
  pub acting : rules ≡ rules_from 0 source
