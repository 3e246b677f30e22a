-- What the parts of a plan make: pieces, and guards for groups. This project's.
use Rattle.std.specs.Prelude.{ℕ, Bool, Contains, ◌+◌, List, [], ◌∷◌, ◌++◌, if◌then◌else◌, ◌≡◌, Option, None, Some, option_map}
use Rattle.hw_names.specs.Name.{Text, KeepsTexts, text_of}
use Rattle.hw_names.specs.declared.names.NameId.{NameId}
use Rattle.net_core.specs.Guard.{GuardTree, Negates}
use Rattle.cal_ast.specs.Actors.{Actor, GroupNamed}
use Rattle.cal_ast.specs.Holes.{ActivityRule, rule_tree}
use Rattle.cal_ast.specs.Numbers.{GroupHasNumbers, RuleHasNumbers}
use Rattle.cal_ast.specs.Plan.{Plan, Chooses, Repeats, Plans, plan_at}
use Rattle.cal_ast.specs.Tree.{PortName, statement_tree}
use Rattle.cal_token.specs.inside.Tokens.{Again, Starting, size}
use Rattle.cal_walk.specs.Left.{is_by}
use Rattle.cal_lower.specs.inside.Lowered.{control_ends, plan_pieces}
use Rattle.cal_lower.specs.inside.Parts.{part_ends, part_pieces, ends_wire, with_start, none_if_over}
use Rattle.cal_lower.specs.inside.Parts.{again_guard, pieces_in_turn, pieces_after, pieces_at_once, tested_guard}
use Rattle.cal_lower.specs.inside.Parts.{enabling, enabling_in_turn, enabling_after, enabling_at_once}
use Rattle.cal_lower.specs.inside.Parts.{testing, testing_in_turn, testing_after, testing_at_once}
use Rattle.cal_lower.specs.inside.Pieces.{Piece, Register, piece, token_name, acts_name, start_name, busy_name, has_token, is_set, never, either, both}
use Rattle.cal_lower.specs.inside.Shown.{Guards, ShowAll, ShowsActs, ShowsPieces, nothing}
use Rattle.cal_ast.specs.declared.lowered.ActRule.{ActRule}
use Rattle.cal_ast.specs.declared.tree.Group.{Group}
use Rattle.cal_lower.specs.declared.acts.Acts.{Acts}
use Rattle.cal_lower.specs.declared.made.Choice.{Choice}
use Rattle.cal_lower.specs.declared.made.Parts.{Parts}

-- pieces, the guards in whose rows a group is enabled, and those in whose rows it is tested by
pub record Made : Type 0 where
  pub pieces : List Piece
  pub enabled : Guards
  pub tested : Guards

-- and then these
abbrev pub with_made : Made → Made → Made
with_made first second = record {
  pieces = first.pieces ++ second.pieces;
  enabled = λ group. first.enabled group ++ second.enabled group;
  tested = λ group. first.tested group ++ second.tested group;
}

abbrev pub part_made : ℕ → Plan → GuardTree PortName → Made
part_made k p start = record {
  pieces = part_pieces k p start;
  enabled = λ group. enabling k p start (GroupNamed group);
  tested = λ group. testing k p start (GroupNamed group);
}

-- a part that starts by its own token, in the row after one in which `next` is true
abbrev pub later_made : ℕ → Plan → GuardTree PortName → Made
later_made k p next = record {
  pieces = with_start k p next (part_pieces k p (has_token (Starting k)));
  enabled = λ group. none_if_over p (enabling k p (has_token (Starting k)) (GroupNamed group));
  tested = λ group. none_if_over p (testing k p (has_token (Starting k)) (GroupNamed group));
}

abbrev pub in_turn_made : ℕ → Plans → GuardTree PortName → Made
in_turn_made k ps start = record {
  pieces = pieces_in_turn k ps start;
  enabled = λ group. enabling_in_turn k ps start (GroupNamed group);
  tested = λ group. testing_in_turn k ps start (GroupNamed group);
}

abbrev pub after_made : ℕ → Plans → GuardTree PortName → Made
after_made k ps next = record {
  pieces = pieces_after k ps next;
  enabled = λ group. enabling_after k ps (GroupNamed group);
  tested = λ group. testing_after k ps (GroupNamed group);
}

-- a plan in turn that takes a row: the first starts where `start` is true, any other one after the part with the number before it
abbrev pub turn_made : Option ℕ → ℕ → Plan → GuardTree PortName → Made
turn_made None k p start = part_made k p start
turn_made (Some before) k p start = later_made k p (part_ends before)

abbrev pub at_once_made : ℕ → Plans → GuardTree PortName → GuardTree PortName → Made
at_once_made k ps start all = record {
  pieces = pieces_at_once k ps start all;
  enabled = λ group. enabling_at_once k ps start (GroupNamed group);
  tested = λ group. testing_at_once k ps start (GroupNamed group);
}

-- ---- what a part makes itself, without the parts inside it

-- the guard, where this group acts in the row of a test
abbrev pub tests_group : Option Actor → GuardTree PortName → Guards
tests_group by guard = λ group. if is_by by (GroupNamed group) then guard ∷ [] else []

abbrev pub choice_made : ℕ → Plan → Option Actor → GuardTree PortName → Made
choice_made k p by start = record { pieces = ends_wire k p start ∷ []; enabled = nothing; tested = tests_group by start }

abbrev pub loop_made : ℕ → PortName → Option Actor → Plan → GuardTree PortName → Made
loop_made k port by body start = record {
  pieces = ends_wire k (Repeats port by body) start ∷ piece Register (token_name (Again k)) (again_guard k port body start) ∷ [];
  enabled = nothing;
  tested = tests_group by (tested_guard k start);
}

-- the group that acts in the row of a test
abbrev pub by_group : List Text → Option NameId → Option Actor
by_group names by = option_map (λ id. GroupNamed (text_of names id)) by

-- the plans of the branches of a choice, and the choice between them
abbrev pub on_plan : List Text → ℕ → Choice → Plan
on_plan source item choice = plan_at item (statement_tree source choice.on.control.now)

abbrev pub off_plan : List Text → ℕ → Choice → Plan
off_plan source item choice = plan_at item (statement_tree source choice.off.control.now)

abbrev pub choice_plan : List Text → (item other : ℕ) → PortName → List Text → Choice → Plan
choice_plan source item other port names choice =
    Chooses port (by_group names choice.test.by) (on_plan source item choice) (off_plan source other choice)

-- the branches of a choice with this number have the numbers of its parts
pub record IsChoiceAt (number : ℕ) (source : List Text) (item : ℕ) (choice : Choice) : Type 0 where
  pub on : choice.on.number ≡ number + 1
  pub off : choice.off.number ≡ number + 1 + size (on_plan source item choice)

-- ---- what code has made

pub record ShowsParts (names : List Text) (made : Made) (parts : Parts) : Type 0 where
  pub pieces : ShowsPieces names made.pieces parts.pieces
  pub acts : ShowsActs names made.enabled made.tested parts.acts

-- the plan of a component as a whole, from part 0
abbrev pub plan_made : Plan → Made
plan_made plan = record {
  pieces = plan_pieces plan;
  enabled = λ group. enabling 0 plan (is_set start_name) (GroupNamed group);
  tested = λ group. testing 0 plan (is_set start_name) (GroupNamed group);
}

-- the guards of the groups are those of the plan
abbrev pub ShowsPlan : List Text → Plan → Acts → Type 0
ShowsPlan names plan acts = ShowsActs names (plan_made plan).enabled (plan_made plan).tested acts

-- the group has numbers of the source, whose names are kept, and is one of those for which the guards of the plan were gathered
pub record CanLowerGroup (source names : List Text) (plan : Plan) (acts : Acts) (group : Group) : Type 0 where
  pub kept : KeepsTexts source names
  pub numbers : GroupHasNumbers source group
  pub known : Contains acts.groups (text_of source group.name)
  pub shown : ShowsPlan names plan acts

-- control starts or runs, and doesn't end
abbrev pub busy_guard : Plan → GuardTree PortName
busy_guard plan = both (either (is_set start_name) (is_set busy_name)) (Negates (control_ends plan))

-- when a group of this name acts, of a component that is bare or not
abbrev pub rule_when : Bool → Text → GuardTree PortName
rule_when bare group = if bare then never else is_set (acts_name group)

-- rules, under these names and under any that keep their texts
abbrev pub ShowRules : List Text → List ActivityRule → List ActRule → Type 0
ShowRules = ShowAll RuleHasNumbers rule_tree
