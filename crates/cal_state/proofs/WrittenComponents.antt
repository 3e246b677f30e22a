-- Where a design can be written, so can the one with states in place of its control, and its rules.
use Rattle.std.proofs.Common.{◌≡◌, ℕ, ◌+◌, Bool, true, false, List, [], ◌∷◌, ◌++◌, length, flat_map, map, codes, bytes_eq, if◌then◌else◌, lit<, refl, sym, ap, ◌∙◌, subst}
use Rattle.std.specs.Prelude.{◌≢◌, All, Contains}
use Rattle.std.specs.List.{AllByRecursion}
use Rattle.std.proofs.lemmas.Bool.{false≢true}
use Rattle.std.proofs.lemmas.List.Elements.{All-contains}
use Rattle.hw_names.specs.Name.{Text}
use Rattle.hw_prims.specs.Table.{Pin, pin}
use Rattle.net_core.specs.Guard.{GuardTree, Negates}
use Rattle.cal_ast.proofs.ListLemmas.{Contains-here, Contains-there}
use Rattle.cal_ast.specs.Actors.{Actor, GroupNamed}
use Rattle.cal_ast.specs.Holes.{ActivityRule}
use Rattle.cal_ast.specs.Items.{items_before_control}
use Rattle.cal_ast.specs.Plan.{Plan, plan_of}
use Rattle.cal_ast.specs.Ports.{has_pin, inputs_in, is_bare, outputs_in, with_pin}
use Rattle.cal_ast.specs.Tree.{Absent, Assignment, Component, Design, DoneLine, GroupDef, PortName}
use Rattle.cal_lower.specs.inside.Lowered.{HasFewParts, acts_guard, control_ends, done_set, done_wire, group_pieces, plan_pieces, rule_of, rules_from, start_guard}
use Rattle.cal_lower.specs.inside.Parts.{enabling, part_ends, part_pieces, testing}
use Rattle.cal_lower.specs.inside.Pieces.{Kind, Piece, Register, Wire, acts_name, any_of, both, busy_name, enables_piece, is_done, is_set, never, over_name, piece_cell, piece_sets, start_name}
use Rattle.cal_ast.specs.Written.{AssignmentIsWritten, CellIsWritten, ComponentIsWritten, DesignIsWritten, DoneIsWritten, GroupIsWritten, GuardIsWritten, InputIsWritten, IsCalName, PinIsWritten, RulesAreWritten}
use Rattle.cal_state.specs.inside.Encoded.{busy_guard, encoded, instance_wires, over_set, over_state, thread_sets, wires, with_states}
use Rattle.cal_state.specs.inside.States.{all_next_sets, as_wires, is_in, is_on, thread_cell, thread_enable}
use Rattle.cal_state.specs.inside.Threads.{ended_state, plan_places, thread_of, threads}
use Rattle.cal_walk.specs.Left.{is_over}
use Rattle.cal_lower.proofs.WrittenGuards.{PlanIsWritten, any_written, both_written, done_written, enabling_written, ends_written, guard_chosen, never_written, section_written, set_written, testing_written}
use Rattle.cal_ast.proofs.WrittenLists.{all_append, all_chosen, all_flat_map, all_map, map_some}
use Rattle.cal_group.proofs.WrittenNames.{done_pin_named, enable_named, go_named, in_named, name_bytes, out_named, one_written}
use Rattle.cal_lower.proofs.WrittenNames.{acts_named, busy_named, done_named, made_named, over_named, start_named}
use Rattle.cal_lower.proofs.WrittenPieces.{ArePieces, PieceIsWritten, part_written, piece_written}
use Rattle.cal_state.proofs.WrittenStates.{thread_named, ArePlaces, all_next_written, each_on_written, enables_written, in_written, literal_written, plan_places_written, registers_written, wires_written}

abbrev Guard : Type 0
Guard = GuardTree PortName

start_is : GuardIsWritten (is_set start_name)
start_is = set_written start_name start_named

-- ---- pieces of a component

acts_written : (plan : Plan) (g : GroupDef) → IsCalName g.name → GuardIsWritten (acts_guard plan g)
acts_written plan g named =
    let actor : Actor = GroupNamed g.name in
    let tests = testing 0 plan (is_set start_name) actor in
    let enables = enabling 0 plan (is_set start_name) actor in
    guard_chosen g.comb (any_of tests) (both (any_of enables) (Negates (is_done actor))) (any_written tests (testing_written actor 0 plan (is_set start_name) start_is))
    (both_written (any_of enables) (Negates (is_done actor)) (any_written enables (enabling_written actor 0 plan (is_set start_name) start_is)) (done_written actor (name_bytes g.name named)))

done_wire_written : (d : DoneLine) → DoneIsWritten d → PieceIsWritten (done_wire d)
done_wire_written d is = (done_named d.group (name_bytes d.group is.0), is.1)

group_pieces_written : (plan : Plan) (g : GroupDef) → GroupIsWritten g → ArePieces (group_pieces plan g)
group_pieces_written plan g is = (
  piece_written Wire (acts_name g.name) (acts_guard plan g) (acts_named g.name (name_bytes g.name is.0)) (acts_written plan g is.0),
  all_map DoneIsWritten PieceIsWritten done_wire done_wire_written g.dones is.1.1,
)

control_ends_written : (plan : Plan) → GuardIsWritten (control_ends plan)
control_ends_written plan = guard_chosen (is_over plan) (is_set start_name) (part_ends 0) start_is (ends_written 0)

start_guard_written : GuardIsWritten start_guard
start_guard_written = (tt, ((tt, go_named), (set_written busy_name busy_named, (set_written over_name over_named, tt))))

over_written : (plan : Plan) → GuardIsWritten (is_in (over_state plan))
over_written plan = in_written (over_state plan) (lit< tt)

busy_written : (plan : Plan) → GuardIsWritten (busy_guard plan)
busy_written plan =
    both_written (any_of (map is_on (threads plan))) (Negates (is_set over_name)) (any_written (map is_on (threads plan)) (each_on_written (threads plan)))
    (set_written over_name over_named)

instance_written : (plan : Plan) → ArePieces (instance_wires plan)
instance_written plan = (
  piece_written Wire start_name start_guard start_named start_guard_written,
  (
    piece_written Wire busy_name (busy_guard plan) busy_named (busy_written plan),
    (piece_written Wire over_name (is_in (over_state plan)) over_named (over_written plan), tt),
  ),
)

plan_pieces_written : (plan : Plan) → PlanIsWritten plan → ArePieces (plan_pieces plan)
plan_pieces_written plan is = all_chosen PieceIsWritten (is_over plan) [] (part_pieces 0 plan (is_set start_name)) tt (part_written 0 plan (is_set start_name) is start_is)

module _ (c : Component) (is : ComponentIsWritten c) (few : HasFewParts c) where
  plan_is : ArePieces (plan_pieces (plan_of c))
  plan_is = plan_pieces_written (plan_of c) (section_written (length (items_before_control c)) c.control is.control)

  places_are : ArePlaces (plan_places (plan_of c))
  places_are = plan_places_written (plan_of c) few

  wires_are : ArePieces (wires c)
  wires_are =
      let plan = plan_of c in
      let groups = flat_map (group_pieces plan) c.groups in
      let shown = as_wires (plan_pieces plan) (plan_places plan) in
      all_append PieceIsWritten (instance_wires plan ++ groups) shown
      (all_append PieceIsWritten (instance_wires plan) groups (instance_written plan) (all_flat_map GroupIsWritten PieceIsWritten (group_pieces plan) (group_pieces_written plan) c.groups is.groups))
      (wires_written (plan_pieces plan) (plan_places plan) plan_is places_are)

  thread_sets_written : AllByRecursion AssignmentIsWritten (thread_sets (plan_of c))
  thread_sets_written =
      let plan = plan_of c in
      let over : AssignmentIsWritten (over_set plan)
      = ((thread_named (thread_of 0 plan), in_named), (control_ends_written plan, literal_written (thread_of 0 plan) ended_state (lit< tt))) in
      all_append AssignmentIsWritten (over_set plan ∷ all_next_sets (plan_pieces plan) (plan_places plan)) (map thread_enable (threads plan))
      (over, all_next_written (plan_pieces plan) (plan_places plan) plan_is places_are)
      (enables_written (threads plan))

cell_written : (p : Piece) → PieceIsWritten p → CellIsWritten (piece_cell p)
cell_written p is = (is.0, (made_named p.kind, (lit< tt, tt)))

piece_enables_written : (kind : Kind) (name : Text) → IsCalName name → AllByRecursion AssignmentIsWritten (enables_piece kind name)
piece_enables_written Wire name named = tt
piece_enables_written Register name named = (((named, enable_named), (tt, one_written)), tt)

piece_sets_written : (p : Piece) → PieceIsWritten p → AllByRecursion AssignmentIsWritten (piece_sets p)
piece_sets_written p is = (((is.0, in_named), is.1), piece_enables_written p.kind p.name is.0)

-- ---- the component with states

go_apart : (other : Text) → bytes_eq (codes "go") other ≡ false → codes "go" ≢ other
go_apart other apart same = false≢true (sym (ap (bytes_eq (codes "go")) same ∙ apart))

go_input : InputIsWritten (pin (codes "go") 1)
go_input = ((go_named, lit< tt), (go_apart (codes "clk") refl, go_apart (codes "reset") refl))

with_pin_written : (P : Pin → Type 0) (name : Text) (pins : List Pin) → P (pin name 1) → AllByRecursion P pins → AllByRecursion P (with_pin name pins)
with_pin_written P name pins is are = all_chosen P (has_pin pins name) pins (pins ++ pin name 1 ∷ []) are (all_append P pins (pin name 1 ∷ []) are (is, tt))

inputs_written : (c : Component) → ComponentIsWritten c → AllByRecursion InputIsWritten (inputs_in c)
inputs_written c is = all_chosen InputIsWritten (is_bare c) c.ins (with_pin (codes "go") c.ins) is.ins (with_pin_written InputIsWritten (codes "go") c.ins go_input is.ins)

outputs_written : (c : Component) → ComponentIsWritten c → AllByRecursion PinIsWritten (outputs_in c)
outputs_written c is =
    all_chosen PinIsWritten (is_bare c) c.outs (with_pin (codes "done") c.outs) is.outs (with_pin_written PinIsWritten (codes "done") c.outs (done_pin_named, lit< tt) is.outs)

done_set_written : AssignmentIsWritten done_set
done_set_written = ((tt, done_pin_named), (tt, (over_named, out_named)))

states_written : (c : Component) → ComponentIsWritten c → HasFewParts c → ComponentIsWritten (with_states c)
states_written c is few =
    let shown = wires c in
    let are = wires_are c is few in
    let registers = map thread_cell (threads (plan_of c)) in
    record {
      name = is.name;
      ins = inputs_written c is;
      outs = outputs_written c is;
      cells = all_append CellIsWritten (c.cells ++ map piece_cell shown) registers
          (all_append CellIsWritten c.cells (map piece_cell shown) is.cells (all_map PieceIsWritten CellIsWritten piece_cell cell_written shown are))
          (registers_written (threads (plan_of c)));
      groups = is.groups;
      sets = all_append AssignmentIsWritten (c.sets ++ flat_map piece_sets shown ++ thread_sets (plan_of c)) (done_set ∷ [])
          (all_append AssignmentIsWritten (c.sets ++ flat_map piece_sets shown) (thread_sets (plan_of c))
          (all_append AssignmentIsWritten c.sets (flat_map piece_sets shown) is.sets (all_flat_map PieceIsWritten AssignmentIsWritten piece_sets piece_sets_written shown are))
          (thread_sets_written c is few))
          (done_set_written, tt);
      control = tt;
    }

bare_written : (c : Component) → ComponentIsWritten c → ComponentIsWritten (record c { control = Absent })
bare_written c is = record { name = is.name; ins = is.ins; outs = is.outs; cells = is.cells; groups = is.groups; sets = is.sets; control = tt }

encoded_written : (c : Component) → ComponentIsWritten c → HasFewParts c → ComponentIsWritten (encoded c)
encoded_written c is few = by (is_bare c)
  where
    by : (bare : Bool) → ComponentIsWritten (if bare then record c { control = Absent } else with_states c)
    by true = bare_written c is
    by false = states_written c is few

components_written : (cs : Design) → AllByRecursion ComponentIsWritten cs → ((c : Component) → Contains cs c → HasFewParts c)
    → AllByRecursion ComponentIsWritten (map encoded cs)
components_written [] are few = tt
components_written (c ∷ cs) are few =
    (encoded_written c are.0 (few c (Contains-here c cs)), components_written cs are.1 (λ d has. few d (Contains-there c cs d has)))

-- ---- the rules

abbrev RuleIsWritten : ActivityRule → Type 0
RuleIsWritten rule = GuardIsWritten rule.when

rule_written : (n : ℕ) (c : Component) (g : GroupDef) → GroupIsWritten g → RuleIsWritten (rule_of n c g)
rule_written n c g is = guard_chosen (is_bare c) never (is_set (acts_name g.name)) never_written (set_written (acts_name g.name) (acts_named g.name (name_bytes g.name is.0)))

rules_written : (n : ℕ) (design : Design) → AllByRecursion ComponentIsWritten design → RulesAreWritten (rules_from n design)
rules_written n [] are = tt
rules_written n (c ∷ cs) are =
    all_append RuleIsWritten (map (rule_of n c) c.groups) (rules_from (n + 1) cs)
    (all_map GroupIsWritten RuleIsWritten (rule_of n c) (rule_written n c) c.groups are.0.groups) (rules_written (n + 1) cs are.1)

-- ---- the design

pub encoded_written_design : (design : Design) → All HasFewParts design → DesignIsWritten design → DesignIsWritten (map encoded design)
encoded_written_design design few is = (map_some encoded design is.0, components_written design is.1 (λ c has. All-contains HasFewParts design c few has))

pub encoded_written_rules : (design : Design) → DesignIsWritten design → RulesAreWritten (rules_from 0 design)
encoded_written_rules design is = rules_written 0 design is.1
