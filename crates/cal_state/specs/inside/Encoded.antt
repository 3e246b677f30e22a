-- What a design with control is lowered to, with one register for each sequential thread: bare components whose groups act where rules over the states of
-- threads say so. Calyx, ASPLOS 2021; threads and their states are this project's.
use Rattle.std.specs.Prelude.{◌≡◌, ℕ, List, [], ◌∷◌, ◌++◌, map, flat_map, if◌then◌else◌, All, Some, codes}
use Rattle.net_core.specs.Guard.{GuardTree, Negates}
use Rattle.net_core.specs.declared.net.Src.TheVariants.{Lit}
use Rattle.cal_ast.specs.Holes.{ActivityRule}
use Rattle.cal_ast.specs.Plan.{Plan, plan_of}
use Rattle.cal_ast.specs.Ports.{is_bare, inputs_in, outputs_in}
use Rattle.cal_ast.specs.Tree.{PortName, port_of, Assignment, Absent, Component, Design}
use Rattle.cal_lower.specs.inside.Lowered.{HasFewParts, control_ends, done_set, group_pieces, plan_pieces, rules_from, start_guard}
use Rattle.cal_lower.specs.inside.Pieces.{Piece, Wire, piece, piece_cell, piece_sets, is_set, both, any_of, start_name, busy_name, over_name}
use Rattle.cal_state.specs.inside.States.{all_next_sets, as_wires, is_in, is_on, thread_cell, thread_enable, thread_name, width_of}
use Rattle.cal_state.specs.inside.Threads.{State, ended_state, plan_places, thread_of, threads}

-- ---- the control of an instance as a whole

-- control is over: the main thread has come to its end
abbrev pub over_state : Plan → State
over_state plan = record { thread = thread_of 0 plan; number = ended_state }

-- it runs, after a row in which it started and before its done row: a thread has a token, and control isn't over
abbrev pub busy_guard : Plan → GuardTree PortName
busy_guard plan = both (any_of (map is_on (threads plan))) (Negates (is_set over_name))

abbrev pub instance_wires : Plan → List Piece
instance_wires plan = piece Wire start_name start_guard ∷ piece Wire busy_name (busy_guard plan) ∷ piece Wire over_name (is_in (over_state plan)) ∷ []

-- the main thread comes to its end after the last row of control
abbrev pub over_set : Plan → Assignment
over_set plan =
    record {
      dst = port_of (thread_name (thread_of 0 plan)) (codes "in");
      guard = Some (control_ends plan);
      src = Lit (width_of (thread_of 0 plan)) ended_state;
    }

-- ---- the component

-- the wires of the token lowering, with the same names, and wires in place of its registers
abbrev pub wires : Component → List Piece
wires c = instance_wires (plan_of c) ++ flat_map (group_pieces (plan_of c)) c.groups ++ as_wires (plan_pieces (plan_of c)) (plan_places (plan_of c))

-- what brings threads to states
abbrev pub thread_sets : Plan → List Assignment
thread_sets plan = over_set plan ∷ all_next_sets (plan_pieces plan) (plan_places plan) ++ map thread_enable (threads plan)

abbrev pub with_states : Component → Component
with_states c =
    record c {
      ins = inputs_in c;
      outs = outputs_in c;
      cells = c.cells ++ map piece_cell (wires c) ++ map thread_cell (threads (plan_of c));
      sets = c.sets ++ flat_map piece_sets (wires c) ++ thread_sets (plan_of c) ++ done_set ∷ [];
      control = Absent;
    }

-- the component without control; a bare one stays as it is
abbrev pub encoded : Component → Component
encoded c = if is_bare c then record c { control = Absent } else with_states c

-- the design and its rules are this one lowered; the rules are those of the token lowering
pub record IsStatesOf (source answer : Design) (rules : List ActivityRule) : Type 0 where
  pub few : All HasFewParts source
  pub design : answer ≡ map encoded source
  pub acting : rules ≡ rules_from 0 source
