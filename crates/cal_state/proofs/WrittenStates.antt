-- The registers of threads, and the wires that show their states, can be written.
use Rattle.std.proofs.Common.{ℕ, ◌+◌, ◌≤◌, ◌^◌, List, [], ◌∷◌, ◌++◌, map, arith, lit<}
use Rattle.std.specs.Prelude.{codes}
use Rattle.std.specs.Fmt.{decimal}
use Rattle.std.specs.List.{AllByRecursion}
use Rattle.hw_grammar.specs.Words.{IsWritten}
use Rattle.net_core.specs.declared.net.Src.TheVariants.{Lit}
use Rattle.cal_ast.specs.Plan.{Plan}
use Rattle.cal_lower.proofs.ListLemmas.{Each}
use Rattle.cal_lower.specs.inside.Pieces.{Piece, Register, Wire}
use Rattle.cal_ast.specs.Written.{AssignmentIsWritten, CellIsWritten, GuardIsWritten, IsCalName, SourceIsWritten}
use Rattle.cal_state.proofs.FitLemmas.{IsWithin, plan_within}
use Rattle.cal_state.proofs.WidthLemmas.{width_is}
use Rattle.cal_state.specs.inside.States.{all_next_sets, as_wire, as_wires, is_in, is_on, next_sets, thread_cell, thread_enable, thread_name, width_of}
use Rattle.cal_state.specs.inside.Threads.{IsIn, NoState, Place, State, Thread, plan_places}
use Rattle.cal_token.specs.inside.Tokens.{size}
use Rattle.cal_ast.proofs.WrittenLists.{all_append}
use Rattle.cal_group.proofs.WrittenNames.{decimal_bytes, enable_named, in_named, made_name, out_named, one_written}
use Rattle.cal_lower.proofs.WrittenNames.{made_named}
use Rattle.cal_lower.proofs.WrittenPieces.{ArePieces, PieceIsWritten, piece_written}

-- ---- names and numbers of states

pub thread_named : (t : Thread) → IsCalName (thread_name t)
thread_named t = made_name (codes "fsm" ++ decimal t.part) (decimal_bytes t.part)

abbrev pub StateIsWritten : State → Type 0
StateIsWritten s = IsWritten s.number

width_written : (t : Thread) → IsWritten (width_of t)
width_written t = let few = (width_is t).few in omega (arith, few)

pub literal_written : (t : Thread) (n : ℕ) → IsWritten n → SourceIsWritten (Lit (width_of t) n)
literal_written t n is = (width_written t, is)

pub in_written : (s : State) → StateIsWritten s → GuardIsWritten (is_in s)
in_written s is = ((thread_named s.thread, out_named), literal_written s.thread s.number is)

pub on_written : (t : Thread) → GuardIsWritten (is_on t)
on_written t = ((thread_named t, out_named), literal_written t 0 (lit< tt))

pub each_on_written : (ts : List Thread) → AllByRecursion GuardIsWritten (map is_on ts)
each_on_written [] = tt
each_on_written (t ∷ ts) = (on_written t, each_on_written ts)

-- ---- places

abbrev PlaceIsWritten : Place → Type 0
PlaceIsWritten NoState = Unit {0}
PlaceIsWritten (IsIn token state) = StateIsWritten state

abbrev pub ArePlaces : List Place → Type 0
ArePlaces xs = AllByRecursion PlaceIsWritten xs

place_written : (x : Place) → IsWithin (2 ^ 64 + 1) x → PlaceIsWritten x
place_written NoState within = tt
place_written (IsIn token state) within = let number = within.0 in let last = within.1 in omega (arith, number, last)

places_written : (xs : List Place) → Each (IsWithin (2 ^ 64 + 1)) xs → ArePlaces xs
places_written [] within = tt
places_written (x ∷ xs) within = (place_written x within.0, places_written xs within.1)

pub plan_places_written : (plan : Plan) → size plan ≤ 2 ^ 64 → ArePlaces (plan_places plan)
plan_places_written plan few = places_written (plan_places plan) (plan_within (2 ^ 64 + 1) plan (omega (arith, few)))

-- ---- wires that show states

wire_written : (p : Piece) (x : Place) → PieceIsWritten p → PlaceIsWritten x → PieceIsWritten (as_wire p x)
wire_written p NoState is in_state = is
wire_written p (IsIn token state) is in_state = piece_written Wire p.name (is_in state) is.0 (in_written state in_state)

pub wires_written : (ps : List Piece) (xs : List Place) → ArePieces ps → ArePlaces xs → ArePieces (as_wires ps xs)
wires_written [] [] are in_states = tt
wires_written [] (x ∷ xs) are in_states = tt
wires_written (p ∷ ps) [] are in_states = tt
wires_written (p ∷ ps) (x ∷ xs) are in_states = (wire_written p x are.0 in_states.0, wires_written ps xs are.1 in_states.1)

-- ---- what brings threads to states

next_written : (p : Piece) (x : Place) → PieceIsWritten p → PlaceIsWritten x → AllByRecursion AssignmentIsWritten (next_sets p x)
next_written p NoState is in_state = tt
next_written p (IsIn token state) is in_state =
    (((thread_named state.thread, in_named), (is.1.0, literal_written state.thread state.number in_state)), tt)

pub all_next_written : (ps : List Piece) (xs : List Place) → ArePieces ps → ArePlaces xs → AllByRecursion AssignmentIsWritten (all_next_sets ps xs)
all_next_written [] [] are in_states = tt
all_next_written [] (x ∷ xs) are in_states = tt
all_next_written (p ∷ ps) [] are in_states = tt
all_next_written (p ∷ ps) (x ∷ xs) are in_states =
    all_append AssignmentIsWritten (next_sets p x) (all_next_sets ps xs) (next_written p x are.0 in_states.0) (all_next_written ps xs are.1 in_states.1)

-- ---- registers

register_written : (t : Thread) → CellIsWritten (thread_cell t)
register_written t = (thread_named t, (made_named Register, (width_written t, tt)))

pub registers_written : (ts : List Thread) → AllByRecursion CellIsWritten (map thread_cell ts)
registers_written [] = tt
registers_written (t ∷ ts) = (register_written t, registers_written ts)

enable_written : (t : Thread) → AssignmentIsWritten (thread_enable t)
enable_written t = ((thread_named t, enable_named), (tt, one_written))

pub enables_written : (ts : List Thread) → AllByRecursion AssignmentIsWritten (map thread_enable ts)
enables_written [] = tt
enables_written (t ∷ ts) = (enable_written t, enables_written ts)
