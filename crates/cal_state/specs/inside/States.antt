-- Threads as registers: guards that compare them, the wires that show tokens, and what brings a thread to a state. Calyx, ASPLOS 2021, has guards of this
-- form; names are this project's.
use Rattle.std.specs.Prelude.{ℕ, zero, suc, ◌+◌, ◌^◌, nat_lt, List, [], ◌∷◌, ◌++◌, codes, decimal, if◌then◌else◌, None, false}
use Rattle.hw_names.specs.Name.{Text}
use Rattle.net_core.specs.Guard.{GuardTree, Compares}
use Rattle.net_core.specs.declared.net.Cmp.TheVariants.{Eq, Neq}
use Rattle.net_core.specs.declared.net.Src.TheVariants.{Port, Lit}
use Rattle.cal_ast.specs.Tree.{PortName, port_of, Assignment, CellDef}
use Rattle.cal_lower.specs.inside.Pieces.{Piece, Wire, piece, shown}
use Rattle.cal_state.specs.inside.Threads.{Thread, State, Place, NoState, IsIn}

-- ---- a thread's register

-- the least width from this one on in which the number fits, or one that is greater by so much
unfoldable pub least_width : (more width n : ℕ) → ℕ
least_width zero width n = width
least_width (suc more) width n = if nat_lt n (2 ^ width) then width else least_width more (width + 1) n

-- the register has as many bits as its greatest state needs; numbers of states have less than 128 bits
abbrev pub width_of : Thread → ℕ
width_of thread = least_width 127 1 thread.last

abbrev pub thread_name : Thread → Text
thread_name thread = codes "c$fsm" ++ decimal thread.part

abbrev pub thread_cell : Thread → CellDef
thread_cell thread = record { name = thread_name thread; made = codes "std_reg"; params = width_of thread ∷ []; external = false }

-- it takes a state in every row, 0 where nothing brings it to another
abbrev pub thread_enable : Thread → Assignment
thread_enable thread = record { dst = port_of (thread_name thread) (codes "write_en"); guard = None; src = Lit 1 1 }

-- ---- guards

-- the thread is in the state
abbrev pub is_in : State → GuardTree PortName
is_in s = Compares Eq (Port (shown (thread_name s.thread))) (Lit (width_of s.thread) s.number)

-- it is in another state than 0
abbrev pub is_on : Thread → GuardTree PortName
is_on thread = Compares Neq (Port (shown (thread_name thread))) (Lit (width_of thread) 0)

-- ---- the pieces of the token lowering

-- what a register showed a wire shows, in the state of its token
abbrev pub as_wire : Piece → Place → Piece
as_wire p NoState = p
as_wire p (IsIn token state) = piece Wire p.name (is_in state)

-- what drove the register brings the thread to the state
abbrev pub next_sets : Piece → Place → List Assignment
next_sets p NoState = []
next_sets p (IsIn token state) =
    record { dst = port_of (thread_name state.thread) (codes "in"); guard = p.guard; src = Lit (width_of state.thread) state.number } ∷ []

-- the same of pieces, each with its place
abbrev pub as_wires : List Piece → List Place → List Piece
as_wires (p ∷ ps) (place ∷ places) = as_wire p place ∷ as_wires ps places
as_wires ps places = []

abbrev pub all_next_sets : List Piece → List Place → List Assignment
all_next_sets (p ∷ ps) (place ∷ places) = next_sets p place ++ all_next_sets ps places
all_next_sets ps places = []
