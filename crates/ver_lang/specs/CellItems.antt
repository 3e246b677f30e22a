-- What each primitive is in Verilog: what its outputs show, what it keeps, and what happens at the edge that ends a cycle. This project's.
-- A name with `$` and a digit is a register, a memory or a counter of the cell's own.
use Rattle.std.specs.Prelude.{ℕ, ◌-◌, ◌*◌, ◌^◌, ◌==◌, max, nat_lt, List, [], ◌∷◌, ◌++◌, map, codes, Option, Some, None, if◌then◌else◌}
use Rattle.std.specs.Int.Count.{count_leading_zeros}
use Rattle.hw_names.specs.Name.{Text, dotted}
use Rattle.hw_prims.specs.declared.prim.Primitive.{Primitive}
use Rattle.hw_prims.specs.declared.prim.Primitive.TheVariants.{StdConst, StdWire, StdAdd, StdSub, StdAnd, StdOr, StdXor, StdNot, StdEq, StdNeq, StdLt}
use Rattle.hw_prims.specs.declared.prim.Primitive.TheVariants.{StdGt, StdLe, StdGe, StdLsh, StdRsh, StdSlice, StdPad, FilMux, FilSlice, FilConcat, StdReg}
use Rattle.hw_prims.specs.declared.prim.Primitive.TheVariants.{StdMemD1, StdMemD2, StdMultPipe, FilDelay, FilFastMult, FilSeqMult}
use Rattle.ver_lang.specs.Tree.{Operator, Plus, Minus, Times, BitAnd, BitOr, BitXor, Equal, Unequal, Less, Greater, AtMost, AtLeast, ShiftLeft, ShiftRight}
use Rattle.ver_lang.specs.Tree.{And, Or, Expr, Name, Literal, Part, Word, Joined, Inverse, Negation, Binary, Choice, Bracketed, Statement, Statements, Keeps}
use Rattle.ver_lang.specs.Tree.{Stores, When, WhenElse, Block, NoStatements, MoreStatements, Constant, Item, Register, Memory, Counter}
use Rattle.ver_lang.specs.Tree.{Fill, Assign, Always}

-- a port of the cell
abbrev pub pin : Text → Text → Expr
pin cell port = Name (dotted cell port)

abbrev pub zero_of : ℕ → Constant
zero_of width = record { width = width; value = 0 }

-- assign c.out = E;
abbrev pub shows : Text → Text → Expr → Item
shows cell output e = Assign (dotted cell output) e

-- reg [w-1:0] c.r = w'd0;
abbrev pub register : Text → Text → ℕ → Item
register cell name w = Register (record { name = dotted cell name; width = w }) (zero_of w)

-- r <= E;
abbrev pub keeps : Text → Text → Expr → Statement
keeps cell name e = Keeps (dotted cell name) e

-- begin S S .. end
abbrev pub statements : List Statement → Statements
statements [] = NoStatements
statements (s ∷ ss) = MoreStatements s (statements ss)

abbrev pub block : List Statement → Statement
block ss = Block (statements ss)

-- left op right
abbrev pub operation : Text → Operator → Expr
operation cell op = Binary op (pin cell (codes "left")) (pin cell (codes "right"))

abbrev pub simple : Text → Expr → List Item
simple cell e = shows cell (codes "out") e ∷ []

-- E, or {n'd0, E} with n zeros above it
abbrev pub padded : ℕ → Expr → Expr
padded n e = if n == 0 then e else Joined (Literal n 0) e

-- $0 is what is kept, $1 is done
abbrev pub register_items : Text → ℕ → List Item
register_items cell w =
    let write_en = pin cell (codes "write_en") in
    register cell (codes "$0") w ∷
    register cell (codes "$1") 1 ∷
    shows cell (codes "out") (pin cell (codes "$0")) ∷
    shows cell (codes "done") (pin cell (codes "$1")) ∷
    Always (block (keeps cell (codes "$1") write_en ∷ When write_en (keeps cell (codes "$0") (pin cell (codes "in"))) ∷ [])) ∷
    []

-- $0 is what is kept
abbrev pub delay_items : Text → ℕ → List Item
delay_items cell w =
    register cell (codes "$0") w ∷
    shows cell (codes "out") (pin cell (codes "$0")) ∷
    Always (keeps cell (codes "$0") (pin cell (codes "in"))) ∷
    []

-- $0 is the product of the cycle before, $1 that of the cycle before it
abbrev pub fast_mult_items : Text → ℕ → List Item
fast_mult_items cell w =
    register cell (codes "$0") w ∷
    register cell (codes "$1") w ∷
    shows cell (codes "out") (pin cell (codes "$1")) ∷
    Always (block (keeps cell (codes "$1") (pin cell (codes "$0")) ∷ keeps cell (codes "$0") (operation cell Times) ∷ [])) ∷
    []

-- $0 is this phase
abbrev pub in_phase : Text → ℕ → Expr
in_phase cell phase = Binary Equal (pin cell (codes "$0")) (Literal 2 phase)

-- $0 <= phase;
abbrev pub to_phase : Text → ℕ → Statement
to_phase cell phase = keeps cell (codes "$0") (Literal 2 phase)

-- phase 0: with go the product is kept; then phases 1 and 2; then 0
abbrev pub seq_mult_edge : Text → Statement
seq_mult_edge cell =
    let take = keeps cell (codes "$1") (operation cell Times) in
    let begins = Block (statements (When (pin cell (codes "go")) (block (take ∷ to_phase cell 1 ∷ [])) ∷ [])) in
    block (WhenElse (in_phase cell 0) begins (WhenElse (in_phase cell 1) (to_phase cell 2) (to_phase cell 0)) ∷ [])

-- $0 is the phase, $1 the product
abbrev pub seq_mult_items : Text → ℕ → List Item
seq_mult_items cell w =
    register cell (codes "$0") 2 ∷
    register cell (codes "$1") w ∷
    shows cell (codes "out") (Choice (Bracketed (in_phase cell 2)) (pin cell (codes "$1")) (Literal w 0)) ∷
    Always (seq_mult_edge cell) ∷
    []

-- phase 0: with go the product is kept; with go phases 1, 2 and 3 follow, and what was kept is shown in 3; without go the phase is 0 again
abbrev pub mult_pipe_edge : Text → Statement
mult_pipe_edge cell =
    let go = pin cell (codes "go") in
    let gives_up = Binary Or (in_phase cell 3) (Negation go) in
    let goes_on = keeps cell (codes "$0") (Binary Plus (pin cell (codes "$0")) (Literal 2 1)) in
    block (
    WhenElse gives_up (to_phase cell 0) goes_on ∷
    When (Binary And (in_phase cell 0) go) (keeps cell (codes "$1") (operation cell Times)) ∷
    When (Binary And (in_phase cell 2) go) (keeps cell (codes "$2") (pin cell (codes "$1"))) ∷
    [])

-- $0 is the phase, $1 the product, $2 what is shown
abbrev pub mult_pipe_items : Text → ℕ → List Item
mult_pipe_items cell w =
    register cell (codes "$0") 2 ∷
    register cell (codes "$1") w ∷
    register cell (codes "$2") w ∷
    shows cell (codes "out") (pin cell (codes "$2")) ∷
    shows cell (codes "done") (Bracketed (in_phase cell 3)) ∷
    Always (mult_pipe_edge cell) ∷
    []

-- how many bits the index of a memory of so many words has: those of its last word, and one at least
abbrev pub index_width : ℕ → ℕ
index_width count = max 1 (128 - count_leading_zeros 128 (count - 1))

-- an address of idx bits with so many bits as an index has: its lower bits, or zeros above it
abbrev pub fitted : Text → Text → (idx bits : ℕ) → Expr
fitted cell address idx bits =
    if nat_lt bits idx then Part (dotted cell address) (bits - 1) 0 else padded (bits - idx) (pin cell address)

-- addr < idx'dsize; no test where each address is below the size
abbrev pub below : Text → Text → (idx size : ℕ) → Option Expr
below cell address idx size = if nat_lt size (2 ^ idx) then Some (Binary Less (pin cell address) (Literal idx size)) else None

-- both tests
abbrev pub both_tests : Option Expr → Option Expr → Option Expr
both_tests None b = b
both_tests (Some a) None = Some a
both_tests (Some a) (Some b) = Some (Binary And a b)

-- (within) ? m[index] : w'd0; without a test m[index]
abbrev pub read_value : Option Expr → Expr → ℕ → Expr
read_value None word w = word
read_value (Some within) word w = Choice (Bracketed within) word (Literal w 0)

-- write_en && (within); without a test write_en
abbrev pub write_test : Option Expr → Expr → Expr
write_test None write_en = write_en
write_test (Some within) write_en = Binary And write_en (Bracketed within)

-- what counts the words of a cell's memory at the start. A slash (47) stands for each dot (46): a tool is known that drops what a loop fills whose variable
-- has a dot in its name; and no other name has a slash
abbrev pub counter_of : Text → Text
counter_of cell = map (λ byte. if byte == 46 then 47 else byte) cell ++ codes "/$2"

-- the words of a memory, which begin with zeros
abbrev pub word_items : Text → (w count : ℕ) → List Item
word_items cell w count =
    let words = dotted cell (codes "$0") in
    let counter = counter_of cell in
    Memory (record { name = words; width = w }) count ∷
    register cell (codes "$1") 1 ∷
    Counter counter ∷
    Fill (record { counter = counter; count = count; memory = words; word = zero_of w }) ∷
    []

-- the output shows the word at the index; with write_en that word takes the data, and done tells of write_en. An address out of range is never an index
abbrev pub access_items : Text → ℕ → Option Expr → Expr → List Item
access_items cell w within index =
    let words = dotted cell (codes "$0") in
    let write_en = pin cell (codes "write_en") in
    shows cell (codes "read_data") (read_value within (Word words index) w) ∷
    shows cell (codes "done") (pin cell (codes "$1")) ∷
    Always (block (
    keeps cell (codes "$1") write_en ∷
    When (write_test within write_en) (Stores words index (pin cell (codes "write_data"))) ∷
    [])) ∷
    []

-- $0 are the words, $1 is done, $2 counts words at the start
abbrev pub memory_items : Text → (w count : ℕ) → Option Expr → Expr → List Item
memory_items cell w count within index = word_items cell w count ++ access_items cell w within index

abbrev pub memory_d1_items : Text → (w size idx : ℕ) → List Item
memory_d1_items cell w size idx =
    memory_items cell w size (below cell (codes "addr0") idx size) (fitted cell (codes "addr0") idx (index_width size))

-- addr0 * size1 + addr1, in so many bits as the index has; of one line of words addr1 alone
abbrev pub d2_index : Text → (size0 size1 idx0 idx1 : ℕ) → Expr
d2_index cell size0 size1 idx0 idx1 =
    let bits = index_width (size0 * size1) in
    let column = fitted cell (codes "addr1") idx1 bits in
    if size0 == 1 then column else Binary Plus (Binary Times (fitted cell (codes "addr0") idx0 bits) (Literal bits size1)) column

abbrev pub memory_d2_items : Text → (w size0 size1 idx0 idx1 : ℕ) → List Item
memory_d2_items cell w size0 size1 idx0 idx1 =
    let within = both_tests (below cell (codes "addr0") idx0 size0) (below cell (codes "addr1") idx1 size1) in
    memory_items cell w (size0 * size1) within (d2_index cell size0 size1 idx0 idx1)

-- the items of a cell of this primitive
unfoldable pub cell_items : Text → Primitive → List Item
cell_items cell (StdConst w v) = simple cell (Literal w v)
cell_items cell (StdWire w) = simple cell (pin cell (codes "in"))
cell_items cell (StdAdd w) = simple cell (operation cell Plus)
cell_items cell (StdSub w) = simple cell (operation cell Minus)
cell_items cell (StdAnd w) = simple cell (operation cell BitAnd)
cell_items cell (StdOr w) = simple cell (operation cell BitOr)
cell_items cell (StdXor w) = simple cell (operation cell BitXor)
cell_items cell (StdNot w) = simple cell (Inverse (pin cell (codes "in")))
cell_items cell (StdEq w) = simple cell (operation cell Equal)
cell_items cell (StdNeq w) = simple cell (operation cell Unequal)
cell_items cell (StdLt w) = simple cell (operation cell Less)
cell_items cell (StdGt w) = simple cell (operation cell Greater)
cell_items cell (StdLe w) = simple cell (operation cell AtMost)
cell_items cell (StdGe w) = simple cell (operation cell AtLeast)
cell_items cell (StdLsh w) = simple cell (operation cell ShiftLeft)
cell_items cell (StdRsh w) = simple cell (operation cell ShiftRight)
cell_items cell (StdSlice i o) = simple cell (Part (dotted cell (codes "in")) (o - 1) 0)
cell_items cell (StdPad i o) = simple cell (padded (o - i) (pin cell (codes "in")))
cell_items cell (FilMux w) = simple cell (Choice (pin cell (codes "sel")) (pin cell (codes "tru")) (pin cell (codes "fal")))
cell_items cell (FilSlice w hi lo) = simple cell (Part (dotted cell (codes "in")) hi lo)
cell_items cell (FilConcat a b) = simple cell (Joined (pin cell (codes "high")) (pin cell (codes "low")))
cell_items cell (StdReg w) = register_items cell w
cell_items cell (StdMemD1 w size idx) = memory_d1_items cell w size idx
cell_items cell (StdMemD2 w size0 size1 idx0 idx1) = memory_d2_items cell w size0 size1 idx0 idx1
cell_items cell (StdMultPipe w) = mult_pipe_items cell w
cell_items cell (FilDelay w) = delay_items cell w
cell_items cell (FilFastMult w) = fast_mult_items cell w
cell_items cell (FilSeqMult w) = seq_mult_items cell w
