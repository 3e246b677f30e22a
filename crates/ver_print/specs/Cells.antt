-- The lines of a cell, primitive by primitive: what its outputs show, what it keeps, and what happens at the clock's edge. This project's.
use Rattle.std.specs.Int.Count.{count_leading_zeros}
use Rattle.std.specs.Prelude.{ℕ, ◌-◌, ◌*◌, ◌^◌, ◌==◌, max, nat_lt, List, [], ◌∷◌, ◌++◌, codes, decimal, Option, None, Some, if◌then◌else◌}
use Rattle.std.specs.List.{flat_map}
use Rattle.hw_names.specs.Name.{Text}
use Rattle.hw_prims.specs.Table.{prim_of}
use Rattle.hw_prims.specs.declared.prim.Primitive.{Primitive}
use Rattle.hw_prims.specs.declared.prim.Primitive.TheVariants.{StdConst, StdWire, StdAdd, StdSub, StdAnd, StdOr, StdXor, StdNot, StdEq, StdNeq, StdLt}
use Rattle.hw_prims.specs.declared.prim.Primitive.TheVariants.{StdGt, StdLe, StdGe, StdLsh, StdRsh, StdSlice, StdPad, FilMux, FilSlice, FilConcat, StdReg}
use Rattle.hw_prims.specs.declared.prim.Primitive.TheVariants.{StdMemD1, StdMemD2, StdMultPipe, FilDelay, FilFastMult, FilSeqMult}
use Rattle.net_core.specs.Netlist.{CellLine}
use Rattle.ver_print.specs.Words.{assignment, clock, counter, gap, inner_line, joined, literal, padded, part, range, zeros}

-- an output of the cell always has a value
abbrev pub shows : Text → Text → Text → Text
shows cell output value = assignment (part cell output) value

-- a register of the cell's own, from 0
abbrev pub keeps : Text → Text → ℕ → Text
keeps cell register w = codes "reg " ++ range w ++ codes " " ++ part cell register ++ codes "= " ++ zeros w ++ codes ";"

-- what happens at each rising edge of the clock
abbrev pub clocked : Text → Text
clocked statement = codes "always @(posedge " ++ clock ++ codes ") " ++ statement

-- out= E
abbrev pub simple_lines : Text → Text → List Text
simple_lines cell value = shows cell (codes "out") value ∷ []

-- left op right
abbrev pub operation : Text → Text → Text
operation cell operator = part cell (codes "left") ++ operator ++ codes " " ++ part cell (codes "right")

-- in[high:low]
abbrev pub bits_text : Text → ℕ → ℕ → Text
bits_text cell high low = part cell (codes "in") ++ codes "[" ++ decimal high ++ codes ":" ++ decimal low ++ codes "]"

-- sel? tru: fal
abbrev pub choice : Text → Text
choice cell = part cell (codes "sel") ++ codes "? " ++ part cell (codes "tru") ++ codes ": " ++ part cell (codes "fal")

-- {high, low}
abbrev pub concatenation : Text → Text
concatenation cell = codes "{" ++ part cell (codes "high") ++ codes ", " ++ part cell (codes "low") ++ codes "}"

-- $0 is what is kept, $1 is done
abbrev pub register_lines : Text → ℕ → List Text
register_lines cell w =
    let kept = part cell (codes "$0") in
    let done = part cell (codes "$1") in
    let write_en = part cell (codes "write_en") in
    keeps cell (codes "$0") w ∷
    keeps cell (codes "$1") 1 ∷
    shows cell (codes "out") kept ∷
    shows cell (codes "done") done ∷
    clocked (joined (
    codes "begin " ∷ done ∷ codes "<= " ∷ write_en ∷ codes "; " ∷
    codes "if (" ∷ write_en ∷ codes ") " ∷ kept ∷ codes "<= " ∷ part cell (codes "in") ∷ codes "; end" ∷ [])) ∷
    []

-- $0 is what is kept
abbrev pub delay_lines : Text → ℕ → List Text
delay_lines cell w =
    let kept = part cell (codes "$0") in
    keeps cell (codes "$0") w ∷
    shows cell (codes "out") kept ∷
    clocked (kept ++ codes "<= " ++ part cell (codes "in") ++ codes ";") ∷
    []

-- $0 is the product of the row before, $1 the one before that
abbrev pub fast_mult_lines : Text → ℕ → List Text
fast_mult_lines cell w =
    let first = part cell (codes "$0") in
    let second = part cell (codes "$1") in
    keeps cell (codes "$0") w ∷
    keeps cell (codes "$1") w ∷
    shows cell (codes "out") second ∷
    clocked (codes "begin " ++ second ++ codes "<= " ++ first ++ codes "; " ++ first ++ codes "<= " ++ operation cell (codes "*") ++ codes "; end") ∷
    []

-- phase 0: with go the product is kept; then phases 1 and 2; then 0
abbrev pub seq_mult_edge : Text → Text
seq_mult_edge cell =
    let phase = part cell (codes "$0") in
    clocked (joined (
    codes "begin if (" ∷ phase ∷ codes "== 2'd0) begin if (" ∷ part cell (codes "go") ∷ codes ") begin " ∷
    part cell (codes "$1") ∷ codes "<= " ∷ operation cell (codes "*") ∷ codes "; " ∷ phase ∷ codes "<= 2'd1; end end " ∷
    codes "else if (" ∷ phase ∷ codes "== 2'd1) " ∷ phase ∷ codes "<= 2'd2; " ∷
    codes "else " ∷ phase ∷ codes "<= 2'd0; end" ∷ []))

-- $0 is the phase, $1 the product
abbrev pub seq_mult_lines : Text → ℕ → List Text
seq_mult_lines cell w =
    keeps cell (codes "$0") 2 ∷
    keeps cell (codes "$1") w ∷
    shows cell (codes "out") (codes "(" ++ part cell (codes "$0") ++ codes "== 2'd2) ? " ++ part cell (codes "$1") ++ codes ": " ++ zeros w) ∷
    seq_mult_edge cell ∷
    []

-- phase 0: with go the product is kept; with go phases 1, 2 and 3 follow, and what was kept is shown in 3; without go the phase is 0 again
abbrev pub mult_pipe_edge : Text → Text
mult_pipe_edge cell =
    let phase = part cell (codes "$0") in
    let product = part cell (codes "$1") in
    let go = part cell (codes "go") in
    clocked (joined (
    codes "begin if (" ∷ phase ∷ codes "== 2'd3 || !" ∷ go ∷ codes ") " ∷ phase ∷ codes "<= 2'd0; " ∷
    codes "else " ∷ phase ∷ codes "<= " ∷ phase ∷ codes "+ 2'd1; " ∷
    codes "if (" ∷ phase ∷ codes "== 2'd0 && " ∷ go ∷ codes ") " ∷ product ∷ codes "<= " ∷ operation cell (codes "*") ∷ codes "; " ∷
    codes "if (" ∷ phase ∷ codes "== 2'd2 && " ∷ go ∷ codes ") " ∷ part cell (codes "$2") ∷ codes "<= " ∷ product ∷ codes "; end" ∷ []))

-- $0 is the phase, $1 the product, $2 what is shown
abbrev pub mult_pipe_lines : Text → ℕ → List Text
mult_pipe_lines cell w =
    keeps cell (codes "$0") 2 ∷
    keeps cell (codes "$1") w ∷
    keeps cell (codes "$2") w ∷
    shows cell (codes "out") (part cell (codes "$2")) ∷
    shows cell (codes "done") (codes "(" ++ part cell (codes "$0") ++ codes "== 2'd3)") ∷
    mult_pipe_edge cell ∷
    []

-- the words of a memory
abbrev pub memory_words : Text → ℕ → ℕ → Text
memory_words cell w count = codes "reg " ++ range w ++ codes " " ++ part cell (codes "$0") ++ codes "[0:" ++ decimal (count - 1) ++ codes "];"

-- they start with zeros
abbrev pub memory_start : Text → ℕ → ℕ → Text
memory_start cell w count =
    let i = counter cell in
    joined (
    codes "initial for (" ∷ i ∷ codes "= 0; " ∷ i ∷ codes "< " ∷ decimal count ∷ codes "; " ∷ i ∷ codes "= " ∷ i ∷ codes "+ 1) " ∷
    part cell (codes "$0") ∷ codes "[" ∷ i ∷ codes "] = " ∷ zeros w ∷ codes ";" ∷ [])

-- how many bits an index of a memory of so many words has: those of its last word, and one at least
abbrev pub index_width : ℕ → ℕ
index_width count = max 1 (128 - count_leading_zeros 128 (count - 1))

-- the address, of idx bits, in as many bits as an index has: its lower bits, or zeros above it
abbrev pub fitted : Text → (idx bits : ℕ) → Text
fitted address idx bits = if nat_lt bits idx then address ++ range bits else padded (bits - idx) address

-- addr< idx'dsize
abbrev pub below_text : Text → (idx size : ℕ) → Text
below_text address idx size = address ++ codes "< " ++ literal idx size

-- the test that an address is below the size; none where each address is
abbrev pub below : Text → (idx size : ℕ) → Option Text
below address idx size = if nat_lt size (2 ^ idx) then Some (below_text address idx size) else None

-- both tests
abbrev pub both_tests : Option Text → Option Text → Option Text
both_tests None b = b
both_tests (Some a) None = Some a
both_tests (Some a) (Some b) = Some (a ++ codes " && " ++ b)

-- the word at a place
abbrev pub word_text : Text → Text → Text
word_text cell place = part cell (codes "$0") ++ codes "[" ++ place ++ codes "]"

-- (within) ? word : w'd0; without a test the word
abbrev pub read_value : Option Text → Text → ℕ → Text
read_value None word w = word
read_value (Some within) word w = codes "(" ++ within ++ codes ") ? " ++ word ++ codes " : " ++ zeros w

-- write_en&& (within); without a test write_en
abbrev pub write_test : Option Text → Text → Text
write_test None write_en = write_en
write_test (Some within) write_en = write_en ++ codes "&& (" ++ within ++ codes ")"

-- with write_en the word at the place takes the data, where the address is within range; done tells of write_en
abbrev pub memory_edge : Text → Option Text → Text → Text
memory_edge cell within place =
    let write_en = part cell (codes "write_en") in
    clocked (joined (
    codes "begin " ∷ part cell (codes "$1") ∷ codes "<= " ∷ write_en ∷ codes "; if (" ∷ write_test within write_en ∷ codes ") " ∷
    word_text cell place ∷ codes " <= " ∷ part cell (codes "write_data") ∷ codes "; end" ∷ []))

-- the output shows the word at the place, and 0 where the address is not within range
abbrev pub memory_read : Text → ℕ → Option Text → Text → Text
memory_read cell w within place = shows cell (codes "read_data") (read_value within (word_text cell place) w)

-- $0 are the words, $1 is done
abbrev pub memory_lines : Text → ℕ → ℕ → Option Text → Text → List Text
memory_lines cell w count within place =
    memory_words cell w count ∷
    keeps cell (codes "$1") 1 ∷
    (codes "integer " ++ counter cell ++ codes ";") ∷
    memory_start cell w count ∷
    memory_read cell w within place ∷
    shows cell (codes "done") (part cell (codes "$1")) ∷
    memory_edge cell within place ∷
    []

abbrev pub d1_within : Text → (size idx : ℕ) → Option Text
d1_within cell size idx = below (part cell (codes "addr0")) idx size

abbrev pub d1_place : Text → (size idx : ℕ) → Text
d1_place cell size idx = fitted (part cell (codes "addr0")) idx (index_width size)

-- both addresses are in range
abbrev pub d2_within : Text → (size0 size1 idx0 idx1 : ℕ) → Option Text
d2_within cell size0 size1 idx0 idx1 = both_tests (below (part cell (codes "addr0")) idx0 size0) (below (part cell (codes "addr1")) idx1 size1)

-- addr0* size1 + addr1 in so many bits; of one row of words addr1 alone
abbrev pub d2_index : Text → (size0 size1 idx0 idx1 bits : ℕ) → Text
d2_index cell size0 size1 idx0 idx1 bits =
    let row = fitted (part cell (codes "addr0")) idx0 bits in
    let column = fitted (part cell (codes "addr1")) idx1 bits in
    if size0 == 1 then column else row ++ gap (idx0 == bits) ++ codes "* " ++ literal bits size1 ++ codes " + " ++ column

abbrev pub d2_place : Text → (size0 size1 idx0 idx1 : ℕ) → Text
d2_place cell size0 size1 idx0 idx1 = d2_index cell size0 size1 idx0 idx1 (index_width (size0 * size1))

abbrev pub memory_d1_lines : Text → (w size idx : ℕ) → List Text
memory_d1_lines cell w size idx = memory_lines cell w size (d1_within cell size idx) (d1_place cell size idx)

abbrev pub memory_d2_lines : Text → (w size0 size1 idx0 idx1 : ℕ) → List Text
memory_d2_lines cell w size0 size1 idx0 idx1 =
    memory_lines cell w (size0 * size1) (d2_within cell size0 size1 idx0 idx1) (d2_place cell size0 size1 idx0 idx1)

-- the lines of a cell of this primitive
unfoldable pub cell_lines : Text → Primitive → List Text
cell_lines cell (StdConst w v) = simple_lines cell (literal w v)
cell_lines cell (StdWire w) = simple_lines cell (part cell (codes "in"))
cell_lines cell (StdAdd w) = simple_lines cell (operation cell (codes "+"))
cell_lines cell (StdSub w) = simple_lines cell (operation cell (codes "-"))
cell_lines cell (StdAnd w) = simple_lines cell (operation cell (codes "&"))
cell_lines cell (StdOr w) = simple_lines cell (operation cell (codes "|"))
cell_lines cell (StdXor w) = simple_lines cell (operation cell (codes "^"))
cell_lines cell (StdNot w) = simple_lines cell (codes "~" ++ part cell (codes "in"))
cell_lines cell (StdEq w) = simple_lines cell (operation cell (codes "=="))
cell_lines cell (StdNeq w) = simple_lines cell (operation cell (codes "!="))
cell_lines cell (StdLt w) = simple_lines cell (operation cell (codes "<"))
cell_lines cell (StdGt w) = simple_lines cell (operation cell (codes ">"))
cell_lines cell (StdLe w) = simple_lines cell (operation cell (codes "<="))
cell_lines cell (StdGe w) = simple_lines cell (operation cell (codes ">="))
cell_lines cell (StdLsh w) = simple_lines cell (operation cell (codes "<<"))
cell_lines cell (StdRsh w) = simple_lines cell (operation cell (codes ">>"))
cell_lines cell (StdSlice i o) = simple_lines cell (bits_text cell (o - 1) 0)
cell_lines cell (StdPad i o) = simple_lines cell (padded (o - i) (part cell (codes "in")))
cell_lines cell (FilMux w) = simple_lines cell (choice cell)
cell_lines cell (FilSlice w hi lo) = simple_lines cell (bits_text cell hi lo)
cell_lines cell (FilConcat a b) = simple_lines cell (concatenation cell)
cell_lines cell (StdReg w) = register_lines cell w
cell_lines cell (StdMemD1 w size idx) = memory_d1_lines cell w size idx
cell_lines cell (StdMemD2 w size0 size1 idx0 idx1) = memory_d2_lines cell w size0 size1 idx0 idx1
cell_lines cell (StdMultPipe w) = mult_pipe_lines cell w
cell_lines cell (FilDelay w) = delay_lines cell w
cell_lines cell (FilFastMult w) = fast_mult_lines cell w
cell_lines cell (FilSeqMult w) = seq_mult_lines cell w

-- a cell that is none of a primitive has no lines
abbrev pub made_text : Text → Option Primitive → Text
made_text cell None = []
made_text cell (Some prim) = flat_map inner_line (cell_lines cell prim)

abbrev pub cell_text : CellLine → Text
cell_text c = made_text c.name (prim_of c.prim c.params)

abbrev pub cells_text : List CellLine → Text
cells_text cells = flat_map cell_text cells
