-- The table of primitives: names, parameters and ports. Calyx, ASPLOS 2021, and Filament, PLDI 2023, in this project's profile.
use Rattle.std.specs.Prelude.{ℕ, ◌+◌, ◌-◌, ◌*◌, ◌^◌, Bool, true, false, ◌&&◌, nat_le, nat_lt, IsTrue, List, [], ◌∷◌, ◌++◌, map, codes, slice_index_or, Option}
use Rattle.std.specs.Prelude.{Some, None, option_and_then, is_some, if◌then◌else◌, bytes_eq}
use Rattle.std.specs.Option.{option_map_or}
use Rattle.hw_bits.specs.declared.bits.TheConstants.{MAX_WIDTH}
use Rattle.hw_prims.specs.Row.{Text}
use Rattle.hw_prims.specs.declared.prim.TheConstants.{MAX_WORDS}
use Rattle.hw_prims.specs.declared.name.PrimName.{PrimName}
use Rattle.hw_prims.specs.declared.name.PrimName.TheVariants as name
use Rattle.hw_prims.specs.declared.prim.Primitive.{Primitive}
use Rattle.hw_prims.specs.declared.prim.Primitive.TheVariants.{StdConst, StdWire, StdAdd, StdSub, StdAnd, StdOr, StdXor, StdNot, StdEq, StdNeq, StdLt, StdGt}
use Rattle.hw_prims.specs.declared.prim.Primitive.TheVariants.{StdLe, StdGe, StdLsh, StdRsh, StdSlice, StdPad, FilMux, FilSlice, FilConcat, StdReg, StdMemD1}
use Rattle.hw_prims.specs.declared.prim.Primitive.TheVariants.{StdMemD2, StdMultPipe, FilDelay, FilFastMult, FilSeqMult}

-- a port of a primitive, or of a component: its name and width in bits
pub record Pin : Type 0 where
  pub name : Text
  pub width : ℕ

abbrev pub pin : Text → ℕ → Pin
pin name width = record { name = name; width = width }

-- the names, and what each means; a memory has two names
unfoldable pub prim_names : List (Text × PrimName)
prim_names =
    (codes "std_const", name.StdConst) ∷
    (codes "std_wire", name.StdWire) ∷
    (codes "std_add", name.StdAdd) ∷
    (codes "std_sub", name.StdSub) ∷
    (codes "std_and", name.StdAnd) ∷
    (codes "std_or", name.StdOr) ∷
    (codes "std_xor", name.StdXor) ∷
    (codes "std_not", name.StdNot) ∷
    (codes "std_eq", name.StdEq) ∷
    (codes "std_neq", name.StdNeq) ∷
    (codes "std_lt", name.StdLt) ∷
    (codes "std_gt", name.StdGt) ∷
    (codes "std_le", name.StdLe) ∷
    (codes "std_ge", name.StdGe) ∷
    (codes "std_lsh", name.StdLsh) ∷
    (codes "std_rsh", name.StdRsh) ∷
    (codes "std_slice", name.StdSlice) ∷
    (codes "std_pad", name.StdPad) ∷
    (codes "fil_mux", name.FilMux) ∷
    (codes "fil_slice", name.FilSlice) ∷
    (codes "fil_concat", name.FilConcat) ∷
    (codes "std_reg", name.StdReg) ∷
    (codes "std_mem_d1", name.StdMemD1) ∷
    (codes "comb_mem_d1", name.StdMemD1) ∷
    (codes "std_mem_d2", name.StdMemD2) ∷
    (codes "comb_mem_d2", name.StdMemD2) ∷
    (codes "std_mult_pipe", name.StdMultPipe) ∷
    (codes "fil_delay", name.FilDelay) ∷
    (codes "fil_fast_mult", name.FilFastMult) ∷
    (codes "fil_seq_mult", name.FilSeqMult) ∷
    []

abbrev pub meaning_in : List (Text × PrimName) → Text → Option PrimName
meaning_in [] text = None
meaning_in ((known, name) ∷ others) text = if bytes_eq known text then Some name else meaning_in others text

abbrev pub prim_name : Text → Option PrimName
prim_name text = meaning_in prim_names text

-- the table has the name
unfoldable pub is_primitive : Text → Bool
is_primitive text = is_some (prim_name text)

-- as many parameters as are taken
abbrev pub one : (ℕ → Primitive) → List ℕ → Option Primitive
one prim (w ∷ []) = Some (prim w)
one prim params = None

abbrev pub two : (ℕ → ℕ → Primitive) → List ℕ → Option Primitive
two prim (a ∷ b ∷ []) = Some (prim a b)
two prim params = None

abbrev pub three : (ℕ → ℕ → ℕ → Primitive) → List ℕ → Option Primitive
three prim (a ∷ b ∷ c ∷ []) = Some (prim a b c)
three prim params = None

abbrev pub five : (ℕ → ℕ → ℕ → ℕ → ℕ → Primitive) → List ℕ → Option Primitive
five prim (a ∷ b ∷ c ∷ d ∷ e ∷ []) = Some (prim a b c d e)
five prim params = None

-- the primitive with these parameters, whatever their range
unfoldable pub with_params : PrimName → List ℕ → Option Primitive
with_params name.StdConst params = two StdConst params
with_params name.StdWire params = one StdWire params
with_params name.StdAdd params = one StdAdd params
with_params name.StdSub params = one StdSub params
with_params name.StdAnd params = one StdAnd params
with_params name.StdOr params = one StdOr params
with_params name.StdXor params = one StdXor params
with_params name.StdNot params = one StdNot params
with_params name.StdEq params = one StdEq params
with_params name.StdNeq params = one StdNeq params
with_params name.StdLt params = one StdLt params
with_params name.StdGt params = one StdGt params
with_params name.StdLe params = one StdLe params
with_params name.StdGe params = one StdGe params
with_params name.StdLsh params = one StdLsh params
with_params name.StdRsh params = one StdRsh params
with_params name.StdSlice params = two StdSlice params
with_params name.StdPad params = two StdPad params
with_params name.FilMux params = one FilMux params
with_params name.FilSlice params = three FilSlice params
with_params name.FilConcat params = two FilConcat params
with_params name.StdReg params = one StdReg params
with_params name.StdMemD1 params = three StdMemD1 params
with_params name.StdMemD2 params = five StdMemD2 params
with_params name.StdMultPipe params = one StdMultPipe params
with_params name.FilDelay params = one FilDelay params
with_params name.FilFastMult params = one FilFastMult params
with_params name.FilSeqMult params = one FilSeqMult params

abbrev pub is_width : ℕ → Bool
is_width w = nat_le 1 w && nat_le w MAX_WIDTH

-- the parameters are in their range; a memory has a word or more, and MAX_WORDS or fewer
unfoldable pub is_made : Primitive → Bool
is_made (StdConst w v) = is_width w && nat_lt v (2 ^ w)
is_made (StdWire w) = is_width w
is_made (StdAdd w) = is_width w
is_made (StdSub w) = is_width w
is_made (StdAnd w) = is_width w
is_made (StdOr w) = is_width w
is_made (StdXor w) = is_width w
is_made (StdNot w) = is_width w
is_made (StdEq w) = is_width w
is_made (StdNeq w) = is_width w
is_made (StdLt w) = is_width w
is_made (StdGt w) = is_width w
is_made (StdLe w) = is_width w
is_made (StdGe w) = is_width w
is_made (StdLsh w) = is_width w
is_made (StdRsh w) = is_width w
is_made (StdSlice i o) = is_width i && is_width o && nat_le o i
is_made (StdPad i o) = is_width i && is_width o && nat_le i o
is_made (FilMux w) = is_width w
is_made (FilSlice w hi lo) = is_width w && nat_le lo hi && nat_lt hi w
is_made (FilConcat a b) = is_width a && is_width b && nat_le (a + b) MAX_WIDTH
is_made (StdReg w) = is_width w
is_made (StdMemD1 w size idx) = is_width w && nat_le 1 size && nat_le size MAX_WORDS && is_width idx
is_made (StdMemD2 w size0 size1 idx0 idx1) =
    is_width w && nat_le 1 size0 && nat_le 1 size1 && nat_le (size0 * size1) MAX_WORDS && is_width idx0 && is_width idx1
is_made (StdMultPipe w) = is_width w
is_made (FilDelay w) = is_width w
is_made (FilFastMult w) = is_width w
is_made (FilSeqMult w) = is_width w

abbrev pub IsMade : Primitive → Type 0
IsMade prim = IsTrue (is_made prim)

abbrev pub prim_in_range : Primitive → Option Primitive
prim_in_range prim = if is_made prim then Some prim else None

-- the primitive of a name with these parameters, where their number and range are right
unfoldable pub prim_of : Text → List ℕ → Option Primitive
prim_of text params =
    option_and_then prim_in_range (option_and_then (λ name. with_params name params) (prim_name text))

unfoldable pub inputs_of : Primitive → List Pin
inputs_of (StdConst w v) = []
inputs_of (StdWire w) = pin (codes "in") w ∷ []
inputs_of (StdAdd w) = pin (codes "left") w ∷ pin (codes "right") w ∷ []
inputs_of (StdSub w) = pin (codes "left") w ∷ pin (codes "right") w ∷ []
inputs_of (StdAnd w) = pin (codes "left") w ∷ pin (codes "right") w ∷ []
inputs_of (StdOr w) = pin (codes "left") w ∷ pin (codes "right") w ∷ []
inputs_of (StdXor w) = pin (codes "left") w ∷ pin (codes "right") w ∷ []
inputs_of (StdNot w) = pin (codes "in") w ∷ []
inputs_of (StdEq w) = pin (codes "left") w ∷ pin (codes "right") w ∷ []
inputs_of (StdNeq w) = pin (codes "left") w ∷ pin (codes "right") w ∷ []
inputs_of (StdLt w) = pin (codes "left") w ∷ pin (codes "right") w ∷ []
inputs_of (StdGt w) = pin (codes "left") w ∷ pin (codes "right") w ∷ []
inputs_of (StdLe w) = pin (codes "left") w ∷ pin (codes "right") w ∷ []
inputs_of (StdGe w) = pin (codes "left") w ∷ pin (codes "right") w ∷ []
inputs_of (StdLsh w) = pin (codes "left") w ∷ pin (codes "right") w ∷ []
inputs_of (StdRsh w) = pin (codes "left") w ∷ pin (codes "right") w ∷ []
inputs_of (StdSlice i o) = pin (codes "in") i ∷ []
inputs_of (StdPad i o) = pin (codes "in") i ∷ []
inputs_of (FilMux w) = pin (codes "sel") 1 ∷ pin (codes "tru") w ∷ pin (codes "fal") w ∷ []
inputs_of (FilSlice w hi lo) = pin (codes "in") w ∷ []
inputs_of (FilConcat a b) = pin (codes "high") a ∷ pin (codes "low") b ∷ []
inputs_of (StdReg w) = pin (codes "in") w ∷ pin (codes "write_en") 1 ∷ []
inputs_of (StdMemD1 w size idx) = pin (codes "addr0") idx ∷ pin (codes "write_data") w ∷ pin (codes "write_en") 1 ∷ []
inputs_of (StdMemD2 w size0 size1 idx0 idx1) = pin (codes "addr0") idx0 ∷ pin (codes "addr1") idx1 ∷ pin (codes "write_data") w ∷ pin (codes "write_en") 1 ∷ []
inputs_of (StdMultPipe w) = pin (codes "go") 1 ∷ pin (codes "left") w ∷ pin (codes "right") w ∷ []
inputs_of (FilDelay w) = pin (codes "in") w ∷ []
inputs_of (FilFastMult w) = pin (codes "left") w ∷ pin (codes "right") w ∷ []
inputs_of (FilSeqMult w) = pin (codes "go") 1 ∷ pin (codes "left") w ∷ pin (codes "right") w ∷ []

unfoldable pub outputs_of : Primitive → List Pin
outputs_of (StdConst w v) = pin (codes "out") w ∷ []
outputs_of (StdWire w) = pin (codes "out") w ∷ []
outputs_of (StdAdd w) = pin (codes "out") w ∷ []
outputs_of (StdSub w) = pin (codes "out") w ∷ []
outputs_of (StdAnd w) = pin (codes "out") w ∷ []
outputs_of (StdOr w) = pin (codes "out") w ∷ []
outputs_of (StdXor w) = pin (codes "out") w ∷ []
outputs_of (StdNot w) = pin (codes "out") w ∷ []
outputs_of (StdEq w) = pin (codes "out") 1 ∷ []
outputs_of (StdNeq w) = pin (codes "out") 1 ∷ []
outputs_of (StdLt w) = pin (codes "out") 1 ∷ []
outputs_of (StdGt w) = pin (codes "out") 1 ∷ []
outputs_of (StdLe w) = pin (codes "out") 1 ∷ []
outputs_of (StdGe w) = pin (codes "out") 1 ∷ []
outputs_of (StdLsh w) = pin (codes "out") w ∷ []
outputs_of (StdRsh w) = pin (codes "out") w ∷ []
outputs_of (StdSlice i o) = pin (codes "out") o ∷ []
outputs_of (StdPad i o) = pin (codes "out") o ∷ []
outputs_of (FilMux w) = pin (codes "out") w ∷ []
outputs_of (FilSlice w hi lo) = pin (codes "out") (hi + 1 - lo) ∷ []
outputs_of (FilConcat a b) = pin (codes "out") (a + b) ∷ []
outputs_of (StdReg w) = pin (codes "out") w ∷ pin (codes "done") 1 ∷ []
outputs_of (StdMemD1 w size idx) = pin (codes "read_data") w ∷ pin (codes "done") 1 ∷ []
outputs_of (StdMemD2 w size0 size1 idx0 idx1) = pin (codes "read_data") w ∷ pin (codes "done") 1 ∷ []
outputs_of (StdMultPipe w) = pin (codes "out") w ∷ pin (codes "done") 1 ∷ []
outputs_of (FilDelay w) = pin (codes "out") w ∷ []
outputs_of (FilFastMult w) = pin (codes "out") w ∷ []
outputs_of (FilSeqMult w) = pin (codes "out") w ∷ []

-- the ports: inputs first, then outputs
abbrev pub pins_of : Primitive → List Pin
pins_of prim = inputs_of prim ++ outputs_of prim

abbrev pub pin_names : List Pin → List Text
pin_names pins = map (λ (p : Pin). p.name) pins

abbrev pub pin_widths : List Pin → List ℕ
pin_widths pins = map (λ (p : Pin). p.width) pins

-- the name of a pin, counted from 0
abbrev pub name_at : List Pin → ℕ → Text
name_at pins i = slice_index_or (pin_names pins) i []

-- the names of the inputs and outputs of the primitives of a name, which parameters don't change
abbrev pub inputs_named : PrimName → List Text
inputs_named name.StdConst = []
inputs_named name.StdWire = codes "in" ∷ []
inputs_named name.StdNot = codes "in" ∷ []
inputs_named name.StdSlice = codes "in" ∷ []
inputs_named name.StdPad = codes "in" ∷ []
inputs_named name.FilMux = codes "sel" ∷ codes "tru" ∷ codes "fal" ∷ []
inputs_named name.FilSlice = codes "in" ∷ []
inputs_named name.FilConcat = codes "high" ∷ codes "low" ∷ []
inputs_named name.StdReg = codes "in" ∷ codes "write_en" ∷ []
inputs_named name.StdMemD1 = codes "addr0" ∷ codes "write_data" ∷ codes "write_en" ∷ []
inputs_named name.StdMemD2 = codes "addr0" ∷ codes "addr1" ∷ codes "write_data" ∷ codes "write_en" ∷ []
inputs_named name.StdMultPipe = codes "go" ∷ codes "left" ∷ codes "right" ∷ []
inputs_named name.FilDelay = codes "in" ∷ []
inputs_named name.FilSeqMult = codes "go" ∷ codes "left" ∷ codes "right" ∷ []
inputs_named name = codes "left" ∷ codes "right" ∷ []

abbrev pub outputs_named : PrimName → List Text
outputs_named name.StdReg = codes "out" ∷ codes "done" ∷ []
outputs_named name.StdMemD1 = codes "read_data" ∷ codes "done" ∷ []
outputs_named name.StdMemD2 = codes "read_data" ∷ codes "done" ∷ []
outputs_named name.StdMultPipe = codes "out" ∷ codes "done" ∷ []
outputs_named name = codes "out" ∷ []

-- the same of a text; none where the table doesn't have it
unfoldable pub input_names : Text → List Text
input_names text = option_map_or inputs_named (prim_name text) []

unfoldable pub output_names : Text → List Text
output_names text = option_map_or outputs_named (prim_name text) []

-- the text names primitives with words, which a run can load and show
abbrev pub names_memory : PrimName → Bool
names_memory name.StdMemD1 = true
names_memory name.StdMemD2 = true
names_memory name = false

unfoldable pub is_memory : Text → Bool
is_memory text = option_map_or names_memory (prim_name text) false
