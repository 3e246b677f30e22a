-- What a cell keeps, as a state of its primitive.
use Rattle.std.specs.Prelude.{◌≡◌, List, length, All, true}
use Rattle.hw_bits.specs.Values.{values_of}
use Rattle.hw_bits.specs.declared.bits.Bits.{Bits}
use Rattle.hw_prims.specs.Meaning.{bit, is_stateless}
use Rattle.hw_prims.specs.Memory.{keeps_words, word_count, word_width}
use Rattle.hw_prims.specs.State.{State}
use Rattle.hw_prims.specs.State as state
use Rattle.hw_prims.specs.Table.{IsMade}
use Rattle.hw_prims.specs.declared.prim.Primitive.{Primitive}
use Rattle.hw_prims.specs.declared.prim.Primitive.TheVariants.{StdReg, StdMultPipe, FilDelay, FilFastMult, FilSeqMult}
use Rattle.hw_prims.specs.declared.kept.Kept.{Kept}
use Rattle.hw_prims.specs.declared.kept.Kept.TheVariants.{Stateless, Register, Memory, MultPipe, Delay, FastMult, SeqMult}

abbrev pub state_of : Kept → State
state_of Stateless = state.Stateless
state_of (Register out done) = state.Register out.value (bit done)
state_of (Memory words done) = state.Memory (values_of words.items) (bit done)
state_of (MultPipe phase kept out) = state.MultPipe phase kept.value out.value
state_of (Delay kept) = state.Delay kept.value
state_of (FastMult first second) = state.FastMult first.value second.value
state_of (SeqMult phase kept) = state.SeqMult phase kept.value

-- as many words as the memory has, each of its width
abbrev pub AreWords : Primitive → List Bits → Type 0
AreWords prim words = (length words ≡ word_count prim) × All (λ (word : Bits). word.width ≡ word_width prim) words

-- the parameters are in range, and what is kept is the primitive's and of its widths
abbrev pub IsKept : Primitive → Kept → Type 0
IsKept prim Stateless = (is_stateless prim ≡ true) × IsMade prim
IsKept prim (Register out done) = prim ≡ StdReg out.width
IsKept prim (Memory words done) = (keeps_words prim ≡ true) × IsMade prim × AreWords prim words.items
IsKept prim (MultPipe phase kept out) = (prim ≡ StdMultPipe out.width) × (kept.width ≡ out.width)
IsKept prim (Delay kept) = prim ≡ FilDelay kept.width
IsKept prim (FastMult first second) = (prim ≡ FilFastMult first.width) × (second.width ≡ first.width)
IsKept prim (SeqMult phase kept) = prim ≡ FilSeqMult kept.width
