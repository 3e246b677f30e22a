-- The words of memories: how many there are, which one is addressed, and what a write leaves. Calyx, ASPLOS 2021, in this project's profile.
use Rattle.std.specs.Prelude.{ℕ, ◌+◌, ◌*◌, Bool, true, false, ◌&&◌, nat_lt, List, [], ◌∷◌, ◌++◌, take, replicate, slice_index, slice_set, Option, Some, None}
use Rattle.std.specs.Prelude.{if◌then◌else◌}
use Rattle.hw_prims.specs.State.{State, Memory}
use Rattle.hw_prims.specs.declared.prim.Primitive.{Primitive}
use Rattle.hw_prims.specs.declared.prim.Primitive.TheVariants.{StdMemD1, StdMemD2}

-- the primitives that keep words
unfoldable pub keeps_words : Primitive → Bool
keeps_words (StdMemD1 w size idx) = true
keeps_words (StdMemD2 w size0 size1 idx0 idx1) = true
keeps_words prim = false

-- how many addresses a memory has; its data and its write_en follow them
unfoldable pub address_count : Primitive → ℕ
address_count (StdMemD1 w size idx) = 1
address_count (StdMemD2 w size0 size1 idx0 idx1) = 2
address_count prim = 0

-- how many words a memory has, and of which width
unfoldable pub word_count : Primitive → ℕ
word_count (StdMemD1 w size idx) = size
word_count (StdMemD2 w size0 size1 idx0 idx1) = size0 * size1
word_count prim = 0

unfoldable pub word_width : Primitive → ℕ
word_width (StdMemD1 w size idx) = w
word_width (StdMemD2 w size0 size1 idx0 idx1) = w
word_width prim = 0

-- so many words: these, then zeros
abbrev pub padded_words : ℕ → List ℕ → List ℕ
padded_words count words = take count (words ++ replicate count 0)

-- the number of the addressed word, from the inputs; none where an address is out of range
unfoldable pub place_of : Primitive → List ℕ → Option ℕ
place_of (StdMemD1 w size idx) ins = if nat_lt (slice_index ins 0) size then Some (slice_index ins 0) else None
place_of (StdMemD2 w size0 size1 idx0 idx1) ins =
    if nat_lt (slice_index ins 0) size0 && nat_lt (slice_index ins 1) size1
    then Some (slice_index ins 0 * size1 + slice_index ins 1)
    else None
place_of prim ins = None

-- the word there, and 0 out of range
abbrev pub word_at : List ℕ → Option ℕ → ℕ
word_at words (Some place) = slice_index words place
word_at words None = 0

-- the words with one put there; none is changed out of range
abbrev pub words_with : List ℕ → Option ℕ → ℕ → List ℕ
words_with words (Some place) word = slice_set words place word
words_with words None word = words

-- a memory with a word put there; any other state as it is
abbrev pub state_with_word : State → ℕ → ℕ → State
state_with_word (Memory words done) place word = Memory (slice_set words place word) done
state_with_word state place word = state

-- words put there one after another
abbrev pub state_with_words : State → ℕ → List ℕ → State
state_with_words state place [] = state
state_with_words state place (word ∷ words) = state_with_words (state_with_word state place word) (place + 1) words
