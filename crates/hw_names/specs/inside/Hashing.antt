-- What a hasher is fed of a text. This project's, for private functions alone.
use Rattle.std.specs.Prelude.{ℕ, ◌*◌, ◌%◌, ◌^◌, nat_lt, Bool, true, false, List, [], ◌∷◌, length}
use Rattle.std.specs.Int.Bits.{bit_or}
use Rattle.std.specs.Hash as writes
use Rattle.hw_names.specs.Name.{Text}

-- the bytes as one number of 64 bits, behind another
abbrev pub packed : ℕ → List ℕ → ℕ
packed word [] = word
packed word (byte ∷ more) = packed (bit_or (word * 2 ^ 8 % 2 ^ 64) byte) more

-- few bytes as one number, behind their count, and others as they are
abbrev pub fed_if : Bool → Text → List (List ℕ)
fed_if true text = writes.u64 (packed (length text) text)
fed_if false text = text ∷ []

abbrev pub fed : Text → List (List ℕ)
fed text = fed_if (nat_lt (length text) 8) text
