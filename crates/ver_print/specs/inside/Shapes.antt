-- How code addresses the words of memories, as texts. This project's.
use Rattle.std.specs.Prelude.{ℕ, ◌*◌, ◌^◌, nat_lt, Bool, ◌||◌, [], Option, None, Some}
use Rattle.hw_names.specs.Name.{Text}
use Rattle.ver_print.specs.Cells.{d1_place, d1_within, d2_place, d2_within, index_width}
use Rattle.ver_print.specs.declared.addresses.Shape.{Shape}
use Rattle.ver_print.specs.declared.addresses.Shape.TheVariants.{D1, D2}

abbrev pub count_of : Shape → ℕ
count_of (D1 size idx) = size
count_of (D2 size0 size1 idx0 idx1) = size0 * size1

abbrev pub bits_of : Shape → ℕ
bits_of shape = index_width (count_of shape)

abbrev pub within : Text → Shape → Option Text
within cell (D1 size idx) = d1_within cell size idx
within cell (D2 size0 size1 idx0 idx1) = d2_within cell size0 size1 idx0 idx1

-- the text of a test, nothing where there is none
abbrev pub test_text : Option Text → Text
test_text None = []
test_text (Some text) = text

-- an address may be out of range
abbrev pub is_tested : Shape → Bool
is_tested (D1 size idx) = nat_lt size (2 ^ idx)
is_tested (D2 size0 size1 idx0 idx1) = nat_lt size0 (2 ^ idx0) || nat_lt size1 (2 ^ idx1)

abbrev pub place_text : Text → Shape → Text
place_text cell (D1 size idx) = d1_place cell size idx
place_text cell (D2 size0 size1 idx0 idx1) = d2_place cell size0 size1 idx0 idx1
