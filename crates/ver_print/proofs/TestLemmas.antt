-- Whether an address of a memory has to be tested, and what the test is.
use Rattle.std.proofs.Common.{◌≡◌, ◌^◌, ◌||◌, Bool, true, false, codes, Option, Some, None, refl}
use Rattle.std.specs.Prelude.{nat_lt, if◌then◌else◌}
use Rattle.hw_names.specs.Name.{Text}
use Rattle.ver_print.specs.Cells.{below_text, both_tests}
use Rattle.ver_print.specs.inside.Shapes.{is_tested, test_text, within}
use Rattle.ver_print.specs.Words.{part}
use Rattle.ver_print.specs.declared.addresses.Shape.{Shape}
use Rattle.ver_print.specs.declared.addresses.Shape.TheVariants.{D1, D2}

abbrev pub tested : Bool → Text → Option Text
tested needed test = if needed then Some test else None

one_absent : (p : Bool) (a : Text) → p ≡ false → tested p a ≡ None
one_absent true a is = absurd (cc)
one_absent false a is = refl

one_there : (p : Bool) (a : Text) → p ≡ true → tested p a ≡ Some (test_text (tested p a))
one_there true a is = refl
one_there false a is = absurd (cc)

both_absent : (p q : Bool) (a b : Text) → (p || q) ≡ false → both_tests (tested p a) (tested q b) ≡ None
both_absent true q a b is = absurd (cc)
both_absent false true a b is = absurd (cc)
both_absent false false a b is = refl

both_there : (p q : Bool) (a b : Text) → (p || q) ≡ true → both_tests (tested p a) (tested q b) ≡ Some (test_text (both_tests (tested p a) (tested q b)))
both_there true true a b is = refl
both_there true false a b is = refl
both_there false true a b is = refl
both_there false false a b is = absurd (cc)

pub no_test : (cell : Text) (shape : Shape) → is_tested shape ≡ false → within cell shape ≡ None
no_test cell (D1 size idx) is = one_absent (nat_lt size (2 ^ idx)) (below_text (part cell (codes "addr0")) idx size) is
no_test cell (D2 size0 size1 idx0 idx1) is =
    both_absent (nat_lt size0 (2 ^ idx0)) (nat_lt size1 (2 ^ idx1)) (below_text (part cell (codes "addr0")) idx0 size0) (below_text (part cell (codes "addr1")) idx1 size1) is

pub a_test : (cell : Text) (shape : Shape) → is_tested shape ≡ true → within cell shape ≡ Some (test_text (within cell shape))
a_test cell (D1 size idx) is = one_there (nat_lt size (2 ^ idx)) (below_text (part cell (codes "addr0")) idx size) is
a_test cell (D2 size0 size1 idx0 idx1) is =
    both_there (nat_lt size0 (2 ^ idx0)) (nat_lt size1 (2 ^ idx1)) (below_text (part cell (codes "addr0")) idx0 size0) (below_text (part cell (codes "addr1")) idx1 size1) is
