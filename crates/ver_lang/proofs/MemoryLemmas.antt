-- The outputs of memories: an index has bits enough, a test tells whether the address is in range, and only then the word is read.
use Rattle.std.proofs.Common.{◌≡◌, ℕ, ◌+◌, ◌-◌, ◌*◌, ◌^◌, ◌<◌, ◌≤◌, max, List, length, Bool, true, false, refl, sym, ap, ap₂, ◌∙◌, subst, arith}
use Rattle.std.proofs.Math.Nat.{mul-le-mul_left, mul-le-mul_right, zero-mod}
use Rattle.std.proofs.Math.Pow.{pow_mono}
use Rattle.std.proofs.lemmas.Bool.Decides.{nat_tests}
use Rattle.std.proofs.lemmas.Nat.{leading_length, mul-add-lt}
use Rattle.std.proofs.lemmas.Option.{slice_get-get_or}
use Rattle.std.specs.Int.Count.{count_leading_zeros}
use Rattle.std.specs.Prelude.{codes, ◌≢◌, ◌==◌, ◌&&◌, nat_lt, if◌then◌else◌, slice_get, slice_index, option_map, option_and_then, Option, Some, None}
use Rattle.hw_bits.specs.Width.{low_bits}
use Rattle.hw_bits.proofs.WidthLemmas.{low_bits-of_lt}
use Rattle.hw_names.specs.Name.{Text, dotted}
use Rattle.hw_prims.specs.Memory.{word_at}
use Rattle.ver_lang.specs.CellItems.{below, both_tests, d2_index, fitted, index_width, padded, pin, read_value}
use Rattle.ver_lang.specs.Size.{Widths, size}
use Rattle.ver_lang.specs.Tree.{Expr, Literal, Part, Word, Less, Plus, Times, Binary}
use Rattle.ver_lang.specs.Value.{Cycle, both, bit, chosen, is_true, operated, value}
use Rattle.ver_lang.proofs.GivenLemmas.{lower_bits, part_is, padded_value}

-- an index of m bits reaches every word
reaches : (count zeros m : ℕ) → zeros + m ≡ 128 → count - 1 < 2 ^ m → count ≤ 2 ^ max 1 (128 - zeros)
reaches count zeros m sum below =
    let bits : 128 - zeros ≡ m = omega arith in
    let wider : m ≤ max 1 (128 - zeros) = omega arith in
    let powers : 2 ^ m ≤ 2 ^ max 1 (128 - zeros) = pow_mono wider in
    omega arith

pub index_reaches : (count : ℕ) → count ≤ 65536 → count ≤ 2 ^ index_width count
index_reaches count few =
    let small : count - 1 < 2 ^ 128 = omega arith in
    let found = leading_length 128 (count - 1) small in
    reaches count (count_leading_zeros 128 (count - 1)) found.0 found.1 found.2

pub index_some : (count : ℕ) → 1 ≤ index_width count
index_some count = omega arith

-- a test of which this is the outcome; where there is none it is passed
unfoldable pub IsTest : Widths → Cycle → Option Expr → Bool → Type 0
IsTest widths now None passed = passed ≡ true
IsTest widths now (Some e) passed = value widths now (size widths e) e ≡ Some (bit passed)

both_bits : (p q : Bool) → bit (is_true (bit p) && is_true (bit q)) ≡ bit (p && q)
both_bits true true = refl
both_bits true false = refl
both_bits false q = refl

and_true : (p : Bool) → p ≡ (p && true)
and_true true = refl
and_true false = refl

pub both_test : (widths : Widths) (now : Cycle) (a b : Option Expr) (p q : Bool) → IsTest widths now a p → IsTest widths now b q → IsTest widths now (both_tests a b) (p && q)
unfolding IsTest
both_test widths now None b p q is other = subst (λ (passed : Bool). IsTest widths now b (passed && q)) (sym is) other
both_test widths now (Some a) None p q is other = is ∙ ap (λ (passed : Bool). Some (bit passed)) (and_true p ∙ ap (λ (passed : Bool). p && passed) (sym other))
both_test widths now (Some a) (Some b) p q is other =
    ap₂ (λ (x y : Option ℕ). option_and_then (λ v. option_map (λ u. bit (is_true v && is_true u)) y) x) is other ∙ ap (λ (v : ℕ). Some v) (both_bits p q)

-- a word that is there
word_read : (widths : Widths) (now : Cycle) (m : Text) (index : Expr) (words : List ℕ) (place : ℕ) → now.words m ≡ words →
    value widths now (size widths index) index ≡ Some place → place < length words →
    option_and_then (slice_get (now.words m)) (value widths now (size widths index) index) ≡ Some (slice_index words place)
word_read widths now m index words place are is there =
    ap₂ (λ (ws : List ℕ) (o : Option ℕ). option_and_then (slice_get ws) o) are is ∙ slice_get-get_or words place 0 there

-- the word that is read, where the test is passed, and else 0
pub read_is : (widths : Widths) (now : Cycle) (within : Option Expr) (m : Text) (index : Expr) (words : List ℕ) (w context place : ℕ) (passed : Bool) →
    now.words m ≡ words → IsTest widths now within passed →
    (passed ≡ true → (value widths now (size widths index) index ≡ Some place) × (place < length words)) →
    value widths now context (read_value within (Word m index) w) ≡ Some (word_at words (if passed then Some place else None))
unfolding IsTest
read_is widths now None m index words w context place true are is there = word_read widths now m index words place are (there refl).0 (there refl).1
read_is widths now None m index words w context place false are is there = absurd (cc)
read_is widths now (Some e) m index words w context place true are is there =
    ap (λ (c : Option ℕ). chosen c (option_and_then (slice_get (now.words m)) (value widths now (size widths index) index)) (Some (low_bits w 0))) is
    ∙ word_read widths now m index words place are (there refl).0 (there refl).1
read_is widths now (Some e) m index words w context place false are is there =
    ap (λ (c : Option ℕ). chosen c (option_and_then (slice_get (now.words m)) (value widths now (size widths index) index)) (Some (low_bits w 0))) is
    ∙ ap (λ (v : ℕ). Some v) (zero-mod (2 ^ w))

module _ (cell : Text) (widths : Widths) (now : Cycle) where
  abbrev at : Text → ℕ
  at port = now.row (dotted cell port)

  abbrev wide : Text → ℕ
  wide port = widths (dotted cell port)

  -- an address that has bits enough as an index
  pub fitted_value : (address : Text) (idx bits context : ℕ) → wide address ≡ idx → 1 ≤ bits → at address < 2 ^ bits → value widths now context (fitted cell address idx bits) ≡ Some (at address)
  fitted_value address idx bits context is some fits = by (nat_lt bits idx) refl
    where
      by : (narrower : Bool) → nat_lt bits idx ≡ narrower → value widths now context (if narrower then Part (dotted cell address) (bits - 1) 0 else padded (bits - idx) (pin cell address)) ≡ Some (at address)
      by true less =
          let below_idx : bits < idx = grind (arith, nat_tests) in
          let there : bits - 1 < wide address = omega arith in
          part_is (wide address) (at address) (bits - 1) 0 (omega arith) there ∙ ap (λ (v : ℕ). Some v) (lower_bits bits (at address) some ∙ low_bits-of_lt bits (at address) fits)
      by false wider = padded_value widths now context (bits - idx) (dotted cell address)

  -- whether an address is below a size
  pub below_test : (address : Text) (idx size : ℕ) → at address < 2 ^ idx → IsTest widths now (below cell address idx size) (nat_lt (at address) size)
  unfolding IsTest
  below_test address idx size fits = by (nat_lt size (2 ^ idx)) refl
    where
      by : (some : Bool) → nat_lt size (2 ^ idx) ≡ some → IsTest widths now (if some then Some (Binary Less (pin cell address) (Literal idx size)) else None) (nat_lt (at address) size)
      by true less =
          let size_fits : size < 2 ^ idx = grind (arith, nat_tests) in
          ap (λ (v : ℕ). Some (bit (nat_lt (at address) v))) (low_bits-of_lt idx size size_fits)
      by false not_less = grind (arith, nat_tests)

  -- the place of a word, with one line of words and with more
  one_line_value : (size0 size1 idx1 bits context : ℕ) → size0 ≡ 1 → wide (codes "addr1") ≡ idx1 → at (codes "addr0") < size0 → 1 ≤ bits → at (codes "addr1") < 2 ^ bits →
      value widths now context (fitted cell (codes "addr1") idx1 bits) ≡ Some (at (codes "addr0") * size1 + at (codes "addr1"))
  one_line_value size0 size1 idx1 bits context one is row_below some fits =
      let first : at (codes "addr0") ≡ 0 = omega arith in
      let none : at (codes "addr0") * size1 ≡ 0 * size1 = ap (λ (n : ℕ). n * size1) first in
      let same : at (codes "addr1") ≡ at (codes "addr0") * size1 + at (codes "addr1") = omega (arith, none) in
      fitted_value (codes "addr1") idx1 bits context is some fits ∙ ap (λ (n : ℕ). Some n) same

  -- sums and products that fit the context are not cut
  lines_value : (context bits size1 a b : ℕ) (row column : Expr) → value widths now context row ≡ Some a → value widths now context column ≡ Some b →
      size1 < 2 ^ bits → a * size1 + b < 2 ^ context → value widths now context (Binary Plus (Binary Times row (Literal bits size1)) column) ≡ Some (a * size1 + b)
  lines_value context bits size1 a b row column row_is column_is size_fits place_fits =
      let product_fits : a * size1 < 2 ^ context = omega arith in
      ap₂ (λ (x y : Option ℕ). both (operated Plus context) (both (operated Times context) x (Some (low_bits bits size1))) y) row_is column_is
      ∙ ap (λ (n : ℕ). Some (low_bits context (low_bits context (a * n) + b))) (low_bits-of_lt bits size1 size_fits)
      ∙ ap (λ (n : ℕ). Some (low_bits context (n + b))) (low_bits-of_lt context (a * size1) product_fits)
      ∙ ap (λ (n : ℕ). Some n) (low_bits-of_lt context (a * size1 + b) place_fits)

  by_lines : (size0 size1 idx0 idx1 bits : ℕ) (one : Bool) → (size0 == 1) ≡ one → at (codes "addr0") < size0 → 0 < size1 → size0 * size1 ≤ 2 ^ bits →
      at (codes "addr0") * size1 + at (codes "addr1") < 2 ^ bits → 1 ≤ bits → wide (codes "addr1") ≡ idx1 → at (codes "addr1") < 2 ^ bits →
      ((context : ℕ) → value widths now context (fitted cell (codes "addr0") idx0 bits) ≡ Some (at (codes "addr0"))) →
      ((context : ℕ) → value widths now context (fitted cell (codes "addr1") idx1 bits) ≡ Some (at (codes "addr1"))) →
      value widths now
      (size widths (if one then fitted cell (codes "addr1") idx1 bits else Binary Plus (Binary Times (fitted cell (codes "addr0") idx0 bits) (Literal bits size1)) (fitted cell (codes "addr1") idx1 bits)))
      (if one then fitted cell (codes "addr1") idx1 bits else Binary Plus (Binary Times (fitted cell (codes "addr0") idx0 bits) (Literal bits size1)) (fitted cell (codes "addr1") idx1 bits))
      ≡ Some (at (codes "addr0") * size1 + at (codes "addr1"))
  by_lines size0 size1 idx0 idx1 bits true is row_below some_columns reach place_fits some column_wide column_fits row_is column_is =
      let one : size0 ≡ 1 = grind (arith, nat_tests) in
      one_line_value size0 size1 idx1 bits _ one column_wide row_below some column_fits
  by_lines size0 size1 idx0 idx1 bits false is row_below some_columns reach place_fits some column_wide column_fits row_is column_is =
      let several : size0 ≢ 1 = grind (arith, nat_tests) in
      let two : 2 ≤ size0 = omega arith in
      let twice : 2 * size1 ≤ size0 * size1 = mul-le-mul_right size1 two in
      let size_fits : size1 < 2 ^ bits = omega arith in
      let row : Expr = fitted cell (codes "addr0") idx0 bits in
      let column : Expr = fitted cell (codes "addr1") idx1 bits in
      let context : ℕ = max (max (size widths row) bits) (size widths column) in
      let wider : bits ≤ context = omega arith in
      let powers : 2 ^ bits ≤ 2 ^ context = pow_mono wider in
      let fits : at (codes "addr0") * size1 + at (codes "addr1") < 2 ^ context = omega arith in
      lines_value context bits size1 (at (codes "addr0")) (at (codes "addr1")) row column (row_is context) (column_is context) size_fits fits

  -- the index of a memory of two dimensions
  pub d2_value : (size0 size1 idx0 idx1 : ℕ) → wide (codes "addr0") ≡ idx0 → wide (codes "addr1") ≡ idx1 → at (codes "addr0") < size0 → at (codes "addr1") < size1 → size0 * size1 ≤ 65536 →
      value widths now (size widths (d2_index cell size0 size1 idx0 idx1)) (d2_index cell size0 size1 idx0 idx1) ≡ Some (at (codes "addr0") * size1 + at (codes "addr1"))
  d2_value size0 size1 idx0 idx1 row_wide column_wide row_below column_below few =
      let bits : ℕ = index_width (size0 * size1) in
      let a : ℕ = at (codes "addr0") in
      let b : ℕ = at (codes "addr1") in
      let reach : size0 * size1 ≤ 2 ^ bits = index_reaches (size0 * size1) few in
      let below : a * size1 + b < size1 * size0 = mul-add-lt a size1 b size0 row_below column_below in
      let place_fits : a * size1 + b < 2 ^ bits = omega arith in
      let column_fits : b < 2 ^ bits = omega arith in
      let some_columns : 0 < size1 = omega arith in
      let up : a * 1 ≤ a * size1 = mul-le-mul_left a (omega arith) in
      let row_fits : a < 2 ^ bits = omega arith in
      let column_is = λ (context : ℕ). fitted_value (codes "addr1") idx1 bits context column_wide (index_some (size0 * size1)) column_fits in
      let row_is = λ (context : ℕ). fitted_value (codes "addr0") idx0 bits context row_wide (index_some (size0 * size1)) row_fits in
      by_lines size0 size1 idx0 idx1 bits (size0 == 1) refl row_below some_columns reach place_fits (index_some (size0 * size1)) column_wide column_fits row_is column_is
