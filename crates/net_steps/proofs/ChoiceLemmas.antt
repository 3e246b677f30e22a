-- What is on of choices, one choice after another.
use mir.Val.{bool_byte}
use Rattle.std.proofs.Common.{◌≡◌, ◌==◌, ℕ, ◌+◌, ◌<◌, ◌≤◌, Bool, true, false, if◌then◌else◌, List, [], ◌∷◌, ◌++◌, length, get_or, take, bit_or, nat_le, refl, sym, ap, ◌∙◌, arith, length-append}
use Rattle.std.proofs.lemmas.List.{take_all, take_more}
use Rattle.std.proofs.lemmas.Bool.Decides.{nat_tests}
use Rattle.std.specs.Int.Bits.{or_zero_l, or_zero_r}
use Rattle.std.specs.Prelude.{slice_index}
use Rattle.hw_prims.specs.Meaning.{bit}
use Rattle.net_core.specs.Circuit.{settled}
use Rattle.net_steps.specs.Operations.{has_two, is_on, values_on}
use Rattle.net_steps.specs.declared.choice.Choice.{Choice}

abbrev pub value_if : Bool → ℕ → List ℕ
value_if on value = if on then value ∷ [] else []

pub more_values : (b : Bool) (v : ℕ) (xs ys more : List ℕ) → xs ≡ ys ++ more → (if b then v ∷ xs else xs) ≡ (if b then v ∷ ys else ys) ++ more
more_values true v xs ys more e = ap (λ l. v ∷ l) e
more_values false v xs ys more e = e

-- what is on of choices and one more
pub values_more : (slots : List ℕ) (choices : List Choice) (c : Choice) → values_on slots (choices ++ c ∷ []) ≡ values_on slots choices ++ value_if (is_on slots c.on) (slice_index slots c.value)
values_more slots [] c = refl
values_more slots (d ∷ choices) c =
    more_values (is_on slots d.on) (slice_index slots d.value) (values_on slots (choices ++ c ∷ [])) (values_on slots choices) (value_if (is_on slots c.on) (slice_index slots c.value)) (values_more slots choices c)

pub length-value_if : (on : Bool) (value : ℕ) → length (value_if on value) ≡ bit on
length-value_if true value = refl
length-value_if false value = refl

pub settled_more : (values : List ℕ) (on : Bool) (value count all : ℕ) → count ≡ length values → (count ≤ 1 → all ≡ settled values) → count + bit on ≤ 1 → bit_or all (if on then value else 0) ≡ settled (values ++ value_if on value)
settled_more [] true value count all counted is few = ap (λ v. bit_or v value) (is (omega (arith, counted))) ∙ or_zero_l value
settled_more [] false value count all counted is few = ap (λ v. bit_or v 0) (is (omega (arith, counted))) ∙ or_zero_l 0
settled_more (v ∷ []) true value count all counted is few = absurd (omega (arith, counted, few))
settled_more (v ∷ []) false value count all counted is few = or_zero_r all ∙ is (omega (arith, counted))
settled_more (v ∷ w ∷ values) on value count all counted is few = absurd (omega (arith, counted, few))

-- ---- how many are on of the first choices

counted_more : (slots : List ℕ) (choices : List Choice) (number count m : ℕ) (d : Choice) → number < length choices → m ≡ bit (is_on slots (get_or choices number d).on) → count ≡ length (values_on slots (take number choices)) → count + m ≡ length (values_on slots (take (number + 1) choices))
counted_more slots choices number count m d lt m_is counted =
    let c = get_or choices number d in
    let before = values_on slots (take number choices) in
    let more = value_if (is_on slots c.on) (slice_index slots c.value) in
    ap (λ n. n + m) counted
    ∙ ap (λ n. length before + n) (m_is ∙ sym (length-value_if (is_on slots c.on) (slice_index slots c.value)))
    ∙ sym (length-append before more)
    ∙ ap length (sym (ap (values_on slots) (take_more choices number d lt) ∙ values_more slots (take number choices) c))

-- what `several` has counted
pub byte_is : (b : Bool) → bool_byte b ≡ bit b
byte_is true = refl
byte_is false = refl

pub within_more : (b : Bool) (count number : ℕ) → count ≤ number → count + bool_byte b ≤ number + 1
within_more true count number within = omega (arith, within)
within_more false count number within = omega (arith, within)

pub count_more : (slots : List ℕ) (choices : List Choice) (number count : ℕ) (d : Choice) → number < length choices → count ≡ length (values_on slots (take number choices)) → count + bool_byte (is_on slots (get_or choices number d).on) ≡ length (values_on slots (take (number + 1) choices))
count_more slots choices number count d lt counted =
    let on = is_on slots (get_or choices number d).on in
    counted_more slots choices number count (bool_byte on) d lt (byte_is on) counted

-- and what `only` has made: the value of the one, where there is at most one
pub value_more : (slots : List ℕ) (choices : List Choice) (number count values value : ℕ) (d : Choice) → number < length choices → value ≡ (if is_on slots (get_or choices number d).on then slice_index slots (get_or choices number d).value else 0) → count ≡ length (values_on slots (take number choices)) → (count ≤ 1 → values ≡ settled (values_on slots (take number choices))) → count + bool_byte (is_on slots (get_or choices number d).on) ≤ 1 → bit_or values value ≡ settled (values_on slots (take (number + 1) choices))
value_more slots choices number count values value d lt value_is counted so_far few =
    let c = get_or choices number d in
    let byte = byte_is (is_on slots c.on) in
    ap (bit_or values) value_is
    ∙ settled_more (values_on slots (take number choices)) (is_on slots c.on) (slice_index slots c.value) count values counted so_far (omega (arith, few, byte))
    ∙ ap settled (sym (ap (values_on slots) (take_more choices number d lt) ∙ values_more slots (take number choices) c))

-- ---- at the end

not_one : (n : ℕ) → 2 ≤ n → (n == 1) ≡ false
not_one n le = grind (arith, nat_tests)

at_least_two : (n : ℕ) → 2 ≤ n → nat_le 2 n ≡ true
at_least_two n le = grind (arith, nat_tests)

-- the value of the one, by their number
only_value : (values : List ℕ) (count all : ℕ) → count ≡ length values → (count ≤ 1 → all ≡ settled values) → (if count == 1 then all else 0) ≡ settled values
only_value [] count all counted few = ap (λ n. if n == 1 then all else 0) counted
only_value (v ∷ []) count all counted few = ap (λ n. if n == 1 then all else 0) counted ∙ few (omega (arith, counted))
only_value (v ∷ w ∷ values) count all counted few = ap (λ b. if b then all else 0) (not_one count (omega (arith, counted)))

two_counted : (values : List ℕ) (count : ℕ) → count ≡ length values → nat_le 2 count ≡ has_two values
two_counted [] count counted = ap (nat_le 2) counted
two_counted (v ∷ []) count counted = ap (nat_le 2) counted
two_counted (v ∷ w ∷ values) count counted = at_least_two count (omega (arith, counted))

pub only_is : (slots : List ℕ) (choices : List Choice) (number count values result : ℕ) → length choices ≤ number → count ≡ length (values_on slots (take number choices)) → (count ≤ 1 → values ≡ settled (values_on slots (take number choices))) → result ≡ (if count == 1 then values else 0) → result ≡ settled (values_on slots choices)
only_is slots choices number count values result over counted few is =
    is
    ∙ only_value (values_on slots (take number choices)) count values counted few
    ∙ ap (λ (cs : List Choice). settled (values_on slots cs)) (take_all number choices over)

pub several_is : (slots : List ℕ) (choices : List Choice) (number count : ℕ) → length choices ≤ number → count ≡ length (values_on slots (take number choices)) → bool_byte (nat_le 2 count) ≡ bit (has_two (values_on slots choices))
several_is slots choices number count over counted =
    byte_is (nat_le 2 count)
    ∙ ap bit (two_counted (values_on slots (take number choices)) count counted ∙ ap (λ (cs : List Choice). has_two (values_on slots cs)) (take_all number choices over))
