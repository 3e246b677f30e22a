-- Sources and tests by the slots of a row: lists of them that grow, and what they give.
use Rattle.std.proofs.Common.{◌≡◌, ℕ, ◌+◌, ◌<◌, List, [], ◌∷◌, ◌++◌, Bool, true, false, Some, length, cond, not, eqb, ltb, leb, refl, sym, ap, ap₂, ◌∙◌, arith}
use Rattle.std.specs.Prelude.{slice_get, slice_index, option_map, if◌then◌else◌}
use Rattle.std.proofs.lemmas.Bool.Decides.{nat_tests}
use Rattle.std.proofs.lemmas.List.{length_push, length-append}
use Rattle.std.proofs.lemmas.Option.{slice_get-map, slice_get_within, get_or_from_slice_get, same_Some}
use Rattle.hw_bits.specs.Values.{values_of}
use Rattle.hw_bits.specs.declared.bits.Bits.{Bits}
use Rattle.net_core.specs.Guard.{compare_values}
use Rattle.net_core.specs.declared.net.Cmp.{Cmp}
use Rattle.net_core.specs.declared.net.Cmp.TheVariants.{Eq, Neq, Lt, Gt, Le, Ge}
use Rattle.net_sim.proofs.GiverLemmas.{at_some}
use Rattle.net_sim.proofs.GrowthLemmas.{slice_get-last, each_more}
use Rattle.net_sim.proofs.SettleLemmas.{bits_value}
use Rattle.net_sim.proofs.TestLemmas.{next_falls}
use Rattle.net_sim.proofs.ValidLemmas.{slice_get-append_left, slice_get-append_right, slice_get-append_before}
use Rattle.net_sim.specs.Branches.{AreAlong, IsSlotOf, IsBranchOf, AreBranches, KeepsLiterals, next_by}
use Rattle.net_sim.specs.Evaluated.{IsWithin, IsBitsOf, source_number}
use Rattle.net_sim.specs.Tests.{exit_at, next_of}
use Rattle.net_sim.specs.declared.branches.Branch.{Branch}
use Rattle.net_sim.specs.declared.guards.Test.{Test}
use Rattle.net_sim.specs.declared.plan.Source.{Source}
use Rattle.net_sim.specs.declared.plan.Source.TheVariants.{Slot, Fixed}

-- ---- lists that grow

-- one for each of the first of the others
pub record AreAlongSoFar {A B : Type 0} (P : A → B → Type 0) (xs : List A) (ys : List B) (count : ℕ) : Type 0 where
  pub all : length ys ≡ count
  pub each : (k : ℕ) (x : A) (y : B) → slice_get xs k ≡ Some x → slice_get ys k ≡ Some y → P x y

pub along_none : {A B : Type 0} (P : A → B → Type 0) (xs : List A) → AreAlongSoFar P xs [] 0
along_none {B = B} P xs = record { all = refl; each = λ k x y at none. (let lt : k < length {A = B} [] = slice_get_within [] k y none in let e : length {A = B} [] ≡ 0 = refl in absurd (omega (arith, lt, e))) }

pub along_more : {A B : Type 0} (P Q : A → B → Type 0) (xs : List A) (ys : List B) (count : ℕ) (x : A) (y : B) → ((a : A) (b : B) → P a b → Q a b) → slice_get xs count ≡ Some x → Q x y → AreAlongSoFar P xs ys count → AreAlongSoFar Q xs (ys ++ y ∷ []) (count + 1)
along_more P Q xs ys count x y keeps at is so_far = record {
  all = length_push ys y ∙ ap (λ n. n + 1) so_far.all;
  each = each_more (λ k. P) (λ k. Q) xs ys x y (λ k. keeps) (ap (slice_get xs) so_far.all ∙ at) is so_far.each;
}

pub along_all : {A B : Type 0} (P : A → B → Type 0) (xs : List A) (ys : List B) (count : ℕ) → count ≡ length xs → AreAlongSoFar P xs ys count → AreAlong P xs ys
along_all P xs ys count done so_far = record { all = so_far.all ∙ done; each = so_far.each }

pub along_kept : {A B : Type 0} (P Q : A → B → Type 0) (xs : List A) (ys : List B) → ((a : A) (b : B) → P a b → Q a b) → AreAlong P xs ys → AreAlong Q xs ys
along_kept P Q xs ys keeps are = record { all = are.all; each = λ k a b at at'. keeps a b (are.each k a b at at') }

pub literals_kept : (literals : List Bits) → KeepsLiterals literals literals
literals_kept literals k bits at = at

pub literals_on : (old mid new : List Bits) → KeepsLiterals old mid → KeepsLiterals mid new → KeepsLiterals old new
literals_on old mid new first second k bits at = second k bits (first k bits at)

pub literals_push : (literals : List Bits) (bits : Bits) → KeepsLiterals literals (literals ++ bits ∷ [])
literals_push literals bits k other at = slice_get-append_left literals (bits ∷ []) k other at

pub literal_slot : (ports : ℕ) (literals : List Bits) (bits : Bits) (slot : ℕ) → slot ≡ ports + length literals → IsSlotOf ports (literals ++ bits ∷ []) (Fixed bits) slot
literal_slot ports literals bits slot is = (length literals, is, slice_get-last literals bits)

pub slot_kept : (ports : ℕ) (old new : List Bits) → KeepsLiterals old new → (source : Source) (slot : ℕ) → IsSlotOf ports old source slot → IsSlotOf ports new source slot
slot_kept ports old new keeps (Slot port) slot is = is
slot_kept ports old new keeps (Fixed bits) slot is = (is.0, is.1, keeps is.0 bits is.2)

pub branch_kept : (ports : ℕ) (old new : List Bits) → KeepsLiterals old new → (test : Test) (branch : Branch) → IsBranchOf ports old test branch → IsBranchOf ports new test branch
branch_kept ports old new keeps test branch is = record {
  left = slot_kept ports old new keeps test.left branch.left is.left;
  right = slot_kept ports old new keeps test.right branch.right is.right;
  leads = is.leads;
}

-- ---- what a slot gives

pub slot_within : (ports : ℕ) (literals : List Bits) (source : Source) (slot : ℕ) → IsWithin ports source → IsSlotOf ports literals source slot → slot < ports + length literals
slot_within ports literals (Slot port) slot within is = omega (arith, within, is)
slot_within ports literals (Fixed bits) slot within is = omega (arith, slice_get_within literals is.0 bits is.2, is.1)

pub slot_bits : (values literals : List Bits) (source : Source) (slot : ℕ) (bits : Bits) → IsWithin (length values) source → IsSlotOf (length values) literals source slot → slice_get (values ++ literals) slot ≡ Some bits → IsBitsOf values source bits
slot_bits values literals (Slot port) slot bits within is at = sym (slice_get-append_before values literals port within) ∙ ap (slice_get (values ++ literals)) (sym is) ∙ at
slot_bits values literals (Fixed fixed) slot bits within is at = same_Some bits fixed (sym at ∙ ap (slice_get (values ++ literals)) is.1 ∙ slice_get-append_right values literals is.0 ∙ is.2)

-- the number at a slot
pub number_at : (slots : List Bits) (slot : ℕ) (bits : Bits) → slice_get slots slot ≡ Some bits → slice_index (values_of slots) slot ≡ bits.value
number_at slots slot bits at = get_or_from_slice_get (values_of slots) slot bits.value 0 (slice_get-map (λ (x : Bits). x.value) slots slot ∙ ap (option_map (λ (x : Bits). x.value)) at)

pub slot_number : (values literals : List Bits) (source : Source) (slot : ℕ) → IsWithin (length values) source → IsSlotOf (length values) literals source slot → slice_index (values_of (values ++ literals)) slot ≡ source_number (values_of values) source
slot_number values literals source slot within is =
    let lt : slot < length (values ++ literals) = omega (arith, slot_within (length values) literals source slot within is, length-append values literals) in
    let b = at_some (values ++ literals) slot lt in
    number_at (values ++ literals) slot b.0 b.1 ∙ bits_value values source b.0 (slot_bits values literals source slot b.0 within is b.1)

-- ---- the order of two numbers tells how they compare

order_is_eq : (a b : ℕ) → cond (ltb a b) false (cond (eqb a b) true false) ≡ eqb a b
order_is_eq a b = grind (arith, nat_tests)

order_is_neq : (a b : ℕ) → cond (ltb a b) true (cond (eqb a b) false true) ≡ not (eqb a b)
order_is_neq a b = grind (arith, nat_tests)

order_is_lt : (a b : ℕ) → cond (ltb a b) true (cond (eqb a b) false false) ≡ ltb a b
order_is_lt a b = grind (arith, nat_tests)

order_is_gt : (a b : ℕ) → cond (ltb a b) false (cond (eqb a b) false true) ≡ ltb b a
order_is_gt a b = grind (arith, nat_tests)

order_is_le : (a b : ℕ) → cond (ltb a b) true (cond (eqb a b) true false) ≡ leb a b
order_is_le a b = grind (arith, nat_tests)

order_is_ge : (a b : ℕ) → cond (ltb a b) false (cond (eqb a b) true true) ≡ leb b a
order_is_ge a b = grind (arith, nat_tests)

order_tells : (op : Cmp) (a b : ℕ) → cond (ltb a b) (compare_values op 0 1) (cond (eqb a b) (compare_values op 0 0) (compare_values op 1 0)) ≡ compare_values op a b
order_tells Eq a b = order_is_eq a b
order_tells Neq a b = order_is_neq a b
order_tells Lt a b = order_is_lt a b
order_tells Gt a b = order_is_gt a b
order_tells Le a b = order_is_le a b
order_tells Ge a b = order_is_ge a b

exit_by : (on off : ℕ) (less equal greater t u : Bool) → (if t then (if less then on else off) else (if u then (if equal then on else off) else (if greater then on else off))) ≡ (if (if t then less else (if u then equal else greater)) then on else off)
exit_by on off less equal greater true u = refl
exit_by on off less equal greater false true = refl
exit_by on off less equal greater false false = refl

pub branch_leads : (test : Test) (branch : Branch) → branch.less ≡ exit_at test 0 1 → branch.equal ≡ exit_at test 0 0 → branch.greater ≡ exit_at test 1 0 → (a b : ℕ) → next_by branch a b ≡ exit_at test a b
branch_leads test branch less equal greater a b =
    rw (less, equal, greater)
    (exit_by test.yes test.no (compare_values test.op 0 1) (compare_values test.op 0 0) (compare_values test.op 1 0) (ltb a b) (eqb a b)
    ∙ ap (λ (t : Bool). if t then test.yes else test.no) (order_tells test.op a b))

-- ---- one branch

-- what a branch reads, and where it leads
pub record IsStep (values literals : List Bits) (tests : List Test) (k : ℕ) (branch : Branch) : Type 0 where
  pub left : branch.left < length values + length literals
  pub right : branch.right < length values + length literals
  pub test : Test
  pub at : slice_get tests k ≡ Some test
  pub next : next_by branch (slice_index (values_of (values ++ literals)) branch.left) (slice_index (values_of (values ++ literals)) branch.right) ≡ next_of (values_of values) test
  pub falls : next_of (values_of values) test < k + 2

pub step_of : (values literals : List Bits) (tests : List Test) (branches : List Branch) → AreBranches (length values) literals tests branches → (k : ℕ) (branch : Branch) → slice_get branches k ≡ Some branch → IsStep values literals tests k branch
step_of values literals tests branches are k branch here =
    let t = at_some tests k (omega (arith, slice_get_within branches k branch here, are.along.all)) in
    let is = are.along.each k t.0 branch t.1 here in
    let sound = are.tests_are k t.0 t.1 in
    record {
      left = slot_within (length values) literals t.0.left branch.left sound.left is.left;
      right = slot_within (length values) literals t.0.right branch.right sound.right is.right;
      test = t.0;
      at = t.1;
      next =
          is.leads (slice_index (values_of (values ++ literals)) branch.left) (slice_index (values_of (values ++ literals)) branch.right)
          ∙ ap₂ (exit_at t.0) (slot_number values literals t.0.left branch.left sound.left is.left) (slot_number values literals t.0.right branch.right sound.right is.right);
      falls = next_falls (length values) k (values_of values) t.0 sound;
    }
