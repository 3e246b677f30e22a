-- Truths of slots.
use Rattle.std.proofs.Common.{◌≡◌, ◌==◌, ℕ, Bool, true, false, not, ◌&&◌, ◌||◌, nat_eq, nat_lt, nat_le, if◌then◌else◌, List, Result, Ok, Err, IfOk, refl, sym, ap, ◌∙◌, eq-eqb, arith}
use Rattle.std.proofs.lemmas.Bool.Decides.{nat_tests}
use Rattle.net_core.specs.Guard.{compare_values}
use Rattle.net_core.specs.declared.net.Cmp.{Cmp}
use Rattle.std.specs.Prelude.{slice_index}
use Rattle.hw_prims.specs.Meaning.{bit}
use Rattle.net_steps.specs.Operations.{value_of}
use Rattle.net_steps.specs.Steps.{Extends, IsRowOf, Defines, IsConstant}
use Rattle.net_steps.specs.StepsValue.{StepsValue}
use Rattle.net_steps.specs.Truths.{is_true, AddsTruth, IsAlways, IsTruthOf, IsBothOf}
use Rattle.net_steps.specs.declared.choice.Choice.{Choice}
use Rattle.net_steps.specs.declared.operation.Operation.{Operation}
use Rattle.net_steps.specs.declared.other.Other.{Other}
use Rattle.net_steps.specs.declared.truth.Truth.{Truth}
use Rattle.net_steps.specs.declared.truth.Truth.TheVariants.{Fixed, Slot}
use Rattle.net_steps.proofs.StepLemmas.{extends_itself, extends_twice, row_before, defined_made}

-- a bit is 1 exactly where it is on
pub bit_is_on : (b : Bool) → (bit b == 1) ≡ b
bit_is_on true = refl
bit_is_on false = refl

pub not_not : (b : Bool) → not (not b) ≡ b
not_not true = refl
not_not false = refl

-- both by either, and either by both
pub not_both : (a b : Bool) → not (not a && not b) ≡ (a || b)
not_both true b = refl
not_both false b = not_not b

pub not_either : (a b : Bool) → not (a || b) ≡ (not a && not b)
not_either true b = refl
not_either false b = refl

pub both_twisted : (a b : Bool) → (b && not a) ≡ (not a && b)
both_twisted true true = refl
both_twisted true false = refl
both_twisted false true = refl
both_twisted false false = refl

pub choice_by_both : (on a b : Bool) → ((on && a) || (not on && b)) ≡ (if on then a else b)
choice_by_both true true b = refl
choice_by_both true false b = refl
choice_by_both false a b = refl

-- a truth that needs no step
pub truth_there : (steps : StepsValue) (holds : List ℕ → Bool) (truth : Truth) → ((slots : List ℕ) → is_true slots truth ≡ holds slots) → AddsTruth steps steps holds truth
truth_there steps holds truth is = record { extends = extends_itself steps; made = λ others slots row. is slots }

-- a truth by one step more, whose slot is a bit
pub truth_of_step : (old new : StepsValue) (step : Operation) (slot : ℕ) (holds : List ℕ → Bool) → Defines old new step slot → ((others : List Other) (choices : List Choice) (slots : List ℕ) → value_of others choices slots step ≡ bit (holds slots)) → AddsTruth old new holds (Slot slot false)
truth_of_step old new step slot holds defines value = record {
  extends = defines.extends;
  made = λ others slots row. ap (λ v. v == 1) (defined_made old new step slot defines others slots row ∙ value others row.choices slots) ∙ bit_is_on (holds slots);
}

-- the same truth, said otherwise
pub truth_as : (old new : StepsValue) (holds other : List ℕ → Bool) (truth : Truth) → ((slots : List ℕ) → holds slots ≡ other slots) → AddsTruth old new holds truth → AddsTruth old new other truth
truth_as old new holds other truth same adds =
    record { extends = adds.extends; made = λ others slots row. adds.made others slots row ∙ same slots }

-- the negation
pub truth_not : (old new : StepsValue) (holds : List ℕ → Bool) (truth negated : Truth) → ((slots : List ℕ) → is_true slots negated ≡ not (is_true slots truth)) → AddsTruth old new holds truth → AddsTruth old new (λ slots. not (holds slots)) negated
truth_not old new holds truth negated is adds =
    record { extends = adds.extends; made = λ others slots row. is slots ∙ ap not (adds.made others slots row) }

-- what holds of a value that came, by what else holds of it
pub if_ok : {T E : Type 0} (r : Result T E) (P Q : T → Type 0) → ((x : T) → P x → Q x) → IfOk r P → IfOk r Q
if_ok (Ok x) P Q then_holds h = then_holds x h
if_ok (Err e) P Q then_holds h = h

-- the same of truths, said otherwise
pub ok_as : {E : Type 0} (r : Result Truth E) (old new : StepsValue) (holds other : List ℕ → Bool) → ((slots : List ℕ) → holds slots ≡ other slots) → IfOk r (AddsTruth old new holds) → IfOk r (AddsTruth old new other)
ok_as r old new holds other same = if_ok r (AddsTruth old new holds) (AddsTruth old new other) (λ truth. truth_as old new holds other truth same)

-- and of truths that stand on earlier steps
pub ok_after : {E : Type 0} (r : Result Truth E) (old mid new : StepsValue) (holds other : List ℕ → Bool) → Extends old mid → ((others : List Other) (slots : List ℕ) → IsRowOf mid others slots → holds slots ≡ other slots) → IfOk r (AddsTruth mid new holds) → IfOk r (AddsTruth old new other)
ok_after r old mid new holds other first same = if_ok r (AddsTruth mid new holds) (AddsTruth old new other) (λ truth adds. record {
  extends = extends_twice old mid new first adds.extends;
  made = λ others slots row. adds.made others slots row ∙ same others slots (row_before mid new adds.extends others slots row);
})

pub ok_both : {E : Type 0} (r : Result Truth E) (old new : StepsValue) (left right a b : Truth) → left ≡ a → right ≡ b → IfOk r (AddsTruth old new (λ slots. is_true slots a && is_true slots b)) → IfOk r (AddsTruth old new (λ slots. is_true slots left && is_true slots right))
ok_both r old new left right a b e f = ok_as r old new (λ slots. is_true slots a && is_true slots b) (λ slots. is_true slots left && is_true slots right) (λ slots. sym (ap (λ t. is_true slots t && is_true slots right) e ∙ ap (λ t. is_true slots a && is_true slots t) f))

-- either, by both of the negations
pub either_made : (old new : StepsValue) (left right not_left not_right truth negated : Truth) → ((slots : List ℕ) → is_true slots not_left ≡ not (is_true slots left)) → ((slots : List ℕ) → is_true slots not_right ≡ not (is_true slots right)) → ((slots : List ℕ) → is_true slots negated ≡ not (is_true slots truth)) → AddsTruth old new (λ slots. is_true slots not_left && is_true slots not_right) truth → AddsTruth old new (λ slots. is_true slots left || is_true slots right) negated
either_made old new left right not_left not_right truth negated l r n adds = record {
  extends = adds.extends;
  made = λ others slots row.
      n slots
      ∙ ap not (adds.made others slots row)
      ∙ ap (λ b. not (b && is_true slots not_right)) (l slots)
      ∙ ap (λ b. not (not (is_true slots left) && b)) (r slots)
      ∙ not_both (is_true slots left) (is_true slots right);
}

-- one of two, by both and either
pub choice_made : {E : Type 0} (r : Result Truth E) (old mid more new : StepsValue) (on not_on a b first second : Truth) → ((slots : List ℕ) → is_true slots not_on ≡ not (is_true slots on)) → AddsTruth old mid (λ slots. is_true slots on && is_true slots a) first → AddsTruth mid more (λ slots. is_true slots not_on && is_true slots b) second → IfOk r (AddsTruth more new (λ slots. is_true slots first || is_true slots second)) → IfOk r (AddsTruth old new (λ slots. if is_true slots on then is_true slots a else is_true slots b))
choice_made r old mid more new on not_on a b first second n one two =
    ok_after r old more new (λ slots. is_true slots first || is_true slots second) (λ slots. if is_true slots on then is_true slots a else is_true slots b) (extends_twice old mid more one.extends two.extends)
    (λ others slots row.
    ap (λ x. x || is_true slots second) (one.made others slots (row_before mid more two.extends others slots row))
    ∙ ap (λ x. (is_true slots on && is_true slots a) || x) (two.made others slots row)
    ∙ ap (λ x. (is_true slots on && is_true slots a) || (x && is_true slots b)) (n slots)
    ∙ choice_by_both (is_true slots on) (is_true slots a) (is_true slots b))

or_is_choice : (on other fixed : Bool) → fixed ≡ true → (on || other) ≡ (if on then fixed else other)
or_is_choice true other fixed e = sym e
or_is_choice false other fixed e = refl

and_is_choice : (on other fixed : Bool) → fixed ≡ false → (not on && other) ≡ (if on then fixed else other)
and_is_choice true other fixed e = sym e
and_is_choice false other fixed e = refl

-- a choice of which one is fixed
pub fixed_true : {E : Type 0} (r : Result Truth E) (old new : StepsValue) (on other : Truth) (fixed : Bool) → fixed ≡ true → IfOk r (AddsTruth old new (λ slots. is_true slots on || is_true slots other)) → IfOk r (AddsTruth old new (λ slots. if is_true slots on then fixed else is_true slots other))
fixed_true r old new on other fixed e = ok_as r old new (λ slots. is_true slots on || is_true slots other) (λ slots. if is_true slots on then fixed else is_true slots other) (λ slots. or_is_choice (is_true slots on) (is_true slots other) fixed e)

pub fixed_false : {E : Type 0} (r : Result Truth E) (old new : StepsValue) (on not_on other : Truth) (fixed : Bool) → fixed ≡ false → ((slots : List ℕ) → is_true slots not_on ≡ not (is_true slots on)) → IfOk r (AddsTruth old new (λ slots. is_true slots not_on && is_true slots other)) → IfOk r (AddsTruth old new (λ slots. if is_true slots on then fixed else is_true slots other))
fixed_false r old new on not_on other fixed e n = ok_as r old new (λ slots. is_true slots not_on && is_true slots other) (λ slots. if is_true slots on then fixed else is_true slots other) (λ slots. ap (λ b. b && is_true slots other) (n slots) ∙ and_is_choice (is_true slots on) (is_true slots other) fixed e)

-- where the first of two is fixed
pub choice_of_fixed : {E : Type 0} (r : Result Truth E) (old new : StepsValue) (on a b : Truth) (fixed : Bool) → a ≡ Fixed fixed → IfOk r (AddsTruth old new (λ slots. if is_true slots on then fixed else is_true slots b)) → IfOk r (AddsTruth old new (λ slots. if is_true slots on then is_true slots a else is_true slots b))
choice_of_fixed r old new on a b fixed e = ok_as r old new (λ slots. if is_true slots on then fixed else is_true slots b) (λ slots. if is_true slots on then is_true slots a else is_true slots b) (λ slots. ap (λ t. if is_true slots on then is_true slots t else is_true slots b) (sym e))

turned : (on x y : Bool) → (if not on then y else x) ≡ (if on then x else y)
turned true x y = refl
turned false x y = refl

-- where the second is
pub choice_of_second : {E : Type 0} (r : Result Truth E) (old new : StepsValue) (on not_on a b : Truth) (fixed : Bool) → b ≡ Fixed fixed → ((slots : List ℕ) → is_true slots not_on ≡ not (is_true slots on)) → IfOk r (AddsTruth old new (λ slots. if is_true slots not_on then fixed else is_true slots a)) → IfOk r (AddsTruth old new (λ slots. if is_true slots on then is_true slots a else is_true slots b))
choice_of_second r old new on not_on a b fixed e n = ok_as r old new (λ slots. if is_true slots not_on then fixed else is_true slots a) (λ slots. if is_true slots on then is_true slots a else is_true slots b) (λ slots.
    ap (λ c. if c then fixed else is_true slots a) (n slots)
    ∙ turned (is_true slots on) (is_true slots a) fixed
    ∙ ap (λ t. if is_true slots on then is_true slots a else is_true slots t) (sym e))

-- a slot that is compared with 1 tells it itself
pub seen_equal : (steps : StepsValue) (a b : ℕ) (truth : Truth) → IsTruthOf steps a truth → IsConstant steps b 1 → AddsTruth steps steps (λ slots. slice_index slots a == slice_index slots b) truth
seen_equal steps a b truth seen one = record {
  extends = extends_itself steps;
  made = λ others slots row. seen others slots row ∙ ap (λ v. slice_index slots a == v) (sym (one others slots row));
}

-- a comparison of known numbers, and of one slot with itself
pub known_by : (steps : StepsValue) (a b x y : ℕ) (test : ℕ → ℕ → Bool) → IsConstant steps a x → IsConstant steps b y → IsAlways steps (λ slots. test (slice_index slots a) (slice_index slots b)) (test x y)
known_by steps a b x y test left right others slots row =
    ap (λ v. test v (slice_index slots b)) (left others slots row) ∙ ap (test x) (right others slots row)

pub known_alone : (steps : StepsValue) (a b : ℕ) (test : ℕ → ℕ → Bool) (on : Bool) → a ≡ b → ((x : ℕ) → test x x ≡ on) → IsAlways steps (λ slots. test (slice_index slots a) (slice_index slots b)) on
known_alone steps a b test on same is others slots row =
    ap (λ k. test (slice_index slots k) (slice_index slots b)) same ∙ is (slice_index slots b)

pub equal_itself : (x : ℕ) → nat_eq x x ≡ true
equal_itself x = eq-eqb x x refl

pub never_less : (x : ℕ) → nat_lt x x ≡ false
never_less x = grind (arith, nat_tests)

-- a truth that is known
pub always_fixed : (steps : StepsValue) (test : List ℕ → Bool) (on : Bool) → IsAlways steps test on → AddsTruth steps steps test (Fixed on)
always_fixed steps test on always = record { extends = extends_itself steps; made = λ others slots row. sym (always others slots row) }

-- what is not below is at least as great
pub not_less : (x y : ℕ) → not (nat_lt x y) ≡ nat_le y x
not_less x y = grind (arith, nat_tests)

-- a comparison, by what compares so
pub compared : (old new : StepsValue) (op : Cmp) (left right : ℕ) (test : ℕ → ℕ → Bool) (truth : Truth) → ((x y : ℕ) → compare_values op x y ≡ test x y) → AddsTruth old new (λ slots. test (slice_index slots left) (slice_index slots right)) truth → AddsTruth old new (λ slots. compare_values op (slice_index slots left) (slice_index slots right)) truth
compared old new op left right test truth is adds = record {
  extends = adds.extends;
  made = λ others slots row. adds.made others slots row ∙ sym (is (slice_index slots left) (slice_index slots right));
}

pub compared_not : (old new : StepsValue) (op : Cmp) (left right : ℕ) (test : ℕ → ℕ → Bool) (truth negated : Truth) → ((x y : ℕ) → compare_values op x y ≡ not (test x y)) → ((slots : List ℕ) → is_true slots negated ≡ not (is_true slots truth)) → AddsTruth old new (λ slots. test (slice_index slots left) (slice_index slots right)) truth → AddsTruth old new (λ slots. compare_values op (slice_index slots left) (slice_index slots right)) negated
compared_not old new op left right test truth negated is n adds = record {
  extends = adds.extends;
  made = λ others slots row. n slots ∙ ap not (adds.made others slots row) ∙ sym (is (slice_index slots left) (slice_index slots right));
}

-- ---- one of two that both ask for a third

choice_of_common : (on part other : Bool) → ((on || other) && part) ≡ (if on then part else other && part)
choice_of_common true part other = refl
choice_of_common false part other = refl

pub common_chosen : {E : Type 0} (r : Result Truth E) (old mid new : StepsValue) (on a b other any : Truth) → IsBothOf old b other a → AddsTruth old mid (λ slots. is_true slots on || is_true slots other) any → IfOk r (AddsTruth mid new (λ slots. is_true slots any && is_true slots a)) → IfOk r (AddsTruth old new (λ slots. if is_true slots on then is_true slots a else is_true slots b))
common_chosen r old mid new on a b other any is adds =
    ok_after r old mid new (λ slots. is_true slots any && is_true slots a) (λ slots. if is_true slots on then is_true slots a else is_true slots b) adds.extends
    (λ others slots row.
    ap (λ x. x && is_true slots a) (adds.made others slots row)
    ∙ choice_of_common (is_true slots on) (is_true slots a) (is_true slots other)
    ∙ ap (λ x. if is_true slots on then is_true slots a else x) (sym (is others slots (row_before old mid adds.extends others slots row))))

-- of two, the one that is not the part
pub both_turned : (steps : StepsValue) (truth one other : Truth) → IsBothOf steps truth one other → IsBothOf steps truth other one
both_turned steps truth one other is others slots row = is others slots row ∙ by (is_true slots one) (is_true slots other)
  where
    by : (a b : Bool) → (a && b) ≡ (b && a)
    by true true = refl
    by true false = refl
    by false true = refl
    by false false = refl
