-- The truths of tests: where tests lead is one end, and a truth tells it.
use Rattle.std.proofs.Common.{◌≡◌, ℕ, zero, suc, ◌+◌, ◌<◌, Bool, true, false, if◌then◌else◌, List, Option, Some, Result, Ok, Err, IfOk, length, get_or, set, refl, sym, ap, ◌∙◌, subst, arith, inl, inr}
use Rattle.std.specs.Prelude.{slice_get, slice_index}
use Rattle.std.proofs.lemmas.Bool.{cases_eq}
use Rattle.std.proofs.lemmas.Option.{get_or_from_slice_get, same_Some, slice_get-get_or}
use Rattle.hw_bits.specs.declared.bits.Bits.{Bits}
use Rattle.net_core.specs.Guard.{compare_values}
use Rattle.net_sim.proofs.TestLemmas.{leads_next, leads_end}
use Rattle.net_sim.specs.Evaluated.{source_number}
use Rattle.net_sim.specs.Tests.{Leads, Here, Onward, end_of, next_of}
use Rattle.net_sim.specs.declared.guards.Test.{Test}
use Rattle.net_sim.specs.declared.plan.Source.{Source}
use Rattle.net_sim.specs.declared.plan.Source.TheVariants.{Slot, Fixed as Literal}
use Rattle.net_steps.proofs.StepLemmas.{extends_itself, extends_twice}
use Rattle.net_steps.specs.Steps.{Extends, AddsSlot}
use Rattle.net_steps.specs.StepsValue.{StepsValue}
use Rattle.net_steps.specs.Truths.{is_true, AddsTruth}
use Rattle.net_steps.specs.declared.truth.Truth.{Truth}
use Rattle.net_row.proofs.RowLemmas.{row_in_before, set_there, set_elsewhere, truths_after}
use Rattle.net_row.specs.inside.Ports.{AddsSource, AddsTest, AreTruths, IsTruthAt, LeadsByTruth}
use Rattle.net_row.specs.Rows.{Frame, InEachRow}

-- ---- sources

-- the slot of a port
pub source_of_port : {E : Type 0} (r : Result ℕ E) (steps : StepsValue) (ports : List (Option ℕ)) (source : Source) (port : ℕ) → source ≡ Slot port → IfOk r (λ slot. slice_get ports port ≡ Some (Some slot)) → IfOk r (AddsSource steps steps ports source)
source_of_port (Ok slot) steps ports source port is at = record {
  extends = extends_itself steps;
  made = λ f row values in_row size agree.
      sym (get_or_from_slice_get values port (slice_index row.slots slot) 0 (agree port slot at)) ∙ ap (source_number values) (sym is);
}
source_of_port (Err e) steps ports source port is at = at

-- the slot of a literal
pub source_of_literal : {E : Type 0} (r : Result ℕ E) (old new : StepsValue) (ports : List (Option ℕ)) (source : Source) (bits : Bits) (number : ℕ) → source ≡ Literal bits → number ≡ bits.value → IfOk r (AddsSlot old new (λ others slots. number)) → IfOk r (AddsSource old new ports source)
source_of_literal (Ok slot) old new ports source bits number is same adds = record {
  extends = adds.extends;
  made = λ f row values in_row size agree. adds.made row.others row.slots in_row.made ∙ same ∙ ap (source_number values) (sym is);
}
source_of_literal (Err e) old new ports source bits number is same adds = adds

-- ---- where tests lead

both_ends : (a b : Bool) → end_of a ≡ end_of b → a ≡ b
both_ends true true e = refl
both_ends false false e = refl
both_ends true false e = absurd (omega (arith, e))
both_ends false true e = absurd (omega (arith, e))

end_small : (a : Bool) → end_of a < 2
end_small true = omega arith
end_small false = omega arith

-- from one number they lead to one end
one_end : (tests : List Test) (values : List ℕ) (to other at : ℕ) → to < 2 → other < 2 → Leads tests values to at → Leads tests values other at → to ≡ other
one_end tests values to other at small small' Here leads = leads_end tests values other to small leads
one_end tests values to other at small small' (Onward k test is rest) leads =
    one_end tests values to other (next_of values test) small small' rest (leads_next tests values other k test (k + 2) small' refl is leads)

pub same_end : (tests : List Test) (values : List ℕ) (a b : Bool) (at : ℕ) → Leads tests values (end_of a) at → Leads tests values (end_of b) at → a ≡ b
same_end tests values a b at leads leads' = both_ends a b (one_end tests values (end_of a) (end_of b) at (end_small a) (end_small b) leads leads')

-- ---- truths

-- the tests lead by the truth of an end, or of a test that has one
pub truth_at : (f : Frame) (steps : StepsValue) (ports : List (Option ℕ)) (tests : List Test) (truths : List (Option Truth)) (number : ℕ) (truth : Truth) → AreTruths f steps ports tests truths → IsTruthAt truths number truth → InEachRow f steps ports (LeadsByTruth tests number truth)
truth_at f steps ports tests truths zero truth are is row values made size agree = subst (λ t. Leads tests values (end_of (is_true row.slots t)) 0) (sym is) Here
truth_at f steps ports tests truths (suc zero) truth are is row values made size agree = subst (λ t. Leads tests values (end_of (is_true row.slots t)) 1) (sym is) Here
truth_at f steps ports tests truths (suc (suc k)) truth are is row values made size agree =
    let e : k + 2 ≡ suc (suc k) = omega arith in
    subst (Leads tests values (end_of (is_true row.slots truth))) e (are k truth is row values made size agree)

-- one of two
leads_if : (tests : List Test) (values : List ℕ) (on first second : Bool) (at_first at_second : ℕ) → Leads tests values (end_of first) at_first → Leads tests values (end_of second) at_second → Leads tests values (end_of (if on then first else second)) (if on then at_first else at_second)
leads_if tests values true first second at_first at_second leads leads' = leads
leads_if tests values false first second at_first at_second leads leads' = leads'

-- a test, by the truths of where it leads
pub test_made : (old one two three new : StepsValue) (ports : List (Option ℕ)) (truths : List (Option Truth)) (test : Test) (left right : ℕ) (on first second truth : Truth) → AddsSource old one ports test.left left → AddsSource one two ports test.right right → AddsTruth two three (λ slots. compare_values test.op (slice_index slots left) (slice_index slots right)) on → IsTruthAt truths test.yes first → IsTruthAt truths test.no second → AddsTruth three new (λ slots. if is_true slots on then is_true slots first else is_true slots second) truth → AddsTest old new ports truths test truth
test_made old one two three new ports truths test left right on first second truth from_left from_right compared is_first is_second chosen = record {
  extends = extends_twice old one new from_left.extends after_one;
  made = λ f tests k at are row values is size agree.
      let is_three = row_in_before f three new chosen.extends row is in
      let is_two = row_in_before f two three compared.extends row is_three in
      let is_one = row_in_before f one two from_right.extends row is_two in
      let is_old = row_in_before f old one from_left.extends row is_one in
      let left_is = from_left.made f row values is_one size agree in
      let right_is = from_right.made f row values is_two size agree in
      let on_is : is_true row.slots on ≡ compare_values test.op (source_number values test.left) (source_number values test.right) =
      compared.made row.others row.slots is_three.made
      ∙ ap (λ v. compare_values test.op v (slice_index row.slots right)) left_is ∙ ap (compare_values test.op (source_number values test.left)) right_is in
      let truth_is = chosen.made row.others row.slots is.made in
      let leads = leads_if tests values (is_true row.slots on) (is_true row.slots first) (is_true row.slots second) test.yes test.no
      (truth_at f old ports tests truths test.yes first are is_first row values is_old size agree)
      (truth_at f old ports tests truths test.no second are is_second row values is_old size agree) in
      Onward k test at
      (subst (λ b. Leads tests values (end_of b) (next_of values test)) (sym truth_is)
      (subst (λ b. Leads tests values (end_of (if is_true row.slots on then is_true row.slots first else is_true row.slots second)) (if b then test.yes else test.no)) on_is leads));
}
  where
    after_one : Extends one new
    after_one = extends_twice one two new from_right.extends (extends_twice two three new compared.extends chosen.extends)

-- the truth of one more test
pub truths_more : (f : Frame) (old new : StepsValue) (ports : List (Option ℕ)) (tests : List Test) (truths : List (Option Truth)) (place : ℕ) (test : Test) (truth : Truth) → slice_get tests place ≡ Some test → place < length truths → AddsTest old new ports truths test truth → AreTruths f old ports tests truths → AreTruths f new ports tests (set truths place (Some truth))
truths_more f old new ports tests truths place test truth at within adds are k other has = elim (cases_eq k place) [
  | inl e ↦
      let there : slice_get (set truths place (Some truth)) place ≡ Some (Some truth) = slice_get-set_there truths place (Some truth) within in
      let same : Some truth ≡ Some other = same_Some (Some truth) (Some other) (sym there ∙ ap (slice_get (set truths place (Some truth))) (sym e) ∙ has) in
      subst (λ t. InEachRow f new ports (LeadsByTruth tests (k + 2) t)) (same_Some truth other same)
      (subst (λ i. InEachRow f new ports (LeadsByTruth tests (i + 2) truth)) (sym e) (adds.made f tests place at are))
  | inr ne ↦ truths_after f old new adds.extends ports tests truths are k other (sym (set_elsewhere truths place k (Some truth) ne) ∙ has)
]
  where
    slice_get-set_there : (xs : List (Option Truth)) (i : ℕ) (v : Option Truth) → i < length xs → slice_get (set xs i v) i ≡ Some v
    slice_get-set_there xs i v lt = set_there xs i v (get_or xs i v) (slice_get-get_or xs i v lt)
