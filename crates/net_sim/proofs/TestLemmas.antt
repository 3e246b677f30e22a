-- Tests of guards: where they lead, and lists of them that grow.
use Rattle.std.proofs.Common.{◌≡◌, ℕ, ◌+◌, ◌<◌, List, [], ◌∷◌, ◌++◌, Bool, true, false, Option, Some, length, refl, sym, ap, ◌∙◌, arith, inl, inr, subst}
use Rattle.std.specs.Prelude.{slice_get, ◌==◌, if◌then◌else◌}
use Rattle.std.proofs.lemmas.Bool.{cases_lt}
use Rattle.std.proofs.lemmas.List.{length_push}
use Rattle.std.proofs.lemmas.Option.{slice_get_within, same_Some}
use Rattle.hw_names.specs.Name.{Text}
use Rattle.hw_prims.specs.Row.{Row}
use Rattle.net_core.specs.Guard.{GuardTree, compare_values, source_value}
use Rattle.net_core.specs.declared.net.Src.{Src}
use Rattle.net_core.specs.declared.net.Src.TheVariants.{Port, Lit}
use Rattle.net_sim.proofs.GrowthLemmas.{slice_get-last}
use Rattle.net_sim.proofs.ValidLemmas.{slice_get-append_left, slice_get-append_before}
use Rattle.net_sim.specs.Compiled.{IsSource}
use Rattle.net_sim.specs.Evaluated.{IsWithin, source_number}
use Rattle.net_sim.specs.inside.Flattening.{KeepsTests, AddsTests, exit_of}
use Rattle.net_sim.specs.Tests.{IsTestAt, AreTests, AreValuesIn, Leads, Here, Onward, StandsFor, end_of, next_of}
use Rattle.net_sim.specs.declared.flatten.Exits.{Exits}
use Rattle.net_sim.specs.declared.guards.Test.{Test}
use Rattle.net_sim.specs.declared.plan.Source.{Source}
use Rattle.net_sim.specs.declared.plan.Source.TheVariants.{Slot, Fixed}

-- ---- where tests lead

-- from a test, what they lead to is what they lead to from where it leads
pub leads_next : (tests : List Test) (values : List ℕ) (to k : ℕ) (test : Test) (at : ℕ) → to < 2 → at ≡ k + 2 → slice_get tests k ≡ Some test → Leads tests values to at → Leads tests values to (next_of values test)
leads_next tests values to k test at small here is Here = absurd (omega (arith, small, here))
leads_next tests values to k test at small here is (Onward j other is' rest) =
    let same : j ≡ k = omega (arith, here) in
    let e : other ≡ test = same_Some other test (sym is' ∙ ap (slice_get tests) same ∙ is) in
    subst (λ t. Leads tests values to (next_of values t)) e rest

-- from an end, they lead to it alone
pub leads_end : (tests : List Test) (values : List ℕ) (to at : ℕ) → at < 2 → Leads tests values to at → at ≡ to
leads_end tests values to at small Here = refl
leads_end tests values to at small (Onward j other is rest) = absurd (omega (arith, small))

pub leads_on : (tests : List Test) (values : List ℕ) (to mid at : ℕ) → Leads tests values mid at → Leads tests values to mid → Leads tests values to at
leads_on tests values to mid at Here on = on
leads_on tests values to mid at (Onward k test is rest) on = Onward k test is (leads_on tests values to mid (next_of values test) rest on)

pub leads_kept : (old new : List Test) (values : List ℕ) (to at : ℕ) → KeepsTests old new → Leads old values to at → Leads new values to at
leads_kept old new values to at keeps Here = Here
leads_kept old new values to at keeps (Onward k test is rest) = Onward k test (keeps.kept k test is) (leads_kept old new values to (next_of values test) keeps rest)

-- the truth of the end that they have come to
pub truth_is : (tests : List Test) (values : List ℕ) (truth : Bool) (at : ℕ) → at < 2 → Leads tests values (end_of truth) at → (at == 1) ≡ truth
truth_is tests values true at small leads = ap (λ n. n == 1) (leads_end tests values 1 at small leads)
truth_is tests values false at small leads = ap (λ n. n == 1) (leads_end tests values 0 at small leads)

-- a test leads to an earlier one, or to an end
pub next_falls : (ports place : ℕ) (values : List ℕ) (test : Test) → IsTestAt ports place test → next_of values test < place + 2
next_falls ports place values test is = by (compare_values test.op (source_number values test.left) (source_number values test.right))
  where
    by : (b : Bool) → (if b then test.yes else test.no) < place + 2
    by true = is.yes
    by false = is.no

-- ---- lists of tests that grow

pub keeps_itself : (tests : List Test) → KeepsTests tests tests
keeps_itself tests = record { longer = omega arith; kept = λ k test at. at }

pub keeps_on : (old mid new : List Test) → KeepsTests old mid → KeepsTests mid new → KeepsTests old new
keeps_on old mid new first second = record { longer = omega (arith, first.longer, second.longer); kept = λ k test at. second.kept k test (first.kept k test at) }

keeps_push : (tests : List Test) (test : Test) → KeepsTests tests (tests ++ test ∷ [])
keeps_push tests test = record { longer = omega (arith, length_push tests test); kept = λ k other at. slice_get-append_left tests (test ∷ []) k other at }

tests_push : (ports : ℕ) (tests : List Test) (test : Test) → IsTestAt ports (length tests) test → AreTests ports tests → AreTests ports (tests ++ test ∷ [])
tests_push ports tests test is are k other at = elim (cases_lt k (length tests)) [
  | inl before ↦ are k other (sym (slice_get-append_before tests (test ∷ []) k before) ∙ at)
  | inr past ↦
      let same : k ≡ length tests = omega (arith, slice_get_within (tests ++ test ∷ []) k other at, length_push tests test, past) in
      let e : test ≡ other = same_Some test other (sym (slice_get-last tests test) ∙ ap (slice_get (tests ++ test ∷ [])) (sym same) ∙ at) in
      subst (IsTestAt ports k) e (subst (λ place. IsTestAt ports place test) (sym same) is)
]

-- one test is added, which leads to the exit of a truth
pub adds_one : (names : List Text) (tests : List Test) (exits : Exits) (truth : Row → Bool) (test : Test) → IsTestAt (length names) (length tests) test → ((row : Row) (values : List ℕ) → AreValuesIn row names values → next_of values test ≡ exit_of exits (truth row)) → AddsTests names tests (tests ++ test ∷ []) exits truth (length tests + 2)
adds_one names tests exits truth test is next = record {
  keeps = keeps_push tests test;
  tests = tests_push (length names) tests test is;
  within = omega (arith, length_push tests test);
  leads = λ row values has. Onward (length tests) test (slice_get-last tests test) (subst (Leads (tests ++ test ∷ []) values (exit_of exits (truth row))) (sym (next row values has)) Here);
}

pub stands_on : (names : List Text) (old new : List Test) (start : ℕ) (guard : Option (GuardTree Text)) → KeepsTests old new → StandsFor names old start guard → StandsFor names new start guard
stands_on names old new start guard keeps stands = record {
  within = omega (arith, stands.within, keeps.longer);
  leads = λ row values has. leads_kept old new values _ start keeps (stands.leads row values has);
}

-- ---- sources

pub source_within : (names : List Text) (src : Src Text) (s : Source) → IsSource names src s → IsWithin (length names) s
source_within names (Port p) (Slot k) is = slice_get_within names k p is
source_within names (Port p) (Fixed bits) is = absurd is
source_within names (Lit width value) (Slot k) is = absurd is
source_within names (Lit width value) (Fixed bits) is = tt

-- the number that a source gives is its value in each row that has these values
pub number_in : (row : Row) (names : List Text) (values : List ℕ) (src : Src Text) (s : Source) → AreValuesIn row names values → IsSource names src s → source_number values s ≡ source_value row src
number_in row names values (Port p) (Slot k) has is = sym (has k p is)
number_in row names values (Port p) (Fixed bits) has is = absurd is
number_in row names values (Lit width value) (Slot k) has is = absurd is
number_in row names values (Lit width value) (Fixed bits) has is = is.0
