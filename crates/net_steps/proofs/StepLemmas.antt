-- Steps: what one makes depends on the slots below it alone, and steps that were added to others.
use Rattle.std.proofs.Common.{◌≡◌, ℕ, zero, suc, ◌+◌, List, [], ◌∷◌, ◌++◌, Bool, true, false, if◌then◌else◌, Result, Ok, Err, IfOk, Some, refl, sym, ap, subst, ◌∙◌, append_assoc}
use Rattle.std.proofs.lemmas.List.{append-nil}
use Rattle.std.proofs.lemmas.Option.{none-some}
use Rattle.std.specs.List.{list_any}
use Rattle.indexmap.specs.IndexSet.{insert_key}
use Rattle.std.specs.Prelude.{slice_get, slice_index}
use Rattle.net_steps.specs.Operations.{KeepsChoices, KeepsSteps, IsStep, value_of}
use Rattle.net_steps.specs.Steps.{Extends, IsAssumed, IsRowOf, Defines, AddsSlot}
use Rattle.net_steps.specs.StepsValue.{StepsValue}
use Rattle.net_steps.specs.declared.choice.Choice.{Choice}
use Rattle.net_steps.specs.declared.operation.Operation.{Operation}
use Rattle.net_steps.specs.declared.other.Other.{Other}

pub choices_itself : (choices : List Choice) → KeepsChoices choices choices
choices_itself choices = ([], sym (append-nil choices))

pub choices_twice : (old mid new : List Choice) → KeepsChoices old mid → KeepsChoices mid new → KeepsChoices old new
choices_twice old mid new first second =
    (first.0 ++ second.0, second.1 ∙ ap (λ (l : List Choice). l ++ second.0) first.1 ∙ append_assoc old first.0 second.0)

pub extends_itself : (steps : StepsValue) → Extends steps steps
extends_itself steps = record { base = refl; keeps = λ k step at. at; choices = choices_itself steps.choices; assumed = refl }

pub extends_twice : (old mid new : StepsValue) → Extends old mid → Extends mid new → Extends old new
extends_twice old mid new first second =
    record { base = second.base ∙ first.base; keeps = λ k step at. second.keeps k step (first.keeps k step at); choices = choices_twice old.choices mid.choices new.choices first.choices second.choices; assumed = second.assumed ∙ first.assumed }

-- a row of more steps is one of fewer
pub row_before : (old new : StepsValue) → Extends old new → (others : List Other) (slots : List ℕ) → IsRowOf new others slots → IsRowOf old others slots
row_before old new extends others slots row = record {
  choices = row.choices;
  table = choices_twice old.choices new.choices row.choices extends.choices row.table;
  made = λ k step at. ap (λ b. slice_index slots (b + k)) (sym extends.base) ∙ row.made k step (extends.keeps k step at);
  assumed = subst (IsAssumed slots) extends.assumed row.assumed;
}

-- what a step that is there makes
pub step_made : (steps : StepsValue) (others : List Other) (slots : List ℕ) (slot : ℕ) (step : Operation) → IsStep steps.base steps.items slot step → (row : IsRowOf steps others slots) → slice_index slots slot ≡ value_of others row.choices slots step
step_made steps others slots slot step is row = ap (slice_index slots) is.slot_is ∙ row.made is.number step is.at

-- what a step that was added makes
pub defined_made : (old new : StepsValue) (step : Operation) (slot : ℕ) → Defines old new step slot → (others : List Other) (slots : List ℕ) (row : IsRowOf new others slots) → slice_index slots slot ≡ value_of others row.choices slots step
defined_made old new step slot defines others slots row = step_made new others slots slot step defines.is_step row

-- a step that was added stays when others are
pub still_defined : (old mid new : StepsValue) (step : Operation) (slot : ℕ) → Defines old mid step slot → Extends mid new → IsStep new.base new.items slot step
still_defined old mid new step slot defines more = record {
  number = defines.is_step.number;
  at = more.keeps defines.is_step.number step defines.is_step.at;
  slot_is = defines.is_step.slot_is ∙ ap (λ b. b + defines.is_step.number) (sym more.base);
}

-- a value in a slot that stands on earlier steps, said otherwise
pub ok_slot_after : {E : Type 0} (r : Result ℕ E) (old mid new : StepsValue) (value other : List Other → List ℕ → ℕ) → Extends old mid → ((others : List Other) (slots : List ℕ) → IsRowOf mid others slots → value others slots ≡ other others slots) → IfOk r (AddsSlot mid new value) → IfOk r (AddsSlot old new other)
ok_slot_after (Ok slot) old mid new value other first same adds = record {
  extends = extends_twice old mid new first adds.extends;
  made = λ others slots row. adds.made others slots row ∙ same others slots (row_before mid new adds.extends others slots row);
}
ok_slot_after (Err e) old mid new value other first same adds = adds

get_append : (xs ys : List Operation) (k : ℕ) (x : Operation) → slice_get xs k ≡ Some x → slice_get (xs ++ ys) k ≡ Some x
get_append [] ys k x h = absurd (none-some x h)
get_append (y ∷ xs) ys zero x h = h
get_append (y ∷ xs) ys (suc k) x h = get_append xs ys k x h

-- a key that is put into a set of steps
pub kept_by_insert : (eq : Operation → Operation → Bool) (keys : List Operation) (step : Operation) → KeepsSteps keys (insert_key eq keys step)
kept_by_insert eq keys step = by (list_any (eq step) keys)
  where
    by : (b : Bool) → KeepsSteps keys (if b then keys else keys ++ step ∷ [])
    by true k x at = at
    by false k x at = get_append keys (step ∷ []) k x at
