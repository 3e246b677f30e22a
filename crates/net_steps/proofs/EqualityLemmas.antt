-- Steps that compare equal are one, and so are truths.
use Rattle.std.proofs.Common.{◌≡◌, ℕ, Bool, true, rules, refl, sym, ap, subst, ◌+◌, List, Some, ◌∙◌}
use Rattle.std.specs.Prelude.{slice_get}
use Rattle.indexmap.specs.IndexSet.{insert_key}
use Rattle.net_steps.specs.Operations.{KeepsChoices}
use Rattle.net_steps.specs.Steps.{Defines}
use Rattle.net_steps.specs.StepsValue.{StepsValue}
use Rattle.net_steps.specs.contracts.operation.OperationPartialEq.TheImpl.{eq-value}
use Rattle.net_steps.specs.contracts.truth.TruthPartialEq.TheImpl.{eq-value as eq-truth}
use Rattle.net_steps.specs.declared.choice.Choice.{Choice}
use Rattle.net_steps.specs.declared.equality.Equality.{Equality}
use Rattle.net_steps.specs.declared.operation.Operation.{Operation}
use Rattle.net_steps.specs.declared.operation.Operation.TheVariants.{Constant, And, Or, Xor, Both, Either, ButNot, Equal, Less, Choose, Pick, Only, Several, Add, Subtract, Multiply, Invert, ShiftLeft, ShiftRight, Cut, Join, Output}
use Rattle.net_steps.specs.declared.truth.Truth.{Truth}
use Rattle.net_steps.specs.declared.truth.Truth.TheVariants.{Fixed, Slot}
use Rattle.net_steps.proofs.StepLemmas.{choices_itself, kept_by_insert}

pub same_operation : (a b : Operation) → eq-value.it a b ≡ true → a ≡ b
same_operation (Constant x) (Constant x') h = search rules
same_operation (Constant x) b h = cc
same_operation (And x y) (And x' y') h = search rules
same_operation (And x y) b h = cc
same_operation (Or x y) (Or x' y') h = search rules
same_operation (Or x y) b h = cc
same_operation (Xor x y) (Xor x' y') h = search rules
same_operation (Xor x y) b h = cc
same_operation (Both x y) (Both x' y') h = search rules
same_operation (Both x y) b h = cc
same_operation (Either x y) (Either x' y') h = search rules
same_operation (Either x y) b h = cc
same_operation (ButNot x y) (ButNot x' y') h = search rules
same_operation (ButNot x y) b h = cc
same_operation (Equal x y) (Equal x' y') h = search rules
same_operation (Equal x y) b h = cc
same_operation (Less x y) (Less x' y') h = search rules
same_operation (Less x y) b h = cc
same_operation (Choose x y z) (Choose x' y' z') h = search rules
same_operation (Choose x y z) b h = cc
same_operation (Pick x y z w) (Pick x' y' z' w') h = search rules
same_operation (Pick x y z w) b h = cc
same_operation (Only x y) (Only x' y') h = search rules
same_operation (Only x y) b h = cc
same_operation (Several x y) (Several x' y') h = search rules
same_operation (Several x y) b h = cc
same_operation (Add x y m) (Add x' y' m') h = search rules
same_operation (Add x y m) b h = cc
same_operation (Subtract x y m) (Subtract x' y' m') h = search rules
same_operation (Subtract x y m) b h = cc
same_operation (Multiply x y m) (Multiply x' y' m') h = search rules
same_operation (Multiply x y m) b h = cc
same_operation (Invert x m) (Invert x' m') h = search rules
same_operation (Invert x m) b h = cc
same_operation (ShiftLeft x y m) (ShiftLeft x' y' m') h = search rules
same_operation (ShiftLeft x y m) b h = cc
same_operation (ShiftRight x y) (ShiftRight x' y') h = search rules
same_operation (ShiftRight x y) b h = cc
same_operation (Cut x l m) (Cut x' l' m') h = search rules
same_operation (Cut x l m) b h = cc
same_operation (Join x y s) (Join x' y' s') h = search rules
same_operation (Join x y s) b h = cc
same_operation (Output n o x y) (Output n' o' x' y') h = search rules
same_operation (Output n o x y) b h = cc

-- a step that was put into the set of the steps
pub defined : (old : StepsValue) (base : ℕ) (keys new : List Operation) (choices : List Choice) (assumed : List Equality) (step : Operation) (index : ℕ) → record { base = base; items = keys; choices = choices; assumed = assumed } ≡ old → new ≡ insert_key eq-value.it keys step → ((k : Operation) × (slice_get new index ≡ Some k) × (eq-value.it step k ≡ true)) → Defines old (record { base = base; items = new; choices = choices; assumed = assumed }) step (base + index)
defined old base keys new choices assumed step index is put stored = record {
  extends = record {
    base = ap (λ (s : StepsValue). s.base) is;
    keeps = λ k x at.
        subst (λ ks. slice_get ks k ≡ Some x) (sym put)
        (kept_by_insert eq-value.it keys step k x (subst (λ (s : StepsValue). slice_get s.items k ≡ Some x) (sym is) at));
    choices = subst (λ (s : StepsValue). KeepsChoices s.choices choices) is (choices_itself choices);
    assumed = ap (λ (s : StepsValue). s.assumed) is;
  };
  choices = ap (λ (s : StepsValue). s.choices) is;
  is_step = record { number = index; at = stored.1 ∙ ap Some (sym (same_operation step stored.0 stored.2)); slot_is = refl };
}

same_truth : (a b : Truth) → eq-truth.it a b ≡ true → a ≡ b
same_truth (Fixed x) (Fixed x') h = search rules
same_truth (Fixed x) b h = cc
same_truth (Slot x n) (Slot x' n') h = search rules
same_truth (Slot x n) b h = cc

-- truths that compare equal are one
pub truths_same : (a b : Truth) (r : Bool) → r ≡ eq-truth.it a b → r ≡ true → a ≡ b
truths_same a b r is t = same_truth a b (sym is ∙ t)
