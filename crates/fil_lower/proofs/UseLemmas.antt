-- The uses of an invocation are the events of its callee that it triggers, each once.
use Rattle.std.proofs.Common.{◌≡◌, ℕ, zero, suc, ◌+◌, ◌<◌, List, [], ◌∷◌, length, slice_get, All, Some, refl, sym, ap, subst, ◌∙◌, arith}
use Rattle.std.proofs.lemmas.List.Elements.{All-weaker}
use Rattle.std.proofs.lemmas.Option.{same_Some}
use Rattle.hw_names.specs.Name.{Text}
use Rattle.fil_ast.proofs.HoldLemmas.{uses_by_call}
use Rattle.fil_ast.proofs.UseLemmas.{by_parts}
use Rattle.fil_ast.specs.Holds.{uses_of}
use Rattle.fil_ast.specs.Scope.{Invocation, Scope, instance_signature}
use Rattle.fil_ast.specs.Sharing.{IsUseOf}
use Rattle.fil_ast.specs.Signature.{Fixed, SigEvent, Signature}
use Rattle.fil_ast.specs.Timeline.{IsUse, hold_of}
use Rattle.fil_ast.specs.Tree.{TimeAt}

pub some_at : {X : Type 0} (xs : List X) (k : ℕ) → k < length xs → (x : X) × (slice_get xs k ≡ Some x)
some_at [] k within = absurd (omega (arith, within))
some_at (x ∷ xs) zero within = (x, refl)
some_at (x ∷ xs) (suc k) within = some_at xs k (omega (arith, within))

module _ (sig : Signature) (inst : Text) (times : List TimeAt) where
  -- an event of fixed delay is used where it has a time
  pub fixed_use : (k : ℕ) (e : SigEvent) (rows : ℕ) (s : TimeAt) → slice_get sig.events k ≡ Some e → e.delay ≡ Fixed rows → slice_get times k ≡ Some s →
      IsUse sig inst times (record { inst = inst; event = k; go = e.go; at = s; hold = rows })
  fixed_use k e rows s at fixed time = by_parts e at (record { named = refl; go = refl; time = time; held = ap (λ d. hold_of d s (slice_get times (k + 1))) fixed })

module _ (scope : Scope) (v : Invocation) (sig : Signature) (signed : instance_signature scope v.inst ≡ Some sig) where
  pub all_uses : All (IsUse sig v.inst v.gives.times) (uses_of scope v)
  all_uses =
      All-weaker (IsUseOf scope v) (IsUse sig v.inst v.gives.times)
      (λ u (s, is, used). subst (λ (x : Signature). IsUse x v.inst v.gives.times u) (same_Some s sig (sym is ∙ signed)) used)
      (uses_of scope v) (uses_by_call scope v).0
