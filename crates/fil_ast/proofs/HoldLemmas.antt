-- The holds that are listed are those that there are.
use Rattle.std.proofs.Common.{◌≡◌, ℕ, zero, suc, ◌+◌, ◌<◌, ◌≤◌, Bool, true, false, cond, List, [], ◌∷◌, ◌++◌, map, filter, flat_map, get_or, slice_get, All, Contains, Option, Some, None, inl, inr, refl, sym, ap, ap₂, subst, ◌∙◌, arith}
use Rattle.std.specs.Prelude.{AllPairs}
use Rattle.std.specs.Str.{bytes_eq}
use Rattle.std.proofs.lemmas.List.{get_or_default}
use Rattle.std.proofs.lemmas.List.Elements.{All-append, All-cons, All-contains, All-contains_itself, All-head, All-map, All-nil, All-tail, All-weaker, Contains-append_cases, Contains-append_left, Contains-append_right}
use Rattle.std.proofs.lemmas.List.Kept.{AllPairs-cons}
use Rattle.std.proofs.lemmas.Option.{none-some, same_Some}
use Rattle.std.proofs.lemmas.Slice.Eq.{bytes_eq-Decides}
use Rattle.hw_names.specs.Name.{Text}
use Rattle.fil_ast.proofs.UseLemmas.{given_use}
use Rattle.fil_ast.specs.Holds.{Start, Hold, IsHold, uses_listed, uses_from, uses_by, uses_of, hold_from, holds_by, holds_from, holds_of}
use Rattle.fil_ast.specs.Scope.{Scope, Invocation, instance_signature}
use Rattle.fil_ast.specs.Sharing.{IsUseOf}
use Rattle.fil_ast.specs.Signature.{SigEvent, Signature}
use Rattle.fil_ast.specs.Timeline.{Use, IsUse, use_of}
use Rattle.fil_ast.specs.Tree.{TimeAt}

-- elements of lists that are made of others
pub in_map : {X Y : Type 0} (f : X → Y) (xs : List X) (x : X) → Contains xs x → Contains (map f xs) (f x)
in_map f [] x (k, within, same) = absurd (omega arith)
in_map f (y ∷ xs) x (zero, within, same) = (zero, omega arith, ap f same)
in_map f (y ∷ xs) x (suc k, within, same) =
    let there = in_map f xs x (k, omega arith, same) in (suc there.0, omega (arith, there.1), there.2)

pub in_filter : {X : Type 0} (p : X → Bool) (xs : List X) (x : X) → Contains xs x → p x ≡ true → Contains (filter p xs) x
in_filter p [] x (k, within, same) is = absurd (omega arith)
in_filter {X} p (y ∷ xs) x (zero, within, same) is =
    let here : p y ≡ true = ap p same ∙ is in
    subst (λ (b : Bool). Contains (cond b (y ∷ filter p xs) (filter p xs)) x) (sym here) (zero, omega arith, same)
in_filter {X} p (y ∷ xs) x (suc k, within, same) is = by (p y) (in_filter p xs x (k, omega arith, same) is)
  where
    by : (b : Bool) → Contains (filter p xs) x → Contains (cond b (y ∷ filter p xs) (filter p xs)) x
    by true there = (suc there.0, omega (arith, there.1), there.2)
    by false there = there

pub in_flat : {X Y : Type 0} (f : X → List Y) (xs : List X) (x : X) (y : Y) → Contains xs x → Contains (f x) y → Contains (flat_map f xs) y
in_flat f [] x y (k, within, same) has = absurd (omega arith)
in_flat f (z ∷ xs) x y (zero, within, same) has =
    Contains-append_left (f z) (flat_map f xs) y (subst (λ z. Contains (f z) y) (sym same) has)
in_flat f (z ∷ xs) x y (suc k, within, same) has =
    Contains-append_right (f z) (flat_map f xs) y (in_flat f xs x y (k, omega arith, same) has)

pub from_flat : {X Y : Type 0} (f : X → List Y) (xs : List X) (y : Y) → Contains (flat_map f xs) y → (x : X) × Contains xs x × Contains (f x) y
from_flat f [] y (k, within, same) = absurd (omega arith)
from_flat {X} {Y} f (x ∷ xs) y has = elim (Contains-append_cases (f x) (flat_map f xs) y has) [
  | inl first ↦ (x, (zero, omega arith, refl), first)
  | inr rest ↦
      let there = from_flat f xs y rest in
      (there.0, (suc there.1.0, omega (arith, there.1.1), there.1.2), there.2)
]

All-flat_map : {X Y : Type 0} (P : Y → Type 0) (f : X → List Y) (xs : List X) → All (λ x. All P (f x)) xs → All P (flat_map f xs)
All-flat_map P f [] each = All-nil P
All-flat_map P f (x ∷ xs) each = All-append P (f x) (flat_map f xs) (All-head (λ x. All P (f x)) x xs each) (All-flat_map P f xs (All-tail (λ x. All P (f x)) x xs each))

-- what passes a filter
pub All-passed : {X : Type 0} (P : X → Type 0) (p : X → Bool) (xs : List X) → All P xs → All (λ x. P x × (p x ≡ true)) (filter p xs)
All-passed P p [] all = λ k d within. absurd (omega arith)
All-passed {X} P p (x ∷ xs) all = by (p x) refl (All-passed P p xs (All-tail P x xs all))
  where
    by : (b : Bool) → p x ≡ b → All (λ x. P x × (p x ≡ true)) (filter p xs) → All (λ x. P x × (p x ≡ true)) (cond b (x ∷ filter p xs) (filter p xs))
    by true is rest = All-cons (λ y. P y × (p y ≡ true)) x (filter p xs) (All-head P x xs all, is) rest
    by false is rest = rest

-- the uses of a callee's events, in their order
module _ (sig : Signature) (inst : Text) (times : List TimeAt) where
  abbrev IsFrom : ℕ → Use → Type 0
  IsFrom k u = IsUse sig inst times u × (k ≤ u.event)

  uses_are : (k : ℕ) (es : List SigEvent) → ((j : ℕ) → slice_get es j ≡ slice_get sig.events (k + j)) → All (IsFrom k) (uses_from k es inst times) × AllPairs (λ (u w : Use). u.event < w.event) (uses_from k es inst times)
  uses_are k [] same = (λ i d within. absurd (omega arith), λ i j d less within. absurd (omega arith))
  uses_are k (e ∷ es) same = by (use_of k e inst times) refl (uses_are (suc k) es later)
    where
      later : (j : ℕ) → slice_get es j ≡ slice_get sig.events (suc k + j)
      later j = let shift : k + suc j ≡ suc k + j = omega arith in same (suc j) ∙ ap (slice_get sig.events) shift

      by : (o : Option Use) → use_of k e inst times ≡ o → All (IsFrom (suc k)) (uses_from (suc k) es inst times) × AllPairs (λ (u w : Use). u.event < w.event) (uses_from (suc k) es inst times)
          → All (IsFrom k) (uses_listed o ++ uses_from (suc k) es inst times) × AllPairs (λ (u w : Use). u.event < w.event) (uses_listed o ++ uses_from (suc k) es inst times)
      by None is known =
          (All-weaker (IsFrom (suc k)) (IsFrom k) (λ u f. (f.0, let over = f.1 in omega arith)) (uses_from (suc k) es inst times) known.0, known.1)
      by (Some u) is known =
          let zero_at : k + 0 ≡ k = omega arith in
          let here = given_use sig inst times k e (sym (same 0 ∙ ap (slice_get sig.events) zero_at)) u is in
          let event = here.1 in (
            All-cons (IsFrom k) u (uses_from (suc k) es inst times) (here.0, omega arith)
                (All-weaker (IsFrom (suc k)) (IsFrom k) (λ w f. (f.0, let over = f.1 in omega arith)) (uses_from (suc k) es inst times) known.0),
            AllPairs-cons (λ (u w : Use). u.event < w.event) u (uses_from (suc k) es inst times)
                (All-weaker (IsFrom (suc k)) (λ (w : Use). u.event < w.event) (λ w f. let over = f.1 in omega arith) (uses_from (suc k) es inst times) known.0) known.1,
          )

pub from_filter : {X : Type 0} (p : X → Bool) (xs : List X) (x : X) → Contains (filter p xs) x → Contains xs x × (p x ≡ true)
from_filter p xs x has = All-contains (λ x. Contains xs x × (p x ≡ true)) (filter p xs) x (All-passed (Contains xs) p xs (All-contains_itself xs)) has

-- an invocation's hold by transaction m
pub record IsHoldBy (scope : Scope) (m : ℕ) (s : Start) (v : Invocation) (h : Hold) : Type 0 where
  pub use_now : Use
  pub uses : IsUseOf scope v use_now
  pub on : use_now.at.event ≡ s.event
  pub is : h ≡ hold_from m s.row v.name use_now

module _ (scope : Scope) where
  -- an invocation's uses rise by their events
  pub uses_by_call : (v : Invocation) → All (IsUseOf scope v) (uses_of scope v) × AllPairs (λ (u w : Use). u.event < w.event) (uses_of scope v)
  uses_by_call v = by (instance_signature scope v.inst) refl
    where
      by : (o : Option Signature) → instance_signature scope v.inst ≡ o → All (IsUseOf scope v) (uses_by v o) × AllPairs (λ (u w : Use). u.event < w.event) (uses_by v o)
      by None is = (λ i d within. absurd (omega arith), λ i j d less within. absurd (omega arith))
      by (Some sig) is =
          let all = uses_are sig v.inst v.gives.times 0 sig.events (λ j. let e : j ≡ 0 + j = omega arith in ap (slice_get sig.events) e) in
          (All-weaker (IsFrom sig v.inst v.gives.times 0) (IsUseOf scope v) (λ u f. (sig, is, f.0)) (uses_from 0 sig.events v.inst v.gives.times) all.0, all.1)

  -- and its holds are those of its uses on the transaction's event
  pub holds_by_call : (m : ℕ) (s : Start) (v : Invocation) → All (IsHoldBy scope m s v) (holds_by scope m s v)
  holds_by_call m s v =
      let test = λ (u : Use). bytes_eq u.at.event s.event in
      let passed = All-passed (IsUseOf scope v) test (uses_of scope v) (uses_by_call v).0 in
      All-map (IsHoldBy scope m s v) (hold_from m s.row v.name) (filter test (uses_of scope v))
      (λ k d within.
      let here = passed k d within in
      record { use_now = get_or (filter test (uses_of scope v)) k d; uses = here.0; on = (bytes_eq-Decides (get_or (filter test (uses_of scope v)) k d).at.event s.event).0 here.1; is = refl })

-- each use of a callee's event is listed
module _ (sig : Signature) (inst : Text) (times : List TimeAt) (u : Use) (used : IsUse sig inst times u) where
  listed_from : (k : ℕ) (es : List SigEvent) (j : ℕ) → u.event ≡ k + j → slice_get es j ≡ Some used.event → Contains (uses_from k es inst times) u
  listed_from k [] j number at = absurd (cc)
  listed_from k (e ∷ es) zero number at =
      let here : use_of k e inst times ≡ Some u =
      ap₂ (λ (k : ℕ) (e : SigEvent). use_of k e inst times) (omega arith) (same_Some e used.event at) ∙ used.is in
      Contains-append_left (uses_listed (use_of k e inst times)) (uses_from (suc k) es inst times) u
      (subst (λ (o : Option Use). Contains (uses_listed o) u) (sym here) (0, omega arith, refl))
  listed_from k (e ∷ es) (suc j) number at =
      Contains-append_right (uses_listed (use_of k e inst times)) (uses_from (suc k) es inst times) u (listed_from (suc k) es j (omega arith) at)

pub use_listed : (scope : Scope) (v : Invocation) (u : Use) → IsUseOf scope v u → Contains (uses_of scope v) u
use_listed scope v u (sig, is, used) =
    subst (λ (o : Option Signature). Contains (uses_by v o) u) (sym is) (listed_from sig v.inst v.gives.times u used 0 sig.events u.event (omega arith) used.of)

-- a use by a transaction on its event is among the holds
pub hold_there : (scope : Scope) (m : ℕ) (s : Start) (v : Invocation) (u : Use) → IsUseOf scope v u → u.at.event ≡ s.event → Contains (holds_by scope m s v) (hold_from m s.row v.name u)
hold_there scope m s v u used on =
    let test = λ (u : Use). bytes_eq u.at.event s.event in
    in_map (hold_from m s.row v.name) (filter test (uses_of scope v)) u (in_filter test (uses_of scope v) u (use_listed scope v u used) ((bytes_eq-Decides u.at.event s.event).1 on))

-- the holds by transactions with numbers
module _ (scope : Scope) where
  -- a hold by transaction m
  abbrev IsHoldOf : ℕ → Start → Hold → Type 0
  IsHoldOf m s h = (v : Invocation) × Contains scope.invocations v × IsHoldBy scope m s v h

  abbrev block : ℕ → Start → List Hold
  block m s = flat_map (holds_by scope m s) scope.invocations

  block_holds : (m : ℕ) (s : Start) → All (IsHoldOf m s) (block m s)
  block_holds m s =
      All-flat_map (IsHoldOf m s) (holds_by scope m s) scope.invocations
      (λ k d within.
      let v = get_or scope.invocations k d in
      All-weaker (IsHoldBy scope m s v) (IsHoldOf m s) (λ h by. (v, (k, within, get_or_default scope.invocations k v d within), by)) (holds_by scope m s v) (holds_by_call scope m s v))

  -- a hold by one of the transactions, which are numbered from n on
  record IsHoldFrom (n : ℕ) (starts : List Start) (h : Hold) : Type 0 where
    number : ℕ
    start : Start
    at : slice_get starts number ≡ Some start
    of : IsHoldOf (n + number) start h

  all_from : (n : ℕ) (starts : List Start) → All (IsHoldFrom n starts) (holds_from scope n starts)
  all_from n [] = All-nil _
  all_from n (s ∷ starts) =
      All-append (IsHoldFrom n (s ∷ starts)) (block n s) (holds_from scope (suc n) starts)
      (All-weaker (IsHoldOf n s) (IsHoldFrom n (s ∷ starts)) (λ h of_h. first h of_h) (block n s) (block_holds n s))
      (All-weaker (IsHoldFrom (suc n) starts) (IsHoldFrom n (s ∷ starts)) (λ h from. later h from) (holds_from scope (suc n) starts) (all_from (suc n) starts))
    where
      first : (h : Hold) → IsHoldOf n s h → IsHoldFrom n (s ∷ starts) h
      first h of_h =
          let H : ℕ → Type 0 = λ m. IsHoldOf m s h in
          let same : n ≡ n + 0 = omega arith in
          record { number = 0; start = s; at = refl; of = subst H same of_h }

      later : (h : Hold) → IsHoldFrom (suc n) starts h → IsHoldFrom n (s ∷ starts) h
      later h from =
          let H : ℕ → Type 0 = λ m. IsHoldOf m from.start h in
          let same : suc n + from.number ≡ n + suc from.number = omega arith in
          record { number = suc from.number; start = from.start; at = from.at; of = subst H same from.of }

  pub listed_is : (starts : List Start) (h : Hold) → Contains (holds_of scope starts) h → IsHold scope starts h
  listed_is starts h has =
      let from = All-contains (IsHoldFrom 0 starts) (holds_of scope starts) h (all_from 0 starts) has in
      let by = from.of.2 in
      let tx : h.tx ≡ 0 + from.number = ap (λ (x : Hold). x.tx) by.is in
      let number : h.tx ≡ from.number = omega (arith, tx) in
      record {
        start = from.start;
        started = ap (slice_get starts) number ∙ from.at;
        invocation = from.of.0;
        invoked = from.of.1;
        use_at = by.use_now;
        uses = by.uses;
        on_event = by.on;
        held = by.is ∙ ap (λ (m : ℕ). hold_from m from.start.row from.of.0.name by.use_now) (sym tx);
      }

  hold_at : (n : ℕ) (starts : List Start) (k : ℕ) (s : Start) → slice_get starts k ≡ Some s → (h : Hold) → Contains (block (n + k) s) h → Contains (holds_from scope n starts) h
  hold_at n [] k s at h has = absurd (none-some s at)
  hold_at n (t ∷ starts) zero s at h has =
      let B : ℕ → Start → Type 0 = λ m x. Contains (block m x) h in
      let same : n + 0 ≡ n = omega arith in
      Contains-append_left (block n t) (holds_from scope (suc n) starts) h (subst (B n) (sym (same_Some t s at)) (subst (λ (m : ℕ). B m s) same has))
  hold_at n (t ∷ starts) (suc k) s at h has =
      let B : ℕ → Type 0 = λ m. Contains (block m s) h in
      let same : n + suc k ≡ suc n + k = omega arith in
      Contains-append_right (block n t) (holds_from scope (suc n) starts) h (hold_at (suc n) starts k s at h (subst B same has))

  pub is_listed : (starts : List Start) (h : Hold) → IsHold scope starts h → Contains (holds_of scope starts) h
  is_listed starts h is =
      let H : Hold → Type 0 = λ x. Contains (block h.tx is.start) x in
      let B : ℕ → Type 0 = λ m. Contains (block m is.start) h in
      let same : h.tx ≡ 0 + h.tx = omega arith in
      hold_at 0 starts h.tx is.start is.started h
      (subst B same (subst H (sym is.held)
      (in_flat (holds_by scope h.tx is.start) scope.invocations is.invocation (hold_from h.tx is.start.row is.invocation.name is.use_at) is.invoked
      (hold_there scope h.tx is.start is.invocation is.use_at is.uses is.on_event))))
