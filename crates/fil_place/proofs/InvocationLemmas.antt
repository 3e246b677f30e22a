-- What the invocations of a scope invoke, also after one more statement.
use Rattle.std.proofs.Common.{◌≡◌, ℕ, zero, suc, ◌<◌, ◌⊎◌, inl, inr, Bool, true, false, cond, List, [], ◌∷◌, ◌++◌, length, map, Contains, Option, Some, None, get_or, slice_get, refl, sym, ap, subst, ◌∙◌, arith}
use Rattle.std.specs.Option.{option_and_then}
use Rattle.std.specs.Str.{bytes_eq}
use Rattle.std.proofs.lemmas.Bool.{false_from_ne_true}
use Rattle.std.proofs.lemmas.List.{append-nil}
use Rattle.std.proofs.lemmas.List.Elements.{All-head}
use Rattle.std.proofs.lemmas.Option.{none-some, same_Some, get_or_from_slice_get, slice_get-get_or, slice_get_within}
use Rattle.std.proofs.lemmas.Slice.Eq.{bytes_eq-Decides}
use Rattle.hw_names.specs.Name.{Text}
use Rattle.fil_ast.specs.Naming.{MakesNewNames, instance_names}
use Rattle.fil_ast.specs.Scope.{Scope, Instance, Invocation, instance_named, instance_signature, instances_at, invocations_at, signature_in}
use Rattle.fil_ast.specs.Sharing.{IsUseOf}
use Rattle.fil_ast.specs.Signature.{Signature}
use Rattle.fil_ast.specs.Timeline.{Use}
use Rattle.fil_ast.specs.Tree.{Statement, New, Call, Both, Connect}
use Rattle.fil_place.specs.Place.{with_instance}
use Rattle.fil_place.specs.Tables.{Shows, calls_from, instance_of, signature_at}
use Rattle.fil_place.specs.declared.earlier.Earlier.{Earlier}
use Rattle.fil_place.specs.declared.tables.Tables.{Tables}

-- the instance of a name, where others stand after those
kept_front : (is more : List Instance) (name : Text) → Contains (instance_names is) name → instance_named (is ++ more) name ≡ instance_named is name
kept_front [] more name (k, within, same) = absurd (omega arith)
kept_front (i ∷ is) more name (k, within, same) = by (bytes_eq i.name name) refl k within same (λ there. kept_front is more name there)
  where
    by : (b : Bool) → bytes_eq i.name name ≡ b → (k : ℕ) → k < length (instance_names (i ∷ is)) → get_or (instance_names (i ∷ is)) k name ≡ name
        → (Contains (instance_names is) name → instance_named (is ++ more) name ≡ instance_named is name) → instance_named (i ∷ is ++ more) name ≡ instance_named (i ∷ is) name
    by true e k within same later =
        ap (λ (b : Bool). cond b (Some i) (instance_named (is ++ more) name)) e ∙ sym (ap (λ (b : Bool). cond b (Some i) (instance_named is name)) e)
    by false e zero within same later = let bad : true ≡ false = sym ((bytes_eq-Decides i.name name).1 same) ∙ e in absurd (cc)
    by false e (suc k) within same later =
        ap (λ (b : Bool). cond b (Some i) (instance_named (is ++ more) name)) e ∙ later (k, omega arith, same)
        ∙ sym (ap (λ (b : Bool). cond b (Some i) (instance_named is name)) e)

-- a new instance
found_last : (is : List Instance) (i : Instance) → (Contains (instance_names is) i.name → ⊥) → instance_named (is ++ i ∷ []) i.name ≡ Some i
found_last [] i absent = ap (λ (b : Bool). cond b (Some i) None) ((bytes_eq-Decides i.name i.name).1 refl)
found_last (j ∷ is) i absent =
    let apart : bytes_eq j.name i.name ≡ false = false_from_ne_true (bytes_eq j.name i.name) (λ same. absent (zero, omega arith, (bytes_eq-Decides j.name i.name).0 same)) in
    ap (λ (b : Bool). cond b (Some j) (instance_named (is ++ i ∷ []) i.name)) apart
    ∙ found_last is i (λ (k, within, same). absent (suc k, omega arith, same))

-- an invocation's instance is among those that are listed
known_in : (ts : List Text) (ns : List ℕ) (vs : List Invocation) → map (slice_get ts) ns ≡ map instance_of vs → (k : ℕ) (v : Invocation) → slice_get vs k ≡ Some v → Contains ts v.inst
known_in ts [] [] e k v at = absurd (none-some v at)
known_in ts [] (w ∷ vs) e k v at = absurd (cc)
known_in ts (n ∷ ns) [] e k v at = absurd (cc)
known_in ts (n ∷ ns) (w ∷ vs) e zero v at =
    let head : slice_get ts n ≡ Some w.inst = cc in
    let here : slice_get ts n ≡ Some v.inst = head ∙ ap (λ (v : Invocation). Some v.inst) (same_Some w v at) in
    (n, slice_get_within ts n v.inst here, get_or_from_slice_get ts n v.inst v.inst here)
known_in ts (n ∷ ns) (w ∷ vs) e (suc k) v at =
    let tail : map (slice_get ts) ns ≡ map instance_of vs = cc in
    known_in ts ns vs tail k v at

pub at_of : {X : Type 0} (xs : List X) (x : X) → Contains xs x → (k : ℕ) × (slice_get xs k ≡ Some x)
at_of xs x (k, within, same) = (k, slice_get-get_or xs k x within ∙ ap Some same)

pub instance_listed_of : (earlier : Earlier) (tables : Tables) (scope : Scope) → Shows earlier tables scope → (v : Invocation) → Contains scope.invocations v → Contains (instance_names scope.instances) v.inst
instance_listed_of earlier tables scope shown v there =
    let place = at_of scope.invocations v there in
    let C : List Text → Type 0 = λ ts. Contains ts v.inst in
    subst C shown.instances (known_in tables.instances tables.invoked.items scope.invocations shown.invoked place.0 v place.1)

-- a name of no invoked instance has no calls
pub no_calls : (k : ℕ) (name : Text) (vs : List Invocation) → ((v : Invocation) → Contains vs v → v.inst ≡ name → ⊥) → calls_from k name vs ≡ []
no_calls k name [] apart = refl
no_calls k name (v ∷ vs) apart =
    let other : bytes_eq v.inst name ≡ false = false_from_ne_true (bytes_eq v.inst name) (λ same. apart v (zero, omega arith, refl) ((bytes_eq-Decides v.inst name).0 same)) in
    ap (λ (b : Bool). cond b (k ∷ calls_from (suc k) name vs) (calls_from (suc k) name vs)) other
    ∙ no_calls (suc k) name vs (λ w (j, within, same). apart w (suc j, omega arith, same))

pub one_there : {X : Type 0} (x y : X) → Contains (x ∷ []) y → x ≡ y
one_there x y (zero, within, same) = same
one_there x y (suc k, within, same) = absurd (omega arith)

-- what the invocation of a statement invokes
pub signed_with : (scope : Scope) (s : Statement) → MakesNewNames scope s → (v : Invocation) → Contains (invocations_at s) v → instance_signature (with_instance scope s) v.inst ≡ signature_at scope s
signed_with scope (New name made params) new v (k, within, same) = absurd (omega arith)
signed_with scope (Connect output value) new v (k, within, same) = absurd (omega arith)
signed_with scope (Call name inst gives) new v there =
    let w : Invocation = record { name = name; inst = inst; gives = gives } in
    let signature : List Instance → Text → Option Signature = λ is t. option_and_then (λ (i : Instance). signature_in scope.comps i.made i.params) (instance_named is t) in
    ap (λ (v : Invocation). signature (scope.instances ++ []) v.inst) (sym (one_there w v there)) ∙ ap (λ is. signature is inst) (append-nil scope.instances)
signed_with scope (Both name made params gives) new v there =
    let w : Invocation = record { name = name; inst = name; gives = gives } in
    let i : Instance = record { name = name; made = made; params = params } in
    let New : Instance → Type 0 = λ i. ¬ Contains (instance_names scope.instances) i.name in
    let signature : List Instance → Text → Option Signature = λ is t. option_and_then (λ (i : Instance). signature_in scope.comps i.made i.params) (instance_named is t) in
    ap (λ (v : Invocation). signature (scope.instances ++ i ∷ []) v.inst) (sym (one_there w v there))
    ∙ ap (option_and_then (λ (i : Instance). signature_in scope.comps i.made i.params)) (found_last scope.instances i (All-head New i [] new.instances))

module _ (scope : Scope) (s : Statement) (known : (v : Invocation) → Contains scope.invocations v → Contains (instance_names scope.instances) v.inst) where
  abbrev with : Scope
  with = with_instance scope s

  pub use_before : (v : Invocation) (u : Use) → Contains scope.invocations v → IsUseOf with v u → IsUseOf scope v u
  use_before v u there (sig, signed, used) =
      let meant = λ (i : Instance). signature_in scope.comps i.made i.params in
      (sig, sym (ap (option_and_then meant) (kept_front scope.instances (instances_at s) v.inst (known v there))) ∙ signed, used)

  pub use_after : (v : Invocation) (u : Use) → Contains scope.invocations v → IsUseOf scope v u → IsUseOf with v u
  use_after v u there (sig, signed, used) =
      let meant = λ (i : Instance). signature_in scope.comps i.made i.params in
      (sig, ap (option_and_then meant) (kept_front scope.instances (instances_at s) v.inst (known v there)) ∙ signed, used)

pub in_parts : {X : Type 0} (xs ys : List X) (x : X) → Contains (xs ++ ys) x → Contains xs x ⊎ Contains ys x
in_parts [] ys x there = inr there
in_parts (y ∷ xs) ys x (zero, within, same) = inl (zero, omega arith, same)
in_parts (y ∷ xs) ys x (suc k, within, same) = by (in_parts xs ys x (k, omega arith, same))
  where
    by : Contains xs x ⊎ Contains ys x → Contains (y ∷ xs) x ⊎ Contains ys x
    by (inl (j, below, is)) = inl (suc j, omega arith, is)
    by (inr there) = inr there
