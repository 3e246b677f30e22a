-- What a statement of a body gives: its invocation or instance, with numbers and small times.
use Rattle.std.proofs.Common.{◌≡◌, ℕ, ◌<◌, ◌++◌, [], ◌∷◌, List, All, Contains, length, flat_map, get_or, slice_get, Some, Option, refl, sym, ap, subst, ◌∙◌}
use Rattle.std.specs.Option.{option_map_or}
use Rattle.std.proofs.lemmas.List.{append-nil}
use Rattle.std.proofs.lemmas.List.Elements.{All-head, Contains-append_right}
use Rattle.std.proofs.lemmas.Option.{slice_get_read}
use Rattle.fil_ast.specs.Naming.{MakesNewNames, invocation_names, port_names}
use Rattle.fil_ast.specs.Scope.{Invocation, Scope, instance_signature, invocations_at}
use Rattle.fil_ast.specs.Signature.{Signature}
use Rattle.fil_ast.specs.Timeline.{interval_at}
use Rattle.fil_ast.specs.Tree.{Statement}
use Rattle.hw_names.specs.Name.{Text}
use Rattle.fil_lower.specs.inside.Lowering.{Lowering, wants_in}
use Rattle.fil_lower.specs.inside.Place.{greatest, wanted_by_ports}

-- an element that a loop reads is at its place in the list
pub item_at : {X : Type 0} (xs items : List X) (i : ℕ) (x : X) → items ≡ xs → i < length items → x ≡ get_or items i x → slice_get xs i ≡ Some x
item_at xs items i x same within is = ap (λ ys. slice_get ys i) (sym same) ∙ slice_get_read items (length items) i x refl within is

-- what the ports of a callee want, where its signature is known
pub wanted_of : (l : Lowering) (event : Text) (v : Invocation) (o : Option Signature) → instance_signature l.scope v.inst ≡ o
    → wanted_by_ports l event v ≡ flat_map (λ port. option_map_or (wants_in l event) (interval_at v.gives.times port) []) (option_map_or (λ (sig : Signature). sig.ins) o [])
wanted_of l event v o signed =
    ap (λ (o : Option Signature). flat_map (λ port. option_map_or (wants_in l event) (interval_at v.gives.times port) []) (option_map_or (λ (sig : Signature). sig.ins) o [])) signed

-- of one invocation
pub wanted_alone : (l : Lowering) (event : Text) (vs : List Invocation) (v : Invocation) → v ∷ [] ≡ vs → greatest (wanted_by_ports l event v) ≡ greatest (flat_map (wanted_by_ports l event) vs)
wanted_alone l event vs v are = ap greatest (sym (append-nil (wanted_by_ports l event v)) ∙ ap (flat_map (wanted_by_ports l event)) are)

-- the invocation of a statement has a new name
pub new_invocation : (scope : Scope) (s : Statement) (v : Invocation) → MakesNewNames scope s → v ∷ [] ≡ invocations_at s → ¬ Contains (invocation_names scope.invocations) v.name
new_invocation scope s v makes is there =
    let P : Invocation → Type 0 = λ v. ¬ Contains (port_names scope.comp ++ invocation_names scope.invocations) v.name in
    let A : List Invocation → Type 0 = All P in
    All-head P v [] (subst A (sym is) makes.invocations) (Contains-append_right (port_names scope.comp) (invocation_names scope.invocations) v.name there)
