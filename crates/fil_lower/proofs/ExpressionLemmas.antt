-- The values of expressions: an output of the last invocation, and an output after which there are invocations of other names.
use Rattle.std.proofs.Common.{◌≡◌, ℕ, zero, suc, Bool, List, [], ◌∷◌, ◌++◌, map, reverse, refl, sym, ap, ◌∙◌, append_assoc, arith}
use Rattle.std.specs.Prelude.{Contains, bytes_eq, if◌then◌else◌}
use Rattle.std.proofs.lemmas.List.{append-nil, reverse-append}
use Rattle.hw_names.specs.Name.{Text}
use Rattle.fil_ast.specs.Flow.{Named, instance_flow, value_in, value_named}
use Rattle.fil_ast.specs.Naming.{invocation_names}
use Rattle.fil_ast.specs.Scope.{Instance, Invocation}
use Rattle.fil_ast.specs.Tree.{ValueTree, OutputValue}
use Rattle.fil_lower.proofs.NameLemmas.{other_name, same_name}

module _ (flow : Text → List ℕ → List Named) (instances : List Instance) (inputs : List Named) where
  -- the value after these invocations, in text order
  abbrev pub value_after : List Invocation → ValueTree → ℕ
  value_after vs = value_in flow instances inputs (reverse vs)

  -- the value of one more, where it has the name or not
  abbrev either : List Invocation → Invocation → Text → Text → Bool → ℕ
  either vs v name port same = if same then value_named (instance_flow flow instances v.inst (map (value_after vs) v.gives.args)) port else value_after vs (OutputValue name port)

  value_push : (vs : List Invocation) (v : Invocation) (name port : Text) → value_after (vs ++ v ∷ []) (OutputValue name port) ≡ either vs v name port (bytes_eq v.name name)
  value_push vs v name port = ap (λ (us : List Invocation). value_in flow instances inputs us (OutputValue name port)) (reverse-append vs (v ∷ []))

  pub value_last : (vs : List Invocation) (v : Invocation) (port : Text) → value_after (vs ++ v ∷ []) (OutputValue v.name port) ≡ value_named (instance_flow flow instances v.inst (map (value_after vs) v.gives.args)) port
  value_last vs v port = value_push vs v v.name port ∙ ap (either vs v v.name port) (same_name v.name v.name refl)

  pub value_still : (vs ws : List Invocation) (name port : Text) → ¬ Contains (invocation_names ws) name → value_after (vs ++ ws) (OutputValue name port) ≡ value_after vs (OutputValue name port)
  value_still vs [] name port absent = ap (λ (us : List Invocation). value_after us (OutputValue name port)) (append-nil vs)
  value_still vs (w ∷ ws) name port absent =
      ap (λ (us : List Invocation). value_after us (OutputValue name port)) (sym (append_assoc vs (w ∷ []) ws))
      ∙ value_still (vs ++ w ∷ []) ws name port (λ (k, within, at). absent (suc k, omega (arith, within), at))
      ∙ value_push vs w name port
      ∙ ap (either vs w name port) (other_name w.name name (λ same. absent (zero, omega arith, same)))
