-- F2 at a signature.
use Rattle.std.proofs.Common.{◌≡◌, Bool, List, All, Contains, ◌↔◌, subst}
use Rattle.std.specs.Bool.{IsTrue}
use Rattle.hw_names.specs.Name.{Text, text_of}
use Rattle.hw_names.specs.declared.names.NameId.{NameId}
use Rattle.fil_ast.specs.Naming.{NamesEvents, event_names}
use Rattle.fil_ast.specs.Tree.{component_tree}
use Rattle.fil_ast.specs.declared.tree.FilComp.{FilComp}
use Rattle.fil_place.specs.SignatureNames.{used_event_ids}
use Rattle.fil_place.proofs.NameLemmas.{events_named, events_used}

module _ (names : List Text) (c : FilComp) where
  -- what the test of the used names says
  pub events_judged : (events : List Text) (ids : List NameId) (b : Bool) → events ≡ event_names (component_tree names c) → ids ≡ used_event_ids c → IsTrue b ↔ All (λ id. Contains events (text_of names id)) ids → IsTrue b ↔ NamesEvents (component_tree names c)
  events_judged events ids b are used told =
      let F : List Text → List NameId → Type 0 = λ ts ns. IsTrue b ↔ All (λ id. Contains ts (text_of names id)) ns in
      let known : F (event_names (component_tree names c)) (used_event_ids c) = subst (F (event_names (component_tree names c))) used (subst (λ (ts : List Text). F ts ids) are told) in
      (λ t. events_named names c (known.0 t), λ h. known.1 (events_used names c h))
