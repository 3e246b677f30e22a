-- The flow of a component goes by its name: with other components after it, it is the same.
use Rattle.std.proofs.Common.{◌≡◌, ℕ, Bool, cond, List, [], ◌∷◌, ◌++◌, map, reverse, slice_get, Contains, Some, option_map, refl, ap, ◌∙◌, arith}
use Rattle.std.specs.Str.{bytes_eq}
use Rattle.std.proofs.lemmas.Bool.{false_from_ne_true}
use Rattle.std.proofs.lemmas.List.{reverse-append}
use Rattle.std.proofs.lemmas.Option.{slice_get-map}
use Rattle.std.proofs.lemmas.Slice.Eq.{bytes_eq-Decides}
use Rattle.hw_names.specs.Name.{Text}
use Rattle.fil_ast.specs.Flow.{Named, component_flow, flow, flow_of}
use Rattle.fil_ast.specs.Items.{TheSignature}
use Rattle.fil_ast.specs.Naming.{component_names}
use Rattle.fil_ast.specs.Rules.{F1, KeepsComponent, all_rules}
use Rattle.fil_ast.specs.Tree.{Component, Design}
use Rattle.fil_flow.proofs.PlaceLemmas.{Contains-at}

-- a component that keeps the rules has a new name
pub new_name : (before : Design) (c : Component) → KeepsComponent all_rules before c → Contains (component_names before) c.name → ⊥
new_name before c keeps = (keeps 0 TheSignature refl 0 F1 (omega arith)).new

-- the flow goes by the components before, where a component has another name
pub flow_later : (c : Component) (before : List Component) (name : Text) (args : List ℕ) → (c.name ≡ name → ⊥) → flow_of (c ∷ before) name args ≡ flow_of before name args
flow_later c before name args apart =
    ap (λ (b : Bool). cond b (component_flow (flow_of before) c args) (flow_of before name args))
    (false_from_ne_true (bytes_eq c.name name) (λ is. apart ((bytes_eq-Decides c.name name).0 is)))

-- the flow of the component that stands last
pub flow_here : (before : List Component) (c : Component) (args : List ℕ) → flow_of (c ∷ before) c.name args ≡ component_flow (flow_of before) c args
flow_here before c args =
    ap (λ (b : Bool). cond b (component_flow (flow_of before) c args) (flow_of before c.name args)) ((bytes_eq-Decides c.name c.name).1 refl)

-- the name of a component is among the names
pub named_at : (comps : Design) (n : ℕ) (c : Component) → slice_get comps n ≡ Some c → Contains (component_names comps) c.name
named_at comps n c at =
    Contains-at (component_names comps) n c.name (slice_get-map (λ (d : Component). d.name) comps n ∙ ap (option_map (λ (d : Component). d.name)) at)

-- one more component, of another name, changes no flow
pub flow_more : (before : Design) (last c : Component) (args : List ℕ) → (last.name ≡ c.name → ⊥) → flow (before ++ last ∷ []) c args ≡ flow before c args
flow_more before last c args apart =
    ap (map (λ (p : Named). p.value)) (ap (λ (cs : Design). flow_of cs c.name args) (reverse-append before (last ∷ [])) ∙ flow_later last (reverse before) c.name args apart)

-- the flow of the last component is that of its body after the components before it
pub flow_last : (before : Design) (c : Component) (args : List ℕ) → flow (before ++ c ∷ []) c args ≡ map (λ (p : Named). p.value) (component_flow (flow_of (reverse before)) c args)
flow_last before c args =
    ap (map (λ (p : Named). p.value)) (ap (λ (cs : Design). flow_of cs c.name args) (reverse-append before (c ∷ [])) ∙ flow_here (reverse before) c args)
