-- Instances by the numbers that a graph of ports has for them.
use Rattle.std.proofs.Common.{◌≡◌, ℕ, List, Some, None, Contains, slice_get, sym, ap, subst, ◌∙◌}
use Rattle.std.proofs.lemmas.Option.{none-some}
use Rattle.hw_names.specs.Name.{Text}
use Rattle.fil_ast.specs.Scope.{Instance, Scope, instance_signature}
use Rattle.fil_place.specs.Place.{IsPlaceIn}
use Rattle.fil_loops.specs.inside.PortGraph.{Adds, HasInstances}
use Rattle.fil_loops.specs.inside.Readings.{ReadsMade}
use Rattle.fil_loops.specs.declared.graph.PortGraph.{PortGraph}
use Rattle.fil_place.specs.declared.place.Place.{Place}
use Rattle.fil_place.proofs.LookupLemmas.{no_instance}
use Rattle.fil_loops.proofs.PortGraphLemmas.{adds_none}

module _ (p : Place) (scope : Scope) (g : PortGraph) (place : IsPlaceIn p scope) (has : HasInstances scope g) where
  same_instances : g.ports.instances ≡ p.tables.now.instances
  same_instances = has ∙ sym place.shows.instances

  -- an instance has the number that the tables have for it
  pub of_tables : (n : ℕ) (name : Text) → slice_get g.ports.instances n ≡ Some name → slice_get p.tables.now.instances n ≡ Some name
  of_tables n name at = ap (λ (l : List Text). slice_get l n) (sym same_instances) ∙ at

  -- what is no instance has no signature
  pub no_instance_in : (name : Text) → ¬ Contains g.ports.instances name → instance_signature scope name ≡ None
  no_instance_in name absent =
      no_instance p.names.now p.earlier.now p.comp.now p.tables.now scope place name (subst (λ (l : List Text). ¬ Contains l name) same_instances absent)

-- an instance without a signature adds nothing
pub no_made : (through : Text → Text → Text → Type 0) (scope : Scope) (i : Instance) (g : PortGraph) → instance_signature scope i.name ≡ None → Adds (ReadsMade through scope i) g g
no_made through scope i g none = adds_none (ReadsMade through scope i) g (λ p o r. none-some r.0 (sym none ∙ r.1))
