-- A component's instances have distinct names, and its outputs are connected once each.
use Rattle.std.proofs.Common.{◌≡◌, ℕ, List, map, take, slice_get, Some, option_map, refl, sym, ap, subst, ◌∙◌, inl, inr, arith}
use Rattle.std.specs.Prelude.{Contains}
use Rattle.std.proofs.lemmas.List.Folds.{flat_map-map}
use Rattle.std.proofs.lemmas.Option.{slice_get-map}
use Rattle.hw_names.specs.Name.{Text, AreDistinct}
use Rattle.hw_names.proofs.NameLemmas.{same_number}
use Rattle.fil_ast.specs.Connections.{ConnectsOnce, connected_at}
use Rattle.fil_ast.specs.Items.{scope_after}
use Rattle.fil_ast.specs.Naming.{instance_names}
use Rattle.fil_ast.specs.Rules.{F1, FilRules}
use Rattle.fil_ast.specs.Scope.{Instance}
use Rattle.fil_ast.specs.Tree.{Component, Design, Statement, New, Call, Both, Connect}
use Rattle.fil_ast.specs.Wires.{whole_scope}
use Rattle.fil_share.proofs.MakesLemmas.{at_statement}
use Rattle.fil_share.proofs.OwnLemmas.{names_of}
use Rattle.fil_lower.proofs.ChainLemmas.{all_of, apart_at}
use Rattle.fil_lower.proofs.NewNameLemmas.{AddsNew, distinct_all, instances_distinct}

abbrev name_of : Instance → Text
name_of i = i.name

module _ (comps : Design) (rules : FilRules comps) (n : ℕ) (c : Component) (here : slice_get comps n ≡ Some c) where
  -- ---- instances

  -- instances of one name are at one place
  pub same_instance : (k j : ℕ) (a b : Instance) → slice_get (whole_scope (take n comps) c).instances k ≡ Some a → slice_get (whole_scope (take n comps) c).instances j ≡ Some b → a.name ≡ b.name → k ≡ j
  same_instance k j a b at_k at_j same =
      let is = (whole_scope (take n comps) c).instances in
      same_number (instance_names is) k j b.name (instances_distinct (take n comps) c (names_of comps rules n c here))
      (slice_get-map name_of is k ∙ ap (option_map name_of) at_k ∙ ap Some same) (slice_get-map name_of is j ∙ ap (option_map name_of) at_j)

  -- ---- connections

  adds_connection : (k : ℕ) (s : Statement) → slice_get c.body k ≡ Some s → AddsNew connected_at c.body k s
  adds_connection k (New name made params) at = inl refl
  adds_connection k (Call name inst gives) at = inl refl
  adds_connection k (Both name made params gives) at = inl refl
  adds_connection k (Connect output value) at =
      let once : ConnectsOnce (scope_after (take n comps) c (take k c.body)) (take k c.body) (Connect output value) = at_statement comps rules n c here k (Connect output value) at 8 F1 (omega arith) in
      inr (output, refl, once.0)

  -- connections at two places are of two outputs
  pub other_connection : (k j : ℕ) (s t : Statement) → slice_get c.body k ≡ Some s → slice_get c.body j ≡ Some t → (k ≡ j → ⊥) → (output : Text) → Contains (connected_at s) output → Contains (connected_at t) output → ⊥
  other_connection k j s t at_k at_j apart output has_s has_t =
      let D : List Text → Type 0 = AreDistinct in
      let distinct : AreDistinct (all_of (map connected_at c.body)) = subst D (sym (flat_map-map (λ names. names) connected_at c.body)) (distinct_all connected_at c.body adds_connection) in
      apart_at (map connected_at c.body) distinct k j (connected_at s) (connected_at t)
      (slice_get-map connected_at c.body k ∙ ap (option_map connected_at) at_k) (slice_get-map connected_at c.body j ∙ ap (option_map connected_at) at_j) apart output has_s has_t
