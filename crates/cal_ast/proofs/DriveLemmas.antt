-- A port is driven in one instance alone: no other instance may drive what has its full name.
use Rattle.std.proofs.Common.{◌≡◌, ◌≢◌, true, [], ◌∷◌, ◌++◌, Option, Some, None, refl, sym, ap, ap₂, ◌∙◌, subst, inl, inr}
use Rattle.std.specs.Prelude.{Contains}
use Rattle.std.proofs.lemmas.List.{map-append}
use Rattle.hw_names.proofs.NameLemmas.{same_full_name, full_name-append, plain_append}
use Rattle.hw_names.specs.Name.{Text, Path, dotted, full_name, port_at, AreDistinct}
use Rattle.hw_prims.specs.Table.{Pin, pin_names}
use Rattle.cal_ast.proofs.InstanceLemmas.{component_at-design, component_at-below, plain_path}
use Rattle.cal_ast.proofs.ItemLemmas.{new_ports}
use Rattle.cal_ast.proofs.ListLemmas.{place_of, AllPairs-across}
use Rattle.cal_ast.proofs.LookupLemmas.{cell_input_cases, primitive_or_part}
use Rattle.cal_ast.proofs.PlainLemmas.{plain_writable}
use Rattle.cal_ast.proofs.SideLemmas.{writable_in, cell_input_destination, output_destination}
use Rattle.cal_ast.specs.Instances.{component_at}
use Rattle.cal_ast.specs.Plain.{HasPlainTree}
use Rattle.cal_ast.specs.Naming.{GroupNaming}
use Rattle.cal_ast.specs.Ports.{is_bare, inputs_in, outputs_in, cell_inputs, part_in}
use Rattle.cal_ast.specs.Rules.{KeepsRulesUnder}
use Rattle.cal_ast.specs.Sides.{IsDestination}
use Rattle.cal_ast.specs.Tree.{Component, Design}

-- paths that end alike are alike before it
pub same_last : (p q : Path) (x y : Text) → p ++ x ∷ [] ≡ q ++ y ∷ [] → (p ≡ q) × (x ≡ y)
same_last [] [] x y e = (refl, cc)
same_last [] (s ∷ []) x y e = absurd (cc)
same_last [] (s ∷ r ∷ q) x y e = absurd (cc)
same_last (s ∷ []) [] x y e = absurd (cc)
same_last (s ∷ r ∷ p) [] x y e = absurd (cc)
same_last (s ∷ p) (r ∷ q) x y e =
    let heads : s ≡ r = cc in
    let tails : p ++ x ∷ [] ≡ q ++ y ∷ [] = cc in
    let rest = same_last p q x y tails in
    (ap₂ ◌∷◌ heads rest.0, rest.1)

-- by C1 an input of a component is no output of it
pub input_or_output : (naming : GroupNaming) (design : Design) → KeepsRulesUnder naming design → (c : Component) → Contains design c → (pin : Text) → Contains (pin_names (inputs_in c)) pin → Contains (pin_names (outputs_in c)) pin → ⊥
input_or_output naming design keeps c in_design pin input output =
    let n = place_of design c in_design in
    let all = subst AreDistinct (map-append (λ (p : Pin). p.name) (inputs_in c) (outputs_in c)) (new_ports naming design keeps n.0 c n.1) in
    AllPairs-across (λ a b. a ≢ b) (pin_names (inputs_in c)) (pin_names (outputs_in c)) all pin pin input output refl

-- so what stands among the pins that a bare component may drive is a destination
pub writable_destination : (naming : GroupNaming) (design : Design) → KeepsRulesUnder naming design → (c : Component) → Contains design c → is_bare c ≡ true → (cell : Option Text) (pin : Text)
    → Contains (pin_names (writable_in design c cell)) pin → IsDestination design c (record { cell = cell; pin = pin })
writable_destination naming design keeps c in_design bare None pin has =
    output_destination design c pin bare (λ input. input_or_output naming design keeps c in_design pin input has) has
writable_destination naming design keeps c in_design bare (Some cell) pin has = cell_input_destination design c cell pin has

module _ (naming : GroupNaming) (design : Design) (top : Component) (plain : HasPlainTree design) (keeps : KeepsRulesUnder naming design) (in_design : Contains design top) where
  -- an output of an instance is no input of a cell
  output_or_cell_input : (p q : Path) (c d : Component) → component_at design top p ≡ Some c → component_at design top q ≡ Some d → (cell pin pin' : Text) → Contains (pin_names (outputs_in c)) pin → Contains (pin_names (cell_inputs design d cell)) pin' → full_name p pin ≡ dotted (full_name q cell) pin' → ⊥
  output_or_cell_input p q c d at at' cell pin pin' output input e =
      let of_c = component_at-design design top p c in_design at in
      let of_d = component_at-design design top q d in_design at' in
      let left = plain_writable design c plain of_c None pin output in
      let right = plain_writable design d plain of_d (Some cell) pin' input in
      let same = same_full_name p (q ++ cell ∷ []) pin pin' (plain_path design top p c plain in_design at) (plain_append q cell (plain_path design top q d plain in_design at') right.0) left.1 right.1 (e ∙ sym (full_name-append q cell pin')) in
      let below : part_in design d cell ≡ Some c = sym (component_at-below design top q d cell at') ∙ ap (component_at design top) (sym same.0) ∙ at in
      elim (cell_input_cases design d cell pin' input) [
        | inl (prim, is, there) ↦ primitive_or_part design d cell prim c is below
        | inr (part, is, there) ↦
            let one : part ≡ c = cc in
            let named = subst (λ (x : Component). Contains (pin_names (inputs_in x)) pin') one there in
            input_or_output naming design keeps c of_c pin (subst (λ x. Contains (pin_names (inputs_in c)) x) (sym same.1) named) output
      ]

  -- ports that instances may drive, and that have one full name, are of one instance
  pub one_instance : (p q : Path) (c d : Component) → component_at design top p ≡ Some c → component_at design top q ≡ Some d → (cell cell' : Option Text) (pin pin' : Text) → Contains (pin_names (writable_in design c cell)) pin → Contains (pin_names (writable_in design d cell')) pin' → port_at p cell pin ≡ port_at q cell' pin' → p ≡ q
  one_instance p q c d at at' None None pin pin' has has' e =
      let left = plain_writable design c plain (component_at-design design top p c in_design at) None pin has in
      let right = plain_writable design d plain (component_at-design design top q d in_design at') None pin' has' in
      (same_full_name p q pin pin' (plain_path design top p c plain in_design at) (plain_path design top q d plain in_design at') left.1 right.1 e).0
  one_instance p q c d at at' None (Some cell') pin pin' has has' e =
      absurd (output_or_cell_input p q c d at at' cell' pin pin' has has' e)
  one_instance p q c d at at' (Some cell) None pin pin' has has' e =
      absurd (output_or_cell_input q p d c at' at cell pin' pin has' has (sym e))
  one_instance p q c d at at' (Some cell) (Some cell') pin pin' has has' e =
      let left = plain_writable design c plain (component_at-design design top p c in_design at) (Some cell) pin has in
      let right = plain_writable design d plain (component_at-design design top q d in_design at') (Some cell') pin' has' in
      let above = plain_append p cell (plain_path design top p c plain in_design at) left.0 in
      let above' = plain_append q cell' (plain_path design top q d plain in_design at') right.0 in
      let paths = same_full_name (p ++ cell ∷ []) (q ++ cell' ∷ []) pin pin' above above' left.1 right.1 (full_name-append p cell pin ∙ e ∙ sym (full_name-append q cell' pin')) in
      (same_last p q cell cell' paths.0).0
