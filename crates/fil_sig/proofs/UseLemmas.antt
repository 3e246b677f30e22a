-- What a name with parameters means, by whether it is a primitive's, a component's or nothing's.
use Rattle.std.proofs.Common.{◌≡◌, ◌⊎◌, inl, inr, ℕ, Bool, true, false, List, [], ◌∷◌, Option, Some, None, Result, Ok, Err, is_some, Contains, if◌then◌else◌, refl, sym, ap, subst, ◌∙◌, zero, suc, arith}
use Rattle.std.specs.Option.{option_and_then, IfSome}
use Rattle.std.specs.Prelude.{IfOk, IfErr, OnOk}
use Rattle.std.specs.Str.{bytes_eq}
use Rattle.std.proofs.lemmas.Slice.Eq.{bytes_eq-Decides}
use Rattle.hw_names.specs.Name.{Text}
use Rattle.fil_ast.specs.Naming.{component_names}
use Rattle.fil_ast.specs.Primitives.{is_filament_primitive, primitive_signature}
use Rattle.fil_ast.specs.Scope.{component_named, signature_in, bare_signature}
use Rattle.fil_ast.specs.Signature as tree
use Rattle.fil_ast.specs.Tree.{Component, Design}
use Rattle.fil_ast.specs.Typing.{HasWidths, HasShape}
use Rattle.fil_sig.specs.Refusals.{IsKnown, meant_component, HasGoodWidths, HasGoodShape, IsUsable, IsCause, ByF2, ByF3, ByF5, TellsCause, IsFault, ByParameters, ByWidths, ByShape, TellsFault}
use Rattle.fil_sig.specs.Seen.{seen}
use Rattle.fil_sig.specs.declared.named.SigEnd.{SigEnd}
use Rattle.fil_sig.specs.declared.named.SigEnd.TheVariants.{Refused, Memory}
use Rattle.fil_sig.specs.declared.time_sig.TimeSig.{TimeSig}

-- no component has a name that is not found
absent : (name : Text) (cs : Design) → component_named cs name ≡ None → Contains (component_names cs) name → ⊥
absent name [] none there = let h = there.1 in absurd (omega arith)
absent name (c ∷ cs) none there = by (bytes_eq c.name name) refl (λ e rest. absent name cs e rest) there
  where
    by : (b : Bool) → bytes_eq c.name name ≡ b → (component_named cs name ≡ None → Contains (component_names cs) name → ⊥) → Contains (component_names (c ∷ cs)) name → ⊥
    by true e later there' =
        let bad : Some c ≡ None = sym (ap (λ (b : Bool). if b then Some c else component_named cs name) e) ∙ none in
        absurd (cc)
    by false e later (zero, within, at) = let yes = (bytes_eq-Decides c.name name).1 at in absurd (cc)
    by false e later (suc j, within, at) =
        later (sym (ap (λ (b : Bool). if b then Some c else component_named cs name) e) ∙ none) (j, omega arith, at)

-- a component that is found has the name
present : (name : Text) (found : Component) (cs : Design) → component_named cs name ≡ Some found → Contains (component_names cs) name
present name found [] is = absurd (cc)
present name found (c ∷ cs) is = by (bytes_eq c.name name) refl (λ e. present name found cs e)
  where
    by : (b : Bool) → bytes_eq c.name name ≡ b → (component_named cs name ≡ Some found → Contains (component_names cs) name) → Contains (component_names (c ∷ cs)) name
    by true e later = (zero, omega arith, (bytes_eq-Decides c.name name).0 e)
    by false e later =
        let there = later (sym (ap (λ (b : Bool). if b then Some c else component_named cs name) e) ∙ is) in
        let below = there.1 in
        (suc there.0, omega arith, there.2)

module _ (comps : Design) (name : Text) (params : List ℕ) where
  -- the name is a primitive's
  module _ (is : is_filament_primitive name ≡ true) where
    pub primitive_signed : signature_in comps name params ≡ primitive_signature name params
    primitive_signed = ap (λ (b : Bool). if b then primitive_signature name params else option_and_then (bare_signature params) (component_named comps name)) is

    meant_none : meant_component comps name ≡ None
    meant_none = ap (λ (b : Bool). if b then None else component_named comps name) is

    pub primitive_shape : HasGoodShape comps name
    primitive_shape = let P : Option Component → Type 0 = λ o. IfSome o HasShape in subst P (sym meant_none) tt

    pub primitive_usable : (sig : tree.Signature) → primitive_signature name params ≡ Some sig → IsUsable comps name params
    primitive_usable sig made = record {
      known = inl is;
      widths = record {
        parameters = ap is_some (primitive_signed ∙ made);
        own = (let P : Option Component → Type 0 = λ o. IfSome o HasWidths in subst P (sym meant_none) tt);
      };
      shape = primitive_shape;
    }

    pub primitive_refused : primitive_signature name params ≡ None → IsCause comps name params 3
    primitive_refused none = ByF3 (inl is) (λ w. let bad : false ≡ true = sym (ap is_some (primitive_signed ∙ none)) ∙ w.parameters in absurd (cc))

  -- the name is no primitive's
  module _ (is : is_filament_primitive name ≡ false) where
    component_signed : signature_in comps name params ≡ option_and_then (bare_signature params) (component_named comps name)
    component_signed = ap (λ (b : Bool). if b then primitive_signature name params else option_and_then (bare_signature params) (component_named comps name)) is

    meant : meant_component comps name ≡ component_named comps name
    meant = ap (λ (b : Bool). if b then None else component_named comps name) is

    -- nothing has the name
    pub unknown_refused : component_named comps name ≡ None → IsCause comps name params 2
    unknown_refused none = ByF2 not_known
      where
        not_known : ¬ IsKnown comps name
        not_known (inl prim) = absurd (cc)
        not_known (inr there) = absent name comps none there

    -- a component has it
    module _ (c : Component) (found : component_named comps name ≡ Some c) where
      known : IsKnown comps name
      known = inr (present name c comps found)

      signed : signature_in comps name params ≡ bare_signature params c
      signed = component_signed ∙ ap (option_and_then (bare_signature params)) found

      meant_it : meant_component comps name ≡ Some c
      meant_it = meant ∙ found

      good_widths : params ≡ [] → HasWidths c → HasGoodWidths comps name params
      good_widths bare wide = record {
        parameters = ap is_some (signed ∙ ap (λ ps. bare_signature ps c) bare);
        own = (let P : Option Component → Type 0 = λ o. IfSome o HasWidths in subst P (sym meant_it) wide);
      }

      pub component_made : (sig : tree.Signature) → params ≡ [] → tree.component_signature c ≡ sig → signature_in comps name params ≡ Some sig
      component_made sig bare is_sig = signed ∙ ap (λ ps. bare_signature ps c) bare ∙ ap Some is_sig

      pub component_usable : params ≡ [] → HasWidths c → HasShape c → IsUsable comps name params
      component_usable bare wide shaped = record {
        known = known;
        widths = good_widths bare wide;
        shape = (let P : Option Component → Type 0 = λ o. IfSome o HasShape in subst P (sym meant_it) shaped);
      }

      wide_of : HasGoodWidths comps name params → HasWidths c
      wide_of w = let P : Option Component → Type 0 = λ o. IfSome o HasWidths in subst P meant_it w.own

      bare_of : (ps : List ℕ) → is_some (bare_signature ps c) ≡ true → ps ≡ []
      bare_of [] e = refl
      bare_of (p ∷ ps) e = absurd (cc)

      pub component_refused : (rule : ℕ) → IsFault c params rule → IsCause comps name params rule
      component_refused rule (ByParameters some) = ByF3 known (λ w. some (bare_of params (ap is_some (sym signed) ∙ w.parameters)))
      component_refused rule (ByWidths narrow) = ByF3 known (λ w. narrow (wide_of w))
      component_refused rule (ByShape bare wide bad) =
          ByF5 known (good_widths bare wide) (λ h. bad (let P : Option Component → Type 0 = λ o. IfSome o HasShape in subst P meant_it h))

      -- what the code answers at a component
      pub component_told : (r : Result TimeSig SigEnd) → IfErr r (TellsFault c params) → IfErr r (TellsCause comps name params)
      component_told (Ok sig) told = tt
      component_told (Err (Refused rule)) told = component_refused rule told
      component_told (Err Memory) told = tt

      pub component_ok : (r : Result TimeSig SigEnd) → IfOk r (λ sig. (params ≡ []) × (tree.component_signature c ≡ seen sig)) → OnOk r (HasWidths c × HasShape c) → OnOk r (IsUsable comps name params)
      component_ok (Ok sig) made kept = component_usable made.0 kept.0 kept.1
      component_ok (Err e) made kept = tt

-- what the code answers at a primitive
pub primitive_told : (comps : Design) (name : Text) (params : List ℕ) (r : Result TimeSig SigEnd) → is_filament_primitive name ≡ true
    → IfErr r (λ end. (end ≡ Memory) ⊎ ((end ≡ Refused 3) × (primitive_signature name params ≡ None))) → IfErr r (TellsCause comps name params)
primitive_told comps name params (Ok sig) is told = tt
primitive_told comps name params (Err e) is (inl want) = let T : SigEnd → Type 0 = TellsCause comps name params in subst T (sym want) tt
primitive_told comps name params (Err e) is (inr refused) =
    let T : SigEnd → Type 0 = TellsCause comps name params in subst T (sym refused.0) (primitive_refused comps name params is refused.1)
