use Rattle.std.proofs.Common.{◌≡◌, ◌<◌, ◌++◌, ◌∷◌, [], ℕ, List, All, Contains, length, map, take, get_or, slice_get, Some, inl, inr, refl, sym, ap, subst, ◌∙◌, arith}
use Rattle.std.proofs.lemmas.List.{length-append, length-map, map-append}
use Rattle.std.proofs.lemmas.List.Elements.{All-push}
use Rattle.std.proofs.lemmas.Option.{same_Some}
use Rattle.hw_names.specs.Name.{KeepsTexts, Text}
use Rattle.cal_ast.specs.Numbers.{ComponentHasNumbers}
use Rattle.cal_ast.specs.Tree as calyx
use Rattle.cal_ast.specs.declared.tree.CalComp.{CalComp}
use Rattle.fil_ast.specs.Items.{TheSignature}
use Rattle.fil_ast.specs.Naming.{component_names}
use Rattle.fil_ast.specs.Rules.{F1, FilRules}
use Rattle.fil_ast.specs.Tree.{Component, component_tree, design_of}
use Rattle.fil_ast.specs.Wires.{whole_scope}
use Rattle.fil_ast.specs.declared.tree.FilDesign.{FilDesign}
use Rattle.fil_fsm.proofs.FreshLemmas.{KeepsTexts-trans}
use Rattle.fil_share.proofs.Lookup.{at_mapped}
use Rattle.fil_share.proofs.MakesLemmas.{take_next}
use Rattle.fil_lower.specs.inside.Lowering.{IsLoweredTo}
use Rattle.fil_lower.proofs.ComponentLemmas.{lowered_kept, mapped_at, numbers_kept, one_more}
use Rattle.fil_lower.proofs.LowersLemmas.{lowering_lowers}
use Rattle.fil_lower.proofs.StepLemmas.{All-at, some_read}
use Rattle.fil_lower.proofs.UseLemmas.{some_at}
use Rattle.fil_lower.proofs.lower.lower_fil.Goals as goal

pub lower_component-requires-clause-body : goal.lower_component-requires-clause-body
lower_component-requires-clause-body c =
    let d = c.args.ok.now in
    let n = c.loop-number.number in
    let same = ap (λ (e : FilDesign). length e.comps.items) c.design-design.ensures.same in
    let within : n < length (design_of d) = omega (arith, length-map d.comps.items (component_tree d.names), same, c.len-number-end.ensures, c.design-design.result.now.comps.ok.0) in
    let (tree, at) = some_at (design_of d) n within in
    (whole_scope (take n (design_of d)) tree, c.in_ok-body.ensures.shown tree at)

pub lower_component-requires-clause-names : goal.lower_component-requires-clause-names
lower_component-requires-clause-names c =
    let K : List Text → Type 0 = λ ts. KeepsTexts ts c.loop-number.names in
    subst K (sym c.in_ok-body.ensures.names) c.loop-number.invariant.kept

pub loop-number-preserved : goal.loop-number-preserved
loop-number-preserved c =
    let d = c.args.ok.now in
    let n = c.loop-number.number in
    let same = ap (λ (e : FilDesign). length e.comps.items) c.design-design.ensures.same in
    let within : n < length (design_of d) = omega (arith, length-map d.comps.items (component_tree d.names), same, c.len-number-end.ensures, c.design-design.result.now.comps.ok.0) in
    let (tree, at) = some_at (design_of d) n within in
    let before = c.loop-number.names in
    let after = c.lower_component.new.names in
    let comps = c.loop-number.comps.items in
    let low = c.in_ok-lower_component.field-0 in
    let inv = c.loop-number.invariant in
    let keeps : KeepsTexts before after = c.lower_component.ensures.kept in
    let lowered = c.in_ok-lower_component.ensures.lowered (whole_scope (take n (design_of d)) tree) (c.in_ok-body.ensures.shown tree at) in
    let A : List CalComp → Type 0 = All (ComponentHasNumbers after) in
    let e = c.design-design.result.now in
    let within_e : n < length e.comps.items = omega (arith, c.len-number-end.ensures, e.comps.ok.0) in
    let at_e : slice_get (design_of e) n ≡ Some (component_tree e.names c.index.result.now) = at_mapped (component_tree e.names) e.comps.items e.comps.items n c.index.result.now refl within_e c.index.ensures in
    let is_tree : component_tree e.names c.index.result.now ≡ tree = same_Some _ tree (sym at_e ∙ ap (λ (f : FilDesign). slice_get (design_of f) n) c.design-design.ensures.same ∙ at) in
    let R : FilDesign → Type 0 = λ f. (m : ℕ) (c : Component) → slice_get (design_of f) m ≡ Some c → ¬ Contains (component_names (take m (design_of f))) c.name in
    let rules = subst R c.design-design.ensures.same (λ m k there. (c.design-design.ensures.rules.keeps m k there 0 TheSignature refl 0 F1 (omega arith)).new) in
    let N : List Text → Type 0 = λ ts. ¬ Contains ts (component_tree e.names c.index.result.now).name in
    let absent = subst N (sym inv.known) (subst (λ (k : Component). ¬ Contains (component_names (take n (design_of d))) k.name) (sym is_tree) (rules n tree at)) in
    let numbers : All (ComponentHasNumbers after) comps =
    λ j none below.
    let x = get_or comps j none in
    let under : j < length (design_of d) = omega (arith, inv.count, within, below) in
    let (t, at_t) = some_at (design_of d) j under in
    numbers_kept before after keeps (take j (design_of d)) t x (inv.numbers j none below) (inv.lowered j t x at_t (some_read comps j none below)) in
    record {
      kept = KeepsTexts-trans d.names before after inv.kept keeps;
      known =
          c.in_ok-add_component_name.ensures absent ∙ ap (λ ts. ts ++ (component_tree e.names c.index.result.now).name ∷ []) inv.known
          ∙ ap (λ (k : Component). component_names (take n (design_of d)) ++ k.name ∷ []) is_tree
          ∙ sym (ap component_names (take_next (design_of d) n tree at) ∙ map-append (λ (k : Component). k.name) (take n (design_of d)) (tree ∷ []));
      count = omega (arith, ap (length {A = CalComp}) c.in_ok-push.ensures.items, length-append comps (low ∷ []), inv.count);
      numbers = subst A (sym c.in_ok-push.ensures.items) (All-push (ComponentHasNumbers after) comps low numbers c.in_ok-lower_component.ensures.numbers);
      lowered = λ m k made at_m at_made.
          let at_more : slice_get (comps ++ low ∷ []) m ≡ Some made = ap (λ (xs : List CalComp). slice_get xs m) (sym c.in_ok-push.ensures.items) ∙ at_made in
          elim (one_more comps low m made at_more) [
            | inl there ↦ lowered_kept before after keeps (take m (design_of d)) k made (All-at (ComponentHasNumbers before) comps m made there inv.numbers) (inv.lowered m k made at_m there)
            | inr last ↦
                let is_n : n ≡ m = omega (arith, last.0, inv.count) in
                let is_k : tree ≡ k = same_Some tree k (sym at ∙ ap (slice_get (design_of d)) is_n ∙ at_m) in
                let P : ℕ → Component → CalComp → Type 0 = λ m k low. IsLoweredTo (take m (design_of d)) k (calyx.component_tree after low) in
                subst (λ m. P m k made) is_n (subst (λ k. P n k made) is_k (subst (P n tree) last.1 lowered))
          ];
    }

pub returns-clause-lowers : goal.returns-clause-lowers
returns-clause-lowers c plain =
    let d = c.args.ok.now in
    let same = ap (λ (e : FilDesign). length e.comps.items) c.design-design.ensures.same in
    let names = c.loop-number.names in
    let comps = c.loop-number.comps.items in
    let inv = c.loop-number.invariant in
    let rules = subst (λ (e : FilDesign). FilRules (design_of e)) c.design-design.ensures.same c.design-design.ensures.rules in
    lowering_lowers (design_of d) rules (map (calyx.component_tree names) comps)
    (record {
      count = omega (arith, length-map comps (calyx.component_tree names), length-map d.comps.items (component_tree d.names), inv.count, same, c.loop-number-test.false, c.loop-number.auto.number-end, c.len-number-end.ensures, c.design-design.result.now.comps.ok.0);
      components = λ n k low at_k at_low.
          let (x, at_x, is) = mapped_at (calyx.component_tree names) comps n low at_low in
          subst (IsLoweredTo (take n (design_of d)) k) is (inv.lowered n k x at_k at_x);
    }) plain
