-- What a component that keeps the rules keeps at its signature, and the components with one more.
use Rattle.std.proofs.Common.{◌≡◌, ◌≢◌, ℕ, ◌≤◌, List, [], ◌∷◌, ◌++◌, length, map, refl, sym, ap₂, subst, ◌∙◌, arith}
use Rattle.std.proofs.lemmas.List.{length-map, map-append}
use Rattle.std.proofs.lemmas.List.Elements.{All-map}
use Rattle.std.proofs.lemmas.Simd.{map-map}
use Rattle.hw_names.specs.Name.{Text, AreDistinct}
use Rattle.fil_ast.specs.Items.{TheSignature}
use Rattle.fil_ast.specs.Limits.{KeepsLimits}
use Rattle.fil_ast.specs.Naming.{HasNewNames, component_names}
use Rattle.fil_ast.specs.Rules.{F1, KeepsComponent, all_rules}
use Rattle.fil_ast.specs.Signature.{SigPort, Signature, component_signature, sig_event, sig_port}
use Rattle.fil_ast.specs.Tree.{Event, Interface, DataPort, Component, Design, component_tree, event_tree, port_tree}
use Rattle.fil_ast.specs.Typing.{HasWidths, HasShape}
use Rattle.fil_ast.specs.declared.tree.FilComp.{FilComp}
use Rattle.fil_place.specs.Callees.{HasGoodDelay, HasSmallInterval, HasGoodTimes}
use Rattle.fil_place.specs.Outputs.{output_names}
use Rattle.fil_sig.proofs.ListLemmas.{All-unmap}
use Rattle.fil_place.proofs.GeneralLemmas.{pairs_back}

-- what a component that keeps the rules keeps at its signature
module _ (comps : Design) (c : Component) (keeps : KeepsComponent all_rules comps c) where
  pub new_names : HasNewNames comps c
  new_names = keeps 0 TheSignature refl 0 F1 (omega arith)

  pub widths : HasWidths c
  widths = keeps 0 TheSignature refl 2 F1 (omega arith)

  pub shape : HasShape c
  shape = keeps 0 TheSignature refl 4 F1 (omega arith)

-- its outputs have different names
pub outputs_differ : (comps : Design) (c : Component) → KeepsComponent all_rules comps c → AreDistinct (output_names (component_signature c))
outputs_differ comps c keeps =
    let D : List Text → Type 0 = AreDistinct in
    let before = map (λ (g : Interface). g.name) c.interfaces ++ map (λ (p : DataPort). p.name) c.ins in
    subst D (sym (map-map (λ (p : SigPort). p.name) (sig_port c.events) c.outs))
    (pairs_back (λ (a b : Text). a ≢ b) before (map (λ (p : DataPort). p.name) c.outs) (new_names comps c keeps).ports)

pub few_events : (names : List Text) (comp : FilComp) → HasShape (component_tree names comp) → length comp.events.items ≤ 16
few_events names comp shape = subst (λ (n : ℕ). n ≤ 16) (length-map comp.events.items (event_tree names)) shape.few

-- the names and the signatures with one more component
pub names_more : (comps : Design) (c : Component) (old new : List Text) (name : Text) → old ≡ component_names comps → c.name ≡ name → new ≡ old ++ name ∷ [] → new ≡ component_names (comps ++ c ∷ [])
names_more comps c old new name was named added =
    added ∙ ap₂ (λ ts t. ts ++ t ∷ []) was (sym named) ∙ sym (map-append (λ (d : Component). d.name) comps (c ∷ []))

pub callees_more : (comps : Design) (c : Component) (old new : List Signature) (sig : Signature) → old ≡ map component_signature comps → sig ≡ component_signature c → new ≡ old ++ sig ∷ [] → new ≡ map component_signature (comps ++ c ∷ [])
callees_more comps c old new sig was is added =
    added ∙ ap₂ (λ sigs s. sigs ++ s ∷ []) was is ∙ sym (map-append component_signature comps (c ∷ []))

-- the delays and offsets of a component that keeps F5 and the limits are those of a callee
pub good_times : (names : List Text) (comp : FilComp) → KeepsLimits comp → HasShape (component_tree names comp) → HasGoodTimes (component_signature (component_tree names comp))
good_times names comp small shape =
    let tree = component_tree names comp in
    let held = All-unmap (λ (e : Event). 1 ≤ e.delay) (event_tree names) comp.events.items shape.delays in
    record {
      delays = All-map HasGoodDelay (sig_event tree.interfaces) tree.events
          (All-map (λ (e : Event). HasGoodDelay (sig_event tree.interfaces e)) (event_tree names) comp.events.items (λ k d within. (held k d within, small.events k d within)));
      ins = All-map HasSmallInterval (sig_port tree.events) tree.ins
          (All-map (λ (p : DataPort). HasSmallInterval (sig_port tree.events p)) (port_tree names) comp.ins.items (λ k d within. small.ins k d within));
      outs = All-map HasSmallInterval (sig_port tree.events) tree.outs
          (All-map (λ (p : DataPort). HasSmallInterval (sig_port tree.events p)) (port_tree names) comp.outs.items (λ k d within. small.outs k d within));
    }
