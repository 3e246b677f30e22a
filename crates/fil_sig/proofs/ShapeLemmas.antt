-- What F3 and F5 say of a component, part by part.
use Rattle.std.proofs.Common.{◌≡◌, ℕ, ◌≤◌, List, map, All, sym, subst}
use Rattle.std.proofs.lemmas.List.{length-map}
use Rattle.std.proofs.lemmas.Simd.{map-map}
use Rattle.hw_names.specs.Name.{Text, AreDistinct}
use Rattle.fil_ast.specs.Tree.{Event, Interface, DataPort, component_tree, event_tree, interface_tree, port_tree}
use Rattle.fil_ast.specs.Typing.{HasShape, HasWidths, IsInterval, IsWidth}
use Rattle.fil_ast.specs.declared.tree.FilComp.{FilComp}
use Rattle.fil_ast.specs.declared.tree.FilPort.{FilPort}
use Rattle.fil_sig.specs.inside.Shape.{event_of, HasPlainShape, HasIntervals}
use Rattle.fil_sig.proofs.ListLemmas.{All-mapped, All-unmap}

abbrev WidePort : DataPort → Type 0
WidePort p = IsWidth p.width

module _ (names : List Text) (c : FilComp) where
  pub widths_made : All (λ (p : FilPort). IsWidth p.width) c.ins.items → All (λ (p : FilPort). IsWidth p.width) c.outs.items → HasWidths (component_tree names c)
  widths_made ins outs = record {
    ins = All-mapped WidePort (port_tree names) c.ins.items ins;
    outs = All-mapped WidePort (port_tree names) c.outs.items outs;
  }

  pub wide_ins : HasWidths (component_tree names c) → All (λ (p : FilPort). IsWidth p.width) c.ins.items
  wide_ins h = All-unmap WidePort (port_tree names) c.ins.items h.ins

  pub wide_outs : HasWidths (component_tree names c) → All (λ (p : FilPort). IsWidth p.width) c.outs.items
  wide_outs h = All-unmap WidePort (port_tree names) c.outs.items h.outs

  same_events : map (λ (g : Interface). g.event) (map (interface_tree names) c.gos.items) ≡ map (event_of names) c.gos.items
  same_events = map-map (λ (g : Interface). g.event) (interface_tree names) c.gos.items

  pub shape_made : HasPlainShape c → HasIntervals names c → AreDistinct (map (event_of names) c.gos.items) → HasShape (component_tree names c)
  shape_made plain intervals apart = record {
    few = subst (λ (n : ℕ). n ≤ 16) (sym (length-map c.events.items (event_tree names))) plain.few;
    delays = All-mapped (λ (e : Event). 1 ≤ e.delay) (event_tree names) c.events.items plain.delays;
    one_interface = (let D : List Text → Type 0 = AreDistinct in subst D (sym same_events) apart);
    one_bit = All-mapped (λ (g : Interface). g.width ≡ 1) (interface_tree names) c.gos.items plain.one_bit;
    ins = All-mapped IsInterval (port_tree names) c.ins.items intervals.0;
    outs = All-mapped IsInterval (port_tree names) c.outs.items intervals.1;
  }

  pub plain_of : HasShape (component_tree names c) → HasPlainShape c
  plain_of h = record {
    few = subst (λ (n : ℕ). n ≤ 16) (length-map c.events.items (event_tree names)) h.few;
    delays = All-unmap (λ (e : Event). 1 ≤ e.delay) (event_tree names) c.events.items h.delays;
    one_bit = All-unmap (λ (g : Interface). g.width ≡ 1) (interface_tree names) c.gos.items h.one_bit;
  }

  pub intervals_of : HasShape (component_tree names c) → HasIntervals names c
  intervals_of h = (All-unmap IsInterval (port_tree names) c.ins.items h.ins, All-unmap IsInterval (port_tree names) c.outs.items h.outs)

  pub apart_of : HasShape (component_tree names c) → AreDistinct (map (event_of names) c.gos.items)
  apart_of h = let D : List Text → Type 0 = AreDistinct in subst D same_events h.one_interface
