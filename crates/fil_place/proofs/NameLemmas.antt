-- The names that a signature declares and uses, by their numbers and by their texts.
use Rattle.std.proofs.Common.{◌≡◌, ◌+◌, ◌<◌, List, ◌++◌, length, map, All, sym, ap, ap₂, subst, ◌∙◌, length-append, arith}
use Rattle.std.proofs.lemmas.List.{get_or_append_left, get_or-append-add, map-append}
use Rattle.std.proofs.lemmas.List.Elements.{All-append}
use Rattle.std.proofs.lemmas.Simd.{map-map}
use Rattle.hw_names.specs.Name.{Text, text_of}
use Rattle.hw_names.specs.declared.names.NameId.{NameId}
use Rattle.fil_ast.specs.Naming.{NamesEvent, NamesEvents, event_names, port_names}
use Rattle.fil_ast.specs.Numbers.{IsNumberOf, PortHasNumbers, ComponentHasNumbers}
use Rattle.fil_ast.specs.Tree.{Event, Interface, DataPort, component_tree, event_tree, interface_tree, port_tree}
use Rattle.fil_ast.specs.declared.tree.EventDef.{EventDef}
use Rattle.fil_ast.specs.declared.tree.FilComp.{FilComp}
use Rattle.fil_ast.specs.declared.tree.FilPort.{FilPort}
use Rattle.fil_ast.specs.declared.tree.GoPort.{GoPort}
use Rattle.fil_sig.proofs.ListLemmas.{All-mapped, All-unmap}
use Rattle.fil_place.specs.SignatureNames.{event_ids, port_ids, time_ids, used_event_ids}

All-front : {X : Type 0} (P : X → Type 0) (xs ys : List X) → All P (xs ++ ys) → All P xs
All-front P xs ys all k d below =
    let there : k < length (xs ++ ys) = omega (arith, length-append xs ys) in
    subst P (get_or_append_left xs ys d k below) (all k d there)

All-back : {X : Type 0} (P : X → Type 0) (xs ys : List X) → All P (xs ++ ys) → All P ys
All-back P xs ys all k d below =
    let there : length xs + k < length (xs ++ ys) = omega (arith, length-append xs ys) in
    subst P (get_or-append-add xs ys k d) (all (length xs + k) d there)

module _ (names : List Text) (c : FilComp) where
  pub event_texts : map (text_of names) (event_ids c) ≡ event_names (component_tree names c)
  event_texts = map-map (text_of names) (λ (e : EventDef). e.name) c.events.items ∙ sym (map-map (λ (e : Event). e.name) (event_tree names) c.events.items)

  go_texts : map (text_of names) (map (λ (g : GoPort). g.name) c.gos.items) ≡ map (λ (g : Interface). g.name) (map (interface_tree names) c.gos.items)
  go_texts = map-map (text_of names) (λ (g : GoPort). g.name) c.gos.items ∙ sym (map-map (λ (g : Interface). g.name) (interface_tree names) c.gos.items)

  data_texts : (ports : List FilPort) → map (text_of names) (map (λ (p : FilPort). p.name) ports) ≡ map (λ (p : DataPort). p.name) (map (port_tree names) ports)
  data_texts ports = map-map (text_of names) (λ (p : FilPort). p.name) ports ∙ sym (map-map (λ (p : DataPort). p.name) (port_tree names) ports)

  pub port_texts : map (text_of names) (port_ids c) ≡ port_names (component_tree names c)
  port_texts =
      let gos = map (λ (g : GoPort). g.name) c.gos.items in
      let ins = map (λ (p : FilPort). p.name) c.ins.items in
      let outs = map (λ (p : FilPort). p.name) c.outs.items in
      map-append (text_of names) (gos ++ ins) outs
      ∙ ap (λ ts. ts ++ map (text_of names) outs) (map-append (text_of names) gos ins)
      ∙ ap₂ ◌++◌ (ap₂ ◌++◌ go_texts (data_texts c.ins.items)) (data_texts c.outs.items)

  module _ (numbers : ComponentHasNumbers names c) where
    abbrev P : NameId → Type 0
    P id = IsNumberOf names id

    pub event_numbers : All (IsNumberOf names) (event_ids c)
    event_numbers = All-mapped P (λ (e : EventDef). e.name) c.events.items numbers.events

    pub port_numbers : All (IsNumberOf names) (port_ids c)
    port_numbers =
        All-append P _ _
        (All-append P _ _ (All-mapped P (λ (g : GoPort). g.name) c.gos.items (λ k d below. (numbers.interfaces k d below).1)) (All-mapped P (λ (p : FilPort). p.name) c.ins.items (λ k d below. (numbers.ins k d below).2)))
        (All-mapped P (λ (p : FilPort). p.name) c.outs.items (λ k d below. (numbers.outs k d below).2))

    times : (ports : List FilPort) → All (PortHasNumbers names) ports → All (IsNumberOf names) (time_ids ports)
    times ports all =
        All-append P (map (λ (p : FilPort). p.from.event) ports) (map (λ (p : FilPort). p.to.event) ports)
        (All-mapped P (λ (p : FilPort). p.from.event) ports (λ k d below. (all k d below).0))
        (All-mapped P (λ (p : FilPort). p.to.event) ports (λ k d below. (all k d below).1))

    pub used_numbers : All (IsNumberOf names) (used_event_ids c)
    used_numbers =
        let gos = map (λ (g : GoPort). g.event) c.gos.items in
        All-append P (gos ++ time_ids c.ins.items) (time_ids c.outs.items)
        (All-append P gos (time_ids c.ins.items) (All-mapped P (λ (g : GoPort). g.event) c.gos.items (λ k d below. (numbers.interfaces k d below).0)) (times c.ins.items numbers.ins))
        (times c.outs.items numbers.outs)

  -- the name is an event's
  abbrev pub IsEvent : NameId → Type 0
  IsEvent id = NamesEvent (component_tree names c) (text_of names id)

  abbrev HasEvents : DataPort → Type 0
  HasEvents p = NamesEvent (component_tree names c) p.from.event × NamesEvent (component_tree names c) p.to.event

  abbrev gos : List NameId
  gos = map (λ (g : GoPort). g.event) c.gos.items

  both : (ports : List FilPort) → All IsEvent (time_ids ports) → All HasEvents (map (port_tree names) ports)
  both ports all =
      let starts = map (λ (p : FilPort). p.from.event) ports in
      let ends = map (λ (p : FilPort). p.to.event) ports in
      let from = All-unmap IsEvent (λ (p : FilPort). p.from.event) ports (All-front IsEvent starts ends all) in
      let to = All-unmap IsEvent (λ (p : FilPort). p.to.event) ports (All-back IsEvent starts ends all) in
      All-mapped HasEvents (port_tree names) ports (λ k d below. (from k d below, to k d below))

  each : (ports : List FilPort) → All HasEvents (map (port_tree names) ports) → All IsEvent (time_ids ports)
  each ports all =
      let pairs = All-unmap HasEvents (port_tree names) ports all in
      All-append IsEvent (map (λ (p : FilPort). p.from.event) ports) (map (λ (p : FilPort). p.to.event) ports)
      (All-mapped IsEvent (λ (p : FilPort). p.from.event) ports (λ k d below. (pairs k d below).0))
      (All-mapped IsEvent (λ (p : FilPort). p.to.event) ports (λ k d below. (pairs k d below).1))

  abbrev OfEvent : Interface → Type 0
  OfEvent g = NamesEvent (component_tree names c) g.event

  pub events_named : All IsEvent (used_event_ids c) → NamesEvents (component_tree names c)
  events_named all =
      let ins = time_ids c.ins.items in
      let outs = time_ids c.outs.items in
      let front = All-front IsEvent (gos ++ ins) outs all in
      record {
        interfaces = All-mapped OfEvent (interface_tree names) c.gos.items (All-unmap IsEvent (λ (g : GoPort). g.event) c.gos.items (All-front IsEvent gos ins front));
        ins = both c.ins.items (All-back IsEvent gos ins front);
        outs = both c.outs.items (All-back IsEvent (gos ++ ins) outs all);
      }

  pub events_used : NamesEvents (component_tree names c) → All IsEvent (used_event_ids c)
  events_used h =
      All-append IsEvent (gos ++ time_ids c.ins.items) (time_ids c.outs.items)
      (All-append IsEvent gos (time_ids c.ins.items) (All-mapped IsEvent (λ (g : GoPort). g.event) c.gos.items (All-unmap OfEvent (interface_tree names) c.gos.items h.interfaces)) (each c.ins.items h.ins))
      (each c.outs.items h.outs)
