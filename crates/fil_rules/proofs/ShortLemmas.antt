-- F6, port by port.
use Rattle.std.proofs.Common.{◌≡◌, ℕ, ◌-◌, ◌≤◌, List, map, slice_get, Contains, None, Some, sym, ap, ◌∙◌, arith}
use Rattle.std.specs.List.{All}
use Rattle.hw_names.specs.Name.{Text, AreDistinct, text_of}
use Rattle.hw_names.proofs.NameLemmas.{Contains-slice_get}
use Rattle.std.proofs.lemmas.Option.{none-some, slice_get-get_or}
use Rattle.fil_ast.specs.Naming.{event_names}
use Rattle.fil_ast.specs.Timeline.{HasShortPorts, IsShort}
use Rattle.fil_ast.specs.Tree.{Event, component_tree, event_tree, port_tree}
use Rattle.fil_ast.specs.declared.tree.EventDef.{EventDef}
use Rattle.fil_ast.specs.declared.tree.FilComp.{FilComp}
use Rattle.fil_ast.specs.declared.tree.FilPort.{FilPort}
use Rattle.fil_sig.proofs.ListLemmas.{All-mapped, All-unmap}
use Rattle.fil_place.proofs.GeneralLemmas.{mapped_at}
use Rattle.fil_rules.proofs.HoldLemmas.{event_there, is_there, its_name, only_delay}

module _ (names : List Text) (comp : FilComp) where
  abbrev pub Short : FilPort → Type 0
  Short p = IsShort (component_tree names comp) (port_tree names p)

  pub short_ports : All Short comp.ins.items → All Short comp.outs.items → HasShortPorts (component_tree names comp)
  short_ports ins outs = record {
    ins = All-mapped (IsShort (component_tree names comp)) (port_tree names) comp.ins.items ins;
    outs = All-mapped (IsShort (component_tree names comp)) (port_tree names) comp.outs.items outs;
  }

  pub short_ins : HasShortPorts (component_tree names comp) → All Short comp.ins.items
  short_ins short = All-unmap (IsShort (component_tree names comp)) (port_tree names) comp.ins.items short.ins

  pub short_outs : HasShortPorts (component_tree names comp) → All Short comp.outs.items
  short_outs short = All-unmap (IsShort (component_tree names comp)) (port_tree names) comp.outs.items short.outs

  module _ (events : List Text) (are : events ≡ event_names (component_tree names comp)) (port : FilPort) (text : Text) (named : text_of names port.from.event ≡ text) where
    -- no event has the name
    pub short_unnamed : (Contains events text → ⊥) → Short port
    short_unnamed absent e (k, within, is) same =
        let at_k : slice_get (map (event_tree names) comp.events.items) k ≡ Some e = slice_get-get_or (map (event_tree names) comp.events.items) k e within ∙ ap Some is in
        let there = mapped_at (λ (e : Event). e.name) (map (event_tree names) comp.events.items) k e at_k in
        absurd (absent (Contains-slice_get events k text (ap (λ (ts : List Text). slice_get ts k) are ∙ there ∙ ap Some (same ∙ named))))

    module _ (n : ℕ) (at : slice_get events n ≡ Some text) where
      pub short_missing : slice_get comp.events.items n ≡ None → ⊥
      short_missing none = let e = event_there names comp events are n text at in none-some e.0 (sym none ∙ e.1)

      module _ (distinct : AreDistinct events) (d : EventDef) (here : slice_get comp.events.items n ≡ Some d) where
        pub is_short : port.to.plus - port.from.plus ≤ d.delay → Short port
        is_short within e there same = let delayed = only_delay names comp events are n text at distinct d here e there (same ∙ named) in omega arith

        pub short_within : Short port → port.to.plus - port.from.plus ≤ d.delay
        short_within short =
            short (event_tree names d) (is_there names comp events are n text at distinct d here) (its_name names comp events are n text at distinct d here ∙ sym named)
