use Rattle.std.proofs.Common.{◌≡◌, List, Some, None, Contains, length, slice_get, ℕ, ap, sym, subst, ◌∙◌}
use Rattle.std.specs.Prelude.{IsSome}
use Rattle.std.proofs.lemmas.Option.{slice_get_within}
use Rattle.hw_names.specs.Name.{Text, KeepsTexts}
use Rattle.cal_wires.specs.Nodes.{APort, IsFit, PortList, node_in, pin_text, port_by, key_of}
use Rattle.cal_wires.proofs.PortLemmas.{cells_fit, key_names, pin_there, search_found, search_present}
use Rattle.cal_wires.proofs.ports.Ports.find.Goals.{After-get_index_of}
use Rattle.cal_wires.proofs.ports.Ports.find.Goals as goal

none : IsSome {T = ℕ} None → ⊥
none some = cc

pub returns-in_err-pin-clause-present : goal.returns-in_err-pin-clause-present
returns-in_err-pin-clause-present c =
    let names : c.self.inside.texts.names ≡ c.args.self.now.names = ap (λ (v : PortList). v.names) c.self.view_is in
    let p = port_by c.args.self.now.names c.args.port in
    rw c.from_residual.ensures (
      λ some. absurd (none some),
      λ has.
          let there = subst (λ (l : List Text). Contains l (key_of (APort p))) (sym (ap (λ (v : PortList). v.keys) c.self.view_is)) has in
          let pin = pin_there c.self.inside.texts.all c.self.inside.set.keys c.self.invariant.0 p there in
          absurd (c.in_err-pin.ensures.none (subst (λ (ns : List Text). Contains c.self.inside.texts.all (pin_text ns c.args.port.pin)) (sym names) pin)),
    )

same_names : (c : After-get_index_of) → c.self.inside.texts.names ≡ c.args.self.now.names
same_names c = ap (λ (v : PortList). v.names) c.self.view_is

begin : (c : After-get_index_of) → KeepsTexts c.args.self.now.names c.self.inside.texts.all
begin c i text at = c.begin_with_names.ensures i text (ap (λ (names : List Text). slice_get names i) (same_names c) ∙ at)

pin_at : (c : After-get_index_of) → slice_get c.self.inside.texts.all c.in_ok-pin.pin ≡ Some (pin_text c.args.self.now.names c.args.port.pin)
pin_at c = c.in_ok-pin.ensures.some ∙ ap (λ (names : List Text). Some (pin_text names c.args.port.pin)) (same_names c)

is_node : (c : After-get_index_of) → node_in c.self.inside.texts.all c.key_by.result ≡ APort (port_by c.args.self.now.names c.args.port)
is_node c = c.key_by.ensures.node c.self.inside.texts.all ∙ key_names c.args.self.now.names c.self.inside.texts.all c.args.port c.in_ok-pin.pin (begin c) c.requires (pin_at c)

fits : (c : After-get_index_of) → IsFit (length c.self.inside.texts.all) c.key_by.result
fits c =
    let all = c.self.inside.texts.all in
    c.key_by.ensures.fit (length all) (cells_fit c.args.self.now.names all c.args.port.cell (begin c) c.requires.0) (slice_get_within all c.in_ok-pin.pin _ (pin_at c))

pub returns-clause-found : goal.returns-clause-found
returns-clause-found c =
    search_found c.self.inside.texts.all c.self.inside.set.keys c.args.self.now.keys (ap (λ (v : PortList). v.keys) c.self.view_is) c.key_by.result (APort (port_by c.args.self.now.names c.args.port)) (is_node c) c.get_index_of.result c.get_index_of.ensures.index

pub returns-clause-present : goal.returns-clause-present
returns-clause-present c =
    search_present c.self.inside.texts.all c.self.inside.set.keys c.args.self.now.keys (ap (λ (v : PortList). v.keys) c.self.view_is) c.key_by.result (APort (port_by c.args.self.now.names c.args.port)) (is_node c) c.are_distinct.ensures c.self.invariant.0 (fits c)
    c.get_index_of.result c.get_index_of.ensures.index c.get_index_of.ensures.found
