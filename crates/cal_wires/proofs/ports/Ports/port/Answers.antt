use Rattle.std.proofs.Common.{◌≡◌, inl, slice_get, List, Some, length, ap, ◌∙◌}
use Rattle.std.proofs.lemmas.Option.{slice_get_within}
use Rattle.std.proofs.lemmas.Result.{IfOk-weaker, on_ok_weaker}
use Rattle.hw_names.specs.Name.{Text, KeepsTexts}
use Rattle.cal_wires.specs.Nodes.{APort, IsFit, PortList, node_in, pin_text, port_by}
use Rattle.cal_wires.proofs.PortLemmas.{all_fit_kept, cells_fit, fit_grown, key_names, seen_at, seen_grown, seen_more, seen_same, seen_there}
use Rattle.cal_wires.proofs.ports.Ports.port.Goals.{After-place_of}
use Rattle.cal_wires.proofs.ports.Ports.port.Goals as goal

pub invariant_of-self : goal.invariant_of-self
invariant_of-self c = (all_fit_kept c.self.inside.texts.all c.number_of.new.texts.all c.number_of.ensures.kept c.self.inside.set.keys c.self.invariant.0, c.self.invariant.1, c.self.invariant.2)

pub returns-in_err-pin-clause-grown : goal.returns-in_err-pin-clause-grown
returns-in_err-pin-clause-grown c =
    inl (seen_same c.self.inside.texts.all _ c.number_of.ensures.kept c.self.inside.set.keys c.self.invariant.0 c.args.self.now.keys (ap (λ (v : PortList). v.keys) c.self.view_is))

same_names : (c : After-place_of) → c.self.inside.texts.names ≡ c.args.self.now.names
same_names c = ap (λ (v : PortList). v.names) c.self.view_is

begin : (c : After-place_of) → KeepsTexts c.args.self.now.names c.number_of.new.texts.all
begin c i text at = c.number_of.ensures.kept i text (c.begin_with_names.ensures i text (ap (λ (names : List Text). slice_get names i) (same_names c) ∙ at))

pin_at : (c : After-place_of) → slice_get c.number_of.new.texts.all c.in_ok-pin.pin ≡ Some (pin_text c.args.self.now.names c.args.port.pin)
pin_at c = c.in_ok-pin.ensures.number ∙ ap (λ (names : List Text). Some (pin_text names c.args.port.pin)) (same_names c)

is_node : (c : After-place_of) → node_in c.number_of.new.texts.all c.key_by.result ≡ APort (port_by c.args.self.now.names c.args.port)
is_node c = c.key_by.ensures.node c.number_of.new.texts.all ∙ key_names c.args.self.now.names c.number_of.new.texts.all c.args.port c.in_ok-pin.pin (begin c) c.requires (pin_at c)

fits : (c : After-place_of) → IsFit (length c.number_of.new.texts.all) c.key_by.result
fits c =
    let all = c.number_of.new.texts.all in
    c.key_by.ensures.fit (length all) (cells_fit c.args.self.now.names all c.args.port.cell (begin c) c.requires.0) (slice_get_within all c.in_ok-pin.pin _ (pin_at c))

pub invariant_of-self-2 : goal.invariant_of-self-2
invariant_of-self-2 c =
    let r : After-place_of = (goal.at.invariant_of-self-2 c).After-place_of in
    let old = r.self.inside.texts.all in
    let all = r.number_of.new.texts.all in
    let keys = r.self.inside.set.keys in (
      fit_grown (length all) keys r.place_of.new.set.keys r.key_by.result r.place_of.ensures.grown (all_fit_kept old all r.number_of.ensures.kept keys r.self.invariant.0) (fits r),
      r.place_of.ensures.different r.self.invariant.1,
      r.place_of.ensures.small r.self.invariant.2,
    )

pub returns-clause-number : goal.returns-clause-number
returns-clause-number c =
    IfOk-weaker c.place_of.result _ _
    (λ n at. seen_at c.self.inside.texts.all _ c.number_of.ensures.kept c.self.inside.set.keys c.self.invariant.0 c.args.self.now.keys (ap (λ (v : PortList). v.keys) c.self.view_is) c.place_of.new.set.keys c.key_by.result (APort (port_by c.args.self.now.names c.args.port)) (is_node c) n at)
    c.place_of.ensures.place

pub returns-clause-grown : goal.returns-clause-grown
returns-clause-grown c =
    seen_grown c.self.inside.texts.all _ c.number_of.ensures.kept c.self.inside.set.keys c.self.invariant.0 c.args.self.now.keys (ap (λ (v : PortList). v.keys) c.self.view_is) c.place_of.new.set.keys c.key_by.result (APort (port_by c.args.self.now.names c.args.port)) (is_node c) c.place_of.ensures.grown

pub returns-clause-added : goal.returns-clause-added
returns-clause-added c absent =
    let there = seen_there c.self.inside.texts.all c.number_of.new.texts.all c.number_of.ensures.kept c.self.inside.set.keys c.self.invariant.0 c.args.self.now.keys (ap (λ (v : PortList). v.keys) c.self.view_is) c.place_of.new.set.keys c.key_by.result (APort (port_by c.args.self.now.names c.args.port)) (is_node c) in
    on_ok_weaker c.place_of.result
    (λ e. seen_more c.self.inside.texts.all _ c.number_of.ensures.kept c.self.inside.set.keys c.self.invariant.0 c.args.self.now.keys (ap (λ (v : PortList). v.keys) c.self.view_is) c.place_of.new.set.keys c.key_by.result (APort (port_by c.args.self.now.names c.args.port)) (is_node c) e)
    (c.place_of.ensures.added (λ has. absent (there has)))
