use Rattle.std.proofs.Common.{[], ◌∷◌, ◌++◌, Ok, ap, sym, ◌∙◌, false, true}
use Rattle.hw_names.proofs.NameLemmas.{text_of-slice_get}
use Rattle.net_core.specs.Netlist.{pin_of}
use Rattle.net_core.specs.PortList.{port_line}
use Rattle.net_core.proofs.LineLemmas.{own_taken, own_wide, own_good, is_width-from_found, width-from_found}
use Rattle.net_core.proofs.pins.take_pin.Goals as goal

pub returns-then-not-branch-clause-judged : goal.returns-then-not-branch-clause-judged
returns-then-not-branch-clause-judged c all cells =
    let named = text_of-slice_get c.args.names.now c.args.pin.name c.text.result.now c.text.ensures in
    let taken = sym c.in_ok-add.ensures.new ∙ c.if-not-branch.true in
    own_taken all c.args.ports.now cells c.args.item c.args.side (pin_of c.args.names.now c.args.pin) c.text.result.now named taken

pub returns-then-is_none-clause-judged : goal.returns-then-is_none-clause-judged
returns-then-is_none-clause-judged c all cells =
    let named = text_of-slice_get c.args.names.now c.args.pin.name c.text.result.now c.text.ensures in
    let new = sym c.in_ok-add.ensures.new ∙ c.if-not-branch.false in
    let wide = is_width-from_found c.args.pin.width c.width_of-width.result false c.width_of-width.ensures c.if-is_none.ensures in
    own_wide all c.args.ports.now cells c.args.item c.args.side (pin_of c.args.names.now c.args.pin) c.text.result.now named new wide

pub returns-clause-judged : goal.returns-clause-judged
returns-clause-judged c all cells =
    let named = text_of-slice_get c.args.names.now c.args.pin.name c.text.result.now c.text.ensures in
    let new = sym c.in_ok-add.ensures.new ∙ c.if-not-branch.false in
    let narrow = is_width-from_found c.args.pin.width c.width_of-width.result true c.width_of-width.ensures c.if-is_none.ensures in
    own_good all c.args.ports.now cells c.args.item c.args.side (pin_of c.args.names.now c.args.pin) c.text.result.now named new narrow

pub returns-clause-added : goal.returns-clause-added
returns-clause-added c =
    let named = text_of-slice_get c.args.names.now c.args.pin.name c.text.result.now c.text.ensures in
    let narrow = is_width-from_found c.args.pin.width c.width_of-width.result true c.width_of-width.ensures c.if-is_none.ensures in
    let wide_as = width-from_found c.args.pin.width c.width_of-width.result c.width_of-width.ensures narrow ∙ sym c.unwrap_or.ensures in
    c.in_ok-add.ensures.added (ap Ok c.if-not-branch.false)
    ∙ ap (λ name. c.args.ports.now ++ port_line name c.port-port.result ∷ []) (sym named)
    ∙ ap (λ ports. c.args.ports.now ++ ports) (sym (c.port-port.ensures (pin_of c.args.names.now c.args.pin) wide_as))
