use Rattle.std.proofs.Common.{◌+◌, ◌++◌, []}
use Rattle.net_core.specs.Judging.{own_lines}
use Rattle.net_core.specs.declared.ports.Side.TheVariants.{In, Out, Wire}
use Rattle.net_core.proofs.JudgingLemmas.{tells_prefix}
use Rattle.net_core.proofs.LineLemmas.{own_more, own_broken, own_tells, begun_empty, none_are_own, own_lines_are_own}
use Rattle.net_core.proofs.rules.take_own.Goals as goal

pub returns-in_err-take_pins-clause-judged : goal.returns-in_err-take_pins-clause-judged
returns-in_err-take_pins-clause-judged c all =
    let net = c.args.net.now in
    let ins = own_lines In net.names net.ins.items in
    let outs = own_lines Out net.names net.outs.items in
    let wires = own_lines Wire net.names net.wires.items in
    let answer = c.from_residual.result in
    let is_err = c.from_residual.ensures.0 in
    let begun = begun_empty all c.args.ports.now c.requires.no_ports in
    tells_prefix answer all (ins ++ outs) wires is_err (tells_prefix answer all ins outs is_err
    (own_broken answer c.in_err-take_pins.field-0.0 all [] c.args.ports.now 1 In net.names net.ins.items c.deref.result.now c.from_residual.ensures.1 begun c.deref.ensures.value (c.in_err-take_pins.ensures.judged all [])))

pub returns-in_err-take_pins-2-clause-judged : goal.returns-in_err-take_pins-2-clause-judged
returns-in_err-take_pins-2-clause-judged c all =
    let net = c.args.net.now in
    let ins = own_lines In net.names net.ins.items in
    let outs = own_lines Out net.names net.outs.items in
    let wires = own_lines Wire net.names net.wires.items in
    let answer = c.from_residual-in_err-take_pins-2.result in
    let begun = begun_empty all c.args.ports.now c.requires.no_ports in
    let after_ins = own_more all [] c.args.ports.now c.take_pins.new.ports 1 c.len.result In net.names net.ins.items c.deref.result.now begun none_are_own c.deref.ensures.value (c.in_ok-take_pins.ensures.judged all []) c.in_ok-take_pins.ensures.added c.len.ensures.len in
    tells_prefix answer all (ins ++ outs) wires c.from_residual-in_err-take_pins-2.ensures.0
    (own_broken answer c.in_err-take_pins-2.field-0.0 all ins c.take_pins.new.ports (1 + c.len.result) Out net.names net.outs.items c.deref-2.result.now c.from_residual-in_err-take_pins-2.ensures.1 after_ins c.deref-2.ensures.value (c.in_err-take_pins-2.ensures.judged all []))

pub returns-clause-judged : goal.returns-clause-judged
returns-clause-judged c all =
    let net = c.args.net.now in
    let ins = own_lines In net.names net.ins.items in
    let outs = own_lines Out net.names net.outs.items in
    let answer = c.take_pins-3.result in
    let begun = begun_empty all c.args.ports.now c.requires.no_ports in
    let after_ins = own_more all [] c.args.ports.now c.take_pins.new.ports 1 c.len.result In net.names net.ins.items c.deref.result.now begun none_are_own c.deref.ensures.value (c.in_ok-take_pins.ensures.judged all []) c.in_ok-take_pins.ensures.added c.len.ensures.len in
    let after_outs = own_more all ins c.take_pins.new.ports c.take_pins-2.new.ports (1 + c.len.result) c.len-2.result Out net.names net.outs.items c.deref-2.result.now after_ins (own_lines_are_own In net.names net.ins.items) c.deref-2.ensures.value (c.in_ok-take_pins-2.ensures.judged all []) c.in_ok-take_pins-2.ensures.added c.len-2.ensures.len in
    own_tells answer all (ins ++ outs) c.take_pins-2.new.ports (1 + c.len-2.result) Wire net.names net.wires.items c.deref-3.result.now after_outs c.deref-3.ensures.value (c.take_pins-3.ensures.judged all [])
