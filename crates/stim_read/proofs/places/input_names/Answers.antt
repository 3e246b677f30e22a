use Rattle.std.proofs.Common.{◌<◌, length, Ok, ap, arith}
use Rattle.net_core.specs.declared.stimulus.InputShape.{InputShape}
use Rattle.stim_read.proofs.PlaceLemmas.{clash, named}
use Rattle.stim_read.proofs.places.input_names.Goals as goal

pub prove-unreachable-requires : goal.prove-unreachable-requires
prove-unreachable-requires c =
    let within : c.loop-port.port-index < length c.args.ins.now = omega arith in
    clash (λ (x : InputShape). x.name) c.args.ins.now c.loop-port.port-index c.port-item.result c.bytes.result.now c.loop-port.names c.requires within c.port-item.is c.bytes.ensures c.loop-port.invariant (c.in_ok-new.ensures.there (ap Ok c.if-prove.true)).0

pub loop-port-preserved : goal.loop-port-preserved
loop-port-preserved c =
    let within : c.loop-port.port-index < length c.args.ins.now = omega arith in
    named (λ (x : InputShape). x.name) c.args.ins.now c.loop-port.port-index c.port-item.result c.bytes.result.now c.loop-port.names c.add_name.new.names within c.port-item.is c.bytes.ensures c.loop-port.invariant (c.in_ok-new.ensures.new (ap Ok c.if-prove.false)).1
