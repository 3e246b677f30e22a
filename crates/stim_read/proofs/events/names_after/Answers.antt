use Rattle.std.proofs.Common.{◌≡◌, ◌<◌, length, Ok, ap, arith}
use Rattle.stim_read.proofs.TxEventLemmas.{names_clash}
use Rattle.stim_read.proofs.events.names_after.Goals as goal

pub prove-unreachable-requires : goal.prove-unreachable-requires
prove-unreachable-requires c =
    let within : c.loop-port.port-index < length c.args.ins.now = omega arith in
    let same : c.port-item.result.from.event ≡ c.args.event = cc in
    names_clash c.args.event c.args.ins.now c.loop-port.port-index c.port-item.result c.loop-port.names c.bytes.result.now c.requires within c.port-item.is same c.bytes.ensures c.loop-port.invariant
    (c.in_ok-new.ensures.there (ap Ok c.if-prove.true)).0
