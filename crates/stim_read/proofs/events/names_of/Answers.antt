use Rattle.std.proofs.Common.{◌<◌, length, Ok, ap, arith}
use Rattle.fil_sig.specs.declared.time_sig.SigEvent.{SigEvent}
use Rattle.stim_read.proofs.PlaceLemmas.{clash, named}
use Rattle.stim_read.proofs.events.names_of.Goals as goal

pub prove-unreachable-requires : goal.prove-unreachable-requires
prove-unreachable-requires c =
    let within : c.loop-event.event-index < length c.args.events.now = omega arith in
    clash (λ (x : SigEvent). x.name) c.args.events.now c.loop-event.event-index c.event-item.result c.bytes.result.now c.loop-event.names c.requires within c.event-item.is c.bytes.ensures c.loop-event.invariant (c.in_ok-new.ensures.there (ap Ok c.if-prove.true)).0

pub loop-event-preserved : goal.loop-event-preserved
loop-event-preserved c =
    let within : c.loop-event.event-index < length c.args.events.now = omega arith in
    named (λ (x : SigEvent). x.name) c.args.events.now c.loop-event.event-index c.event-item.result c.bytes.result.now c.loop-event.names c.add_name.new.names within c.event-item.is c.bytes.ensures c.loop-event.invariant (c.in_ok-new.ensures.new (ap Ok c.if-prove.false)).1
