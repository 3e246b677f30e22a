use Rattle.std.proofs.Common.{◌<◌, length, Ok, ap, arith}
use Rattle.net_core.specs.declared.stimulus.MemShape.{MemShape}
use Rattle.stim_read.proofs.PlaceLemmas.{clash, named}
use Rattle.stim_read.proofs.places.memory_names.Goals as goal

pub prove-unreachable-requires : goal.prove-unreachable-requires
prove-unreachable-requires c =
    let within : c.loop-shape.shape-index < length c.args.mems.now = omega arith in
    clash (λ (x : MemShape). x.name) c.args.mems.now c.loop-shape.shape-index c.shape-item.result c.bytes.result.now c.loop-shape.names c.requires within c.shape-item.is c.bytes.ensures c.loop-shape.invariant (c.in_ok-new.ensures.there (ap Ok c.if-prove.true)).0

pub loop-shape-preserved : goal.loop-shape-preserved
loop-shape-preserved c =
    let within : c.loop-shape.shape-index < length c.args.mems.now = omega arith in
    named (λ (x : MemShape). x.name) c.args.mems.now c.loop-shape.shape-index c.shape-item.result c.bytes.result.now c.loop-shape.names c.add_name.new.names within c.shape-item.is c.bytes.ensures c.loop-shape.invariant (c.in_ok-new.ensures.new (ap Ok c.if-prove.false)).1
