use Rattle.hw_bits.specs.Values.{widths_of}
use Rattle.fil_flow.proofs.SourceLemmas.{readable}
use Rattle.fil_flow.proofs.machine.append_values.Goals as goal

pub value_at-requires : goal.value_at-requires
value_at-requires c =
    readable (widths_of c.args.values.now) c.args.sources.now c.requires.0 c.requires.1 c.loop-source.source-index c.source-item.result
    c.loop-source-test.true c.source-item.is
