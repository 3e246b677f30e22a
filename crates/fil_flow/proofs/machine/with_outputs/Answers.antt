use Rattle.std.proofs.Common.{List, subst}
use Rattle.hw_bits.specs.declared.bits.Bits.{Bits}
use Rattle.fil_flow.specs.inside.Frames.{AreFrom}
use Rattle.fil_flow.proofs.machine.with_outputs.Goals as goal

pub returns-clause-values : goal.returns-clause-values
returns-clause-values c =
    let added = c.in_ok-append_values.ensures in
    (added.0, added.1, subst (λ (places : List Bits). AreFrom places c.args.done.now.outs.now added.0) c.deref.ensures.value added.2)
