use Rattle.std.proofs.Common.{List, arith, subst}
use Rattle.hw_bits.specs.declared.bits.Bits.{Bits}
use Rattle.fil_flow.specs.inside.Frames.{AreFrom}
use Rattle.fil_flow.proofs.FrameLemmas.{goes_on_value, goes_on_stands, done_widths}
use Rattle.fil_flow.proofs.machine.finish.Goals as goal

pub returns-in-Some-clause-values : goal.returns-in-Some-clause-values
returns-in-Some-clause-values c =
    let next = c.in_ok-with_outputs-in-Some in
    goes_on_value c.args.waiting.now.items c.pop.new.self.items c.in-Some.frame next.field-0 c.args.done.values.items c.args.done.outs.now next.ensures.values.0
    c.in-Some.ensures.items next.ensures.calls next.ensures.outs next.ensures.values.1 next.ensures.values.2

pub returns-in-Some-clause-widths : goal.returns-in-Some-clause-widths
returns-in-Some-clause-widths c =
    let next = c.in_ok-with_outputs-in-Some in
    goes_on_stands c.args.waiting.now.items c.pop.new.self.items c.in-Some.frame next.field-0 c.args.done.values.items c.args.done.outs.now next.ensures.values.0
    c.in-Some.ensures.items next.ensures.calls next.ensures.outs next.ensures.values.1 next.ensures.values.2

pub returns-clause-widths : goal.returns-clause-widths
returns-clause-widths c shapes outs wanted =
    let found = c.in_ok-values_at-in-None in
    let from = subst (λ (places : List Bits). AreFrom places c.args.done.outs.now found.field-0.items) c.deref.ensures.value found.ensures in
    done_widths shapes c.args.waiting.now.items c.args.done.values.items c.args.done.outs.now found.field-0.items outs wanted
    (omega (arith, c.in-None.ensures.cases, c.args.waiting.now.ok)) from
