use Rattle.std.proofs.Common.{◌≡◌, List, ◌++◌, length, map, take, subst, arith}
use Rattle.std.proofs.Math.Seq.{take-length}
use Rattle.fil_ast.specs.Timeline.{Interval}
use Rattle.fil_sig.specs.Seen.{seen_port}
use Rattle.fil_sig.specs.declared.time_sig.SigPort.{SigPort}
use Rattle.fil_check.specs.inside.Weights.{IsAsked, needs_for}
use Rattle.fil_check.proofs.WeightLemmas.{needs_more}
use Rattle.fil_check.proofs.weight.Asked.need_inputs.Goals as goal

pub loop-port-preserved : goal.loop-port-preserved
loop-port-preserved c events needs times gives distinct are asked =
    let ins = c.args.ins.now in
    let i = c.loop-port.port-index in
    let A : List Interval → Type 0 = λ ns. IsAsked events ns times c.need_input.new.self in
    subst A (needs_more needs gives ins i c.port-item.result c.loop-port-test.true c.port-item.is)
    (c.need_input.ensures events (needs ++ needs_for gives (map seen_port (take i ins))) times gives distinct are (c.loop-port.invariant events needs times gives distinct are asked))

pub returns : goal.returns
returns c events needs times gives distinct are asked =
    let ins = c.args.ins.now in
    let A : List SigPort → Type 0 = λ ps. IsAsked events (needs ++ needs_for gives (map seen_port ps)) times c.loop-port.self in
    let end : c.loop-port.port-index ≡ length ins = omega arith in
    subst A (take-length ins) (subst (λ k. A (take k ins)) end (c.loop-port.invariant events needs times gives distinct are asked))
