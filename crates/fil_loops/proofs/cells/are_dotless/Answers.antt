use Rattle.std.proofs.Common.{◌≤◌, length, subst, arith}
use Rattle.std.specs.Prelude.{All}
use Rattle.std.proofs.lemmas.List.{take_all}
use Rattle.hw_names.specs.Name.{HasNoDot}
use Rattle.fil_loops.proofs.PortNumberLemmas.{dotless_next, no_dot_told}
use Rattle.fil_loops.proofs.cells.are_dotless.Goals as goal

pub loop-instance-preserved : goal.loop-instance-preserved
loop-instance-preserved c =
    let name = c.instance_name.result.now in
    dotless_next c.args.ports.now.instances c.loop-instance.instance name c.instance_name.ensures (no_dot_told name c.contains.result c.contains.ensures.value c.if-contains.false) c.loop-instance.invariant

pub returns : goal.returns
returns c dotless =
    let instances = c.args.ports.now.instances in
    let past : length instances ≤ c.loop-instance.instance = omega (arith, c.loop-instance-test.false, c.instances-instance-end.ensures.count) in
    subst (All HasNoDot) (take_all c.loop-instance.instance instances past) c.loop-instance.invariant
