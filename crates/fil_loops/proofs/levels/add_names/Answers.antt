use Rattle.std.proofs.Common.{Ok, ap}
use Rattle.std.proofs.lemmas.Option.{slice_get-get_or}
use Rattle.fil_loops.specs.inside.Reached.{port_names}
use Rattle.fil_loops.proofs.DependLemmas.{name_at}
use Rattle.fil_loops.proofs.PartLemmas.{dotless_more, names_more}
use Rattle.fil_loops.proofs.PortNumberLemmas.{no_dot_told}
use Rattle.fil_loops.proofs.levels.add_names.Goals as goal

pub loop-port-preserved : goal.loop-port-preserved
loop-port-preserved c =
    let names = c.args.names.now in
    let ports = c.args.ports.now in
    let k = c.loop-port.port-index in
    let text = c.text-name.result.now in
    let at = name_at names ports k _ text (slice_get-get_or ports k _ c.loop-port-test.true) c.text-name.ensures in
    let put = (c.in_ok-add_name.ensures.new (ap Ok c.if-not-branch.false)).1 in
    record {
      added = names_more c.args.own.now c.loop-port.own c.add_name.new.names (port_names names ports) k text at c.loop-port.invariant.added put;
      dotless = λ none. dotless_more c.loop-port.own c.add_name.new.names text put (no_dot_told text c.contains.result c.contains.ensures.value c.if-contains.false) (c.loop-port.invariant.dotless none);
    }
