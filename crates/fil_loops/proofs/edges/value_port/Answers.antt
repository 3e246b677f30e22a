use Rattle.std.proofs.Common.{[], Some, get_or, sym, ◌∙◌}
use Rattle.std.proofs.lemmas.Option.{slice_get-get_or}
use Rattle.fil_loops.proofs.ReadingLemmas.{out_port, out_nothing}
use Rattle.fil_loops.proofs.edges.value_port.Goals as goal

pub returns-in_ok-port-in-Some-clause-port : goal.returns-in_ok-port-in-Some-clause-port
returns-in_ok-port-in-Some-clause-port c scope place has =
    let instances = c.args.graph.now.ports.instances in
    let n = c.in-Some.instance in
    let inst = get_or instances n [] in
    let at = slice_get-get_or instances n [] c.in-Some.ensures.within in
    c.in_ok-port-in-Some.ensures.number inst at
    ∙ out_port c.args.place.now.names.now scope c.args.value c.in-Out.invocation c.in-Out.port c.text-in-Out.result.now c.text-in-Some.result.now (Some inst) c.in-Out.is c.text-in-Out.ensures c.text-in-Some.ensures
    (sym at ∙ c.in-Some.ensures.meaning scope place has)

pub returns-in-None-clause-port : goal.returns-in-None-clause-port
returns-in-None-clause-port c scope place has =
    out_nothing c.args.place.now.names.now scope c.args.value c.in-Out.invocation c.in-Out.port c.text-in-Out.result.now c.in-Out.is c.text-in-Out.ensures (c.in-None.ensures.meaning scope place has)
