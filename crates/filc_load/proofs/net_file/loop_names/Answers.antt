use Rattle.std.proofs.Common.{rules, ◌∙◌, sym, arith}
use Rattle.hw_names.proofs.NameLemmas.{text_of-slice_get}
use Rattle.filc_load.proofs.LoadLemmas.{names_more, names_within}
use Rattle.filc_load.proofs.net_file.loop_names.Goals as goal

pub loop-port-preserved : goal.loop-port-preserved
loop-port-preserved c =
    let more = names_more c.args.table.now.names c.args.ports.now c.loop-port.port-index _ c.loop-port.names.items c.name_of.result.now c.loop-port-test.true c.name_of.ensures c.loop-port.invariant in
    search (rules, more)

pub returns-clause-name : goal.returns-clause-name
returns-clause-name c =
    c.in_ok-name.ensures ∙ sym (text_of-slice_get c.args.net.now.names c.args.net.now.name c.text.result.now c.text.ensures)

pub returns-clause-ports : goal.returns-clause-ports
returns-clause-ports c =
    names_within c.args.table.now.names c.args.ports.now c.loop-port.names.items c.loop-port.port-index (omega (arith, c.loop-port-test.false)) c.loop-port.invariant
