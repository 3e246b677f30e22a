use Rattle.std.proofs.Common.{sym}
use Rattle.net_core.specs.Netlist.{netlist_of}
use Rattle.net_core.proofs.RuleLemmas.{valid_where_none, refused_from}
use Rattle.net_core.proofs.rules.valid.Goals as goal

pub returns-clause-table : goal.returns-clause-table
returns-clause-table c = c.in_ok-into_table.ensures (netlist_of c.args.net.now) (sym c.in_ok-ports.ensures.ports)

pub returns-clause-kept : goal.returns-clause-kept
returns-clause-kept c = valid_where_none (netlist_of c.args.net.now) c.in_ok-ports.ensures.judged

pub returns-in_err-ports-clause-refused : goal.returns-in_err-ports-clause-refused
returns-in_err-ports-clause-refused c =
    refused_from (Unit {0}) c.from_residual.result c.in_err-ports.field-0.0 (netlist_of c.args.net.now) c.from_residual.ensures.1 c.in_err-ports.ensures.judged
