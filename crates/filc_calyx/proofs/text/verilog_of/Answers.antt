use Rattle.std.proofs.Common.{sym, subst}
use Rattle.net_core.specs.Netlist.{netlist_of}
use Rattle.cal_ast.specs.Tree.{design_of}
use Rattle.cal_ast.specs.declared.tree.CalDesign.{CalDesign}
use Rattle.cal_net.specs.Refining.{RefinesTop}
use Rattle.cal_ast.specs.Written.{DesignIsWritten}
use Rattle.filc_load.proofs.CalLemmas.{some_comps}
use Rattle.filc_calyx.proofs.TextLemmas.{printed_verilog}
use Rattle.filc_calyx.proofs.text.verilog_of.Goals as goal

pub new-requires-clause-component : goal.new-requires-clause-component
new-requires-clause-component c = some_comps c.args.design.now.design c.requires.written

pub net_of-requires : goal.net_of-requires
net_of-requires c = subst (λ (d : CalDesign). DesignIsWritten (design_of d)) (sym c.new.ensures) c.requires.written

pub table_of-requires : goal.table_of-requires
table_of-requires c = record { valid = c.in_ok-net.ensures.refines.refines.refines.valid; numbers = c.in_ok-net.ensures.numbers }

pub returns : goal.returns
returns c =
    let net = netlist_of c.in_ok-net.net in
    printed_verilog (design_of c.args.design.now.design) net c.print_verilog.result
    (record { refines = subst (λ (d : CalDesign). RefinesTop (design_of d) net) c.new.ensures c.in_ok-net.ensures.refines; folded = c.in_ok-net.ensures.folded }) c.in_ok-net.ensures.text c.print_verilog.ensures
