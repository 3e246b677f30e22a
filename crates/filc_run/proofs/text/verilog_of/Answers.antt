use Rattle.std.proofs.Common.{sym, subst}
use Rattle.net_core.specs.Netlist.{netlist_of}
use Rattle.fil_ast.specs.Tree.{design_of}
use Rattle.fil_ast.specs.declared.tree.FilDesign.{FilDesign}
use Rattle.fil_promise.specs.Refines.{Refines}
use Rattle.fil_parse.specs.Written.{DesignIsWritten}
use Rattle.filc_run.proofs.TextLemmas.{printed_verilog}
use Rattle.filc_run.proofs.text.verilog_of.Goals as goal

pub net_of-requires : goal.net_of-requires
net_of-requires c = subst (λ (d : FilDesign). DesignIsWritten (design_of d)) (sym c.new.ensures) c.requires.written

pub table_of-requires : goal.table_of-requires
table_of-requires c = record { valid = c.in_ok-net.ensures.refines.valid; numbers = c.in_ok-net.ensures.numbers }

pub returns : goal.returns
returns c =
    printed_verilog (design_of c.args.built.now.design) (netlist_of c.in_ok-net.net) c.print_verilog.result
    (subst (λ (d : FilDesign). Refines (design_of d) (netlist_of c.in_ok-net.net)) c.new.ensures c.in_ok-net.ensures.refines) c.in_ok-net.ensures.folded c.in_ok-net.ensures.text c.print_verilog.ensures
