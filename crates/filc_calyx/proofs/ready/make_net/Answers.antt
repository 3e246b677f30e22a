use Rattle.std.proofs.Common.{sym, subst}
use Rattle.net_core.specs.Netlist.{netlist_of}
use Rattle.net_core.specs.declared.net.Net.{Net}
use Rattle.net_text.specs.Names.{HasText}
use Rattle.cal_ast.specs.Tree.{design_of}
use Rattle.cal_ast.specs.declared.tree.CalDesign.{CalDesign}
use Rattle.cal_net.specs.Refining.{RefinesTop}
use Rattle.cal_ast.specs.Written.{DesignIsWritten}
use Rattle.filc_load.proofs.CalLemmas.{some_comps}
use Rattle.filc_calyx.proofs.TextLemmas.{of_ready}
use Rattle.filc_calyx.specs.Made.{IsNetlistFor}
use Rattle.filc_calyx.proofs.ready.make_net.Goals as goal

pub new-requires-clause-component : goal.new-requires-clause-component
new-requires-clause-component c = some_comps c.args.design.now.design c.requires.written

pub net_of-requires : goal.net_of-requires
net_of-requires c = subst (λ (d : CalDesign). DesignIsWritten (design_of d)) (sym c.new.ensures) c.requires.written

pub make_ready-requires : goal.make_ready-requires
make_ready-requires c =
    let refines = c.in_ok-net.ensures.refines.refines.refines in
    record { valid = refines.valid; no_loop = refines.no_loop; numbers = c.in_ok-net.ensures.numbers }

pub returns-clause-netlist : goal.returns-clause-netlist
returns-clause-netlist c =
    let design = design_of c.args.design.now.design in
    of_ready (λ (net : Net). IsNetlistFor design (netlist_of net)) c.in_ok-net.net c.make_ready.result
    (record {
      refines = subst (λ (d : CalDesign). RefinesTop (design_of d) (netlist_of c.in_ok-net.net)) c.new.ensures c.in_ok-net.ensures.refines;
      folded = c.in_ok-net.ensures.folded;
    }) c.make_ready.ensures.net

pub returns-clause-text : goal.returns-clause-text
returns-clause-text c = of_ready (λ (net : Net). HasText (netlist_of net)) c.in_ok-net.net c.make_ready.result c.in_ok-net.ensures.text c.make_ready.ensures.net
