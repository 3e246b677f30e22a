use Rattle.std.proofs.Common.{subst}
use Rattle.net_core.specs.Netlist.{netlist_of}
use Rattle.net_core.specs.declared.net.Net.{Net}
use Rattle.cal_ast.specs.Rules.{CalRules}
use Rattle.cal_ast.specs.Tree.{design_of}
use Rattle.cal_ast.specs.declared.tree.CalDesign.{CalDesign}
use Rattle.net_text.specs.Names.{HasText}
use Rattle.net_guard.proofs.TextLemmas.{keeps_text}
use Rattle.net_guard.specs.Folded.{HasFoldedGuards}
use Rattle.net_guard.specs.Simplified.{IsSimplified}
use Rattle.cal_net.proofs.MadeLemmas.{ok_both, ok_from}
use Rattle.cal_net.proofs.PlainLemmas.{written_plain}
use Rattle.cal_net.proofs.RefineLemmas.{flattened_wires_refine}
use Rattle.cal_net.proofs.SimplifyLemmas.{simplified_nets_refine}
use Rattle.cal_net.proofs.TextLemmas.{flattened_have_text}
use Rattle.cal_net.specs.Refining.{RefinesTop}
use Rattle.cal_net.proofs.net.net_of.Goals as goal

pub flatten_wires-requires-clause-wired : goal.flatten_wires-requires-clause-wired
flatten_wires-requires-clause-wired c = c.in_ok-wires.ensures.lowers.wired

pub simplify-requires : goal.simplify-requires
simplify-requires c = c.in_ok-flat.ensures.numbers

pub returns-clause-refines : goal.returns-clause-refines
returns-clause-refines c =
    let rules = subst (λ (d : CalDesign). CalRules (design_of d)) c.design-design.ensures.same c.design-design.ensures.rules in
    let source = design_of c.args.ok.now in let wires = design_of c.in_ok-wires.wires.design in let flat = c.in_ok-flat.flat in
    ok_from (λ (net : Net). IsSimplified (netlist_of flat) (netlist_of net)) (λ (net : Net). RefinesTop source (netlist_of net))
    (λ net simplified. simplified_nets_refine source (netlist_of flat) (netlist_of net) simplified
    (flattened_wires_refine source wires flat rules (written_plain source c.requires) c.in_ok-wires.ensures.lowers c.in_ok-wires.ensures.plain c.in_ok-flat.ensures)) c.simplify.result c.simplify.ensures.simplified

pub returns-clause-text : goal.returns-clause-text
returns-clause-text c =
    let wires = design_of c.in_ok-wires.wires.design in let flat = c.in_ok-flat.flat in
    ok_both (λ (net : Net). IsSimplified (netlist_of flat) (netlist_of net)) (λ (net : Net). HasFoldedGuards (netlist_of net)) (λ (net : Net). HasText (netlist_of net))
    (λ net simplified folded. keeps_text (netlist_of flat) (netlist_of net) simplified folded (flattened_have_text wires flat c.in_ok-wires.ensures.written c.in_ok-wires.ensures.plain c.in_ok-flat.ensures))
    c.simplify.result c.simplify.ensures.simplified c.simplify.ensures.folded
