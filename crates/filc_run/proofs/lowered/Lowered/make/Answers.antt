use Rattle.std.proofs.Common.{map, sym, ap, subst, ◌∙◌, arith}
use Rattle.std.proofs.lemmas.List.{length-map}
use Rattle.net_core.specs.Netlist.{netlist_of}
use Rattle.net_core.specs.declared.net.Net.{Net}
use Rattle.net_guard.specs.Folded.{HasFoldedGuards}
use Rattle.net_text.specs.Names.{HasText}
use Rattle.fil_ast.specs.Signature.{Signature}
use Rattle.fil_ast.specs.Tree.{component_tree, design_of, event_tree}
use Rattle.fil_ast.specs.declared.tree.FilDesign.{FilDesign}
use Rattle.fil_promise.specs.Refines.{Refines}
use Rattle.fil_parse.specs.Written.{DesignIsWritten}
use Rattle.fil_sig.specs.Seen.{seen}
use Rattle.stim_read.specs.TxEvents.{events_of}
use Rattle.stim_read.specs.TxRun.{run_rows, transaction_seen}
use Rattle.filc_load.proofs.TransactionLemmas.{has_shape, has_widths, is_top_of}
use Rattle.filc_run.proofs.FitLemmas.{can_run, sig_of}
use Rattle.filc_run.proofs.lowered.Lowered.make.Goals as goal

pub component_signature-requires : goal.component_signature-requires
component_signature-requires c =
    let b = c.args.design.now in
    let comp = c.index.result.now in
    let top = is_top_of b comp c.requires c.index.ensures in
    let shaped = has_shape (design_of b.design) c.requires.rules b.top _ top.at in
    record {
      numbered = top.numbers;
      small = top.small;
      few = omega (arith, shaped.few, length-map comp.events.items (event_tree b.design.names));
      wide = has_widths (design_of b.design) c.requires.rules b.top _ top.at;
    }

pub run_rows_of-requires : goal.run_rows_of-requires
run_rows_of-requires c =
    let b = c.args.design.now in
    let tree = component_tree b.design.names c.index.result.now in
    let top = is_top_of b c.index.result.now c.requires c.index.ensures in
    let read = can_run b c.requires tree top.at (seen c.in_ok-sig.sig) c.in_ok-sig.ensures in
    record { events = read.events; inputs = read.inputs }

pub net_of-requires : goal.net_of-requires
net_of-requires c = subst (λ (d : FilDesign). DesignIsWritten (design_of d)) (sym c.new.ensures) c.requires.written

pub make_ready-requires : goal.make_ready-requires
make_ready-requires c =
    let refines = c.in_ok-net.ensures.refines in
    record { valid = refines.valid; no_loop = refines.no_loop; numbers = c.in_ok-net.ensures.numbers }

pub returns-clause-refines : goal.returns-clause-refines
returns-clause-refines c =
    subst (λ (net : Net). Refines (design_of c.args.design.now.design) (netlist_of net)) (sym c.in_ok-built.ensures.net)
    (subst (λ (d : FilDesign). Refines (design_of d) (netlist_of c.in_ok-net.net)) c.new.ensures c.in_ok-net.ensures.refines)

pub returns-clause-folded : goal.returns-clause-folded
returns-clause-folded c = subst (λ (net : Net). HasFoldedGuards (netlist_of net)) (sym c.in_ok-built.ensures.net) c.in_ok-net.ensures.folded

pub returns-clause-text : goal.returns-clause-text
returns-clause-text c = subst (λ (net : Net). HasText (netlist_of net)) (sym c.in_ok-built.ensures.net) c.in_ok-net.ensures.text

pub returns-clause-sig : goal.returns-clause-sig
returns-clause-sig c comp at = sig_of c.args.design.now c.requires c.index.result.now c.index.ensures (seen c.in_ok-sig.sig) c.in_ok-sig.ensures comp at

pub returns-clause-rows : goal.returns-clause-rows
returns-clause-rows c comp at =
    let same = sig_of c.args.design.now c.requires c.index.result.now c.index.ensures (seen c.in_ok-sig.sig) c.in_ok-sig.ensures comp at in
    c.in_ok-rows.ensures ∙ ap (λ (s : Signature). run_rows (events_of s).events (map transaction_seen c.args.txs.now)) same
