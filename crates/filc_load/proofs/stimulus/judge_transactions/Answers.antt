use Rattle.std.proofs.Common.{◌≡◌, map, get_or, slice_get, Some, arith, sym, ap, subst, ◌∙◌}
use Rattle.std.proofs.lemmas.List.{length-map}
use Rattle.fil_ast.specs.Signature.{Signature, component_signature}
use Rattle.fil_ast.specs.Tree.{Component, component_tree, design_of, event_tree}
use Rattle.fil_ast.specs.declared.tree.FilComp.{FilComp}
use Rattle.stim_read.specs.Fits.{AreLegal, FitsSignature}
use Rattle.stim_read.specs.TxEvents.{events_of}
use Rattle.stim_read.specs.TxRun.{GiveTransactions, IsTxCause, transaction_seen, tx_run_seen}
use Rattle.filc_load.specs.Built.{IsFilReady}
use Rattle.filc_load.specs.StimulusFile.{transaction_causes}
use Rattle.filc_load.specs.declared.fil_file.FilBuilt.{FilBuilt}
use Rattle.filc_load.proofs.CauseLemmas.{gives_nothing_for}
use Rattle.filc_load.proofs.TransactionLemmas.{CanBeRead, has_new_names, has_widths, has_shape, is_top_of, same_component, can_be_read, fits_component}
use Rattle.filc_load.proofs.LegalLemmas.{legal_starts}
use Rattle.filc_load.proofs.stimulus.judge_transactions.Goals as goal

pub component_signature-requires : goal.component_signature-requires
component_signature-requires c =
    let b = c.args.built.now in
    let comp = c.index.result.now in
    let top = is_top_of b comp c.requires.ready c.index.ensures in
    let shaped = has_shape (design_of b.design) c.requires.ready.rules b.top _ top.at in
    record {
      numbered = top.numbers;
      small = top.small;
      few = omega (arith, shaped.few, length-map comp.events.items (event_tree b.design.names));
      wide = has_widths (design_of b.design) c.requires.ready.rules b.top _ top.at;
    }

pub read_txs-requires : goal.read_txs-requires
read_txs-requires c =
    let b = c.args.built.now in
    let design = design_of b.design in
    let tree = component_tree b.design.names c.index.result.now in
    let top = is_top_of b c.index.result.now c.requires.ready c.index.ensures in
    let read = can_be_read _ tree (has_new_names design c.requires.ready.rules b.top tree top.at) (has_widths design c.requires.ready.rules b.top tree top.at) (has_shape design c.requires.ready.rules b.top tree top.at) in
    let seen = subst CanBeRead (sym c.in_ok-sig.ensures) read in
    record { events = seen.events; inputs = seen.inputs; fixed = seen.fixed; few = seen.few; widths = seen.widths }

-- the signature that was read for is that of the top component
sig_of : (b : FilBuilt) (ready : IsFilReady b) (comp : FilComp) (is : comp ≡ get_or b.design.comps.items b.top comp) (sig : Signature) → sig ≡ component_signature (component_tree b.design.names comp) → (c : Component) → slice_get (design_of b.design) b.top ≡ Some c → sig ≡ component_signature c
sig_of b ready comp is sig seen c at = seen ∙ ap component_signature (same_component (design_of b.design) b.top _ c (is_top_of b comp ready is).at at)

pub returns-in-Ok-clause-given : goal.returns-in-Ok-clause-given
returns-in-Ok-clause-given c other at =
    let sig = sig_of c.args.built.now c.requires.ready c.index.result.now c.index.ensures _ c.in_ok-sig.ensures other at in
    record { within = c.requires.within; gives = subst (λ (s : Signature). GiveTransactions c.args.text.now (events_of s) (tx_run_seen c.in-Ok.list)) sig c.in-Ok.ensures.run }

pub returns-in-Ok-clause-fits : goal.returns-in-Ok-clause-fits
returns-in-Ok-clause-fits c other at k d within =
    let b = c.args.built.now in
    let tx = get_or c.in-Ok.list.txs.items k d in
    let sig = sig_of b c.requires.ready c.index.result.now c.index.ensures _ c.in_ok-sig.ensures other at in
    fits_component _ other (has_new_names (design_of b.design) c.requires.ready.rules b.top other at) tx (subst (λ (s : Signature). FitsSignature s tx) sig (c.in-Ok.ensures.fits k d within))

pub returns-in-Ok-clause-legal : goal.returns-in-Ok-clause-legal
returns-in-Ok-clause-legal c other at =
    let b = c.args.built.now in
    let design = design_of b.design in
    let txs = c.in-Ok.list.txs.items in
    let sig = sig_of b c.requires.ready c.index.result.now c.index.ensures _ c.in_ok-sig.ensures other at in
    let names = has_new_names design c.requires.ready.rules b.top other at in
    let shape = has_shape design c.requires.ready.rules b.top other at in
    legal_starts other names.events shape.delays txs
    (λ k d within. fits_component _ other names (get_or txs k d) (subst (λ (s : Signature). FitsSignature s (get_or txs k d)) sig (c.in-Ok.ensures.fits k d within)))
    (subst (λ (s : Signature). AreLegal s (map transaction_seen txs)) sig c.in-Ok.ensures.legal)

pub returns-clause-refused : goal.returns-clause-refused
returns-clause-refused c other at =
    let text = c.args.text.now in
    let sig = sig_of c.args.built.now c.requires.ready c.index.result.now c.index.ensures _ c.in_ok-sig.ensures other at in
    gives_nothing_for (transaction_causes text other) c.in-Err.end text c.stop_of.result (subst (λ (s : Signature). IsTxCause text (events_of s) c.in-Err.end) sig c.in-Err.ensures.cause) (c.stop_of.ensures.cause text c.requires.within)
