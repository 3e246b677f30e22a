-- The netlist of a design may be driven by transactions of the design's top component.
use Rattle.std.proofs.Common.{◌≡◌, ℕ, Bool, Option, Result, get_or, sym, ap, subst, ◌∙◌, arith}
use Rattle.std.specs.Prelude.{slice_get, Some}
use Rattle.std.proofs.lemmas.List.{length-map}
use Rattle.hw_names.specs.Name.{Text}
use Rattle.net_core.specs.Netlist.{Netlist}
use Rattle.fil_ast.specs.Rules.{FilRules}
use Rattle.fil_ast.specs.Signature.{Signature, component_signature, sig_event}
use Rattle.fil_ast.specs.Tree.{Component, Design, component_tree, design_of}
use Rattle.fil_ast.specs.declared.tree.FilComp.{FilComp}
use Rattle.fil_ast.specs.declared.tx.TxList.{TxList}
use Rattle.fil_driven.proofs.FitLemmas.{transactions_fit}
use Rattle.fil_driven.proofs.PortLemmas.{keepers_have_ports}
use Rattle.fil_driven.specs.Laws.{AreTransactionsOf}
use Rattle.fil_promise.specs.Refines.{Refines}
use Rattle.stim_read.specs.TxRun.{tx_run_seen}
use Rattle.filc_load.proofs.TopLemmas.{one_number}
use Rattle.filc_load.proofs.TransactionLemmas.{CanBeRead, can_be_read, has_new_names, has_shape, has_widths, is_top_of, same_component}
use Rattle.filc_load.specs.Built.{IsFilReady}
use Rattle.filc_load.specs.declared.fil_file.FilBuilt.{FilBuilt}
use Rattle.filc_report.specs.Driving.{AreTransactionsFor}
use Rattle.filc_report.specs.Runs.{RunLeaves, transactions_run}
use Rattle.filc_stop.specs.declared.stop.Stop.{Stop}

-- the component whose netlist this is is the top one
pub top_at : (b : FilBuilt) → IsFilReady b → (n : Netlist) (refines : Refines (design_of b.design) n) → slice_get (design_of b.design) b.top ≡ Some refines.c
top_at b ready n refines = ap (slice_get (design_of b.design)) (one_number (design_of b.design) b.top refines.number ready.top refines.is_top) ∙ refines.at

-- its transactions fit the netlist
pub transactions_for : (design : Design) (n : Netlist) (refines : Refines design n) → FilRules design → (list : TxList) → AreTransactionsOf refines.c list → AreTransactionsFor n (component_signature refines.c) list
transactions_for design n refines rules list are =
    let fit = transactions_fit design refines.number refines.c list rules refines.at are in
    let shaped = has_shape design rules refines.number refines.c refines.at in
    record {
      ports = keepers_have_ports design n refines rules;
      few = omega (arith, shaped.few, length-map refines.c.events (sig_event refines.c.interfaces));
      fixed = fit.fixed;
      fit = fit.each;
      legal = fit.legal;
    }

-- the same by what a call is given
pub fits_call : (n : Netlist) (sig sig' : Signature) (list list' : TxList) → sig' ≡ sig → list' ≡ list → AreTransactionsFor n sig list → AreTransactionsFor n sig' list'
fits_call n sig sig' list list' same_sig same_list fits =
    subst (λ (s : Signature). AreTransactionsFor n s list') (sym same_sig) (subst (λ (l : TxList). AreTransactionsFor n sig l) (sym same_list) fits)

-- what a call leaves is of the run that is asked
pub leaves_call : (n : Netlist) (sig sig' : Signature) (list list' : TxList) (rows rows' : ℕ) (head head' : Text) (all : Bool) (result : Result (Unit {0}) Stop) (out out' : Option Text) → sig' ≡ sig → list' ≡ list → rows' ≡ rows → head' ≡ head
    → RunLeaves (transactions_run n sig' (tx_run_seen list') rows' head' all) result out out' → RunLeaves (transactions_run n sig (tx_run_seen list) rows head all) result out out'
leaves_call n sig sig' list list' rows rows' head head' all result out out' same_sig same_list same_rows same_head leaves =
    subst (λ (s : Signature). RunLeaves (transactions_run n s (tx_run_seen list) rows head all) result out out') same_sig
    (subst (λ (l : TxList). RunLeaves (transactions_run n sig' (tx_run_seen l) rows head all) result out out') same_list
    (subst (λ (r : ℕ). RunLeaves (transactions_run n sig' (tx_run_seen list') r head all) result out out') same_rows
    (subst (λ (h : Text). RunLeaves (transactions_run n sig' (tx_run_seen list') rows' h all) result out out') same_head leaves)))

-- ---- the signature

-- what is read off a component can be run
pub can_run : (b : FilBuilt) → IsFilReady b → (c : Component) → slice_get (design_of b.design) b.top ≡ Some c → (sig : Signature) → sig ≡ component_signature c → CanBeRead sig
can_run b ready c at sig seen =
    let design = design_of b.design in
    let rules = ready.rules in
    subst CanBeRead (sym seen) (can_be_read _ c (has_new_names design rules b.top c at) (has_widths design rules b.top c at) (has_shape design rules b.top c at))

-- the signature that was made is that of the top component
pub sig_of : (b : FilBuilt) → IsFilReady b → (comp : FilComp) → comp ≡ get_or b.design.comps.items b.top comp → (sig : Signature) → sig ≡ component_signature (component_tree b.design.names comp) → (c : Component) → slice_get (design_of b.design) b.top ≡ Some c → sig ≡ component_signature c
sig_of b ready comp is sig seen c at = seen ∙ ap component_signature (same_component (design_of b.design) b.top _ c (is_top_of b comp ready is).at at)
