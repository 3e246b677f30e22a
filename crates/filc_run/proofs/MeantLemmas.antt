-- A run of a design's netlist that transactions drive shows what the source means.
use Rattle.std.proofs.Common.{◌≡◌, ℕ, zero, suc, ◌+◌, ◌-◌, ◌≤◌, List, [], ◌++◌, Bool, false, Option, Result, Ok, Err, map, refl, sym, ap, ap₂, subst, ◌∙◌, arith, add-zero, add-suc, append_assoc, inl, inr}
use Rattle.std.specs.Prelude.{IfErr, OnOk, OnErr}
use Rattle.std.specs.Io.KnownBytes.{Appends}
use Rattle.std.proofs.lemmas.List.{append-nil}
use Rattle.hw_io.proofs.WritingLemmas.{prefix_longer}
use Rattle.hw_io.specs.Writing.{AppendsPrefix}
use Rattle.hw_names.specs.Name.{Text}
use Rattle.hw_prims.specs.Row.{Trace}
use Rattle.net_core.specs.NetRun.{NetRun, net_circuit}
use Rattle.net_core.specs.Netlist.{Netlist}
use Rattle.fil_ast.specs.Behaviours.{transaction_on}
use Rattle.fil_ast.specs.Rules.{FilRules}
use Rattle.fil_ast.specs.Signature.{Signature, component_signature}
use Rattle.fil_ast.specs.Tree.{Component, Design}
use Rattle.fil_ast.specs.declared.tx.TxList.{TxList}
use Rattle.fil_driven.proofs.DriveLemmas.{driven_runs_carry}
use Rattle.fil_driven.proofs.ShownLemmas.{carried_rows_are_meant}
use Rattle.fil_driven.specs.Laws.{AreTransactionsOf}
use Rattle.fil_driven.specs.Shown.{outputs_line, meant_line}
use Rattle.fil_driven.specs.TxDrive.{driven_by}
use Rattle.fil_promise.specs.Refines.{CarriesList, Refines}
use Rattle.stim_read.specs.TxRun.{Transaction, transaction_seen, tx_run_seen}
use Rattle.filc_stop.proofs.SinkLemmas.{none_prefix, whole_prefix}
use Rattle.filc_stop.specs.Outcome.{Outcome, done_with}
use Rattle.filc_stop.specs.Stops.{IsOfRun, IsWritingStop}
use Rattle.filc_stop.specs.declared.ended.Ended.TheVariants as ended
use Rattle.filc_stop.specs.declared.refusal.Refusal.TheVariants as refusal
use Rattle.filc_stop.specs.declared.stop.Stop.{Stop}
use Rattle.filc_stop.specs.declared.stop.Stop.TheVariants as stop
use Rattle.filc_report.specs.Rows.{lines_text}
use Rattle.filc_report.specs.Runs.{PrintedRun, IsRunOf, EndsInConflict, RunComes, RunLeaves, IsRunCutShort, run_text, transactions_run, no_loads}
use Rattle.filc_run.specs.Meant.{rows_taken, meant_lines, meant_text}

-- ---- lines that the source means

lines_and_more : (design : Design) (c : Component) (txs : List Transaction) (t more : ℕ) → (rest : Text) × (meant_lines design c txs t ++ rest ≡ meant_lines design c txs (t + more))
lines_and_more design c txs t zero = ([], append-nil (meant_lines design c txs t) ∙ ap (meant_lines design c txs) (sym (add-zero t)))
lines_and_more design c txs t (suc more) =
    let fewer = lines_and_more design c txs t more in
    let last : Text = meant_line design c txs (t + more) in
    (fewer.0 ++ last, sym (append_assoc (meant_lines design c txs t) fewer.0 last) ∙ ap (λ front. front ++ last) fewer.1 ∙ ap (meant_lines design c txs) (sym (add-suc t more)))

-- fewer lines are a prefix of more
fewer_meant : (design : Design) (c : Component) (txs : List Transaction) (t u : ℕ) → t ≤ u → (rest : Text) × (meant_lines design c txs t ++ rest ≡ meant_lines design c txs u)
fewer_meant design c txs t u few =
    let all : t + (u - t) ≡ u = omega arith in
    subst (λ (k : ℕ). (rest : Text) × (meant_lines design c txs t ++ rest ≡ meant_lines design c txs k)) all (lines_and_more design c txs t (u - t))

-- ---- runs

-- legal transactions of the top component drive a netlist that keeps what the design promises
module _ (design : Design) (n : Netlist) (refines : Refines design n) (rules : FilRules design) (list : TxList) (are : AreTransactionsOf refines.c list) where
  abbrev pub txs_driven : List Transaction
  txs_driven = map transaction_seen list.txs.items

  abbrev pub rows_driven : ℕ
  rows_driven = rows_taken refines.c txs_driven

  abbrev pub sig_driven : Signature
  sig_driven = component_signature refines.c

  -- after this text
  abbrev pub run_driven : Text → Bool → PrintedRun
  run_driven head all = transactions_run n sig_driven (tx_run_seen list) rows_driven head all

  abbrev pub IsDriven : ℕ → ℕ → Trace → Type 0
  IsDriven asked height trace = NetRun n asked (driven_by sig_driven (tx_run_seen list)) no_loads height trace

  pub carried : (asked height : ℕ) (trace : Trace) → IsDriven asked height trace → CarriesList design refines.number (net_circuit n) (map (transaction_on refines.c) list.txs.items) asked height trace
  carried asked height trace run = driven_runs_carry design n refines list rules are asked no_loads height trace run

  -- no row has a Conflict
  pub never_conflicts : (head : Text) (all : Bool) (o : Outcome) → EndsInConflict (run_driven head all) o → ⊥
  never_conflicts head all o clash =
      (carried rows_driven (suc clash.row) clash.trace clash.run).clean clash.row clash.port (omega arith) clash.reported.has

  meant_rows : (asked height : ℕ) (trace : Trace) → IsDriven asked height trace → (t : ℕ) → t ≤ height → lines_text (outputs_line txs_driven sig_driven.outs) trace t ≡ meant_lines design refines.c txs_driven t
  meant_rows asked height trace run zero within = refl
  meant_rows asked height trace run (suc t) within =
      ap₂ ◌++◌ (meant_rows asked height trace run t (omega (arith, within)))
      (carried_rows_are_meant design refines.number refines.c n list rules refines.at are asked height trace (carried asked height trace run) t (omega (arith, within)))

  -- ---- what is written of the outputs

  abbrev outputs_run : PrintedRun
  outputs_run = run_driven [] false

  abbrev meant : Text
  meant = meant_text design refines.c txs_driven

  whole_text : (trace : Trace) → IsRunOf outputs_run rows_driven trace → run_text outputs_run trace ≡ meant
  whole_text trace run =
      append-nil (lines_text (outputs_line txs_driven sig_driven.outs) trace rows_driven) ∙ meant_rows rows_driven rows_driven trace run rows_driven (omega arith)

  outputs_report : (o : Outcome) → RunComes outputs_run o → o ≡ done_with meant
  outputs_report o (inl clash) = absurd (never_conflicts [] false o clash)
  outputs_report o (inr whole) = whole.outcome ∙ ap done_with (whole_text whole.trace whole.run)

  report_is : (o : Outcome) → RunComes outputs_run o → o.report ≡ meant
  report_is o comes = ap (λ (o : Outcome). o.report) (outputs_report o comes)

  pub outputs_written : (result : Result (Unit {0}) Stop) (out out' : Option Text) → RunLeaves outputs_run result out out' → OnOk result (Appends out out' meant)
  outputs_written (Ok done) out out' leaves = subst (λ (text : Text). Appends out out' text) (report_is _ leaves.outcome) leaves.reported
  outputs_written (Err why) out out' leaves = tt

  cut_part : (out out' : Option Text) → IsRunCutShort outputs_run out out' → AppendsPrefix out out' meant
  cut_part out out' (inl kept) = none_prefix out out' meant kept
  cut_part out out' (inr (inl rows)) =
      let lines : lines_text (outputs_line txs_driven sig_driven.outs) rows.trace rows.t ≡ meant_lines design refines.c txs_driven rows.t = meant_rows rows.t rows.t rows.trace rows.runs.run rows.t (omega arith) in
      let fewer = fewer_meant design refines.c txs_driven rows.t rows_driven rows.within in
      subst (λ (text : Text). AppendsPrefix out out' text) fewer.1
      (prefix_longer out out' (meant_lines design refines.c txs_driven rows.t) fewer.0 (subst (λ (text : Text). AppendsPrefix out out' text) lines rows.prefix))
  cut_part out out' (inr (inr all)) = subst (λ (text : Text). AppendsPrefix out out' text) (whole_text all.trace all.runs.run) all.prefix

  pub outputs_part : (result : Result (Unit {0}) Stop) (out out' : Option Text) → RunLeaves outputs_run result out out' → OnErr result (AppendsPrefix out out' meant)
  outputs_part (Ok done) out out' leaves = tt
  outputs_part (Err stop.ReadFault) out out' leaves = absurd leaves
  outputs_part (Err stop.StimulusReadFault) out out' leaves = absurd leaves
  outputs_part (Err (stop.Refused why)) out out' leaves =
      whole_prefix out out' meant (subst (λ (text : Text). Appends out out' text) (report_is _ leaves.outcome) leaves.reported)
  outputs_part (Err stop.WriteFault) out out' leaves = cut_part out out' leaves
  outputs_part (Err stop.Memory) out out' leaves = cut_part out out' leaves

  -- ---- why such a run stops

  not_conflict : (head : Text) (all : Bool) (o : Outcome) → RunComes (run_driven head all) o → o.ended ≡ ended.Done
  not_conflict head all o (inl clash) = absurd (never_conflicts head all o clash)
  not_conflict head all o (inr whole) = ap (λ (o : Outcome). o.ended) whole.outcome

  pub driven_stops : (head : Text) (all : Bool) (result : Result (Unit {0}) Stop) (out out' : Option Text) → IfErr result IsOfRun → RunLeaves (run_driven head all) result out out' → IfErr result IsWritingStop
  driven_stops head all (Ok done) out out' of leaves = tt
  driven_stops head all (Err stop.ReadFault) out out' of leaves = absurd of
  driven_stops head all (Err stop.StimulusReadFault) out out' of leaves = absurd of
  driven_stops head all (Err (stop.Refused (refusal.Conflict cycle port))) out out' of leaves =
      let never : ended.Conflict ≡ ended.Done = not_conflict head all _ leaves.outcome in absurd (cc never)
  driven_stops head all (Err (stop.Refused why)) out out' of leaves = absurd of
  driven_stops head all (Err stop.WriteFault) out out' of leaves = tt
  driven_stops head all (Err stop.Memory) out out' of leaves = tt
