-- What is left of the text and the rows of a design's netlist that transactions drive.
use Rattle.std.proofs.Common.{◌≡◌, ℕ, List, [], ◌∷◌, ◌++◌, true, Option, Result, Ok, Err, refl, sym, ap, subst, ◌∙◌, inl, inr}
use Rattle.std.proofs.lemmas.List.{append-nil}
use Rattle.hw_names.specs.Name.{Text}
use Rattle.hw_prims.specs.Row.{Trace}
use Rattle.net_core.specs.NetRun.{NetRun}
use Rattle.net_core.specs.Netlist.{Netlist}
use Rattle.net_sim.specs.Order.{IsOrderOf}
use Rattle.net_guard.specs.Folded.{HasFoldedGuards}
use Rattle.net_text.proofs.OneNetlist.{one_netlist}
use Rattle.net_text.specs.Layout.{net_text}
use Rattle.net_text.specs.Names.{HasText}
use Rattle.fil_ast.specs.Rules.{FilRules}
use Rattle.fil_ast.specs.Tree.{Design}
use Rattle.fil_ast.specs.declared.tx.TxList.{TxList}
use Rattle.fil_driven.specs.Laws.{AreTransactionsOf}
use Rattle.fil_driven.specs.TxDrive.{driven_by}
use Rattle.fil_promise.specs.Refines.{Refines}
use Rattle.stim_read.specs.TxRun.{tx_run_seen}
use Rattle.filc_stop.specs.Leaving.{HasReport, IsCutShort, Leaves, MakesNone}
use Rattle.filc_stop.specs.Outcome.{Outcome, done_with}
use Rattle.filc_stop.specs.declared.ended.Ended.{Ended}
use Rattle.filc_stop.specs.declared.stop.Stop.{Stop}
use Rattle.filc_stop.specs.declared.stop.Stop.TheVariants as stop
use Rattle.filc_report.proofs.PartLemmas.{IsRunnable}
use Rattle.filc_report.proofs.RowLemmas.{row_same}
use Rattle.filc_report.proofs.RunLemmas.{leaves_of_run}
use Rattle.filc_report.specs.Rows.{lines_text, row_text}
use Rattle.filc_report.specs.Runs.{PrintedRun, RunComes, RunLeaves, run_text, no_loads}
use Rattle.filc_report.specs.Streams.{shown_ports}
use Rattle.filc_run.proofs.MeantLemmas.{run_driven, rows_driven, sig_driven, carried, never_conflicts}
use Rattle.filc_run.specs.Traced.{IsMadeOf, IsNetOf, Traces}

module _ (design : Design) (n : Netlist) (refines : Refines design n) (rules : FilRules design) (list : TxList) (are : AreTransactionsOf refines.c list) (folded : HasFoldedGuards n) (has_text : HasText n) (order : List ℕ) (ordered : IsOrderOf n order) where
  abbrev made : Text
  made = net_text n

  abbrev rows : ℕ
  rows = rows_driven design n refines rules list are

  abbrev trace_run : PrintedRun
  trace_run = run_driven design n refines rules list are (made ++ 10 ∷ []) true

  -- the rows of all ports of a netlist, after the text
  abbrev rows_of : Netlist → Trace → Text
  rows_of m trace = lines_text (row_text (shown_ports m true)) trace rows

  abbrev comes_of : Text → Outcome → Type 0
  comes_of = Traces design refines.c (tx_run_seen list)

  made_net : IsNetOf design n made
  made_net = record { refines = refines; folded = folded; spells = (has_text, refl) }

  runnable : IsRunnable trace_run
  runnable = record {
    valid = refines.valid;
    order = order;
    ordered = ordered;
    line = λ t row row' same. row_same (shown_ports n true) t row row' (λ port has. same port has);
    last = λ states states' same. refl;
  }

  same_text : (trace : Trace) → run_text trace_run trace ≡ made ++ 10 ∷ [] ++ rows_of n trace
  same_text trace = append-nil (made ++ 10 ∷ [] ++ rows_of n trace)

  -- what comes of the run is a trace of the design
  traces_from : (o : Outcome) → RunComes trace_run o → comes_of made o
  traces_from o (inl clash) = absurd (never_conflicts design n refines rules list are (made ++ 10 ∷ []) true o clash)
  traces_from o (inr whole) = record {
    net = n;
    made_net = made_net;
    trace = whole.trace;
    is_run = whole.run;
    outcome = whole.outcome ∙ ap done_with (same_text whole.trace);
  }

  comes_by : (m : Netlist) (trace : Trace) (o : Outcome) → m ≡ n → NetRun m rows (driven_by (sig_driven design n refines rules list are) (tx_run_seen list)) no_loads rows trace → o ≡ done_with (made ++ 10 ∷ [] ++ rows_of m trace) → RunComes trace_run o
  comes_by m trace o same run outcome =
      let here = subst (λ (m : Netlist). NetRun m rows (driven_by (sig_driven design n refines rules list are) (tx_run_seen list)) no_loads rows trace) same run in
      inr (record {
        trace = trace;
        run = here;
        clean = (carried design n refines rules list are rows rows trace here).clean;
        outcome = outcome ∙ ap (λ (m : Netlist). done_with (made ++ 10 ∷ [] ++ rows_of m trace)) same ∙ sym (ap done_with (same_text trace));
      })

  -- a trace of the design with this text comes of the run
  comes_from : (o : Outcome) → comes_of made o → RunComes trace_run o
  comes_from o traces =
      comes_by traces.net traces.trace o (one_netlist made traces.net n traces.made_net.spells made_net.spells) traces.is_run traces.outcome

  report_from : (ended : Ended) (line : Text) (out out' : Option Text) → HasReport (λ made. RunComes trace_run) ended line out out' → HasReport comes_of ended line out out'
  report_from ended line out out' has = record { made = made; report = has.report; outcome = traces_from _ has.outcome; reported = has.reported }

  cut_from : (out out' : Option Text) → IsCutShort MakesNone (λ made. RunComes trace_run) out out' → IsCutShort (IsMadeOf design) comes_of out out'
  cut_from out out' (inl kept) = inl kept
  cut_from out out' (inr part) = inr (record { made = made; makes_it = (n, made_net); part = λ o traces. part.part o (comes_from o traces) })

  leaves_from : (result : Result (Unit {0}) Stop) (out out' : Option Text) → Leaves MakesNone (λ made. RunComes trace_run) result out out' → Leaves (IsMadeOf design) comes_of result out out'
  leaves_from (Ok done) out out' leaves = report_from _ _ out out' leaves
  leaves_from (Err stop.ReadFault) out out' leaves = leaves
  leaves_from (Err stop.StimulusReadFault) out out' leaves = leaves
  leaves_from (Err (stop.Refused why)) out out' leaves = report_from _ _ out out' leaves
  leaves_from (Err stop.WriteFault) out out' leaves = cut_from out out' leaves
  leaves_from (Err stop.Memory) out out' leaves = cut_from out out' leaves

  pub trace_leaves : (result : Result (Unit {0}) Stop) (out out' : Option Text) → RunLeaves trace_run result out out' → Leaves (IsMadeOf design) comes_of result out out'
  trace_leaves result out out' leaves = leaves_from result out out' (leaves_of_run trace_run runnable result out out' leaves)
