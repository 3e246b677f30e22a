-- What is printed shows its netlist; and a text that is made gives one trace under the same transactions.
use Rattle.std.proofs.Common.{◌≡◌, ℕ, Bool, true, false, [], ◌∷◌, ◌++◌, refl, sym, ap, subst, ◌∙◌}
use Rattle.hw_names.specs.Name.{Text}
use Rattle.hw_prims.specs.Row.{Row, Trace}
use Rattle.fil_ast.specs.Signature.{Signature, component_signature}
use Rattle.fil_ast.specs.Tree.{Component, Design}
use Rattle.fil_driven.specs.TxDrive.{driven_by}
use Rattle.net_core.specs.Graph.{HasNoLoop}
use Rattle.net_core.specs.NetRun.{NetRun}
use Rattle.net_core.specs.Netlist.{Netlist}
use Rattle.net_core.specs.Rules.{IsValid}
use Rattle.net_text.proofs.OneNetlist.{one_netlist}
use Rattle.stim_read.specs.CycleRun.{Run}
use Rattle.stim_read.specs.TxRun.{TxRun}
use Rattle.filc_report.proofs.MemoryLemmas.{memories_same}
use Rattle.filc_report.proofs.RowLemmas.{row_same}
use Rattle.filc_report.proofs.RunLemmas.{shown_is_port}
use Rattle.filc_report.specs.Rows.{lines_text, row_text}
use Rattle.filc_report.specs.Runs.{no_loads, plain_run, stimulus_run, transactions_run}
use Rattle.filc_report.specs.Streams.{shown_ports}
use Rattle.filc_run.specs.Meant.{rows_taken}
use Rattle.filc_run.specs.Traced.{Traces}
use Rattle.filc_stop.specs.Outcome.{Outcome, done_with}
use Rattle.filc_laws.proofs.ReportLemmas.{lines_once}
use Rattle.filc_laws.specs.OneOutcome.{AgreeAtPorts, ShowsItsNetlist}

-- ---- what is printed of the runs that words call for

line_shows : (n : Netlist) (all : Bool) (t : ℕ) (row other : Row) → AgreeAtPorts n row other → row_text (shown_ports n all) t row ≡ row_text (shown_ports n all) t other
line_shows n all t row other same = row_same (shown_ports n all) t row other (λ port has. same port (shown_is_port n all port has))

pub plain_shows : (n : Netlist) (cycles : ℕ) → ShowsItsNetlist (plain_run n cycles)
plain_shows n cycles = record { line = line_shows n false; last = memories_same n }

pub stimulus_shows : (n : Netlist) (run : Run) (head : Text) (all : Bool) → ShowsItsNetlist (stimulus_run n run head all)
stimulus_shows n run head all = record { line = line_shows n all; last = memories_same n }

all_ports_show : (n : Netlist) (sig : Signature) (run : TxRun) (cycles : ℕ) → ShowsItsNetlist (transactions_run n sig run cycles [] true)
all_ports_show n sig run cycles = record { line = line_shows n true; last = λ states other same. refl }

-- ---- traces of Filament designs

module _ (c : Component) (run : TxRun) where
  abbrev height : ℕ
  height = rows_taken c run.transactions

  abbrev IsTraceOf : Netlist → Trace → Type 0
  IsTraceOf n trace = NetRun n height (driven_by (component_signature c) run) no_loads height trace

  abbrev lines_of : Netlist → Trace → Text
  lines_of n trace = lines_text (row_text (shown_ports n true)) trace height

  same_lines : (n : Netlist) → IsValid n → HasNoLoop n → (trace other : Trace) → IsTraceOf n trace → IsTraceOf n other → lines_of n trace ≡ lines_of n other
  same_lines n valid no_loop trace other is is' =
      let sig = component_signature c in
      lines_once (transactions_run n sig run height [] true) valid no_loop (all_ports_show n sig run height) height trace other is is'

  -- what was made spells one netlist, and that has one run
  pub traces_once : (design : Design) (made : Text) (o o' : Outcome) → Traces design c run made o → Traces design c run made o' → o ≡ o'
  traces_once design made o o' p q =
      let net : q.net ≡ p.net = one_netlist made q.net p.net q.made_net.spells p.made_net.spells in
      let other : IsTraceOf p.net q.trace = subst (λ (n : Netlist). IsTraceOf n q.trace) net q.is_run in
      let keeps = p.made_net.refines in
      let lines : lines_of p.net p.trace ≡ lines_of q.net q.trace =
      same_lines p.net keeps.valid keeps.no_loop p.trace q.trace p.is_run other ∙ ap (λ (n : Netlist). lines_of n q.trace) (sym net) in
      p.outcome ∙ ap (λ (text : Text). done_with (made ++ 10 ∷ [] ++ text)) lines ∙ sym q.outcome

  -- its report alone tells the trace
  pub traces_report : (design : Design) (made : Text) (o : Outcome) → Traces design c run made o → Traces design c run made (done_with o.report)
  traces_report design made o t = record {
    net = t.net;
    made_net = t.made_net;
    trace = t.trace;
    is_run = t.is_run;
    outcome = ap (λ (x : Outcome). done_with x.report) t.outcome;
  }
