-- One thing comes of the run of a Calyx design; and traces of its netlists end alike.
use Rattle.std.proofs.Common.{◌≡◌, ℕ, zero, suc, ◌+◌, ◌<◌, List, [], ◌∷◌, ◌++◌, true, Option, Some, None, sym, ap, ap₂, subst, ◌∙◌, arith, inl, inr}
use Rattle.std.specs.Prelude.{slice_get, Contains}
use Rattle.std.proofs.lemmas.Option.{same_Some}
use Rattle.hw_names.specs.Name.{Text}
use Rattle.hw_prims.specs.Row.{Trace}
use Rattle.net_core.specs.Circuit.{states_before}
use Rattle.net_core.specs.Netlist.{Netlist}
use Rattle.net_text.proofs.OneNetlist.{one_netlist}
use Rattle.cal_ast.proofs.ListLemmas.{Contains-at}
use Rattle.cal_ast.specs.Keeping as keeping
use Rattle.cal_ast.specs.Plain.{HasPlainTree}
use Rattle.cal_ast.specs.Rules.{CalRules}
use Rattle.cal_ast.specs.Tree.{Component}
use Rattle.cal_net.specs.Face.{face}
use Rattle.cal_net.specs.Refining.{RefinesFrom}
use Rattle.cal_parse.proofs.Designs.{tree_written}
use Rattle.cal_runs.proofs.EndLemmas.{runs_are_unique}
use Rattle.stim_read.specs.CycleRun.{Run}
use Rattle.filc_calyx.proofs.MeansLemmas.{run_meant}
use Rattle.filc_calyx.proofs.PartLemmas.{memory_is_cell, output_is_port}
use Rattle.filc_calyx.proofs.PlainLemmas.{written_plain}
use Rattle.filc_load.proofs.CostLemmas.{one_number}
use Rattle.filc_calyx.specs.Means.{Driven, IsRun, Means, EndsInConflict, RunsWhole, Traces, output_rows, words_given}
use Rattle.filc_load.specs.Given.{given_inputs}
use Rattle.filc_report.proofs.MemoryLemmas.{memories_same}
use Rattle.filc_report.proofs.RowLemmas.{lines_same, row_same}
use Rattle.filc_report.specs.Rows.{memories_text, outputs_of_net, row_text}
use Rattle.filc_report.specs.Runs.{RunComes, stimulus_run}
use Rattle.filc_stop.specs.Lines.{conflict_line}
use Rattle.filc_stop.specs.Outcome.{Contents, Outcome, conflict_after, done_with}
use Rattle.filc_stop.specs.declared.ended.Ended.{Ended}
use Rattle.filc_stop.specs.declared.ended.Ended.TheVariants.{Done, Conflict}
use Rattle.filc_core.proofs.CalRunLemmas.{driven_of}
use Rattle.filc_core.specs.commands.CalRun.{CalTop, GivesTop}
use Rattle.filc_laws.proofs.ReportLemmas.{comes_once}
use Rattle.filc_laws.proofs.TraceLemmas.{stimulus_shows}

module _ (top : CalTop) (contents : Contents) (file : Text) (gives : GivesTop contents file top) (run : Run) where
  abbrev d : Driven
  d = driven_of top run

  abbrev outs : List Text
  outs = outputs_of_net (face top.comp)

  pub in_design : Contains top.design top.comp
  in_design = Contains-at top.design top.number top.comp gives.at

  pub plain_tree : HasPlainTree top.design
  plain_tree = written_plain top.design (tree_written gives.gives.bytes top.design gives.gives.gives.accepted.text_of.spells)

  pub keeps_rules : CalRules top.design
  keeps_rules = gives.gives.gives.accepted.rules

  -- its runs are one
  pub one_run : (height tall : ℕ) (trace other : Trace) (stop stop' : Option Text) → IsRun d height trace stop → IsRun d tall other stop'
      → keeping.AreOne top.design top.comp (words_given d) (record { height = height; trace = trace; stop = stop }) (record { height = tall; trace = other; stop = stop' })
  one_run height tall trace other stop stop' is is' =
      runs_are_unique top.design top.comp plain_tree keeps_rules in_design run.cycles (given_inputs (face top.comp) run.settings) (words_given d) (record { height = height; trace = trace; stop = stop })
      (record { height = tall; trace = other; stop = stop' }) is is'

  rows_alike : (t height tall : ℕ) (trace other : Trace) (stop stop' : Option Text) → t < height + 1 → IsRun d height trace stop → IsRun d tall other stop' → output_rows d trace t ≡ output_rows d other t
  rows_alike t height tall trace other stop stop' within is is' =
      let one = one_run height tall trace other stop stop' is is' in
      lines_same (row_text outs) trace other t (λ k before. row_same outs k (trace k) (other k) (λ port has. one.ports k port (omega (arith, before, within)) (output_is_port top.design top.comp port has)))

  two_conflicts : (o o' : Outcome) → EndsInConflict d o → EndsInConflict d o' → o ≡ o'
  two_conflicts o o' p q =
      let one = one_run (suc p.row) (suc q.row) p.trace q.trace (Some p.port) (Some q.port) p.run q.run in
      let row : p.row ≡ q.row = omega (arith, one.heights) in
      let port = same_Some p.port q.port one.stops in
      let rows = rows_alike p.row (suc p.row) (suc q.row) p.trace q.trace (Some p.port) (Some q.port) (omega arith) p.run q.run in
      p.outcome ∙ ap (λ (text : Text). conflict_after text p.row p.port) rows ∙ ap₂ (λ (t : ℕ) (name : Text). conflict_after (output_rows d q.trace t) t name) row port ∙ sym q.outcome

  not_both : (o o' : Outcome) → EndsInConflict d o → RunsWhole d o' → ⊥
  not_both o o' p q = let stops = (one_run (suc p.row) run.cycles p.trace q.trace (Some p.port) None p.run q.run).stops in cc stops

  -- after the last edge the observable memories have the same words
  pub memories_alike : (trace other : Trace) → IsRun d run.cycles trace None → IsRun d run.cycles other None
      → memories_text (face top.comp) (states_before run.cycles trace (words_given d)) ≡ memories_text (face top.comp) (states_before run.cycles other (words_given d))
  memories_alike trace other is is' =
      let one = one_run run.cycles run.cycles trace other None None is is' in
      memories_same (face top.comp) (states_before run.cycles trace (words_given d)) (states_before run.cycles other (words_given d))
      (λ name prim cell. one.states run.cycles name prim (omega arith) (memory_is_cell top.design top.comp plain_tree keeps_rules in_design name prim cell))

  two_whole : (o o' : Outcome) → RunsWhole d o → RunsWhole d o' → o ≡ o'
  two_whole o o' p q =
      let rows = rows_alike run.cycles run.cycles run.cycles p.trace q.trace None None (omega arith) p.run q.run in
      p.outcome ∙ ap done_with (ap₂ ◌++◌ rows (memories_alike p.trace q.trace p.run q.run)) ∙ sym q.outcome

  pub means_once : (o o' : Outcome) → Means d o → Means d o' → o ≡ o'
  means_once o o' (inl p) (inl q) = two_conflicts o o' p q
  means_once o o' (inl p) (inr q) = absurd (not_both o o' p q)
  means_once o o' (inr p) (inl q) = absurd (not_both o' o q p)
  means_once o o' (inr p) (inr q) = two_whole o o' p q

  -- ---- traces

  abbrev ended_by : Option Text → Ended
  ended_by None = Done
  ended_by (Some port) = Conflict

  abbrev line_by : ℕ → Option Text → Text
  line_by height None = []
  line_by zero (Some port) = []
  line_by (suc row) (Some port) = conflict_line row port

  -- the outcome tells how a run of the design stops
  record Stopped (o : Outcome) : Type 0 where
    height : ℕ
    trace : Trace
    stop : Option Text
    is_run : IsRun d height trace stop
    ended : o.ended ≡ ended_by stop
    line : o.line ≡ line_by height stop

  module _ (n : Netlist) (refines : RefinesFrom top.design top.comp n) (head : Text) where
    stopped : (o : Outcome) → RunComes (stimulus_run n run head true) o → Stopped o
    stopped o (inl clash) = record {
      height = suc clash.row;
      trace = clash.trace;
      stop = Some clash.port;
      is_run = run_meant top.design top.comp n refines run run.cycles (suc clash.row) clash.trace (Some clash.port) (record { run = clash.run; stops = (clash.row, omega arith, clash.reported) });
      ended = ap (λ (x : Outcome). x.ended) clash.outcome;
      line = ap (λ (x : Outcome). x.line) clash.outcome;
    }
    stopped o (inr whole) = record {
      height = run.cycles;
      trace = whole.trace;
      stop = None;
      is_run = run_meant top.design top.comp n refines run run.cycles run.cycles whole.trace None (record { run = whole.run; stops = whole.clean });
      ended = ap (λ (x : Outcome). x.ended) whole.outcome;
      line = ap (λ (x : Outcome). x.line) whole.outcome;
    }

  traced : (made : Text) (o : Outcome) → Traces d made o → Stopped o
  traced made o t =
      let refines = t.made_net.is_for.refines in
      let number = one_number top.design refines.number top.number refines.is_top gives.is_top in
      let same = same_Some refines.top top.comp (sym refines.at ∙ ap (slice_get top.design) number ∙ gives.at) in
      stopped t.net (subst (λ (c : Component). RefinesFrom top.design c t.net) same refines.refines) (made ++ 10 ∷ []) o t.comes

  -- traces of two netlists of the design end alike
  pub end_alike : (made made' : Text) (o o' : Outcome) → Traces d made o → Traces d made' o' → (o.ended ≡ o'.ended) × (o.line ≡ o'.line)
  end_alike made made' o o' p q =
      let a = traced made o p in
      let b = traced made' o' q in
      let one = one_run a.height b.height a.trace b.trace a.stop b.stop a.is_run b.is_run in
      (a.ended ∙ ap ended_by one.stops ∙ sym b.ended, a.line ∙ ap₂ line_by one.heights one.stops ∙ sym b.line)

-- what was made spells one netlist, and that has one run
pub cal_traces_once : (d : Driven) (made : Text) (o o' : Outcome) → Traces d made o → Traces d made o' → o ≡ o'
cal_traces_once d made o o' p q =
    let head = made ++ 10 ∷ [] in
    let net : q.net ≡ p.net = one_netlist made q.net p.net q.made_net.spells p.made_net.spells in
    let keeps = p.made_net.is_for.refines.refines.refines in
    comes_once (stimulus_run p.net d.run head true) keeps.valid keeps.no_loop (stimulus_shows p.net d.run head true) o o' p.comes
    (subst (λ (n : Netlist). RunComes (stimulus_run n d.run head true) o') net q.comes)
