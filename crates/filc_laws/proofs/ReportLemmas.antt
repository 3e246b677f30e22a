-- One thing comes of a run that is printed.
use Rattle.std.proofs.Common.{◌≡◌, ℕ, suc, ◌<◌, ◌≤◌, List, ◌++◌, length, refl, sym, ap, ap₂, ◌∙◌, arith, inl, inr, subst}
use Rattle.hw_graph.proofs.MemberLemmas.{in_of}
use Rattle.hw_names.specs.Name.{Text}
use Rattle.hw_prims.specs.Row.{Trace}
use Rattle.net_core.specs.Circuit.{HasConflict, IsReported, states_before}
use Rattle.net_core.specs.Graph.{HasNoLoop}
use Rattle.net_core.specs.NetRun.{net_circuit, net_drive}
use Rattle.net_core.specs.Rules.{IsValid}
use Rattle.net_sim.proofs.AgreeLemmas.{drivers_agree, set_reads}
use Rattle.net_sim.specs.Layout.{port_names}
use Rattle.filc_report.proofs.RowLemmas.{lines_same}
use Rattle.filc_report.specs.Rows.{lines_text}
use Rattle.filc_report.specs.Runs.{PrintedRun, IsRunOf, EndsInConflict, RunsWhole, RunComes, text_to}
use Rattle.filc_stop.specs.Outcome.{Outcome, done_with, conflict_after}
use Rattle.filc_laws.proofs.OrderLemmas.{Below, Above, Same, compared, neither_greater}
use Rattle.filc_laws.proofs.RowLemmas.{AgreeIn, agree_in, states_alike}
use Rattle.filc_laws.specs.OneOutcome.{ShowsItsNetlist, RunIsOne}

module _ (p : PrintedRun) (valid : IsValid p.net) (no_loop : HasNoLoop p.net) (shows : ShowsItsNetlist p) where
  abbrev Agree : Trace → Trace → ℕ → Type 0
  Agree = AgreeIn p.net valid no_loop

  -- ---- texts

  rows_same : (t : ℕ) (trace other : Trace) → ((s : ℕ) → s < t → Agree trace other s) → lines_text p.line trace t ≡ lines_text p.line other t
  rows_same t trace other agree = lines_same p.line trace other t (λ s less. shows.line s (trace s) (other s) (λ port has. agree s less port (in_of (port_names p.net) port has)))

  -- two runs of as many rows have the same lines
  pub lines_once : (height : ℕ) (trace other : Trace) → IsRunOf p height trace → IsRunOf p height other → lines_text p.line trace height ≡ lines_text p.line other height
  lines_once height trace other run run' =
      rows_same height trace other (λ s less. agree_in p.net valid no_loop p.inputs p.loads height height trace other run.rows run'.rows s less less)

  -- ---- Conflicts

  conflict_too : (t : ℕ) (trace other : Trace) → Agree trace other t → (port : Text) → HasConflict (net_circuit p.net) t (trace t) port → HasConflict (net_circuit p.net) t (other t) port
  conflict_too t trace other agree port c =
      let alike = drivers_agree (trace t) (other t) port p.net.sets (λ k a at dst read has. agree read (in_of (port_names p.net) read (set_reads p.net valid k a at read has))) in
      record {
        drive = net_drive p.net port;
        sink = (c.sink.0, refl);
        clash = subst (λ (values : List ℕ). 2 ≤ length values) (ap (λ drive. drive t (trace t)) c.sink.1 ∙ alike) c.clash;
      }

  -- ---- what comes of two traces

  module _ (height tall : ℕ) (trace other : Trace) (run : IsRunOf p height trace) (run' : IsRunOf p tall other) where
    agree : (t : ℕ) → t < height → t < tall → Agree trace other t
    agree = agree_in p.net valid no_loop p.inputs p.loads height tall trace other run.rows run'.rows

    agree_back : (t : ℕ) → t < height → t < tall → Agree other trace t
    agree_back t in_first in_second name has = sym (agree t in_first in_second name has)

  -- a row before the last has no Conflict
  no_earlier : (row row' : ℕ) (trace other : Trace) (port : Text) → IsRunOf p (suc row) trace → IsRunOf p (suc row') other → HasConflict (net_circuit p.net) row (trace row) port → row < row' → ⊥
  no_earlier row row' trace other port run run' c less =
      run'.goes_on row (omega (arith, less)) port (conflict_too row trace other (agree (suc row) (suc row') trace other run run' row (omega arith) (omega (arith, less))) port c)

  same_conflict : (o o' : Outcome) (row : ℕ) (trace other : Trace) (port port' : Text) → IsRunOf p (suc row) trace → IsRunOf p (suc row) other → IsReported (net_circuit p.net) row (trace row) port → IsReported (net_circuit p.net) row (other row) port'
      → o ≡ conflict_after (text_to p trace row) row port → o' ≡ conflict_after (text_to p other row) row port' → o ≡ o'
  same_conflict o o' row trace other port port' run run' told told' is is' =
      let here = agree (suc row) (suc row) trace other run run' in
      let back = agree_back (suc row) (suc row) trace other run run' in
      let same = neither_greater port port'
      (told.least port' (conflict_too row other trace (back row (omega arith) (omega arith)) port' told'.has))
      (told'.least port (conflict_too row trace other (here row (omega arith) (omega arith)) port told.has)) in
      let text = rows_same row trace other (λ s less. here s (omega (arith, less)) (omega (arith, less))) in
      is ∙ ap₂ (λ (rows name : Text). conflict_after (p.head ++ rows) row name) text same ∙ sym is'

  two_conflicts : (o o' : Outcome) → EndsInConflict p o → EndsInConflict p o' → o ≡ o'
  two_conflicts o o' e e' = elim (compared e.row e'.row) [
    | Below less ↦ absurd (no_earlier e.row e'.row e.trace e'.trace e.port e.run e'.run e.reported.has less)
    | Above more ↦ absurd (no_earlier e'.row e.row e'.trace e.trace e'.port e'.run e.run e'.reported.has more)
    | Same same ↦
        let run = subst (λ (t : ℕ). IsRunOf p (suc t) e'.trace) (sym same) e'.run in
        let told = subst (λ (t : ℕ). IsReported (net_circuit p.net) t (e'.trace t) e'.port) (sym same) e'.reported in
        let is = subst (λ (t : ℕ). o' ≡ conflict_after (text_to p e'.trace t) t e'.port) (sym same) e'.outcome in
        same_conflict o o' e.row e.trace e'.trace e.port e'.port e.run run e.reported told e.outcome is
  ]

  within_run : (row : ℕ) (trace : Trace) → IsRunOf p (suc row) trace → row < p.cycles
  within_run row trace run = elim run.ends [ inl all ↦ omega (arith, all) | inr (less, more) ↦ omega (arith, less) ]

  not_both : (o o' : Outcome) → EndsInConflict p o → RunsWhole p o' → ⊥
  not_both o o' e w =
      let less = within_run e.row e.trace e.run in
      w.clean e.row e.port less (conflict_too e.row e.trace w.trace (agree (suc e.row) p.cycles e.trace w.trace e.run w.run e.row (omega arith) less) e.port e.reported.has)

  two_whole : (o o' : Outcome) → RunsWhole p o → RunsWhole p o' → o ≡ o'
  two_whole o o' w w' =
      let here : (s : ℕ) → s < p.cycles → Agree w.trace w'.trace s = λ s less. agree p.cycles p.cycles w.trace w'.trace w.run w'.run s less less in
      let rows = rows_same p.cycles w.trace w'.trace here in
      let last = shows.last (states_before p.cycles w.trace p.loads) (states_before p.cycles w'.trace p.loads) (states_alike p.net valid no_loop p.loads w.trace w'.trace p.cycles here) in
      w.outcome ∙ ap₂ (λ (lines after : Text). done_with ((p.head ++ lines) ++ after)) rows last ∙ sym w'.outcome

  pub comes_once : (o o' : Outcome) → RunComes p o → RunComes p o' → o ≡ o'
  comes_once o o' (inl e) (inl e') = two_conflicts o o' e e'
  comes_once o o' (inl e) (inr w) = absurd (not_both o o' e w)
  comes_once o o' (inr w) (inl e) = absurd (not_both o' o e w)
  comes_once o o' (inr w) (inr w') = two_whole o o' w w'

pub run_is_one : RunIsOne
run_is_one = λ p valid no_loop shows o other comes comes'. comes_once p valid no_loop shows o other comes comes'
