-- What was written of a run's first rows is a part of whatever report may come of the run.
use Rattle.std.proofs.Common.{◌≡◌, ℕ, suc, ◌<◌, ◌≤◌, List, [], ◌++◌, Option, refl, sym, ap, ap₂, subst, ◌∙◌, arith, append_assoc, inl, inr, ⊎_elim}
use Rattle.std.proofs.lemmas.Bool.{cases_lt}
use Rattle.hw_io.specs.Writing.{AppendsPrefix}
use Rattle.hw_names.specs.Name.{Text}
use Rattle.hw_prims.specs.Row.{Row, Trace}
use Rattle.hw_prims.specs.State.{State}
use Rattle.hw_prims.specs.declared.prim.Primitive.{Primitive}
use Rattle.net_core.specs.Circuit.{HasConflict, states_before}
use Rattle.net_core.specs.NetRun.{NetRun, net_circuit, IsNetCell}
use Rattle.net_core.specs.Netlist.{Netlist}
use Rattle.net_core.specs.Rules.{IsValid}
use Rattle.net_sim.specs.Order.{IsOrderOf}
use Rattle.filc_stop.specs.Leaving.{IsCutShort, MakesNone}
use Rattle.filc_stop.specs.Outcome.{Outcome}
use Rattle.filc_report.specs.Rows.{lines_text}
use Rattle.filc_report.specs.Runs.{PrintedRun, IsRunOf, RunComes, text_to, run_text}
use Rattle.filc_report.specs.Streams.{RunsCleanly}
use Rattle.filc_report.proofs.MemoryLemmas.{states_same}
use Rattle.filc_report.proofs.NetLaws.{IsPort, same_rows, same_conflicts}
use Rattle.filc_report.proofs.RowLemmas.{lines_same, fewer_lines}

-- the report of the run was cut short
abbrev pub IsCutShortOf : PrintedRun → Option Text → Option Text → Type 0
IsCutShortOf p out out' = IsCutShort MakesNone (λ made. RunComes p) out out'

-- the netlist of a run keeps the rules and has an order, and what is printed depends on its ports and its cells alone
pub record IsRunnable (p : PrintedRun) : Type 0 where
  pub valid : IsValid p.net
  pub order : List ℕ
  pub ordered : IsOrderOf p.net order
  pub line : (t : ℕ) (row row' : Row) → ((port : Text) → IsPort p.net port → row port ≡ row' port) → p.line t row ≡ p.line t row'
  pub last : (states states' : Text → Primitive → State) → ((cell : Text) (prim : Primitive) → IsNetCell p.net cell prim → states cell prim ≡ states' cell prim) → p.last states ≡ p.last states'

-- fewer rows of a run are a run of fewer rows
fewer_of_run : (n : Netlist) (asked : ℕ) (inputs : Trace) (loads : Text → List ℕ) (height t : ℕ) (trace : Trace) → t ≤ height → NetRun n asked inputs loads height trace → NetRun n t inputs loads t trace
fewer_of_run n asked inputs loads height t trace few run = record {
  rows = λ k before. run.rows k (omega arith);
  goes_on = λ k before. run.goes_on k (omega arith);
  ends = inl refl;
}

module _ (p : PrintedRun) (runnable : IsRunnable p) (t : ℕ) (trace : Trace) (few : t ≤ p.cycles) (runs : RunsCleanly p.net t p.inputs p.loads trace) where
  -- any other run has these rows too
  agrees : (height : ℕ) (trace' : Trace) → t ≤ height → IsRunOf p height trace' → (k : ℕ) → k < t → (port : Text) → IsPort p.net port → trace k port ≡ trace' k port
  agrees height trace' long run' k before = same_rows p.net runnable.valid runnable.order runnable.ordered t t t p.inputs p.loads trace trace' runs.run (fewer_of_run p.net p.cycles p.inputs p.loads height t trace' long run') k before before

  same_text : (height : ℕ) (trace' : Trace) → t ≤ height → IsRunOf p height trace' → lines_text p.line trace t ≡ lines_text p.line trace' t
  same_text height trace' long run' = lines_same p.line trace trace' t (λ k before. runnable.line k (trace k) (trace' k) (agrees height trace' long run' k before))

  begins : (height u : ℕ) (trace' : Trace) → t ≤ height → t ≤ u → IsRunOf p height trace' → (rest : Text) × (text_to p trace t ++ rest ≡ text_to p trace' u)
  begins height u trace' long more run' =
      let fewer = fewer_lines p.line trace' t u more in
      (fewer.0, append_assoc p.head (lines_text p.line trace t) fewer.0 ∙ ap (λ rows. p.head ++ rows) (ap (λ front. front ++ fewer.0) (same_text height trace' long run') ∙ fewer.1))

  -- no row before t of any run has a Conflict
  conflict_is_later : (u : ℕ) (trace' : Trace) (port : Text) → IsRunOf p (suc u) trace' → HasConflict (net_circuit p.net) u (trace' u) port → t ≤ u
  conflict_is_later u trace' port run' has =
      ⊎_elim (λ early.
      let first = fewer_of_run p.net t p.inputs p.loads t (suc u) trace (omega (arith, early)) runs.run in
      let second = fewer_of_run p.net p.cycles p.inputs p.loads (suc u) (suc u) trace' (omega arith) run' in
      let alike : (q : Text) → IsPort p.net q → trace' u q ≡ trace u q = λ q is. sym (same_rows p.net runnable.valid runnable.order runnable.ordered (suc u) (suc u) (suc u) p.inputs p.loads trace trace' first second u (omega arith) (omega arith) q is) in
      absurd (runs.clean u port early (same_conflicts p.net runnable.valid u (trace' u) (trace u) alike port has)))
      (λ late. late) (cases_lt u t)

  begins_report : (o : Outcome) → RunComes p o → (rest : Text) × (text_to p trace t ++ rest ≡ o.report)
  begins_report o (inl clash) =
      let later = conflict_is_later clash.row clash.trace clash.port clash.run clash.reported.has in
      let text = begins (suc clash.row) clash.row clash.trace (omega (arith, later)) later clash.run in
      (text.0, text.1 ∙ sym (ap (λ (o : Outcome). o.report) clash.outcome))
  begins_report o (inr whole) =
      let text = begins p.cycles p.cycles whole.trace few few whole.run in
      let memories = p.last (states_before p.cycles whole.trace p.loads) in
      (text.0 ++ memories, sym (append_assoc (text_to p trace t) text.0 memories) ∙ ap (λ front. front ++ memories) text.1 ∙ sym (ap (λ (o : Outcome). o.report) whole.outcome))

  -- so what was written of these rows is a part of the report, whatever the rest would be
  pub part_of_rows : (out out' : Option Text) → AppendsPrefix out out' (text_to p trace t) → IsCutShortOf p out out'
  part_of_rows out out' prefix = inr (record {
    made = [];
    makes_it = refl;
    part = λ o comes.
        let begun = begins_report o comes in
        record {
          gained = prefix.gained;
          left = prefix.left ++ begun.0;
          in_order = sym (append_assoc prefix.gained prefix.left begun.0) ∙ ap (λ front. front ++ begun.0) prefix.in_order ∙ begun.1;
          appended = prefix.appended;
        };
  })

-- what comes of a run of which no row has a Conflict is the text of this run
module _ (p : PrintedRun) (runnable : IsRunnable p) (trace : Trace) (runs : RunsCleanly p.net p.cycles p.inputs p.loads trace) where
  same_run_text : (trace' : Trace) → IsRunOf p p.cycles trace' → run_text p trace ≡ run_text p trace'
  same_run_text trace' run' =
      let alike = agrees p runnable p.cycles trace (omega arith) runs p.cycles trace' (omega arith) run' in
      ap₂ ◌++◌ (ap (λ rows. p.head ++ rows) (same_text p runnable p.cycles trace (omega arith) runs p.cycles trace' (omega arith) run'))
      (runnable.last (states_before p.cycles trace p.loads) (states_before p.cycles trace' p.loads) (states_same p.net p.loads trace trace' p.cycles alike))

  is_report : (o : Outcome) → RunComes p o → run_text p trace ≡ o.report
  is_report o (inl clash) =
      let later = conflict_is_later p runnable p.cycles trace (omega arith) runs clash.row clash.trace clash.port clash.run clash.reported.has in
      absurd (⊎_elim (λ all. omega (arith, later, all)) (λ early. omega (arith, later, early.0)) clash.run.ends)
  is_report o (inr whole) = same_run_text whole.trace whole.run ∙ sym (ap (λ (o : Outcome). o.report) whole.outcome)

  pub part_of_run : (out out' : Option Text) → AppendsPrefix out out' (run_text p trace) → IsCutShortOf p out out'
  part_of_run out out' prefix = inr (record {
    made = [];
    makes_it = refl;
    part = λ o comes. subst (λ text. AppendsPrefix out out' text) (is_report o comes) prefix;
  })
