-- What was written of a netlist's run is a part of whatever report the design's run may have.
use Rattle.std.proofs.Common.{◌≡◌, ℕ, suc, ◌≤◌, List, [], ◌++◌, ◌&&◌, Bool, filter, Option, Some, None, Result, Ok, Err, Contains, refl, sym, ap, ap₂, ◌∙◌, arith, append_assoc, inl, inr, ⊎_elim}
use Rattle.std.specs.Prelude.{option_and_then, is_some, IsSome}
use Rattle.std.proofs.lemmas.List.Elements.{All-contains, All-contains_itself, All-filter}
use Rattle.hw_names.proofs.NameLemmas.{Contains-cases}
use Rattle.hw_names.specs.Name.{Text}
use Rattle.hw_prims.specs.Row.{Trace}
use Rattle.hw_prims.specs.Table.{Pin, is_memory, pin_names, prim_of}
use Rattle.hw_prims.specs.declared.prim.Primitive.{Primitive}
use Rattle.net_core.specs.Circuit.{states_before}
use Rattle.net_core.specs.NetRun.{IsNetCell}
use Rattle.net_core.specs.Netlist.{CellLine, Netlist}
use Rattle.cal_ast.proofs.ListLemmas.{Contains-at, Contains-from_map}
use Rattle.cal_ast.proofs.LookupLemmas.{cell_named-itself}
use Rattle.cal_ast.proofs.SideLemmas.{input_first, output_first, some_found}
use Rattle.cal_ast.specs.Instances.{IsPrimitiveCell}
use Rattle.cal_ast.specs.Keeping as keeping
use Rattle.cal_ast.specs.Keeping.{flat_cell}
use Rattle.cal_ast.specs.Naming.{Unreserved}
use Rattle.cal_ast.specs.Observable.{observable_memories}
use Rattle.cal_ast.specs.Plain.{HasPlainTree}
use Rattle.cal_ast.specs.Ports.{Input, Output, SidedPin, both_sides, inputs_in, outputs_in, port_named, primitive_of}
use Rattle.cal_ast.specs.Rules.{CalRules}
use Rattle.cal_ast.specs.Schedule as calyx
use Rattle.cal_ast.specs.Schedule.{IsPortOf}
use Rattle.cal_ast.specs.Tree.{CellDef, Component, Design}
use Rattle.cal_net.specs.Face.{face}
use Rattle.cal_net.specs.Refining.{RefinesFrom}
use Rattle.cal_runs.proofs.EndLemmas.{rows_are_one}
use Rattle.cal_runs.specs.Laws.{GoTogether}
use Rattle.stim_read.specs.CycleRun.{Run}
use Rattle.filc_load.specs.Given.{given_inputs}
use Rattle.filc_report.proofs.MemoryLemmas.{memories_same}
use Rattle.filc_report.proofs.RowLemmas.{fewer_lines, lines_same, row_same}
use Rattle.filc_report.specs.Rows.{memories_text, outputs_of_net, row_text}
use Rattle.filc_report.specs.Runs.{HasAllRows, HasRows, IsRunCutShort, RunLeaves}
use Rattle.filc_stop.specs.Leaving.{IsCutShort, Leaves, MakesNone}
use Rattle.filc_stop.specs.Outcome.{Outcome}
use Rattle.filc_stop.specs.declared.stop.Stop.{Stop}
use Rattle.filc_stop.specs.declared.stop.Stop.TheVariants as stop
use Rattle.filc_calyx.proofs.MeansLemmas.{means_from, memories_are, printed, rows_are, run_meant}
use Rattle.filc_calyx.specs.Means.{Driven, IsRun, Means, output_rows, words_given}

-- ---- the top's outputs and observable memories are ports and cells of the design

output_named : (ins outs : List Pin) (name : Text) → Contains (pin_names outs) name → IsSome (port_named (both_sides ins outs) name)
output_named ins outs name has =
    ⊎_elim (λ input. ap is_some (some_found (λ (q : SidedPin). q.side) (port_named (both_sides ins outs) name) Input (input_first ins outs name input)).1)
    (λ none. ap is_some (some_found (λ (q : SidedPin). q.side) (port_named (both_sides ins outs) name) Output (output_first ins outs name none has)).1)
    (Contains-cases (pin_names ins) name)

pub output_is_port : (design : Design) (top : Component) (name : Text) → Contains (outputs_of_net (face top)) name → IsPortOf design top name
output_is_port design top name has = record {
  path = [];
  c = top;
  at = refl;
  p = record { cell = None; pin = name };
  known = output_named (inputs_in top) (outputs_in top) name has;
  named = refl;
}

kept_is_in : {X : Type 0} (p : X → Bool) (xs : List X) (x : X) → Contains (filter p xs) x → Contains xs x
kept_is_in p xs x has = All-contains (Contains xs) (filter p xs) x (All-filter p (Contains xs) xs (All-contains_itself xs)) has

module _ (design : Design) (top : Component) (plain : HasPlainTree design) (rules : CalRules design) (in_design : Contains design top) where
  of_cell : (cell : CellDef) → Contains top.cells cell → (line : CellLine) → flat_cell [] cell ≡ line → (name : Text) (prim : Primitive) → line.name ≡ name → prim_of line.prim line.params ≡ Some prim → IsPrimitiveCell design top name prim
  of_cell cell has line is name prim named made = record {
    path = [];
    c = top;
    at = refl;
    cell = cell.name;
    made =
        ap (option_and_then primitive_of) (cell_named-itself Unreserved design rules.keeps top in_design cell has)
        ∙ ap (λ (l : CellLine). prim_of l.prim l.params) is ∙ made;
    named = ap (λ (l : CellLine). l.name) is ∙ named;
  }

  pub memory_is_cell : (name : Text) (prim : Primitive) → IsNetCell (face top) name prim → IsPrimitiveCell design top name prim
  memory_is_cell name prim (k, line, at, named, made) =
      let found = Contains-from_map (flat_cell []) (observable_memories top) line (Contains-at (face top).cells k line at) in
      of_cell found.0 (kept_is_in (λ (cell : CellDef). cell.external && is_memory cell.made) top.cells found.0 found.1) line found.2 name prim named made

  -- ---- rows that runs of the design have in common

  module _ (run : Run) where
    abbrev meant : Driven
    meant = record { design = design; top = top; run = run }

    -- some first rows of the design, none of which has a Conflict
    abbrev HasFirstRows : ℕ → Trace → Type 0
    HasFirstRows t trace = keeping.EndsAs (calyx.Run design top) t (given_inputs (face top) run.settings) (words_given meant) (record { height = t; trace = trace; stop = None })

    abbrev memories_after : Trace → Text
    memories_after trace = memories_text (face top) (states_before run.cycles trace (words_given meant))

    module _ (t : ℕ) (trace : Trace) (first : HasFirstRows t trace) where
      together : (height : ℕ) (other : Trace) (stop : Option Text) → IsRun meant height other stop
          → GoTogether design top (words_given meant) (record { height = t; trace = trace; stop = None }) (record { height = height; trace = other; stop = stop })
      together height other stop is =
          rows_are_one design top plain rules in_design t run.cycles (given_inputs (face top) run.settings) (words_given meant)
          (record { height = t; trace = trace; stop = None }) (record { height = height; trace = other; stop = stop }) first is

      same_rows : (height : ℕ) (other : Trace) (stop : Option Text) → t ≤ height → IsRun meant height other stop → output_rows meant trace t ≡ output_rows meant other t
      same_rows height other stop long is =
          let both = together height other stop is in
          lines_same (row_text (outputs_of_net (face top))) trace other t (λ k before.
          row_same (outputs_of_net (face top)) k (trace k) (other k) (λ port has. both.ports k port before (omega (arith, before, long)) (output_is_port design top port has)))

      begins : (height u : ℕ) (other : Trace) (stop : Option Text) → t ≤ height → t ≤ u → IsRun meant height other stop → (rest : Text) × (output_rows meant trace t ++ rest ≡ output_rows meant other u)
      begins height u other stop long more is =
          let fewer = fewer_lines (row_text (outputs_of_net (face top))) other t u more in
          (fewer.0, ap (λ (front : Text). front ++ fewer.0) (same_rows height other stop long is) ∙ fewer.1)

      -- they begin whatever report may come
      begins_report : t ≤ run.cycles → (o : Outcome) → Means meant o → (rest : Text) × (output_rows meant trace t ++ rest ≡ o.report)
      begins_report few o (inl clash) =
          let later = (together (suc clash.row) clash.trace (Some clash.port) clash.run).stops clash.port refl refl in
          let text = begins (suc clash.row) clash.row clash.trace (Some clash.port) (omega (arith, later)) (omega (arith, later)) clash.run in
          (text.0, text.1 ∙ sym (ap (λ (x : Outcome). x.report) clash.outcome))
      begins_report few o (inr whole) =
          let text = begins run.cycles run.cycles whole.trace None few few whole.run in
          let memories = memories_after whole.trace in
          (text.0 ++ memories, sym (append_assoc (output_rows meant trace t) text.0 memories) ∙ ap (λ (front : Text). front ++ memories) text.1 ∙ sym (ap (λ (x : Outcome). x.report) whole.outcome))

    -- all rows, and the words of memories after them, are whatever report may come
    is_report : (trace : Trace) → HasFirstRows run.cycles trace → (o : Outcome) → Means meant o → output_rows meant trace run.cycles ++ memories_after trace ≡ o.report
    is_report trace all o (inl clash) =
        let later = (together run.cycles trace all (suc clash.row) clash.trace (Some clash.port) clash.run).stops clash.port refl refl in
        absurd (⊎_elim (λ ends. omega (arith, later, ends)) (λ early. omega (arith, later, early.0)) clash.run.run.run.ends)
    is_report trace all o (inr whole) =
        let both = together run.cycles trace all run.cycles whole.trace None whole.run in
        ap₂ ◌++◌ (same_rows run.cycles trace all run.cycles whole.trace None (omega arith) whole.run)
        (memories_same (face top) (states_before run.cycles trace (words_given meant)) (states_before run.cycles whole.trace (words_given meant))
        (λ name prim is. both.states run.cycles name prim (omega arith) (omega arith) (memory_is_cell name prim is)))
        ∙ sym (ap (λ (x : Outcome). x.report) whole.outcome)

    -- ---- what is left of a netlist's run

    module _ (n : Netlist) (refines : RefinesFrom design top n) (out out' : Option Text) where
      rows_left : HasRows (printed design top n refines run) out out' → IsCutShort MakesNone (λ made. Means meant) out out'
      rows_left rows =
          let first = run_meant design top n refines run rows.t rows.t rows.trace None (record { run = rows.runs.run; stops = rows.runs.clean }) in
          inr (record {
            made = [];
            makes_it = refl;
            part = λ o comes.
                let begun = begins_report rows.t rows.trace first rows.within o comes in
                record {
                  gained = rows.prefix.gained;
                  left = rows.prefix.left ++ begun.0;
                  in_order =
                      sym (append_assoc rows.prefix.gained rows.prefix.left begun.0)
                      ∙ ap (λ (front : Text). front ++ begun.0) (rows.prefix.in_order ∙ rows_are design top n refines run rows.trace rows.t) ∙ begun.1;
                  appended = rows.prefix.appended;
                };
          })

      all_left : HasAllRows (printed design top n refines run) out out' → IsCutShort MakesNone (λ made. Means meant) out out'
      all_left rows =
          let all = run_meant design top n refines run run.cycles run.cycles rows.trace None (record { run = rows.runs.run; stops = rows.runs.clean }) in
          inr (record {
            made = [];
            makes_it = refl;
            part = λ o comes. record {
              gained = rows.prefix.gained;
              left = rows.prefix.left;
              in_order = rows.prefix.in_order ∙ ap₂ ◌++◌ (rows_are design top n refines run rows.trace run.cycles) (memories_are design top n refines run rows.trace run.cycles) ∙ is_report rows.trace all o comes;
              appended = rows.prefix.appended;
            };
          })

      cut_meant : IsRunCutShort (printed design top n refines run) out out' → IsCutShort MakesNone (λ made. Means meant) out out'
      cut_meant (inl kept) = inl kept
      cut_meant (inr (inl rows)) = rows_left rows
      cut_meant (inr (inr rows)) = all_left rows

      -- what the netlist's run leaves is what the design's run leaves
      pub means_leaves : (result : Result (Unit {0}) Stop) → RunLeaves (printed design top n refines run) result out out' → Leaves MakesNone (λ made. Means meant) result out out'
      means_leaves (Ok done) has = record { made = has.made; report = has.report; outcome = means_from design top n refines run _ has.outcome; reported = has.reported }
      means_leaves (Err stop.ReadFault) has = absurd has
      means_leaves (Err stop.StimulusReadFault) has = absurd has
      means_leaves (Err (stop.Refused why)) has = record { made = has.made; report = has.report; outcome = means_from design top n refines run _ has.outcome; reported = has.reported }
      means_leaves (Err stop.WriteFault) has = cut_meant has
      means_leaves (Err stop.Memory) has = cut_meant has
