-- A stream of rows, one row after another.
use Rattle.std.proofs.Common.{◌≡◌, ℕ, suc, ◌<◌, List, [], ◌++◌, Option, None, Some, length, refl, sym, ap, subst, ◌∙◌, arith, false, get_or, inl, ◌+◌, add-one}
use Rattle.std.proofs.lemmas.List.{append-nil, length-map, get_or-map}
use Rattle.std.proofs.lemmas.Option.{slice_get-get_or}
use Rattle.hw_io.specs.Writing.{AppendsPrefix, Passes}
use Rattle.hw_io.proofs.WritingLemmas.{passed_none, passed_both, passed_prefix}
use Rattle.hw_names.specs.Name.{Text}
use Rattle.hw_prims.specs.Row.{Row, Trace}
use Rattle.net_core.specs.NetRun.{HasPin}
use Rattle.net_core.specs.Netlist.{Netlist, netlist_of}
use Rattle.net_core.specs.Rules.{PortLine, ports_of}
use Rattle.net_sim.specs.Layout.{name_of, port_names}
use Rattle.net_sim.specs.Order.{IsNamed}
use Rattle.net_sim.specs.Sim.{SimValue, IfRunning, IsRowOfSim, input_row, port_row}
use Rattle.net_sim.specs.declared.sim.Phase.{Phase}
use Rattle.net_sim.specs.declared.sim.Phase.TheVariants.{Fresh, Evaluated, Stepped, Stopped}
use Rattle.net_sim.specs.Standing.{StandsAt, StandsOn}
use Rattle.filc_report.specs.Rows.{lines_text}
use Rattle.filc_report.specs.Streams.{IsStopped, RunsCleanly, StreamsAll, StreamsToConflict, StreamsPart, IsStreamed, PassesRow, FindsConflict, FailsInRow, IsRowStreamed}
use Rattle.filc_report.specs.declared.stream.RowEnd.{RowEnd}
use Rattle.filc_report.specs.declared.stream.RowEnd.TheVariants as ends
use Rattle.filc_report.proofs.RowLemmas.{lines_same}
use Rattle.filc_report.proofs.StandLemmas.{runs_on, runs_into, steps_on, reported_at, longer, before, this_row}

-- where no Conflict has ended the run, a row is made
pub running : (phase : Phase) (claim : Type 0) → (IsStopped phase → ⊥) → IfRunning phase claim → claim
running Fresh claim goes made = made
running Evaluated claim goes made = made
running Stepped claim goes made = made
running (Stopped port) claim goes made = absurd (goes tt)

-- rows 0 to t - 1 were passed on
pub record StreamedTo (n : Netlist) (line : ℕ → Row → Text) (sim : SimValue) (t : ℕ) (inputs : Trace) (loads : Text → List ℕ) (out : Option Text) (held : Text) (out' : Option Text) (held' : Text) : Type 0 where
  pub trace : Trace
  pub stands : StandsOn n sim t inputs loads trace
  pub passed : Passes out held out' held' (lines_text line trace t)

pub streamed_none : (n : Netlist) (line : ℕ → Row → Text) (sim : SimValue) (inputs : Trace) (loads : Text → List ℕ) (out : Option Text) (held : Text) → StandsAt n sim 0 inputs loads → StreamedTo n line sim 0 inputs loads out held out held
streamed_none n line sim inputs loads out held stands = record { trace = stands.0; stands = stands.1; passed = passed_none out held }

pub streamed_stands : (n : Netlist) (line : ℕ → Row → Text) (sim : SimValue) (t : ℕ) (inputs : Trace) (loads : Text → List ℕ) (out : Option Text) (held : Text) (out' : Option Text) (held' : Text) → StreamedTo n line sim t inputs loads out held out' held' → StandsAt n sim t inputs loads
streamed_stands n line sim t inputs loads out held out' held' so_far = (so_far.trace, so_far.stands)

pub runs_to : (n : Netlist) (sim : SimValue) (t : ℕ) (inputs : Trace) (loads : Text → List ℕ) (trace : Trace) → StandsOn n sim t inputs loads trace → RunsCleanly n t inputs loads trace
runs_to n sim t inputs loads trace stands = record {
  run = record { rows = stands.rows; goes_on = λ u more port has. stands.clean u (omega (arith, more)) port has; ends = inl refl };
  clean = λ u port within has. stands.clean u within port has;
}

pub streamed_all : (n : Netlist) (line : ℕ → Row → Text) (sim : SimValue) (t : ℕ) (inputs : Trace) (loads : Text → List ℕ) (out : Option Text) (held : Text) (out' : Option Text) (held' : Text) → StreamedTo n line sim t inputs loads out held out' held' → StreamsAll n line t inputs loads out held out' held'
streamed_all n line sim t inputs loads out held out' held' so_far = record { trace = so_far.trace; runs = runs_to n sim t inputs loads so_far.trace so_far.stands; passed = so_far.passed }

module _ (n : Netlist) (line : ℕ → Row → Text) (sim sim' : SimValue) (t : ℕ) (inputs : Trace) (loads : Text → List ℕ) (ins : List ℕ) (out : Option Text) (held : Text) (now : Option Text) (between : Text) (so_far : StreamedTo n line sim t inputs loads out held now between) (given : (port : Text) → HasPin n.ins port → input_row n ins port ≡ inputs t port) where
  -- the text of the rows before, by the trace that has this row too
  text_before : (mid : SimValue) (conflict : Option ℕ) (makes : IsRowOfSim sim ins mid conflict) → lines_text line so_far.trace t ≡ lines_text line (longer n sim mid t inputs loads so_far.trace ins conflict so_far.stands given makes) t
  text_before mid conflict makes = lines_same line so_far.trace _ t (λ k earlier. ap (line k) (sym (before n sim mid t inputs loads so_far.trace ins conflict so_far.stands given makes k earlier)))

  text_here : (mid : SimValue) (conflict : Option ℕ) (makes : IsRowOfSim sim ins mid conflict) → lines_text line so_far.trace t ++ line t (port_row n mid.values) ≡ lines_text line (longer n sim mid t inputs loads so_far.trace ins conflict so_far.stands given makes) (suc t)
  text_here mid conflict makes =
      ap (λ front. front ++ line t (port_row n mid.values)) (text_before mid conflict makes)
      ∙ ap (λ (row : Row). lines_text line (longer n sim mid t inputs loads so_far.trace ins conflict so_far.stands given makes) t ++ line t row) (sym (this_row n sim mid t inputs loads so_far.trace ins conflict so_far.stands given makes))

  pub streamed_more : (out' : Option Text) (held' : Text) → PassesRow n line t ins sim sim' now between out' held' → StreamedTo n line sim' (suc t) inputs loads out held out' held'
  streamed_more out' held' row = record {
    trace = longer n sim row.between t inputs loads so_far.trace ins None so_far.stands given row.row;
    stands = steps_on n sim row.between t inputs loads so_far.trace ins None so_far.stands given row.row refl sim' row.edge;
    passed = subst (λ text. Passes out held out' held' text) (text_here row.between None row.row) (passed_both so_far.passed row.passed);
  }

  pub streamed_part : (rows : ℕ) (out' : Option Text) (held' : Text) → t < rows → FailsInRow n line t ins sim sim' now between out' held' → StreamsPart n line rows inputs loads out held out' held'
  streamed_part rows out' held' within row = record {
    trace = longer n sim sim' t inputs loads so_far.trace ins None so_far.stands given row.row;
    t = suc t;
    within = omega (arith, within);
    runs = runs_on n sim sim' t inputs loads so_far.trace ins None so_far.stands given row.row refl;
    emptied = row.emptied;
    prefix = subst (λ text. AppendsPrefix out out' (held ++ text)) (text_here sim' None row.row) (passed_prefix (line t (port_row n sim'.values)) so_far.passed row.prefix);
  }

  named_at : (port : ℕ) → port < length (port_names n) → IsNamed n port (name_of n port)
  named_at port within =
      let none : PortLine = record { name = []; width = 0; readable = false; writable = false } in
      let inside : port < length (ports_of n) = omega (arith, within, length-map (ports_of n) (λ (p : PortLine). p.name)) in
      (get_or (ports_of n) port none, slice_get-get_or (ports_of n) port none inside, sym (get_or-map (λ (p : PortLine). p.name) (ports_of n) port none [] inside))

  pub streamed_to_conflict : (rows cycle port : ℕ) (out' : Option Text) (held' : Text) → t < rows → FindsConflict cycle port t ins sim sim' now between out' held' → StreamsToConflict n line rows inputs loads cycle port out held out' held'
  streamed_to_conflict rows cycle port out' held' within row =
      subst (λ c. StreamsToConflict n line rows inputs loads c port out held out' held') (sym row.at)
      (record {
        trace = longer n sim sim' t inputs loads so_far.trace ins (Some port) so_far.stands given row.row;
        name = name_of n port;
        named = named_at port (reported_at n sim sim' t inputs loads so_far.trace ins (Some port) so_far.stands given row.row port refl).0;
        runs = runs_into n sim sim' t inputs loads so_far.trace ins (Some port) so_far.stands given row.row rows port within refl;
        passed = subst (λ text. Passes out held out' held' text) (append-nil (lines_text line so_far.trace t) ∙ text_before sim' (Some port) row.row) (passed_both so_far.passed row.passed);
      })

-- ---- the rows of a loop

-- a row's line by another word for it
with_line : (n : Netlist) (line line' : ℕ → Row → Text) (cycle : ℕ) → ((row : Row) → line cycle row ≡ line' cycle row) → (ins : List ℕ) (end : RowEnd) (old new : SimValue) (out : Option Text) (held : Text) (out' : Option Text) (held' : Text) → IsRowStreamed n line cycle ins end old new out held out' held' → IsRowStreamed n line' cycle ins end old new out held out' held'
with_line n line line' cycle same ins ends.Done old new out held out' held' row =
    record { between = row.between; row = row.row; edge = row.edge; passed = subst (λ text. Passes out held out' held' text) (same (port_row n row.between.values)) row.passed }
with_line n line line' cycle same ins (ends.Conflict at port) old new out held out' held' row = record { at = row.at; row = row.row; passed = row.passed }
with_line n line line' cycle same ins ends.WriteFault old new out held out' held' row =
    record { row = row.row; emptied = row.emptied; prefix = subst (λ text. AppendsPrefix out out' (held ++ text)) (same (port_row n new.values)) row.prefix }

-- the netlist stays
pub net_stays : (n : Netlist) (line : ℕ → Row → Text) (cycle : ℕ) (ins : List ℕ) (end : RowEnd) (old new : SimValue) (out : Option Text) (held : Text) (out' : Option Text) (held' : Text) → IsRowStreamed n line cycle ins end old new out held out' held' → netlist_of new.net ≡ netlist_of old.net
net_stays n line cycle ins ends.Done old new out held out' held' row = ap netlist_of (row.edge.net ∙ row.row.net)
net_stays n line cycle ins (ends.Conflict at port) old new out held out' held' row = ap netlist_of row.row.net
net_stays n line cycle ins ends.WriteFault old new out held out' held' row = ap netlist_of row.row.net

-- a Conflict is at one of its ports
pub conflict_within : (n : Netlist) (line : ℕ → Row → Text) (cycle : ℕ) (ins : List ℕ) (end : RowEnd) (old new : SimValue) (out : Option Text) (held : Text) (out' : Option Text) (held' : Text) → IsRowStreamed n line cycle ins end old new out held out' held' → (at port : ℕ) → end ≡ ends.Conflict at port → port < length (port_names (netlist_of old.net))
conflict_within n line cycle ins end old new out held out' held' row at port is =
    let found : FindsConflict at port cycle ins old new out held out' held' = subst (λ (e : RowEnd). IsRowStreamed n line cycle ins e old new out held out' held') is row in
    (found.row.evaluated.conflicts cycle).0

module _ (n n' : Netlist) (same : n' ≡ n) (line line' : ℕ → Row → Text) (sim sim' : SimValue) (rows cycle : ℕ) (inputs : Trace) (loads : Text → List ℕ) (ins : List ℕ) (out : Option Text) (held : Text) (now : Option Text) (between : Text) (out' : Option Text) (held' : Text) (within : cycle < rows) (lined : (row : Row) → line' cycle row ≡ line cycle row) (so_far : StreamedTo n line sim cycle inputs loads out held now between) (given : (port : Text) → HasPin n.ins port → input_row n ins port ≡ inputs cycle port) where
  row_here : (end : RowEnd) → IsRowStreamed n' line' cycle ins end sim sim' now between out' held' → IsRowStreamed n line cycle ins end sim sim' now between out' held'
  row_here end row = with_line n line' line cycle lined ins end sim sim' now between out' held' (subst (λ m. IsRowStreamed m line' cycle ins end sim sim' now between out' held') same row)

  pub one_row_more : IsRowStreamed n' line' cycle ins ends.Done sim sim' now between out' held' → StreamedTo n line sim' (cycle + 1) inputs loads out held out' held'
  one_row_more row = subst (λ (t : ℕ). StreamedTo n line sim' t inputs loads out held out' held') (sym (add-one cycle)) (streamed_more n line sim sim' cycle inputs loads ins out held now between so_far given out' held' (row_here ends.Done row))

  pub ends_in_row : (end : RowEnd) → (end ≡ ends.Done → ⊥) → IsRowStreamed n' line' cycle ins end sim sim' now between out' held' → IsStreamed n line rows inputs loads end out held out' held'
  ends_in_row ends.Done unless row = absurd (unless refl)
  ends_in_row (ends.Conflict at port) unless row = streamed_to_conflict n line sim sim' cycle inputs loads ins out held now between so_far given rows at port out' held' within (row_here (ends.Conflict at port) row)
  ends_in_row ends.WriteFault unless row = streamed_part n line sim sim' cycle inputs loads ins out held now between so_far given rows out' held' within (row_here ends.WriteFault row)
