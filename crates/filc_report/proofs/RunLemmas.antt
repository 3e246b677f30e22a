-- What a run leaves in the sink, at each of its ends.
use Rattle.std.proofs.Common.{◌≡◌, ℕ, map, zero, suc, ◌<◌, ◌⊎◌, List, [], ◌∷◌, ◌++◌, Bool, true, false, if◌then◌else◌, Option, Some, Result, Ok, Err, length, get_or, refl, sym, ap, subst, ◌∙◌, arith, inl, inr}
use mathlib.Core.Path.{fun_ext}
use Rattle.std.specs.Result.{IsErrAnd}
use Rattle.std.specs.Prelude.{slice_get, replicate, bytes_eq, Contains}
use Rattle.std.specs.Io.KnownBytes.{Appends}
use Rattle.std.proofs.lemmas.Option.{same_Some}
use Rattle.hw_io.proofs.WritingLemmas.{appends_both, prefix_after, passed_both, passed_prefix}
use Rattle.hw_io.specs.Writing.{AppendsPrefix, Passes}
use Rattle.hw_names.specs.Name.{Text}
use Rattle.hw_prims.specs.Row.{Row, Trace}
use Rattle.hw_prims.specs.State.{State}
use Rattle.hw_prims.specs.declared.prim.Primitive.{Primitive}
use Rattle.net_core.specs.NetRun.{IsNetCell}
use Rattle.hw_prims.specs.Table.{Pin, pin_names}
use Rattle.net_core.specs.Circuit.{states_before}
use Rattle.net_core.specs.Netlist.{Netlist, netlist_of}
use Rattle.net_core.specs.declared.net.Net.{Net}
use Rattle.net_sim.proofs.StandsLemmas.{stands_at_start}
use Rattle.net_sim.specs.Sim.{SimValue, IsLoadedSim, states_of}
use Rattle.net_sim.specs.Standing.{StandsAt, StandsOn}
use Rattle.net_core.specs.Rules.{PortLine, ports_of, port_names}
use Rattle.net_core.specs.Table.{IsTableOf}
use Rattle.net_core.specs.declared.table.PortInfo.{PortInfo}
use Rattle.net_core.specs.declared.table.Table.{Table}
use Rattle.filc_load.specs.Slots.{NumbersPortsAsNames}
use Rattle.std.proofs.lemmas.List.{length-map, append-nil, get_or-map}
use Rattle.std.proofs.lemmas.Simd.{map-map}
use Rattle.std.proofs.lemmas.List.Elements.{Contains-get_or}
use Rattle.net_sim.proofs.PlaceLemmas.{named_at}
use Rattle.net_sim.specs.Order.{IsNamed}
use Rattle.net_sim.specs.Slots.{row_of}
use Rattle.filc_stop.specs.Leaving.{HasReport}
use Rattle.filc_report.specs.Rows.{lines_text}
use Rattle.filc_report.specs.Streams.{shown_ports, RunsCleanly, RunsIntoConflict, IsStreamed}
use Rattle.filc_report.specs.Runs.{PrintedRun, IsRunOf, RunComes, RunLeaves, RunLeavesAt, IsRunCutShort, LeavesOfRun, asked_run, last_of, text_to, run_text, no_inputs, no_loads}
use Rattle.filc_report.specs.Driving.{trace_of, FitsDrive}
use Rattle.fil_driven.specs.TxDrive.{port_pin}
use Rattle.filc_report.specs.Views.{line_of}
use Rattle.filc_report.specs.declared.drive.Drive.{Drive}
use Rattle.filc_report.specs.declared.drive.Drive.TheVariants.{Cycles, Txs}
use Rattle.filc_report.specs.declared.net_run.Asked.{Asked}
use Rattle.fil_ast.specs.Signature.{SigPort}
use Rattle.fil_sig.specs.Seen.{seen}
use Rattle.stim_read.specs.TxRun.{transaction_seen}
use Rattle.filc_report.proofs.RowLemmas.{row_same, outputs_line_same}
use Rattle.filc_report.specs.Rows.{outputs_of_net}
use Rattle.filc_load.specs.Built.{IsReady}
use Rattle.filc_load.specs.Given.{after_loads, driven}
use Rattle.filc_load.specs.declared.net_file.Built.{Built}
use Rattle.net_core.specs.declared.stimulus.CycleList.{CycleList}
use Rattle.net_core.specs.declared.stimulus.MemLoad.{MemLoad}
use Rattle.stim_read.specs.CycleRun.{Load, load_seen}
use Rattle.filc_report.proofs.PortLemmas.{output_is_port}
use Rattle.filc_stop.specs.declared.ended.Ended.TheVariants.{Done}
use Rattle.filc_stop.specs.declared.refusal.Refusal.TheVariants as refusal
use Rattle.filc_stop.specs.declared.stop.Stop.{Stop}
use Rattle.filc_stop.specs.declared.stop.Stop.TheVariants as stop
use Rattle.filc_report.specs.declared.stream.RowEnd.{RowEnd}
use Rattle.filc_report.specs.declared.stream.RowEnd.TheVariants as ends
use Rattle.filc_stop.proofs.SinkLemmas.{keeps_all, whole_prefix}
use Rattle.filc_report.proofs.MemoryLemmas.{memories_same, states_same, rows_then_written, rows_then_part}
use Rattle.filc_report.proofs.NetLaws.{IsPort, same_rows}
use Rattle.filc_report.proofs.PartLemmas.{IsCutShortOf, IsRunnable, part_of_rows, part_of_run}

zero_or : (b : Bool) (x : ℕ) → x ≡ 0 → (if b then 0 else x) ≡ 0
zero_or true x e = refl
zero_or false x e = e

row_zero : (names : List Text) (count : ℕ) (port : Text) → row_of names (replicate count 0) port ≡ 0
row_zero [] count port = refl
row_zero (name ∷ names) zero port = refl
row_zero (name ∷ names) (suc count) port = zero_or (bytes_eq name port) (row_of names (replicate count 0) port) (row_zero names count port)

-- without sets each input is 0 in every row
pub no_sets : (n : Netlist) → driven n [] ≡ no_inputs
no_sets n = fun_ext (λ row. fun_ext (λ port. row_zero (pin_names n.ins) (length n.ins) port))

flushed_all : (out mid out' : Option Text) (held text : Text) → Passes out [] mid held text → Appends mid out' held → Appends out out' text
flushed_all out mid out' held text passed late = subst (λ bytes. Appends out out' bytes) passed.in_order (appends_both out mid out' passed.gained held passed.appended late)

flushed_part : (out mid out' : Option Text) (held text : Text) → Passes out [] mid held text → AppendsPrefix mid out' held → AppendsPrefix out out' text
flushed_part out mid out' held text passed late = subst (λ bytes. AppendsPrefix out out' bytes) passed.in_order (prefix_after out mid out' passed.gained held passed.appended late)

clean_before : (n : Netlist) (asked t : ℕ) (inputs : Trace) (loads : Text → List ℕ) (port : Text) (trace : Trace) → RunsIntoConflict n asked inputs loads t port trace → RunsCleanly n t inputs loads trace
clean_before n asked t inputs loads port trace r = record {
  run = record { rows = λ k before. r.run.rows k (omega arith); goes_on = λ k before. r.run.goes_on k (omega arith); ends = inl refl };
  clean = λ k at before has. r.run.goes_on k (omega arith) at has;
}

-- a simulation with loaded words stands before row 0 of the run
pub loaded_stands : (net : Net) (n : Netlist) (loads : Text → List ℕ) (sim : SimValue) (inputs : Trace) → netlist_of net ≡ n → IsLoadedSim net loads sim → StandsAt n sim 0 inputs loads
loaded_stands net n loads sim inputs same is = subst (λ m. StandsAt m sim 0 inputs loads) same (no_inputs, stands_at_start net loads sim inputs no_inputs is)

-- the table of a netlist numbers its names
pub table_numbers : (n : Netlist) (table : Table) → IsTableOf n table → NumbersPortsAsNames table
table_numbers n table is = record {
  all = sym (length-map table.ports.items (λ (p : PortInfo). p.width)) ∙ ap length is.widths ∙ length-map (ports_of n) (λ (p : PortLine). p.width) ∙ sym (ap length is.names ∙ length-map (ports_of n) (λ (p : PortLine). p.name));
  numbers = is.numbers;
}

name_is : (n : Netlist) (names : List Text) (port : ℕ) (name name' : Text) → names ≡ port_names (ports_of n) → IsNamed n port name → slice_get names port ≡ Some name' → name ≡ name'
name_is n names port name name' all (p, at, e) is' =
    sym e ∙ same_Some p.name name' (sym (named_at n port p at) ∙ ap (λ l. slice_get l port) (sym all) ∙ is')

-- a run, after the text before its rows went into the sink
module _ (p : PrintedRun) (runnable : IsRunnable p) (out first : Option Text) (kept : Text) (begun : Passes out [] first kept p.head) where
  abbrev Streamed : RowEnd → Option Text → Text → Type 0
  Streamed end mid held = IsStreamed p.net p.line p.cycles p.inputs p.loads end first kept mid held

  -- what follows the rows, by the states of a simulation
  abbrev Last : SimValue → Text
  Last sim = p.last (states_of p.net sim.states)

  run_of : (sim : SimValue) (trace : Trace) → StandsOn p.net sim p.cycles p.inputs p.loads trace → IsRunOf p p.cycles trace
  run_of sim trace stands = record { rows = stands.rows; goes_on = λ u more port has. stands.clean u (omega (arith, more)) port has; ends = inl refl }

  -- a simulation that stands after all rows tells of the states after the rows that were passed on
  same_last : (mid : Option Text) (held : Text) (sim : SimValue) (s : Streamed ends.Done mid held) → StandsAt p.net sim p.cycles p.inputs p.loads → Last sim ≡ p.last (states_before p.cycles s.trace p.loads)
  same_last mid held sim s stands =
      let alike : (k : ℕ) → k < p.cycles → (port : Text) → IsPort p.net port → s.trace k port ≡ stands.0 k port =
      λ k before port is. same_rows p.net runnable.valid runnable.order runnable.ordered p.cycles p.cycles p.cycles p.inputs p.loads s.trace stands.0 s.runs.run (run_of sim stands.0 stands.1) k before before port is in
      runnable.last (states_of p.net sim.states) (states_before p.cycles s.trace p.loads)
      (λ cell prim is. stands.1.states cell prim is ∙ sym (states_same p.net p.loads s.trace stands.0 p.cycles alike cell prim is))

  pub all_leaves : (mid out' : Option Text) (held : Text) (sim : SimValue) → Streamed ends.Done mid held → StandsAt p.net sim p.cycles p.inputs p.loads → Appends mid out' (held ++ Last sim) → HasReport (λ made. RunComes p) Done [] out out'
  all_leaves mid out' held sim s stands late = record {
    made = [];
    report = run_text p s.trace;
    outcome = inr (record { trace = s.trace; run = s.runs.run; clean = λ t port within has. s.runs.clean t port within has; outcome = refl });
    reported = subst (λ text. Appends out out' (text_to p s.trace p.cycles ++ text)) (same_last mid held sim s stands) (rows_then_written out mid out' held (text_to p s.trace p.cycles) (Last sim) (passed_both begun s.passed) late);
  }

  pub finish_fails : (mid out' : Option Text) (held : Text) (sim : SimValue) → Streamed ends.Done mid held → StandsAt p.net sim p.cycles p.inputs p.loads → AppendsPrefix mid out' (held ++ Last sim) → IsRunCutShort p out out'
  finish_fails mid out' held sim s stands late =
      inr (inr (record {
        trace = s.trace;
        runs = s.runs;
        prefix =
            (subst (λ text. AppendsPrefix out out' (text_to p s.trace p.cycles ++ text)) (same_last mid held sim s stands) (rows_then_part out mid out' held (text_to p s.trace p.cycles) (Last sim) (passed_both begun s.passed) late));
      }))

  pub conflict_part : (cycle port : ℕ) (mid out' : Option Text) (held : Text) → Streamed (ends.Conflict cycle port) mid held → AppendsPrefix mid out' held → IsRunCutShort p out out'
  conflict_part cycle port mid out' held s late = inr (inl (record {
    trace = s.trace;
    t = cycle;
    within = omega (arith, s.runs.within);
    runs = clean_before p.net p.cycles cycle p.inputs p.loads s.name s.trace s.runs;
    prefix = flushed_part out mid out' held (text_to p s.trace cycle) (passed_both begun s.passed) late;
  }))

  pub fault_leaves : (mid : Option Text) (held : Text) → Streamed ends.WriteFault mid held → IsRunCutShort p out mid
  fault_leaves mid held s = inr (inl (record {
    trace = s.trace;
    t = s.t;
    within = s.within;
    runs = s.runs;
    prefix = passed_prefix (lines_text p.line s.trace s.t) begun s.prefix;
  }))

  told_conflict : (cycle port : ℕ) (names : List Text) (name : Text) (mid out' : Option Text) (held : Text) → names ≡ port_names (ports_of p.net) → slice_get names port ≡ Some name → Streamed (ends.Conflict cycle port) mid held → Appends mid out' held → RunLeavesAt p (stop.Refused (refusal.Conflict cycle name)) out out'
  told_conflict cycle port names name mid out' held all at s late =
      let is = name_is p.net names port s.name name all s.named at in
      subst (λ told. RunLeavesAt p (stop.Refused (refusal.Conflict cycle told)) out out') is (record {
        made = [];
        report = text_to p s.trace cycle;
        outcome = inl (record { trace = s.trace; row = cycle; port = s.name; run = s.runs.run; reported = s.runs.reported; outcome = refl });
        reported = flushed_all out mid out' held (text_to p s.trace cycle) (passed_both begun s.passed) late;
      })

  pub conflict_leaves : (cycle port : ℕ) (names : List Text) (why : Stop) (mid out' : Option Text) (held : Text) → names ≡ port_names (ports_of p.net) → (why ≡ stop.Memory) ⊎ ((name : Text) × (slice_get names port ≡ Some name) × (why ≡ stop.Refused (refusal.Conflict cycle name))) → Streamed (ends.Conflict cycle port) mid held → Appends mid out' held → RunLeavesAt p why out out'
  conflict_leaves cycle port names why mid out' held all (inl e) s late =
      subst (λ w. RunLeavesAt p w out out') (sym e) (conflict_part cycle port mid out' held s (whole_prefix mid out' held late))
  conflict_leaves cycle port names why mid out' held all (inr (name, at, e)) s late =
      subst (λ w. RunLeavesAt p w out out') (sym e) (told_conflict cycle port names name mid out' held all at s late)

-- a part of the text before the rows
pub head_part : (p : PrintedRun) → (out out' : Option Text) → AppendsPrefix out out' p.head → IsRunCutShort p out out'
head_part p out out' prefix = inr (inl (record {
  trace = λ t port. 0;
  t = 0;
  within = omega arith;
  runs = record {
    run = record { rows = λ u lt. absurd (omega (arith, lt)); goes_on = λ u lt. absurd (omega (arith, lt)); ends = inl refl };
    clean = λ u port lt. absurd (omega (arith, lt));
  };
  prefix = subst (λ text. AppendsPrefix out out' text) (sym (append-nil p.head)) prefix;
}))

-- nothing was written
pub nothing_written : (p : PrintedRun) (told : Option Text) → IsRunCutShort p told told
nothing_written p told = inl (keeps_all told)

-- an error that is passed on leaves what it left
pub passed_leaves : (p : PrintedRun) (result : Result (Unit {0}) Stop) (why : Stop) (out out' : Option Text) → IsErrAnd result (λ e. e ≡ why) → RunLeavesAt p why out out' → RunLeaves p result out out'
passed_leaves p (Ok done) why out out' is leaves = absurd is
passed_leaves p (Err e) why out out' is leaves = subst (λ w. RunLeavesAt p w out out') (sym is) leaves

-- a part of the rows is a part of whatever may come
cut_of_run : (p : PrintedRun) → IsRunnable p → (out out' : Option Text) → IsRunCutShort p out out' → IsCutShortOf p out out'
cut_of_run p runnable out out' (inl kept) = inl kept
cut_of_run p runnable out out' (inr (inl rows)) = part_of_rows p runnable rows.t rows.trace rows.within rows.runs out out' rows.prefix
cut_of_run p runnable out out' (inr (inr all)) = part_of_run p runnable all.trace all.runs out out' all.prefix

pub leaves_of_run : (p : PrintedRun) → IsRunnable p → (result : Result (Unit {0}) Stop) (out out' : Option Text) → RunLeaves p result out out' → LeavesOfRun p result out out'
leaves_of_run p runnable (Ok done) out out' leaves = leaves
leaves_of_run p runnable (Err stop.ReadFault) out out' leaves = absurd leaves
leaves_of_run p runnable (Err stop.StimulusReadFault) out out' leaves = absurd leaves
leaves_of_run p runnable (Err (stop.Refused why)) out out' leaves = leaves
leaves_of_run p runnable (Err stop.WriteFault) out out' leaves = cut_of_run p runnable out out' leaves
leaves_of_run p runnable (Err stop.Memory) out out' leaves = cut_of_run p runnable out out' leaves

-- what a row shows are ports of the netlist
pub shown_is_port : (n : Netlist) (all : Bool) (port : Text) → Contains (shown_ports n all) port → IsPort n port
shown_is_port n true port has = has
shown_is_port n false port has = output_is_port n port has

-- a signature's outputs are ports of the netlist that has them
sig_output_is_port : (n : Netlist) (outs : List SigPort) → n.outs ≡ map port_pin outs → (k : ℕ) (d : SigPort) → k < length outs → IsPort n (get_or outs k d).name
sig_output_is_port n outs are k d within =
    let names : outputs_of_net n ≡ map (λ (p : SigPort). p.name) outs = ap (map (λ (p : Pin). p.name)) are ∙ map-map (λ (p : Pin). p.name) port_pin outs in
    let inside : k < length (outputs_of_net n) = omega (arith, within, ap length names, length-map outs (λ (p : SigPort). p.name)) in
    let is : get_or (outputs_of_net n) k d.name ≡ (get_or outs k d).name = ap (λ (ns : List Text). get_or ns k d.name) names ∙ get_or-map (λ (p : SigPort). p.name) outs k d d.name within in
    output_is_port n (get_or outs k d).name (subst (λ (name : Text). Contains (outputs_of_net n) name) is (Contains-get_or (outputs_of_net n) k d.name inside))

line_is_of_ports : (n : Netlist) (drive : Drive) (all : Bool) → FitsDrive n drive → (t : ℕ) (row row' : Row) → ((port : Text) → IsPort n port → row port ≡ row' port) → line_of n drive all t row ≡ line_of n drive all t row'
line_is_of_ports n (Cycles list) all fits t row row' same = row_same (shown_ports n all) t row row' (λ port has. same port (shown_is_port n all port has))
line_is_of_ports n (Txs list sig) true fits t row row' same = row_same (shown_ports n true) t row row' (λ port has. same port (shown_is_port n true port has))
line_is_of_ports n (Txs list sig) false fits t row row' same =
    outputs_line_same (map transaction_seen list.now.txs.items) (seen sig.now).outs t row row'
    (λ k d within. same (get_or (seen sig.now).outs k d).name (sig_output_is_port n (seen sig.now).outs fits.ports.outs k d within))

last_is_of_cells : (n : Netlist) (drive : Drive) (states states' : Text → Primitive → State) → ((cell : Text) (prim : Primitive) → IsNetCell n cell prim → states cell prim ≡ states' cell prim) → last_of n drive states ≡ last_of n drive states'
last_is_of_cells n (Cycles list) states states' same = memories_same n states states' same
last_is_of_cells n (Txs list sig) states states' same = refl

-- what is ready can be run
pub runnable_from : (built : Built) (asked : Asked) (loads : Text → List ℕ) → IsReady built → FitsDrive (netlist_of built.net) asked.drive → IsRunnable (asked_run (netlist_of built.net) asked loads)
runnable_from built asked loads ready fits = record {
  valid = ready.valid;
  order = built.order.ports;
  ordered = ready.order.ports;
  line = line_is_of_ports (netlist_of built.net) asked.drive asked.all fits;
  last = last_is_of_cells (netlist_of built.net) asked.drive;
}

loads_done : (net : Net) (old new : SimValue) (loads : List Load) → IsLoadedSim net no_loads old → ((before : Text → List ℕ) → IsLoadedSim old.net before old → IsLoadedSim old.net (after_loads (netlist_of old.net) loads before) new) → IsLoadedSim net (after_loads (netlist_of net) loads no_loads) new
loads_done net old new loads is more =
    subst (λ (m : Net). IsLoadedSim m (after_loads (netlist_of m) loads no_loads) new) is.net_is
    (more no_loads (subst (λ (m : Net). IsLoadedSim m no_loads old) (sym is.net_is) is))

-- a new simulation has the words of the list, once its loads are made
pub list_loaded : (net : Net) (list : CycleList) (old new : SimValue) (given : List MemLoad) → given ≡ list.loads.items → IsLoadedSim net no_loads old → ((before : Text → List ℕ) → IsLoadedSim old.net before old → IsLoadedSim old.net (after_loads (netlist_of old.net) (map load_seen given) before) new) → IsLoadedSim net (after_loads (netlist_of net) (map load_seen list.loads.items) no_loads) new
list_loaded net list old new given are is more =
    subst (λ (loads : List MemLoad). IsLoadedSim net (after_loads (netlist_of net) (map load_seen loads) no_loads) new) are (loads_done net old new (map load_seen given) is more)

-- what is streamed of a simulation's netlist, by this line, is of the run that is asked
module _ (n n' : Netlist) (same : n' ≡ n) (asked : Asked) (line : ℕ → Row → Text) (lined : line ≡ line_of n asked.drive asked.all) (loads : Text → List ℕ) where
  pub stands_there : (sim : SimValue) (t : ℕ) → StandsAt n sim t (trace_of n asked.drive) loads → StandsAt n' sim t (trace_of n' asked.drive) loads
  stands_there sim t stands = subst (λ (m : Netlist). StandsAt m sim t (trace_of m asked.drive) loads) (sym same) stands

  pub stands_here : (sim : SimValue) (t : ℕ) → StandsAt n' sim t (trace_of n' asked.drive) loads → StandsAt n sim t (trace_of n asked.drive) loads
  stands_here sim t stands = subst (λ (m : Netlist). StandsAt m sim t (trace_of m asked.drive) loads) same stands

  pub streamed_here : (end : RowEnd) (out : Option Text) (held : Text) (out' : Option Text) (held' : Text) → IsStreamed n' line asked.rows (trace_of n' asked.drive) loads end out held out' held' → IsStreamed n (line_of n asked.drive asked.all) asked.rows (trace_of n asked.drive) loads end out held out' held'
  streamed_here end out held out' held' s =
      subst (λ (l : ℕ → Row → Text). IsStreamed n l asked.rows (trace_of n asked.drive) loads end out held out' held') lined
      (subst (λ (m : Netlist). IsStreamed m line asked.rows (trace_of m asked.drive) loads end out held out' held') same s)
