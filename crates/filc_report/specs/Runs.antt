-- The runs that words call for, and what of them is printed. This project's.
use Rattle.std.specs.Prelude.{◌≡◌, ◌⊎◌, ℕ, suc, ◌<◌, ◌≤◌, List, [], ◌++◌, map, Bool, Option, Result, Ok, Err}
use Rattle.std.specs.Io.KnownBytes.{Keeps}
use Rattle.hw_io.specs.Writing.{AppendsPrefix}
use Rattle.hw_names.specs.Name.{Text}
use Rattle.hw_prims.specs.Row.{Row, Trace}
use Rattle.hw_prims.specs.State.{State}
use Rattle.hw_prims.specs.declared.prim.Primitive.{Primitive}
use Rattle.fil_ast.specs.Signature.{Signature}
use Rattle.net_core.specs.Circuit.{HasConflict, IsReported, states_before}
use Rattle.net_core.specs.NetRun.{NetRun, net_circuit}
use Rattle.net_core.specs.Netlist.{Netlist}
use Rattle.net_core.specs.declared.stimulus.CycleList.{CycleList}
use Rattle.stim_read.specs.CycleRun.{Run, load_seen}
use Rattle.stim_read.specs.TxRun.{TxRun}
use Rattle.filc_load.specs.Given.{given_inputs, after_loads, driven}
use Rattle.filc_stop.specs.Leaving.{HasReport, Leaves, MakesNone}
use Rattle.filc_stop.specs.Outcome.{Outcome, conflict_after, done_with}
use Rattle.filc_stop.specs.Stops.{answer_of, refusal_line}
use Rattle.filc_stop.specs.declared.ended.Ended.TheVariants.{Done}
use Rattle.filc_stop.specs.declared.stop.Stop.{Stop}
use Rattle.filc_stop.specs.declared.stop.Stop.TheVariants as stop
use Rattle.filc_report.specs.Rows.{lines_text, row_text, memories_text, outputs_of_net}
use Rattle.filc_report.specs.Driving.{trace_of}
use Rattle.filc_report.specs.Streams.{shown_ports, RunsCleanly}
use Rattle.fil_driven.specs.TxDrive.{driven_by}
use Rattle.filc_report.specs.Views.{line_of, transactions_line}
use Rattle.filc_report.specs.declared.drive.Drive.{Drive}
use Rattle.filc_report.specs.declared.drive.Drive.TheVariants.{Cycles, Txs}
use Rattle.filc_report.specs.declared.net_run.Asked.{Asked}

-- a run of a netlist for so many cycles, from these inputs and these words in its memories; the text before its rows, the
-- line of a row, and the text after its rows, which tells of the states after the last edge
pub record PrintedRun : Type 0 where
  pub net : Netlist
  pub cycles : ℕ
  pub inputs : Trace
  pub loads : Text → List ℕ
  pub head : Text
  pub line : ℕ → Row → Text
  pub last : (Text → Primitive → State) → Text

-- each input is 0 in every row, and no memory is loaded
abbrev pub no_inputs : Trace
no_inputs t port = 0

abbrev pub no_loads : Text → List ℕ
no_loads cell = []

-- what `rows` prints
abbrev pub plain_run : Netlist → ℕ → PrintedRun
plain_run n cycles =
    record {
      net = n;
      cycles = cycles;
      inputs = no_inputs;
      loads = no_loads;
      head = [];
      line = row_text (outputs_of_net n);
      last = memories_text n;
    }

-- a run from what a list of the program gives
abbrev pub run_from : Netlist → CycleList → Text → Bool → PrintedRun
run_from n list head all =
    record {
      net = n;
      cycles = list.cycles;
      inputs = driven n list.sets.items;
      loads = after_loads n (map load_seen list.loads.items) no_loads;
      head = head;
      line = row_text (shown_ports n all);
      last = memories_text n;
    }

-- a run under a stimulus that gives this; the text before its rows, and whether a row shows all ports and not the outputs alone
abbrev pub stimulus_run : Netlist → Run → Text → Bool → PrintedRun
stimulus_run n run head all =
    record {
      net = n;
      cycles = run.cycles;
      inputs = given_inputs n run.settings;
      loads = after_loads n run.loads no_loads;
      head = head;
      line = row_text (shown_ports n all);
      last = memories_text n;
    }

-- a run that transactions of this signature drive; the text before its rows, and whether a row shows all ports
abbrev pub transactions_run : Netlist → Signature → TxRun → ℕ → Text → Bool → PrintedRun
transactions_run n sig run cycles head all =
    record {
      net = n;
      cycles = cycles;
      inputs = driven_by sig run;
      loads = no_loads;
      head = head;
      line = transactions_line n sig run.transactions all;
      last = λ states. [];
    }

-- what is printed after the rows: the shown memories, unless transactions drive the run
abbrev pub last_of : Netlist → Drive → (Text → Primitive → State) → Text
last_of n (Cycles list) states = memories_text n states
last_of n (Txs list sig) states = []

-- what is asked of a netlist, from these words in its memories
abbrev pub asked_run : Netlist → Asked → (Text → List ℕ) → PrintedRun
asked_run n asked loads =
    record {
      net = n;
      cycles = asked.rows;
      inputs = trace_of n asked.drive;
      loads = loads;
      head = asked.head.now;
      line = line_of n asked.drive asked.all;
      last = last_of n asked.drive;
    }

-- its rows 0 to height - 1
abbrev pub IsRunOf : PrintedRun → ℕ → Trace → Type 0
IsRunOf p height trace = NetRun p.net p.cycles p.inputs p.loads height trace

-- what is printed up to a row
abbrev pub text_to : PrintedRun → Trace → ℕ → Text
text_to p trace t = p.head ++ lines_text p.line trace t

-- what is printed of a run without a Conflict: all rows, then what tells of the states after the last edge
abbrev pub run_text : PrintedRun → Trace → Text
run_text p trace = text_to p trace p.cycles ++ p.last (states_before p.cycles trace p.loads)

-- ---- what comes of a run

-- its last row has a Conflict, of which this port is reported; the rows before it are printed
pub record EndsInConflict (p : PrintedRun) (o : Outcome) : Type 0 where
  pub trace : Trace
  pub row : ℕ
  pub port : Text
  pub run : IsRunOf p (suc row) trace
  pub reported : IsReported (net_circuit p.net) row (trace row) port
  pub outcome : o ≡ conflict_after (text_to p trace row) row port

-- it has all its rows, and none has a Conflict
pub record RunsWhole (p : PrintedRun) (o : Outcome) : Type 0 where
  pub trace : Trace
  pub run : IsRunOf p p.cycles trace
  pub clean : (t : ℕ) (port : Text) → t < p.cycles → HasConflict (net_circuit p.net) t (trace t) port → ⊥
  pub outcome : o ≡ done_with (run_text p trace)

abbrev pub RunComes : PrintedRun → Outcome → Type 0
RunComes p o = EndsInConflict p o ⊎ RunsWhole p o

-- what a run leaves in the sink of its report: the report of what comes of it, or where writing failed or there was no memory, a prefix of
-- whatever may come of it
abbrev pub LeavesOfRun : PrintedRun → Result (Unit {0}) Stop → Option Text → Option Text → Type 0
LeavesOfRun p result out out' = Leaves MakesNone (λ made. RunComes p) result out out'

-- ---- the same, with the very rows of a part

-- some first rows of the run, none of which has a Conflict, and a prefix of the text up to them is in the sink
pub record HasRows (p : PrintedRun) (out out' : Option Text) : Type 0 where
  pub trace : Trace
  pub t : ℕ
  pub within : t ≤ p.cycles
  pub runs : RunsCleanly p.net t p.inputs p.loads trace
  pub prefix : AppendsPrefix out out' (text_to p trace t)

-- all rows, none of which has a Conflict, and a prefix of the whole text is in the sink
pub record HasAllRows (p : PrintedRun) (out out' : Option Text) : Type 0 where
  pub trace : Trace
  pub runs : RunsCleanly p.net p.cycles p.inputs p.loads trace
  pub prefix : AppendsPrefix out out' (run_text p trace)

-- the text of a run was cut short: nothing of it is there, or a part
abbrev pub IsRunCutShort : PrintedRun → Option Text → Option Text → Type 0
IsRunCutShort p out out' = Keeps out out' ⊎ (HasRows p out out' ⊎ HasAllRows p out out')

-- why a run stopped, and what of its text is there
abbrev pub RunLeavesAt : PrintedRun → Stop → Option Text → Option Text → Type 0
RunLeavesAt p stop.ReadFault out out' = ⊥
RunLeavesAt p stop.StimulusReadFault out out' = ⊥
RunLeavesAt p (stop.Refused why) out out' = HasReport (λ made. RunComes p) (answer_of why) (refusal_line why) out out'
RunLeavesAt p stop.WriteFault out out' = IsRunCutShort p out out'
RunLeavesAt p stop.Memory out out' = IsRunCutShort p out out'

-- what a run leaves in the sink, with the very rows of a part
abbrev pub RunLeaves : PrintedRun → Result (Unit {0}) Stop → Option Text → Option Text → Type 0
RunLeaves p (Ok done) out out' = HasReport (λ made. RunComes p) Done [] out out'
RunLeaves p (Err why) out out' = RunLeavesAt p why out out'
