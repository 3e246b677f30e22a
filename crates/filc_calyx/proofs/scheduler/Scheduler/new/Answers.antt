use Rattle.std.proofs.Common.{List, refl, sym, subst}
use Rattle.hw_names.specs.Name.{Text}
use Rattle.net_core.specs.Netlist.{netlist_of}
use Rattle.net_sim.proofs.StandsLemmas.{stands_at_start}
use Rattle.cal_sched.specs.Walking.{CanWalk}
use Rattle.stim_read.specs.CycleRun.{run_seen}
use Rattle.filc_report.specs.Runs.{no_inputs}
use Rattle.filc_report.specs.Streams.{IsStopped}
use Rattle.filc_calyx.specs.inside.Scheduling.{Walks, subject_of}
use Rattle.filc_calyx.proofs.scheduler.Scheduler.new.Goals as goal

pub returns : goal.returns
returns c = λ design top can.
    let built = c.args.built.now in
    let names = c.args.names.now in
    let control = c.args.control.now in
    let named = c.requires.ready.table.names in
    let x = subject_of design top names (netlist_of built.net) (run_seen c.args.list.now) in
    let walks = c.in_ok-walker.ensures design top no_inputs can.control_is.bare_is (λ started. subst (λ (ports : List Text). CanWalk design top names ports control) (sym named) (can.walks started)) in
    record {
      is = record { ready = c.requires.ready; net = refl; outs = can.outs; labels = c.in_ok-labels.ensures top can.comp can.control_is };
      goes_on = λ stopped. subst IsStopped c.in_ok-sim.ensures.phase stopped;
      trace = no_inputs;
      stands = stands_at_start built.net x.loads c.in_ok-sim.sim x.inputs no_inputs c.in_ok-sim.ensures;
      walks = subst (λ (ports : List Text). Walks design top names ports no_inputs 0 c.in_ok-walker.walker) named walks;
      text = c.new.ensures.items;
    }
