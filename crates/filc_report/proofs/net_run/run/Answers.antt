use Rattle.std.proofs.Common.{rules, ap, inl, map, refl}
use Rattle.net_core.specs.Netlist.{netlist_of}
use Rattle.stim_read.specs.CycleRun.{load_seen}
use Rattle.filc_load.specs.Given.{after_loads, driven}
use Rattle.filc_stop.proofs.SinkLemmas.{keeps_all}
use Rattle.filc_stop.specs.Leaving.{LeavesAt, MakesNone}
use Rattle.filc_stop.specs.declared.stop.Stop.TheVariants as stop
use Rattle.filc_report.specs.Runs.{RunComes, RunLeavesAt, run_from, no_loads}
use Rattle.filc_report.specs.declared.drive.Drive.TheVariants.{Cycles}
use Rattle.filc_report.proofs.RunLemmas.{loaded_stands, runnable_from, leaves_of_run}
use Rattle.filc_report.proofs.net_run.run.Goals as goal

pub returns-in_err-sim-clause-leaves : goal.returns-in_err-sim-clause-leaves
returns-in_err-sim-clause-leaves g c =
    let nothing : LeavesAt MakesNone (λ made. RunComes (run_from (netlist_of c.args.built.now.net) c.args.list.now c.args.head.now c.args.all)) stop.Memory (g.O.Sink.written c.args.out.now) (g.O.Sink.written c.args.out.now) = inl (keeps_all (g.O.Sink.written c.args.out.now)) in
    search (rules, nothing)

pub returns-in_err-sim-clause-rows : goal.returns-in_err-sim-clause-rows
returns-in_err-sim-clause-rows g c =
    let p = run_from (netlist_of c.args.built.now.net) c.args.list.now c.args.head.now c.args.all in
    let nothing : RunLeavesAt p stop.Memory (g.O.Sink.written c.args.out.now) (g.O.Sink.written c.args.out.now) = inl (keeps_all (g.O.Sink.written c.args.out.now)) in
    search (rules, nothing)

pub write_run-requires : goal.write_run-requires
write_run-requires g c = record {
  ready = c.requires.ready;
  net = ap netlist_of c.in_ok-sim.ensures.net_is;
  fresh = c.in_ok-sim.ensures.phase;
  fits = c.requires.fits.sets;
}

pub returns-clause-leaves : goal.returns-clause-leaves
returns-clause-leaves g c =
    let net = c.args.built.now.net in
    let list = c.args.list.now in
    let loads = after_loads (netlist_of net) (map load_seen list.loads.items) no_loads in
    leaves_of_run (run_from (netlist_of net) list c.args.head.now c.args.all)
    (runnable_from c.args.built.now (record { drive = Cycles c.args.list; rows = list.cycles; head = c.args.head; all = c.args.all }) loads c.requires.ready c.requires.fits.sets)
    c.write_run.result (g.O.Sink.written c.args.out.now) (g.O.Sink.written c.write_run.new.out)
    (c.write_run.ensures.leaves loads (loaded_stands net (netlist_of net) loads c.in_ok-sim.sim (driven (netlist_of net) list.sets.items) refl c.in_ok-sim.ensures))

pub returns-clause-rows : goal.returns-clause-rows
returns-clause-rows g c =
    let net = c.args.built.now.net in
    let list = c.args.list.now in
    let loads = after_loads (netlist_of net) (map load_seen list.loads.items) no_loads in
    c.write_run.ensures.leaves loads (loaded_stands net (netlist_of net) loads c.in_ok-sim.sim (driven (netlist_of net) list.sets.items) refl c.in_ok-sim.ensures)
