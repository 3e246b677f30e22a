use Rattle.std.proofs.Common.{refl, sym, subst}
use Rattle.net_core.specs.Netlist.{Netlist, netlist_of}
use Rattle.stim_read.specs.CycleRun.{run_seen}
use Rattle.filc_load.specs.Built.{FitsNet}
use Rattle.filc_calyx.specs.inside.Scheduling.{subject_of}
use Rattle.filc_calyx.proofs.schedule.schedule_top.Goals as goal

pub go_through-requires-clause-fits : goal.go_through-requires-clause-fits
go_through-requires-clause-fits c =
    let can = c.requires.can in
    let start = c.in_ok-scheduler.ensures can.0 can.1 can.2 in
    subst (λ (m : Netlist). FitsNet m c.args.list.now) (sym start.is.net) c.requires.fits

pub go_through-requires-clause-stands : goal.go_through-requires-clause-stands
go_through-requires-clause-stands c =
    let can = c.requires.can in
    let n = netlist_of c.args.built.now.net in
    (subject_of can.0 can.1 c.args.names.now n (run_seen c.args.list.now), c.in_ok-scheduler.ensures can.0 can.1 can.2, refl)

pub returns : goal.returns
returns c = λ design top can.
    let n = netlist_of c.args.built.now.net in
    c.in_ok-clash.ensures (subject_of design top c.args.names.now n (run_seen c.args.list.now)) (c.in_ok-scheduler.ensures design top can) refl
