use Rattle.std.proofs.Common.{◌≡◌}
use Rattle.net_core.specs.Netlist.{netlist_of}
use Rattle.filc_load.specs.Given.{driven}
use Rattle.filc_report.specs.Driving.{AreInputsAt}
use Rattle.filc_calyx.specs.inside.Scheduling.{IsBefore, Subject}
use Rattle.filc_calyx.proofs.scheduler.Scheduler.go_through.Given as goal

-- the inputs and the rows stand before this one
abbrev pub invariant-loop-cycle : goal.invariant-loop-cycle
invariant-loop-cycle l =
    record {
      inputs : AreInputsAt (netlist_of l.fn.self.built.now.net) l.drive l.inputs l.cycle;
      rows : (x : Subject) → IsBefore x 0 l.fn.self → driven x.net l.list.sets.items ≡ x.inputs → IsBefore x l.cycle l.self;
    }
