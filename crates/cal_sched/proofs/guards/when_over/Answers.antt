use Rattle.std.proofs.Common.{Option, subst}
use Rattle.net_core.specs.declared.net.Guard.{Guard}
use Rattle.cal_ast.specs.declared.tree.CalPort.{CalPort}
use Rattle.cal_sched.specs.Watching.{HasPorts, when_reads}
use Rattle.cal_sched.proofs.guards.when_over.Goals as goal

pub guard_over-requires-clause-there : goal.guard_over-requires-clause-there
guard_over-requires-clause-there c =
    let T : Option (Guard CalPort) → Type 0 = λ g. HasPorts c.args.ports.now (when_reads c.args.names.now g) in
    subst T c.in-Some.is c.requires.there
