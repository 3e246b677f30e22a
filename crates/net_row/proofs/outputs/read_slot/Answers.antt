use Rattle.std.proofs.Common.{subst}
use Rattle.net_steps.specs.Steps.{Defines}
use Rattle.net_steps.specs.declared.operation.Operation.TheVariants.{Output}
use Rattle.net_row.proofs.OutputLemmas.{read_output}
use Rattle.net_row.proofs.outputs.read_slot.Goals as goal

pub returns : goal.returns
returns c =
    read_output c.args.steps.now c.define.new.self c.define-2.new.self c.args.ports.now.slots.items c.args.cell c.args.number c.args.output
    c.in_ok-zero.zero c.in_ok-first.first c.in_ok-first.second c.in_ok-define.field-0
    c.in_ok-zero.ensures c.in_ok-first.ensures
    (subst (λ n. Defines c.define.new.self c.define-2.new.self (Output n c.args.output c.in_ok-first.first c.in_ok-first.second) c.in_ok-define.field-0)
    c.in_ok-other.ensures c.in_ok-define.ensures)
