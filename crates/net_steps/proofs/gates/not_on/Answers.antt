use Rattle.std.proofs.Common.{◌==◌, not}
use Rattle.net_steps.specs.Operations.{is_on}
use Rattle.net_steps.proofs.GateLemmas.{known_bit, not_known}
use Rattle.net_steps.proofs.gates.not_on.Goals as goal

pub returns-in-Some : goal.returns-in-Some
returns-in-Some c =
    let steps = c.args.steps.now in
    let number = c.in-Some.number in
    known_bit steps c.define.new.self (λ slots. not (is_on slots c.args.slot)) (not (number == 1)) c.in_ok-define.field-0 (not_known steps c.args.slot number c.in-Some.ensures) c.in_ok-define.ensures
