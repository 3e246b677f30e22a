use Rattle.std.proofs.Common.{◌==◌}
use Rattle.std.specs.Prelude.{slice_index}
use Rattle.net_steps.proofs.GateLemmas.{known_bit}
use Rattle.net_steps.proofs.gates.equal_bit.Goals as goal

pub returns-in_ok-define-in-Some : goal.returns-in_ok-define-in-Some
returns-in_ok-define-in-Some c =
    known_bit c.args.steps.now c.define.new.self (λ slots. slice_index slots c.args.a == slice_index slots c.args.b) c.in-Some.same c.in_ok-define-in-Some.field-0 c.in-Some.ensures c.in_ok-define-in-Some.ensures
