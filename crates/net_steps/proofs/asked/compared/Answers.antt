use Rattle.std.proofs.Common.{subst}
use Rattle.net_steps.specs.Operations.{IsStep}
use Rattle.net_steps.specs.declared.operation.Operation.TheVariants.{Equal}
use Rattle.net_steps.proofs.ApartLemmas.{left_implied, right_implied}
use Rattle.net_steps.proofs.asked.compared.Goals as goal

pub returns-in-Some : goal.returns-in-Some
returns-in-Some c =
    let steps = c.args.steps.now in
    let w = c.in-Some-Equal in
    let step : IsStep steps.base steps.items c.args.on (Equal w.a w.b) = subst (IsStep steps.base steps.items c.args.on) w.field-0-is w.ensures in
    left_implied steps c.args.on w.a w.b c.in-Some.number step c.in-Some.ensures

pub returns : goal.returns
returns c =
    let steps = c.args.steps.now in
    let w = c.in-Some-Equal in
    let step : IsStep steps.base steps.items c.args.on (Equal w.a w.b) = subst (IsStep steps.base steps.items c.args.on) w.field-0-is w.ensures in
    right_implied steps c.args.on w.a w.b c.in_ok-number.number step c.in_ok-number.ensures
