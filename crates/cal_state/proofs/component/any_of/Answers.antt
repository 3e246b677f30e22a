use Rattle.std.proofs.Common.{◌≡◌, ◌<◌, ◌≤◌, length, refl, arith}
use Rattle.cal_lower.specs.inside.Pieces.{any_of}
use Rattle.cal_lower.proofs.MadeGuardLemmas.{any_of_many, none_left, none_shown, one_left, one_shown}
use Rattle.cal_state.proofs.component.any_of.Goals as goal

pub returns-then-len-ge2 : goal.returns-then-len-ge2
returns-then-len-ge2 c = λ names trees shown.
    let many : 2 ≤ length c.args.guards.items = omega (arith, c.len.ensures, c.if-len-ge2.true, c.args.guards.ok.0) in
    any_of_many names trees c.args.guards many shown

pub returns-in-Some : goal.returns-in-Some
returns-in-Some c = λ names trees shown.
    let few : length c.args.guards.items < 2 = omega (arith, c.len.ensures, c.if-len-ge2.false, c.args.guards.ok.0) in
    let one = one_left c.args.guards.items c.pop.new.self.items c.in-Some.guard c.in-Some.ensures.items few in
    one_shown names trees c.args.guards.items shown any_of c.in-Some.guard one (λ t. refl)

pub returns : goal.returns
returns c = λ names trees shown.
    let none : length c.args.guards.items ≡ 0 = omega (arith, c.in-None.ensures.cases.0, c.args.guards.ok.0) in
    none_shown names trees c.args.guards.items shown any_of 0 c.in_ok-new-in-None.field-0 c.in_ok-new-in-None.ensures.ok (none_left c.args.guards.items none) refl
