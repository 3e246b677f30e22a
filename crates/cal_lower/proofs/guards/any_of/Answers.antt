use Rattle.std.proofs.Common.{◌≡◌, ◌<◌, ◌≤◌, length, IfOk, refl, ap, subst, arith}
use Rattle.net_core.specs.Guard.{GuardTree}
use Rattle.cal_ast.specs.Tree.{PortName}
use Rattle.cal_lower.specs.inside.Pieces.{any_of}
use Rattle.cal_lower.specs.inside.Shown.{ShowsGuard}
use Rattle.cal_lower.proofs.MadeGuardLemmas.{any_of_many, no_trees, none_left, one_left, one_shown}
use Rattle.cal_lower.proofs.guards.any_of.Goals as goal

pub returns-then-len-ge2 : goal.returns-then-len-ge2
returns-then-len-ge2 c = λ names trees shown.
    let many : 2 ≤ length c.args.guards.items = omega (arith, c.len.ensures, c.if-len-ge2.true, c.args.guards.ok.0) in
    any_of_many names trees c.args.guards many shown

pub returns-in-Some : goal.returns-in-Some
returns-in-Some c = λ names trees shown.
    let few : length c.args.guards.items < 2 = omega (arith, c.len.ensures, c.if-len-ge2.false, c.args.guards.ok.0) in
    let one = one_left c.args.guards.items c.pop.new.self.items c.in-Some.guard c.in-Some.ensures.items few in
    one_shown names trees c.args.guards.items shown any_of c.in-Some.guard one (λ t. refl)

pub returns : goal.returns
returns c = λ names trees shown.
    let none : length c.args.guards.items ≡ 0 = omega (arith, c.in-None.ensures.cases.0, c.args.guards.ok.0) in
    let no = no_trees names trees c.args.guards.items shown (none_left c.args.guards.items none) in
    let P : GuardTree PortName → Type 0 = λ tree. IfOk c.never.result (ShowsGuard names tree) in
    subst P (ap any_of no) (c.never.ensures names)
