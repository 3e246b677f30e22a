use Rattle.std.proofs.Common.{◌≡◌, ◌+◌, ◌<◌, length, refl, arith}
use Rattle.cal_walk.specs.declared.planning.Invoke.{Invoke}
use Rattle.cal_walk.specs.declared.planning.Planner.{Planner}
use Rattle.cal_walk.proofs.PlanLemmas.{made_within, invoke_put, sum_is}
use Rattle.cal_walk.proofs.WithinLemmas.{read_at}
use Rattle.cal_walk.proofs.planning.Planner.invoke.Goals as goal

pub index-made-requires : goal.index-made-requires
index-made-requires c =
    let (names, comp, can, has) = c.requires in
    let made = c.args.self.now.numbers.now.made in
    let within : c.args.cell.0 < length made.items = made_within names comp c.args.self.now c.args.cell can has.number has.named in
    omega (arith, within, made.ok.0)

pub returns : goal.returns
returns c = λ names comp can has.
    let old = c.args.self.now in
    let made = old.numbers.now.made in
    let within = made_within names comp old c.args.cell can has.number has.named in
    let at = read_at made c.args.cell.0 c.index-made.result.now within c.index-made.ensures in
    let i : Invoke = record { item = c.args.item; cell = c.args.cell; made = c.index-made.result.now; ins = c.args.ins; outs = c.args.outs } in
    let new : Planner = record old { invokes = c.push.new.self } in
    let number : c.in-Some.number ≡ old.groups + length old.invokes.items = omega (arith, sum_is c.checked_add.result _ (old.groups + c.len.result) c.in-Some.number c.checked_add.ensures c.in-Some.is, c.len.ensures, old.invokes.ok.0) in
    invoke_put names comp i old new c.in-Some.number can has at refl refl refl refl c.in_ok-push.ensures.items number
