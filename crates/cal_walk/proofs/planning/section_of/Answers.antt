use Rattle.cal_walk.proofs.ArmLemmas.{body_can, body_planned, section_without}
use Rattle.cal_walk.proofs.planning.section_of.Goals as goal

pub plan_of-requires : goal.plan_of-requires
plan_of-requires c =
    let (names, comp, can) = c.requires in
    (names, comp, body_can names comp c.args.control.now c.in-Body.statement c.args.planner.now c.in-Body.is can)

pub returns-in-Body : goal.returns-in-Body
returns-in-Body c = λ names comp can.
    body_planned names comp c.args.control.now c.in-Body.statement c.args.planner.now c.plan_of.new.planner c.plan_of.result c.in-Body.is
    (c.plan_of.ensures names comp (body_can names comp c.args.control.now c.in-Body.statement c.args.planner.now c.in-Body.is can))

pub returns-in-Absent : goal.returns-in-Absent
returns-in-Absent c = λ names comp can. section_without names comp c.args.control.now c.args.planner.now c.new.result c.in-Absent.is can.can c.new.ensures.items
