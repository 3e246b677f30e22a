use Rattle.std.proofs.Common.{◌<◌, length, subst, arith}
use Rattle.cal_walk.specs.Planning.{NamesGroupIfAny}
use Rattle.cal_walk.proofs.PlanLemmas.{group_within, actor_found, no_actor}
use Rattle.cal_walk.proofs.WithinLemmas.{read_at}
use Rattle.cal_walk.proofs.planning.Planner.actor_of.Goals as goal

pub returns-in-None : goal.returns-in-None
returns-in-None c = λ names comp can named. no_actor names comp c.args.by c.in-None.is

pub index-requires : goal.index-requires
index-requires c =
    let (names, comp, can, named) = c.requires in
    let there = subst (NamesGroupIfAny names comp) c.in-Some.is named in
    let groups = c.args.self.now.numbers.now.groups in
    let within : c.in-Some.name.0 < length groups.items = group_within names comp c.args.self.now c.in-Some.name can there.0 there.1 in
    omega (arith, within, groups.ok.0)

pub returns-in-Some : goal.returns-in-Some
returns-in-Some c = λ names comp can named.
    let there = subst (NamesGroupIfAny names comp) c.in-Some.is named in
    let groups = c.args.self.now.numbers.now.groups in
    let within = group_within names comp c.args.self.now c.in-Some.name can there.0 there.1 in
    actor_found names comp c.args.self.now c.args.by c.in-Some.name c.index.result.now can c.in-Some.is named (read_at groups c.in-Some.name.0 c.index.result.now within c.index.ensures)
