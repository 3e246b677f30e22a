use Rattle.std.proofs.Common.{ℕ, ◌<◌, length, Option, IfSome, subst, arith}
use Rattle.cal_walk.proofs.MarkLemmas.{tested_mark, untested_mark}
use Rattle.cal_walk.proofs.marks.mark_tested.Goals as goal

pub index_mut-requires : goal.index_mut-requires
index_mut-requires c =
    let tested = c.args.marks.now.tested in
    let within : c.in-Some.actor < length tested.items = subst (λ (o : Option ℕ). IfSome o (λ actor. actor < length tested.items)) c.in-Some.is c.requires in
    omega (arith, within, tested.ok.0)

pub returns-in-Some-clause-tested : goal.returns-in-Some-clause-tested
returns-in-Some-clause-tested c = λ f apart.
    let tested = c.args.marks.now.tested in
    let within : c.in-Some.actor < length tested.items = subst (λ (o : Option ℕ). IfSome o (λ actor. actor < length tested.items)) c.in-Some.is c.requires in
    tested_mark f c.args.by c.in-Some.actor tested.items c.in-Some.is within apart

pub returns-in_default-clause-tested : goal.returns-in_default-clause-tested
returns-in_default-clause-tested c = λ f apart. untested_mark f c.args.by c.args.marks.now.tested.items c.in_default.is
