use Rattle.std.proofs.Common.{Option, sym, subst}
use Rattle.std.proofs.lemmas.Result.{on_ok_weaker}
use Rattle.cal_sched.specs.declared.walker.Walker.{Walker}
use Rattle.filc_calyx.proofs.WalkLemmas.{none_walks, walks_on}
use Rattle.filc_calyx.specs.inside.Scheduling.{Walks, WalksOver}
use Rattle.filc_calyx.proofs.scheduler.walk.Goals as goal

pub returns-in-None : goal.returns-in-None
returns-in-None c = λ design top names ports trace t walks are.
    subst (λ (w : Option Walker). WalksOver design top names ports trace t w) (sym c.in-None.is) (none_walks design top names ports trace t (subst (λ (w : Option Walker). Walks design top names ports trace t w) c.in-None.is walks))

pub go_over-requires : goal.go_over-requires
go_over-requires c =
    let r = c.requires in
    let walks = subst (λ (w : Option Walker). Walks r.0 r.1 r.2 r.3 r.4 r.5 w) c.in-Some.is r.6 in
    (r.0, r.1, r.2, r.3, r.4 r.5, walks.is, r.7)

pub returns-in-Some : goal.returns-in-Some
returns-in-Some c = λ design top names ports trace t walks are.
    let before = subst (λ (w : Option Walker). Walks design top names ports trace t w) c.in-Some.is walks in
    on_ok_weaker c.go_over.result (λ over. walks_on design top names ports trace t c.in-Some.walker c.go_over.new.self before over) (c.go_over.ensures design top names ports (trace t) before.is are)
