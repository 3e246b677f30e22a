use Rattle.std.proofs.Common.{◌≡◌, ℕ, ◌==◌, Bool, List, Some, length, refl, sym, ap, ◌∙◌, subst, arith}
use Rattle.std.proofs.lemmas.List.{with_items_is}
use Rattle.std.proofs.lemmas.List.Elements.{All-same}
use Rattle.std.specs.Vec.{with_items}
use Rattle.cal_sched.proofs.SightLemmas.{go_reads, watches_within}
use Rattle.cal_sched.proofs.WalkerLemmas.{cleared_enabled, goes_over, stage_within}
use Rattle.cal_sched.specs.Walking.{SeesRow, TellsActing}
use Rattle.cal_sched.specs.Watching.{WatchIsWithin}
use Rattle.cal_sched.specs.declared.watch.Watch.{Watch}
use Rattle.cal_sched.proofs.walker.Walker.go_over.Goals as goal

pub see-requires-clause-watches : goal.see-requires-clause-watches
see-requires-clause-watches c =
    let (design, comp, names, ports, row, is, same) = c.requires in
    let w = c.args.self.now in
    let values = c.args.sim.now.values in
    All-same (WatchIsWithin values) c.deref.result.now w.watches.items c.deref.ensures.value (watches_within design comp names ports row w is values same)

pub mark-requires-clause-stage : goal.mark-requires-clause-stage
mark-requires-clause-stage c =
    let (design, comp, names, ports, row, is, same) = c.requires in
    let w = c.args.self.now in
    let values = c.args.sim.now.values in
    let cleared = c.clear.new.marks in
    let conditions = length w.control.now.conditions.items in
    (conditions, stage_within design comp names ports row w is values same (length cleared.enabled.items) conditions (cleared_enabled design comp names ports row w is values same cleared c.clear.ensures) refl)

pub returns : goal.returns
returns c = λ design comp names ports row is same.
    let w = c.args.self.now in
    let values = c.args.sim.now.values in
    let go : Bool = c.value-go.result == 1 in
    let is_go = go_reads design comp names ports row w is values same c.value-go.result (c.value.ensures.value ∙ ap Some (sym c.value-go.ensures)) in
    let seen = c.see.new.seen in
    let S : List Watch → Type 0 = λ ws. SeesRow values ws c.deref-2.result.now w.seen seen in
    let N : List ℕ → Type 0 = λ ns. SeesRow values w.watches.items ns w.seen seen in
    let sees_row = subst N c.deref-2.ensures.value (subst S c.deref.ensures.value c.see.ensures) in
    let marks = c.mark.new.marks in
    let runs = c.control_runs-runs.result in
    let told = c.set_acting.new.acting in
    let sized : length told ≡ w.acting.len = omega (arith, c.set_acting.ensures.sized, ap length c.as_mut_slice.ensures.value, w.acting.ok.0) in
    let acting = with_items w.acting told in
    let kept : acting.items ≡ told = with_items_is w.acting told sized in
    let D : List Bool → Type 0 = λ done. TellsActing marks done runs told in
    let A : List Bool → Type 0 = TellsActing marks seen.done.items runs in
    let acts = subst A (sym kept) (subst D c.deref-3.ensures.value c.set_acting.ensures.acting) in
    goes_over design comp names ports row w is values same go is_go seen sees_row c.in_ok-self.field-0 c.in_ok-self.ensures.progress c.in_ok-self.ensures.within
    c.clear.new.marks marks c.clear.ensures c.mark.ensures.sized c.mark.ensures.marks runs c.control_runs-runs.ensures acting (ap length kept ∙ sized ∙ w.acting.ok.0) acts
