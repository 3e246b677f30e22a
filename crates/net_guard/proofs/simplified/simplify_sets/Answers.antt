use Rattle.std.proofs.Common.{◌≡◌, ℕ, List, [], length, take, ap, sym, subst, ◌∙◌, arith, Option}
use Rattle.std.proofs.Math.Seq.{take-length}
use Rattle.net_core.specs.Numbers.{SetHasNumbers}
use Rattle.net_core.specs.declared.net.NetAssign.{NetAssign}
use Rattle.net_guard.proofs.SetLemmas.{no_sets, set_kept, set_left}
use Rattle.net_guard.specs.inside.Folding.{SetFoldsTo, SetsFoldTo}
use Rattle.net_guard.proofs.simplified.simplify_sets.Goals.{in-Some+in_ok-push, in_default}
use Rattle.net_guard.proofs.simplified.simplify_sets.Goals as goal

pub loop-set-init : goal.loop-set-init
loop-set-init c = λ names all.
    let S : List NetAssign → Type 0 = SetsFoldTo names [] in
    subst S (sym c.new-kept.ensures.items) (no_sets names)

pub loop-set-preserved : goal.loop-set-preserved
loop-set-preserved c = λ names all.
    let sets = c.args.sets.now in
    let i = c.loop-set.set-index in
    let set = c.set-item.result in
    let kept = c.loop-set.kept.items in
    let N : NetAssign → Type 0 = SetHasNumbers names in
    let has : N set = subst N (sym c.set-item.is) (all i set c.loop-set-test.true) in
    let so_far = c.loop-set.invariant names all in
    let S : Option NetAssign → Type 0 = SetFoldsTo names set in
    let found = c.in_ok-simplified.ensures names has in
    elim c.match-branch-2.branch [
      | in-Some+in_ok-push w ↦
          rw (w.kept-is, w.in_ok-push.ensures.items)
          (set_kept names sets i set w.in-Some.simplified kept c.loop-set-test.true c.set-item.is so_far (subst S w.in-Some.is found))
      | in_default w ↦ rw w.kept-is (set_left names sets i set kept c.loop-set-test.true c.set-item.is so_far (subst S w.in_default.is found))
    ]

pub returns : goal.returns
returns c = λ names all.
    let sets = c.args.sets.now in
    let end : c.loop-set.set-index ≡ length sets = omega arith in
    let S : List NetAssign → Type 0 = λ olds. SetsFoldTo names olds c.loop-set.kept.items in
    subst S (ap (λ (k : ℕ). take k sets) end ∙ take-length sets) (c.loop-set.invariant names all)
