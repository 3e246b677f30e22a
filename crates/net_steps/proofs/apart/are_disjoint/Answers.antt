use Rattle.std.proofs.Common.{List, ℕ, get_or, take, subst, sym, ◌∙◌}
use Rattle.std.proofs.lemmas.List.{take_all, take_more}
use Rattle.net_steps.specs.Apart.{AreDisjoint}
use Rattle.net_steps.proofs.ApartLemmas.{disjoint_none, disjoint_more}
use Rattle.net_steps.proofs.apart.are_disjoint.Goals as goal

pub loop-number-init : goal.loop-number-init
loop-number-init c = disjoint_none c.args.second.now

pub loop-number-preserved : goal.loop-number-preserved
loop-number-preserved c =
    let l = c.loop-number in
    let first = c.args.first.now in
    let second = c.args.second.now in
    subst (λ (ns : List ℕ). AreDisjoint ns second) (sym (take_more first l.number-index 0 c.loop-number-test.true))
    (disjoint_more (take l.number-index first) second (get_or first l.number-index 0) l.invariant (sym c.contains.ensures.value ∙ c.if-contains.false))

pub returns : goal.returns
returns c same =
    let l = c.loop-number in
    subst (λ (ns : List ℕ). AreDisjoint ns c.args.second.now) (take_all l.number-index c.args.first.now c.loop-number-test.false) l.invariant
