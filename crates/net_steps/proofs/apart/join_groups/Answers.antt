use Rattle.std.proofs.Common.{List, ℕ, nat_eq, get_or, take, unwrap_or, subst, sym}
use Rattle.std.proofs.lemmas.List.{take_all, take_more}
use Rattle.indexmap.specs.IndexMap.{get}
use Rattle.net_steps.specs.Apart.{Joins, JoinsGroups, empty_group}
use Rattle.net_steps.proofs.ApartLemmas.{joins_none, joins_more}
use Rattle.net_steps.proofs.apart.join_groups.Goals as goal

pub loop-number-init : goal.loop-number-init
loop-number-init c = joins_none c.args.steps.now (get nat_eq c.args.groups.now) c.args.truth

pub loop-number-preserved : goal.loop-number-preserved
loop-number-preserved c =
    let steps = c.args.steps.now in
    let numbers = c.args.numbers.now in
    let l = c.loop-number in
    let i = l.number-index in
    let old = get nat_eq c.args.groups.now in
    let mid = get nat_eq l.groups in
    let new = get nat_eq c.insert.new.self in
    let joins : Joins steps (unwrap_or (mid (get_or numbers i 0)) empty_group) c.args.truth c.in-Some.group =
    subst (λ g. Joins steps g c.args.truth c.in-Some.group) c.group_of.ensures c.in-Some.ensures in
    subst (λ (ns : List ℕ). JoinsGroups steps old new ns c.args.truth) (sym (take_more numbers i 0 c.loop-number-test.true))
    (joins_more steps old mid new (take i numbers) c.args.truth (get_or numbers i 0) c.in-Some.group l.invariant joins c.in_ok-insert.ensures.updates.0)

pub returns : goal.returns
returns c same =
    let l = c.loop-number in
    subst (λ (ns : List ℕ). JoinsGroups c.args.steps.now (get nat_eq c.args.groups.now) (get nat_eq l.groups) ns c.args.truth)
    (take_all l.number-index c.args.numbers.now c.loop-number-test.false) l.invariant
