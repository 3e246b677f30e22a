use Rattle.std.proofs.Common.{List, ℕ, false, nat_eq, get_or, take, subst, sym}
use Rattle.std.proofs.lemmas.List.{take_all, take_more}
use Rattle.indexmap.specs.IndexMap.{get}
use Rattle.net_steps.specs.Apart.{HasNoTwo, JoinsGroups}
use Rattle.net_steps.specs.declared.drivers.Driver.{Driver}
use Rattle.net_steps.specs.declared.truth.Truth.TheVariants.{Fixed}
use Rattle.net_steps.proofs.ApartLemmas.{AreApartUpto, apart_none, apart_more}
use Rattle.net_steps.proofs.apart.never_two.Goals as goal

pub loop-driver-init : goal.loop-driver-init
loop-driver-init c = apart_none c.args.steps.now c.in-Some.slot _

pub loop-driver-preserved : goal.loop-driver-preserved
loop-driver-preserved c =
    let steps = c.args.steps.now in
    let drivers = c.args.drivers.now in
    let i = c.loop-driver.driver-index in
    let d : Driver = record { truth = Fixed false; source = 0 } in
    let old = get nat_eq c.loop-driver.groups in
    let new = get nat_eq c.join_groups.new.groups in
    let numbers = c.in-Some-asked_numbers.numbers.items in
    let joins : JoinsGroups steps old new numbers (get_or drivers i d).truth =
    subst (λ (ns : List ℕ). JoinsGroups steps old new ns (get_or drivers i d).truth) c.as_slice.ensures.value (c.in_ok-joined.ensures c.if-not-joined.false) in
    subst (λ (ds : List Driver). AreApartUpto steps c.in-Some.slot ds new) (sym (take_more drivers i d c.loop-driver-test.true))
    (apart_more steps c.in-Some.slot (take i drivers) old new (get_or drivers i d) numbers c.loop-driver.invariant c.in-Some-asked_numbers.ensures joins)

pub returns : goal.returns
returns c same =
    subst (HasNoTwo c.args.steps.now) (take_all c.loop-driver.driver-index c.args.drivers.now c.loop-driver-test.false) c.loop-driver.invariant.alone
