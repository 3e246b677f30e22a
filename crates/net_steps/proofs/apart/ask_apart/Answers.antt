use Rattle.std.proofs.Common.{List, ℕ, subst}
use Rattle.net_steps.specs.Apart.{AreDisjoint}
use Rattle.net_steps.proofs.ApartLemmas.{apart_two}
use Rattle.net_steps.proofs.apart.ask_apart.Goals as goal

pub returns : goal.returns
returns c same =
    let first = c.in-Some-numbers_of.first.items in
    let second = c.in-Some-numbers_of-2.second.items in
    let disjoint : AreDisjoint first second =
    subst (λ (ns : List ℕ). AreDisjoint ns second) c.as_slice.ensures.value (subst (AreDisjoint c.as_slice.result.now) c.as_slice-2.ensures.value (c.are_disjoint.ensures same)) in
    apart_two c.args.steps.now c.args.one c.args.other c.in-Some.slot first second c.in-Some-numbers_of.ensures c.in-Some-numbers_of-2.ensures disjoint
