use Rattle.std.proofs.Common.{◌≡◌, ◌+◌, ◌-◌, ◌<◌, [], ◌∷◌, ◌++◌, List, length, map, drop, All, ap, ap₂, sym, subst, ◌∙◌, inl, inr, rules, arith}
use Rattle.std.proofs.lemmas.List.{drop_all}
use Rattle.hw_names.specs.Name.{Text, text_of}
use Rattle.hw_names.specs.declared.names.NameId.{NameId}
use Rattle.hw_prims.specs.Row.{Row}
use Rattle.net_core.proofs.GuardLemmas.{list_numbers}
use Rattle.net_core.specs.Guard.{GuardTree, GuardTrees, MoreGuards, Negates, Reads, Compares, guards_of, guard_tree, source_tree, holds}
use Rattle.net_core.specs.Numbers.{GuardHasNumbers}
use Rattle.net_core.specs.declared.net.Cmp.TheVariants.{Eq}
use Rattle.net_core.specs.declared.net.Guard.{Guard, the_lemmas}
use Rattle.net_core.specs.declared.net.Src.{Src}
use Rattle.net_sim.proofs.FlattenLemmas.{if_ok, if_both_ok, finish, all_truth, any_truth, all_sources, any_sources, source_in, adds_leaf, read_truth, compare_truth, negated_exit, exits_negated, exits_there, listed_none, listed_more, drop_trees}
use Rattle.net_sim.proofs.TestLemmas.{source_within}
use Rattle.net_sim.specs.inside.Flattening.{IsKnownSource, EachSource, AreExits, AddsTests, joined, exit_of}
use Rattle.net_sim.specs.declared.flatten.Join.TheVariants.{All as AllGuards, Any as AnyGuards}
use Rattle.net_sim.specs.declared.plan.Source.TheVariants.{Fixed}
use Rattle.net_sim.proofs.flatten.+add_guard.Goals as goal

pub add_guard-add_list-requires : goal.add_guard-add_list-requires
add_guard-add_list-requires t c =
    let P : List (Guard NameId) → Type 0 = All (GuardHasNumbers c.args.names.now) in
    let is = c.in-All.is in (
      search (rules, the_lemmas),
      (
        subst P (sym c.deref.ensures.value) (list_numbers c.args.names.now c.loop-inner.inner.now c.in-All.guards (inl is) c.loop-inner.invariant.numbers),
        (
          all_sources (text_of c.args.names.now) (IsKnownSource c.args.ports.now) c.loop-inner.inner.now c.in-All.guards c.deref.result.now is c.deref.ensures.value c.loop-inner.invariant.sources,
          c.loop-inner.invariant.ways,
        ),
      ),
    )

pub add_guard-returns-in-All : goal.add_guard-returns-in-All
add_guard-returns-in-All t c =
    let tree = guard_tree (text_of c.args.names.now) in
    let inv = c.loop-inner.invariant in
    let listed = λ (row : Row). joined AllGuards row (guards_of (map tree c.deref.result.now)) in
    let whole = λ (row : Row). holds row (tree c.args.guard.now) in
    if_ok c.add_list.result
    (AddsTests c.args.ports.now c.loop-inner.tests.items c.add_list.new.tests.items c.loop-inner.ways listed)
    (AddsTests c.args.ports.now c.args.tests.now.items c.add_list.new.tests.items c.args.exits whole)
    (λ number added.
    finish c.args.ports.now c.args.tests.now.items c.loop-inner.tests.items c.add_list.new.tests.items c.args.exits c.loop-inner.ways listed whole number inv.tests
    (λ row. ap (exit_of c.loop-inner.ways) (all_truth (text_of c.args.names.now) c.loop-inner.inner.now c.in-All.guards c.deref.result.now c.in-All.is c.deref.ensures.value row) ∙ inv.same row) added)
    c.add_list.ensures

pub add_guard-add_list-requires-in-Any : goal.add_guard-add_list-requires-in-Any
add_guard-add_list-requires-in-Any t c =
    let P : List (Guard NameId) → Type 0 = All (GuardHasNumbers c.args.names.now) in
    let is = c.in-Any.is in (
      search (rules, the_lemmas),
      (
        subst P (sym c.deref-in-Any.ensures.value) (list_numbers c.args.names.now c.loop-inner.inner.now c.in-Any.guards (inr is) c.loop-inner.invariant.numbers),
        (
          any_sources (text_of c.args.names.now) (IsKnownSource c.args.ports.now) c.loop-inner.inner.now c.in-Any.guards c.deref-in-Any.result.now is c.deref-in-Any.ensures.value c.loop-inner.invariant.sources,
          c.loop-inner.invariant.ways,
        ),
      ),
    )

pub add_guard-returns-in-Any : goal.add_guard-returns-in-Any
add_guard-returns-in-Any t c =
    let tree = guard_tree (text_of c.args.names.now) in
    let inv = c.loop-inner.invariant in
    let listed = λ (row : Row). joined AnyGuards row (guards_of (map tree c.deref-in-Any.result.now)) in
    let whole = λ (row : Row). holds row (tree c.args.guard.now) in
    if_ok c.add_list-in-Any.result
    (AddsTests c.args.ports.now c.loop-inner.tests.items c.add_list-in-Any.new.tests.items c.loop-inner.ways listed)
    (AddsTests c.args.ports.now c.args.tests.now.items c.add_list-in-Any.new.tests.items c.args.exits whole)
    (λ number added.
    finish c.args.ports.now c.args.tests.now.items c.loop-inner.tests.items c.add_list-in-Any.new.tests.items c.args.exits c.loop-inner.ways listed whole number inv.tests
    (λ row. ap (exit_of c.loop-inner.ways) (any_truth (text_of c.args.names.now) c.loop-inner.inner.now c.in-Any.guards c.deref-in-Any.result.now c.in-Any.is c.deref-in-Any.ensures.value row) ∙ inv.same row) added)
    c.add_list-in-Any.ensures

pub add_guard-returns-in-Read : goal.add_guard-returns-in-Read
add_guard-returns-in-Read t c =
    let texts = text_of c.args.names.now in
    let inv = c.loop-inner.invariant in
    let ports = c.args.ports.now in
    let src = source_tree texts c.deref-in-Read.result.now in
    let truth = λ (row : Row). holds row (Reads src) in
    let whole = λ (row : Row). holds row (guard_tree texts c.args.guard.now) in
    let old = c.loop-inner.tests.items in
    let new = c.add_test.new.tests.items in
    let left = c.source_of-left.result in
    let right = Fixed c.wrap.result in
    let added = adds_leaf ports old c.loop-inner.ways truth Eq left right c.test.result c.test.ensures inv.ways (source_within ports src left c.source_of-left.ensures) tt
    (read_truth ports src left right c.source_of-left.ensures (λ values. c.wrap.ensures.value)) in
    if_both_ok c.add_test.result (λ number. new ≡ old ++ c.test.result ∷ []) (λ number. number ≡ length old + 2) (AddsTests ports c.args.tests.now.items new c.args.exits whole)
    (λ number items is.
    finish ports c.args.tests.now.items old new c.args.exits c.loop-inner.ways truth whole number inv.tests
    (λ row.
    ap (λ (s : Src NameId). exit_of c.loop-inner.ways (holds row (Reads (source_tree texts s)))) c.deref-in-Read.ensures
    ∙ ap (λ (g : Guard NameId). exit_of c.loop-inner.ways (holds row (guard_tree texts g))) (sym c.in-Read.is) ∙ inv.same row)
    (rw (items, is) added))
    c.add_test.ensures.items c.add_test.ensures.number

pub add_guard-returns-in-Test : goal.add_guard-returns-in-Test
add_guard-returns-in-Test t c =
    let texts = text_of c.args.names.now in
    let inv = c.loop-inner.invariant in
    let ports = c.args.ports.now in
    let a = source_tree texts c.deref-in-Test.result.now in
    let b = source_tree texts c.deref-in-Test-2.result.now in
    let truth = λ (row : Row). holds row (Compares c.in-Test.op a b) in
    let whole = λ (row : Row). holds row (guard_tree texts c.args.guard.now) in
    let old = c.loop-inner.tests.items in
    let new = c.add_test-in-Test.new.tests.items in
    let left = c.source_of-left-in-Test.result in
    let right = c.source_of-right.result in
    let added = adds_leaf ports old c.loop-inner.ways truth c.in-Test.op left right c.test-in-Test.result c.test-in-Test.ensures inv.ways (source_within ports a left c.source_of-left-in-Test.ensures) (source_within ports b right c.source_of-right.ensures)
    (compare_truth ports c.in-Test.op a b left right c.source_of-left-in-Test.ensures c.source_of-right.ensures) in
    if_both_ok c.add_test-in-Test.result (λ number. new ≡ old ++ c.test-in-Test.result ∷ []) (λ number. number ≡ length old + 2) (AddsTests ports c.args.tests.now.items new c.args.exits whole)
    (λ number items is.
    finish ports c.args.tests.now.items old new c.args.exits c.loop-inner.ways truth whole number inv.tests
    (λ row.
    ap₂ (λ (s u : Src NameId). exit_of c.loop-inner.ways (holds row (Compares c.in-Test.op (source_tree texts s) (source_tree texts u)))) c.deref-in-Test.ensures c.deref-in-Test-2.ensures
    ∙ ap (λ (g : Guard NameId). exit_of c.loop-inner.ways (holds row (guard_tree texts g))) (sym c.in-Test.is) ∙ inv.same row)
    (rw (items, is) added))
    c.add_test-in-Test.ensures.items c.add_test-in-Test.ensures.number

pub add_list-add_guard-requires : goal.add_list-add_guard-requires
add_list-add_guard-requires t c =
    let N : Guard NameId → Type 0 = GuardHasNumbers c.args.names.now in
    let i = c.loop-place.place - 1 in
    let lt : i < length c.args.guards.now = omega (arith, c.loop-place-test.true) in
    let guard = c.index-guards-place.result in
    let old = c.args.tests.now.items in
    let mid = c.loop-place.tests.items in (
      search (rules, the_lemmas),
      (
        subst N (sym c.index-guards-place.is) (c.requires.numbers i guard lt),
        (
          source_in (text_of c.args.names.now) (IsKnownSource c.args.ports.now) c.args.guards.now i guard lt c.index-guards-place.is c.requires.sources,
          subst (AreExits mid) (sym c.exits_before-ways.ensures) (exits_there c.args.join old mid c.args.exits c.loop-place.start c.requires.exits c.loop-place.invariant.keeps c.loop-place.invariant.within),
        ),
      ),
    )

pub add_list-loop-place-init : goal.add_list-loop-place-init
add_list-loop-place-init t c =
    let tree = guard_tree (text_of c.args.names.now) in
    let old = c.args.tests.now.items in
    let none = listed_none c.args.ports.now old c.args.join c.args.exits c.of_none-start.result c.requires.exits c.of_none-start.ensures in
    let e : drop (length c.args.guards.now) c.args.guards.now ≡ [] = drop_all (length c.args.guards.now) c.args.guards.now (omega arith) in
    subst (λ (l : List (Guard NameId)). AddsTests c.args.ports.now old old c.args.exits (λ row. joined c.args.join row (guards_of (map tree l))) c.of_none-start.result) (sym e) none

pub add_list-loop-place-preserved : goal.add_list-loop-place-preserved
add_list-loop-place-preserved t c =
    let texts = text_of c.args.names.now in
    let tree = guard_tree texts in
    let guards = c.args.guards.now in
    let ports = c.args.ports.now in
    let i = c.loop-place.place - 1 in
    let lt : i < length guards = omega (arith, c.loop-place-test.true) in
    let next : i + 1 ≡ c.loop-place.place = omega (arith, c.loop-place-test.true) in
    let guard = c.index-guards-place.result in
    let old = c.args.tests.now.items in
    let mid = c.loop-place.tests.items in
    let new = c.add_guard.new.tests.items in
    let start = c.in_ok-start.start in
    let first = subst (λ ways. AddsTests ports mid new ways (λ row. holds row (tree guard)) start) c.exits_before-ways.ensures c.in_ok-start.ensures in
    let others = guards_of (map tree (drop c.loop-place.place guards)) in
    let e : guards_of (map tree (drop i guards)) ≡ MoreGuards (tree guard) others = drop_trees texts guards i guard lt c.index-guards-place.is ∙ ap (λ k. MoreGuards (tree guard) (guards_of (map tree (drop k guards)))) next in
    subst (λ (gs : GuardTrees Text). AddsTests ports old new c.args.exits (λ row. joined c.args.join row gs) start) (sym e)
    (listed_more ports old mid new c.args.join c.args.exits c.loop-place.start start (tree guard) others c.loop-place.invariant first)

pub add_list-returns : goal.add_list-returns
add_list-returns t c =
    let tree = guard_tree (text_of c.args.names.now) in
    let done : c.loop-place.place ≡ 0 = omega (arith, c.loop-place-test.false) in
    subst (λ k. AddsTests c.args.ports.now c.args.tests.now.items c.loop-place.tests.items c.args.exits (λ row. joined c.args.join row (guards_of (map tree (drop k c.args.guards.now)))) c.loop-place.start) done c.loop-place.invariant

pub add_guard-loop-inner-preserved : goal.add_guard-loop-inner-preserved
add_guard-loop-inner-preserved t c =
    let names = c.args.names.now in
    let tree = guard_tree (text_of names) in
    let inv = c.loop-inner.invariant in
    let under = c.deref-inner.result.now in
    let ways = c.loop-inner.ways in
    let is_not : tree c.loop-inner.inner.now ≡ Negates (tree under) = ap tree c.in-Not.is ∙ ap (λ (g : Guard NameId). Negates (tree g)) (sym c.deref-inner.ensures) in
    record {
      tests = inv.tests;
      same = λ row.
          ap (λ w. exit_of w (holds row (tree under))) c.negated-ways.ensures ∙ negated_exit ways (holds row (tree under))
          ∙ ap (λ (g : GuardTree Text). exit_of ways (holds row g)) (sym is_not) ∙ inv.same row;
      numbers = subst (GuardHasNumbers names) (sym c.deref-inner.ensures) (subst (GuardHasNumbers names) c.in-Not.is inv.numbers);
      sources = subst (EachSource (IsKnownSource c.args.ports.now)) is_not inv.sources;
      ways = subst (AreExits c.loop-inner.tests.items) (sym c.negated-ways.ensures) (exits_negated c.loop-inner.tests.items ways inv.ways);
      size = search (rules, the_lemmas);
    }
