use Rattle.std.proofs.Common.{◌↔◌, List, All, map, rules, subst, subst₂, sym, arith}
use Rattle.std.specs.Bool.{IsTrue}
use Rattle.std.proofs.lemmas.Bool.Decides.{not_from_Decides}
use Rattle.std.proofs.lemmas.List.{take_all}
use Rattle.std.proofs.lemmas.List.Elements.{All-more}
use Rattle.net_core.specs.Guard.{Reads, Compares, guard_tree, guards_of, source_tree}
use Rattle.net_core.specs.declared.net.Guard.{Guard, the_lemmas}
use Rattle.net_core.specs.declared.net.Src.{Src}
use Rattle.cal_ast.specs.Numbers.{GuardHasNumbers, SourceHasNumbers}
use Rattle.cal_ast.specs.Tree.{port_tree}
use Rattle.cal_ast.specs.Typing.{GuardAgrees, GuardsAgree}
use Rattle.cal_ast.specs.declared.tree.CalPort.{CalPort}
use Rattle.cal_place.specs.Around.{comp_at, design_at, names_at}
use Rattle.cal_place.proofs.GuardLemmas.{both_ways, guards_each, list_agrees}
use Rattle.cal_place.proofs.ListLemmas.{told_false, told_true}
use Rattle.cal_place.proofs.RowLemmas.{list_numbers}
use Rattle.cal_rules.proofs.typing.+guard_agrees.Goals as goal

pub guard_agrees-loop-inner-init : goal.guard_agrees-loop-inner-init
guard_agrees-loop-inner-init t c = record { same = (λ h. h, λ h. h); numbers = c.requires; depth = omega arith }

pub guard_agrees-loop-inner-preserved : goal.guard_agrees-loop-inner-preserved
guard_agrees-loop-inner-preserved t c =
    let p = c.args.place.now in
    let A : Guard CalPort → Type 0 = λ g. GuardAgrees (design_at p) (comp_at p) (guard_tree (port_tree (names_at p)) g) in
    let N : Guard CalPort → Type 0 = GuardHasNumbers (names_at p) in
    let whole = A c.args.guard.now in
    let here : A c.in-Not.negated.value ↔ whole = subst (λ (g : Guard CalPort). A g ↔ whole) c.in-Not.is c.loop-inner.invariant.same in
    let negated : N c.in-Not.negated.value = subst N c.in-Not.is c.loop-inner.invariant.numbers in
    record {
      same = subst (λ (g : Guard CalPort). A g ↔ whole) (sym c.deref-inner.ensures) here;
      numbers = subst N (sym c.deref-inner.ensures) negated;
      depth = search (rules, the_lemmas);
    }

pub guard_agrees-is_bit-requires : goal.guard_agrees-is_bit-requires
guard_agrees-is_bit-requires t c =
    let N : Guard CalPort → Type 0 = GuardHasNumbers (names_at c.args.place.now) in
    subst (λ (s : Src CalPort). SourceHasNumbers (names_at c.args.place.now) s) (sym c.deref.ensures) (subst N c.in-Read.is c.loop-inner.invariant.numbers)

pub guard_agrees-returns-in-Read : goal.guard_agrees-returns-in-Read
guard_agrees-returns-in-Read t c =
    let p = c.args.place.now in
    let A : Guard CalPort → Type 0 = λ g. GuardAgrees (design_at p) (comp_at p) (guard_tree (port_tree (names_at p)) g) in
    let whole = A c.args.guard.now in
    let R : Src CalPort → Type 0 = λ s. IsTrue c.is_bit.result ↔ GuardAgrees (design_at p) (comp_at p) (Reads (source_tree (port_tree (names_at p)) s)) in
    both_ways (subst R c.deref.ensures c.is_bit.ensures) (subst (λ (g : Guard CalPort). A g ↔ whole) c.in-Read.is c.loop-inner.invariant.same)

pub guard_agrees-can_compare-requires-clause-left : goal.guard_agrees-can_compare-requires-clause-left
guard_agrees-can_compare-requires-clause-left t c =
    let N : Guard CalPort → Type 0 = GuardHasNumbers (names_at c.args.place.now) in
    subst (λ (s : Src CalPort). SourceHasNumbers (names_at c.args.place.now) s) (sym c.deref-in-Test.ensures) (subst N c.in-Test.is c.loop-inner.invariant.numbers).0

pub guard_agrees-can_compare-requires-clause-right : goal.guard_agrees-can_compare-requires-clause-right
guard_agrees-can_compare-requires-clause-right t c =
    let N : Guard CalPort → Type 0 = GuardHasNumbers (names_at c.args.place.now) in
    subst (λ (s : Src CalPort). SourceHasNumbers (names_at c.args.place.now) s) (sym c.deref-in-Test-2.ensures) (subst N c.in-Test.is c.loop-inner.invariant.numbers).1

pub guard_agrees-returns-in-Test : goal.guard_agrees-returns-in-Test
guard_agrees-returns-in-Test t c =
    let p = c.args.place.now in
    let A : Guard CalPort → Type 0 = λ g. GuardAgrees (design_at p) (comp_at p) (guard_tree (port_tree (names_at p)) g) in
    let whole = A c.args.guard.now in
    let op = c.in-Test.field-0 in
    let tree = port_tree (names_at p) in
    let R : Src CalPort → Src CalPort → Type 0 =
    λ left right. IsTrue c.can_compare.result ↔ GuardAgrees (design_at p) (comp_at p) (Compares op (source_tree tree left) (source_tree tree right)) in
    both_ways (subst₂ R c.deref-in-Test.ensures c.deref-in-Test-2.ensures (c.can_compare.ensures op)) (subst (λ (g : Guard CalPort). A g ↔ whole) c.in-Test.is c.loop-inner.invariant.same)

pub guard_agrees-guards_agree-requires : goal.guard_agrees-guards_agree-requires
guard_agrees-guards_agree-requires t c =
    let names = names_at c.args.place.now in
    let P : List (Guard CalPort) → Type 0 = All (GuardHasNumbers names) in (
      search (rules, the_lemmas),
      subst P (sym c.deref-in-All.ensures.value) (list_numbers names c.loop-inner.inner.now c.in-All.guards c.in-All.is c.loop-inner.invariant.numbers),
    )

pub guard_agrees-returns-in-All : goal.guard_agrees-returns-in-All
guard_agrees-returns-in-All t c =
    let p = c.args.place.now in
    let tree = guard_tree (port_tree (names_at p)) in
    let L : List (Guard CalPort) → Type 0 = λ gs. IsTrue c.guards_agree.result ↔ GuardsAgree (design_at p) (comp_at p) (guards_of (map tree gs)) in
    both_ways (subst L c.deref-in-All.ensures.value c.guards_agree.ensures)
    (both_ways (list_agrees (design_at p) (comp_at p) (port_tree (names_at p)) c.loop-inner.inner.now c.in-All.guards c.in-All.is) c.loop-inner.invariant.same)

pub guards_agree-guard_agrees-requires : goal.guards_agree-guard_agrees-requires
guards_agree-guard_agrees-requires t c =
    let N : Guard CalPort → Type 0 = GuardHasNumbers (names_at c.args.place.now) in (
      search (rules, the_lemmas),
      subst N (sym c.guard-item.is) (c.requires c.loop-guard.guard-index c.guard-item.result c.loop-guard-test.true),
    )

pub guards_agree-returns-then-not-guard_agrees : goal.guards_agree-returns-then-not-guard_agrees
guards_agree-returns-then-not-guard_agrees t c =
    let p = c.args.place.now in
    let f = port_tree (names_at p) in
    let gs = c.args.guards.now in
    let A : Guard CalPort → Type 0 = λ g. GuardAgrees (design_at p) (comp_at p) (guard_tree f g) in
    told_false (GuardsAgree (design_at p) (comp_at p) (guards_of (map (guard_tree f) gs)))
    (λ agree. not_from_Decides c.guard_agrees.result c.guard_agrees.ensures c.if-not-guard_agrees.true
    (subst A (sym c.guard-item.is) ((guards_each (design_at p) (comp_at p) f gs).1 agree c.loop-guard.guard-index c.guard-item.result c.loop-guard-test.true)))

pub guards_agree-loop-guard-preserved : goal.guards_agree-loop-guard-preserved
guards_agree-loop-guard-preserved t c =
    let p = c.args.place.now in
    let A : Guard CalPort → Type 0 = λ g. GuardAgrees (design_at p) (comp_at p) (guard_tree (port_tree (names_at p)) g) in
    All-more A c.args.guards.now c.loop-guard.guard-index c.guard-item.result c.loop-guard-test.true c.loop-guard.invariant
    (subst A c.guard-item.is (c.guard_agrees.ensures.0 c.if-not-guard_agrees.false))

pub guards_agree-returns : goal.guards_agree-returns
guards_agree-returns t c =
    let p = c.args.place.now in
    let f = port_tree (names_at p) in
    let gs = c.args.guards.now in
    let A : Guard CalPort → Type 0 = λ g. GuardAgrees (design_at p) (comp_at p) (guard_tree f g) in
    let all : All A gs = subst (λ (l : List (Guard CalPort)). All A l) (take_all c.loop-guard.guard-index gs c.loop-guard-test.false) c.loop-guard.invariant in
    told_true (GuardsAgree (design_at p) (comp_at p) (guards_of (map (guard_tree f) gs))) ((guards_each (design_at p) (comp_at p) f gs).0 all)
