use Rattle.std.proofs.Common.{suc, ◌++◌, [], ◌∷◌, List, All, map, ap, subst, sym, inl, inr, ◌∙◌, add-one, rules}
use Rattle.hw_names.specs.Name.{Text}
use Rattle.cal_ast.specs.Numbers as cal
use Rattle.cal_ast.specs.declared.tree.CalPort.{CalPort}
use Rattle.net_core.specs.Guard.{GuardTree, guard_tree}
use Rattle.net_core.specs.Numbers.{GuardHasNumbers}
use Rattle.net_core.specs.declared.net.Guard.{Guard, the_lemmas}
use Rattle.net_core.specs.declared.net.Guard.TheVariants as variants
use Rattle.net_flat.specs.inside.Placed.{port_text}
use Rattle.net_flat.specs.inside.StandFor.{AreGuards, negations, net_guard}
use Rattle.net_flat.proofs.GuardLemmas.{boxed, is_all, is_any, is_read, is_test, list_numbers, negated_whole, negations-inside}
use Rattle.net_flat.proofs.StandLemmas.{Keeps-then, stable_guard, stand_push}
use Rattle.net_flat.proofs.TakeLemmas.{map_one}
use Rattle.net_flat.proofs.guards.+guard_at.Goals as goal

pub guard_at-loop-inner-preserved : goal.guard_at-loop-inner-preserved
guard_at-loop-inner-preserved t c =
    let f = port_text c.args.source.now c.args.prefix.now in
    let n = c.loop-inner.count in
    let N : Guard CalPort → Type 0 = cal.GuardHasNumbers c.args.source.now in
    let negated : N c.in-Not.operand.value = subst N c.in-Not.is c.loop-inner.invariant.numbers in
    record {
      kept = c.loop-inner.invariant.kept;
      rest =
          rw add-one
          (ap (λ (g : Guard CalPort). negations (suc n) (guard_tree f g)) c.deref-inner.ensures
          ∙ sym (negations-inside n (guard_tree f c.in-Not.operand.value))
          ∙ ap (λ (g : Guard CalPort). negations n (guard_tree f g)) (sym c.in-Not.is)
          ∙ c.loop-inner.invariant.rest);
      numbers = subst N (sym c.deref-inner.ensures) negated;
      depth = search (rules, the_lemmas);
    }

pub guard_at-returns-in-Read-clause-guard : goal.guard_at-returns-in-Read-clause-guard
guard_at-returns-in-Read-clause-guard t c =
    let f = port_text c.args.source.now c.args.prefix.now in
    let shape : Guard CalPort = variants.Read c.in-Read.src in
    let whole = ap (λ (g : Guard CalPort). negations c.loop-inner.count (guard_tree f g)) (sym c.in-Read.is) ∙ c.loop-inner.invariant.rest in
    let names = c.source_at.new.names in
    let src = c.in_ok-new-in-Read.field-0 in
    let source = boxed names f c.in-Read.src.value c.deref.result.now c.in_ok-src-in-Read.src src.value c.deref.ensures c.in_ok-new-in-Read.ensures.ok c.in_ok-src-in-Read.ensures.source in
    let here = is_read names f c.in-Read.src src source in
    negated_whole names f c.args.guard.now shape c.loop-inner.count c.negate.result whole (c.negate.ensures names (guard_tree f shape) here)

pub guard_at-returns-in-Test-clause-guard : goal.guard_at-returns-in-Test-clause-guard
guard_at-returns-in-Test-clause-guard t c =
    let f = port_text c.args.source.now c.args.prefix.now in
    let shape : Guard CalPort = variants.Test c.in-Test.op c.in-Test.left c.in-Test.right in
    let whole = ap (λ (g : Guard CalPort). negations c.loop-inner.count (guard_tree f g)) (sym c.in-Test.is) ∙ c.loop-inner.invariant.rest in
    let before = c.source_at-in-Test.new.names in
    let names = c.source_at-in-Test-2.new.names in
    let left = c.in_ok-left-in-Test-2.left in
    let right = c.in_ok-right-in-Test-2.right in
    let first = boxed before f c.in-Test.left.value c.deref-in-Test.result.now c.in_ok-left-in-Test.left left.value c.deref-in-Test.ensures c.in_ok-left-in-Test-2.ensures.ok c.in_ok-left-in-Test.ensures.source in
    let second = boxed names f c.in-Test.right.value c.deref-in-Test-2.result.now c.in_ok-right-in-Test.right right.value c.deref-in-Test-2.ensures c.in_ok-right-in-Test-2.ensures.ok c.in_ok-right-in-Test.ensures.source in
    let here = is_test before names f c.in-Test.op c.in-Test.left c.in-Test.right left right c.source_at-in-Test-2.ensures.kept first second in
    negated_whole names f c.args.guard.now shape c.loop-inner.count c.negate-in-Test.result whole (c.negate-in-Test.ensures names (guard_tree f shape) here)

pub guard_at-guards_at-requires : goal.guard_at-guards_at-requires
guard_at-guards_at-requires t c =
    let source = c.args.source.now in
    let P : List (Guard CalPort) → Type 0 = All (cal.GuardHasNumbers source) in (
      search (rules, the_lemmas),
      subst P (sym c.deref-in-All.ensures.value) (list_numbers source c.loop-inner.inner.now c.in-All.guards (inl c.in-All.is) c.loop-inner.invariant.numbers),
    )

pub guard_at-guards_at-requires-in-Any : goal.guard_at-guards_at-requires-in-Any
guard_at-guards_at-requires-in-Any t c =
    let source = c.args.source.now in
    let P : List (Guard CalPort) → Type 0 = All (cal.GuardHasNumbers source) in (
      search (rules, the_lemmas),
      subst P (sym c.deref-in-Any.ensures.value) (list_numbers source c.loop-inner.inner.now c.in-Any.guards (inr c.in-Any.is) c.loop-inner.invariant.numbers),
    )

pub guard_at-returns-in-All-clause-guard : goal.guard_at-returns-in-All-clause-guard
guard_at-returns-in-All-clause-guard t c =
    let f = port_text c.args.source.now c.args.prefix.now in
    let shape : Guard CalPort = variants.All c.in-All.guards in
    let whole = ap (λ (g : Guard CalPort). negations c.loop-inner.count (guard_tree f g)) (sym c.in-All.is) ∙ c.loop-inner.invariant.rest in
    let names = c.guards_at.new.names in
    let found = subst (λ (gs : List (Guard CalPort)). AreGuards names (map (guard_tree f) gs) c.in_ok-guards-in-All.guards.items) c.deref-in-All.ensures.value c.in_ok-guards-in-All.ensures.guards in
    let here = is_all names f c.in-All.guards c.in_ok-guards-in-All.guards found in
    negated_whole names f c.args.guard.now shape c.loop-inner.count c.negate-in-All.result whole (c.negate-in-All.ensures names (guard_tree f shape) here)

pub guard_at-returns-in-Any-clause-guard : goal.guard_at-returns-in-Any-clause-guard
guard_at-returns-in-Any-clause-guard t c =
    let f = port_text c.args.source.now c.args.prefix.now in
    let shape : Guard CalPort = variants.Any c.in-Any.guards in
    let whole = ap (λ (g : Guard CalPort). negations c.loop-inner.count (guard_tree f g)) (sym c.in-Any.is) ∙ c.loop-inner.invariant.rest in
    let names = c.guards_at-in-Any.new.names in
    let found = subst (λ (gs : List (Guard CalPort)). AreGuards names (map (guard_tree f) gs) c.in_ok-guards-in-Any.guards.items) c.deref-in-Any.ensures.value c.in_ok-guards-in-Any.ensures.guards in
    let here = is_any names f c.in-Any.guards c.in_ok-guards-in-Any.guards found in
    negated_whole names f c.args.guard.now shape c.loop-inner.count c.negate-in-Any.result whole (c.negate-in-Any.ensures names (guard_tree f shape) here)

pub guards_at-loop-guard-preserved : goal.guards_at-loop-guard-preserved
guards_at-loop-guard-preserved t c =
    let f = port_text c.args.source.now c.args.prefix.now in
    let i = c.loop-guard.guard-index in
    let names = c.guard_at.new.names in
    let more = map_one (guard_tree f) c.args.guards.now i c.guard-item.result c.loop-guard-test.true c.guard-item.is in
    record {
      kept = Keeps-then c.args.names.now c.loop-guard.names names c.loop-guard.invariant.kept c.guard_at.ensures.kept;
      guards =
          rw c.in_ok-push.ensures.items
          (subst (λ (trees : List (GuardTree Text)). AreGuards names trees (c.loop-guard.found.items ++ c.in_ok-guard_at.field-0 ∷ [])) (sym more)
          (stand_push GuardHasNumbers net_guard stable_guard c.loop-guard.names names _ c.loop-guard.found.items _ c.in_ok-guard_at.field-0 c.guard_at.ensures.kept c.loop-guard.invariant.guards c.in_ok-guard_at.ensures.guard));
    }
