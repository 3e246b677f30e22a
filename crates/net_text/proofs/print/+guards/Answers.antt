use Rattle.std.proofs.Common.{◌≡◌, ◌++◌, ◌==◌, ℕ, true, false, cond, List, Vec, Global, All, rules, arith, ap, sym, subst, ◌∙◌}
use Rattle.std.proofs.lemmas.Bool.Decides.{nat_tests}
use Rattle.hw_names.specs.Name.{Text, text_of}
use Rattle.hw_names.specs.declared.names.NameId.{NameId}
use Rattle.net_core.specs.Guard.{GuardTree, AllOf, AnyOf, guard_tree}
use Rattle.net_core.specs.Numbers.{GuardHasNumbers}
use Rattle.net_core.specs.declared.net.Guard.{Guard, the_lemmas}
use Rattle.net_text.specs.Layout.{guard_text}
use Rattle.net_text.specs.inside.View.{guards_of}
use Rattle.net_text.proofs.GuardRows.{all_tree, any_tree, all_numbers, any_numbers}
use Rattle.net_text.proofs.PrintLemmas.{OnOk-is, guards_step}
use Rattle.net_text.proofs.print.+guards.Goals.{put_guards-then-not-first+in_ok-put-2, put_guards-else-not-first}
use Rattle.net_text.proofs.print.+guards.Goals as goal

pub put_guard-put_guards-requires : goal.put_guard-put_guards-requires
put_guard-put_guards-requires t c =
    let names = c.args.names.now in (
      search (rules, the_lemmas),
      subst (λ (gs : List (Guard NameId)). All (GuardHasNumbers names) gs) (sym c.deref-in-All.ensures.value)
          (all_numbers names c.in-All.guards (subst (λ (g : Guard NameId). GuardHasNumbers names g) c.in-All.is c.loop-rest.invariant.1)),
    )

pub put_guard-put_guards-requires-in-Any : goal.put_guard-put_guards-requires-in-Any
put_guard-put_guards-requires-in-Any t c =
    let names = c.args.names.now in (
      search (rules, the_lemmas),
      subst (λ (gs : List (Guard NameId)). All (GuardHasNumbers names) gs) (sym c.deref-in-Any.ensures.value)
          (any_numbers names c.in-Any.guards (subst (λ (g : Guard NameId). GuardHasNumbers names g) c.in-Any.is c.loop-rest.invariant.1)),
    )

pub put_guard-returns-in-All : goal.put_guard-returns-in-All
put_guard-returns-in-All t c =
    let names = c.args.names.now in
    let out = c.loop-rest.out.items in
    OnOk-is c.put_guards.result c.put_guards.new.out.items _ _ c.put_guards.ensures
    (ap (λ (gs : List (Guard NameId)). out ++ guard_text (AllOf (guards_of names gs))) c.deref-in-All.ensures.value
    ∙ ap (λ (tree : GuardTree Text). out ++ guard_text tree) (sym (all_tree names c.in-All.guards) ∙ ap (guard_tree (text_of names)) (sym c.in-All.is))
    ∙ c.loop-rest.invariant.2)

pub put_guard-returns-in-Any : goal.put_guard-returns-in-Any
put_guard-returns-in-Any t c =
    let names = c.args.names.now in
    let out = c.loop-rest.out.items in
    OnOk-is c.put_guards-in-Any.result c.put_guards-in-Any.new.out.items _ _ c.put_guards-in-Any.ensures
    (ap (λ (gs : List (Guard NameId)). out ++ guard_text (AnyOf (guards_of names gs))) c.deref-in-Any.ensures.value
    ∙ ap (λ (tree : GuardTree Text). out ++ guard_text tree) (sym (any_tree names c.in-Any.guards) ∙ ap (guard_tree (text_of names)) (sym c.in-Any.is))
    ∙ c.loop-rest.invariant.2)

pub put_guards-loop-guard-preserved : goal.put_guards-loop-guard-preserved
put_guards-loop-guard-preserved t c =
    let i = c.loop-guard.guard-index in
    let marked : c.if-not-first.out.items ≡ cond (i == 0) c.loop-guard.out.items (c.loop-guard.out.items ++ c.args.between.now) =
    elim c.if-not-first.branch [
      | put_guards-then-not-first+in_ok-put-2 w ↦
          let later : (i == 0) ≡ false = sym c.loop-guard.invariant.0 ∙ w.if-not-first.true in
          rw later (ap (λ (out : Vec ℕ Global). out.items) w.out-is ∙ w.in_ok-put-2.ensures)
      | put_guards-else-not-first w ↦
          let first : (i == 0) ≡ true = sym c.loop-guard.invariant.0 ∙ w.if-not-first.false in
          rw first (ap (λ (out : Vec ℕ Global). out.items) w.out-is)
    ] in (
      grind (arith, nat_tests),
      guards_step c.args.names.now c.args.between.now c.args.guards.now i c.guard-item.result c.put.new.out.items c.loop-guard.out.items c.if-not-first.out.items c.put_guard.new.out.items
          c.loop-guard-test.true c.guard-item.is c.loop-guard.invariant.1 marked c.in_ok-put_guard.ensures,
    )
