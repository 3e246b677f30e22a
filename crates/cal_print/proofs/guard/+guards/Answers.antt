use Rattle.std.proofs.Common.{◌++◌, List, map, codes, All, rules, arith, ap, sym, subst, ◌∙◌}
use Rattle.std.proofs.lemmas.Bool.Decides.{nat_tests}
use Rattle.net_core.proofs.GuardLemmas.{guard_tree-All, guard_tree-Any}
use Rattle.net_core.specs.Guard.{GuardTree, guard_tree, guards_of}
use Rattle.net_core.specs.declared.net.Guard.{Guard, the_lemmas}
use Rattle.cal_ast.specs.Numbers.{GuardHasNumbers}
use Rattle.cal_ast.specs.Tree.{PortName, port_tree}
use Rattle.cal_ast.specs.declared.tree.CalPort.{CalPort}
use Rattle.cal_print.specs.Layout.{guard_text, guards_text}
use Rattle.cal_print.proofs.PrintLemmas.{OnOk-is, guards_step}
use Rattle.cal_print.proofs.Rows.{all_numbers, any_numbers}
use Rattle.cal_print.proofs.guard.+guards.Goals as goal

pub put_guard-put_guards-requires : goal.put_guard-put_guards-requires
put_guard-put_guards-requires t c =
    let names = c.args.names.now in (
      search (rules, the_lemmas),
      subst (λ (gs : List (Guard CalPort)). All (GuardHasNumbers names) gs) (sym c.deref-in-All.ensures.value)
          (all_numbers names c.in-All.guards (subst (λ (g : Guard CalPort). GuardHasNumbers names g) c.in-All.is c.loop-rest.invariant.numbers)),
    )

pub put_guard-put_guards-requires-in-Any : goal.put_guard-put_guards-requires-in-Any
put_guard-put_guards-requires-in-Any t c =
    let names = c.args.names.now in (
      search (rules, the_lemmas),
      subst (λ (gs : List (Guard CalPort)). All (GuardHasNumbers names) gs) (sym c.deref-in-Any.ensures.value)
          (any_numbers names c.in-Any.guards (subst (λ (g : Guard CalPort). GuardHasNumbers names g) c.in-Any.is c.loop-rest.invariant.numbers)),
    )

pub put_guard-returns-in-All : goal.put_guard-returns-in-All
put_guard-returns-in-All t c =
    let f = port_tree c.args.names.now in
    let out = c.loop-rest.out.items in
    OnOk-is c.put_guards.result c.put_guards.new.out.items _ _ c.put_guards.ensures
    (ap (λ (gs : List (Guard CalPort)). out ++ guards_text (codes " & ") (guards_of (map (guard_tree f) gs))) c.deref-in-All.ensures.value
    ∙ ap (λ (tree : GuardTree PortName). out ++ guard_text tree) (sym (guard_tree-All f c.in-All.guards) ∙ ap (guard_tree f) (sym c.in-All.is))
    ∙ c.loop-rest.invariant.text)

pub put_guard-returns-in-Any : goal.put_guard-returns-in-Any
put_guard-returns-in-Any t c =
    let f = port_tree c.args.names.now in
    let out = c.loop-rest.out.items in
    OnOk-is c.put_guards-in-Any.result c.put_guards-in-Any.new.out.items _ _ c.put_guards-in-Any.ensures
    (ap (λ (gs : List (Guard CalPort)). out ++ guards_text (codes " | ") (guards_of (map (guard_tree f) gs))) c.deref-in-Any.ensures.value
    ∙ ap (λ (tree : GuardTree PortName). out ++ guard_text tree) (sym (guard_tree-Any f c.in-Any.guards) ∙ ap (guard_tree f) (sym c.in-Any.is))
    ∙ c.loop-rest.invariant.text)

pub put_guards-loop-guard-preserved : goal.put_guards-loop-guard-preserved
put_guards-loop-guard-preserved t c =
    let i = c.loop-guard.guard-index in
    let names = c.args.names.now in
    record {
      first = grind (arith, nat_tests);
      text = guards_step (guard_tree (port_tree names)) c.args.between.now c.args.guards.now i c.guard-item.result c.loop-guard.first c.is_list-listed.result
          c.args.out.now.items c.loop-guard.out.items c.put_if.new.out.items c.put_if-in-loop-guard.new.out.items c.put_guard.new.out.items c.put_if-in-loop-guard-2.new.out.items
          c.loop-guard-test.true c.guard-item.is c.loop-guard.invariant.first (c.is_list-listed.ensures names) c.loop-guard.invariant.text
          c.in_ok-put_if.ensures c.in_ok-put_if-2.ensures c.in_ok-put_guard.ensures c.in_ok-put_if-3.ensures;
    }
