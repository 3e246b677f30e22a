use Rattle.std.proofs.Common.{suc, List, ap, subst, sym, ◌∙◌, add-one, rules}
use Rattle.std.specs.List.{AllZip}
use Rattle.std.proofs.lemmas.List.Elements.{all_zip_more}
use Rattle.cal_ast.specs.Numbers.{GuardHasNumbers}
use Rattle.cal_ast.specs.declared.tree.CalPort.{CalPort}
use Rattle.net_core.specs.declared.net.Guard.{Guard, the_lemmas}
use Rattle.net_core.specs.declared.net.Guard.TheVariants as variants
use Rattle.cal_copy.specs.inside.Copies.{IsGuardCopy, port_guard}
use Rattle.cal_copy.specs.inside.Negations.{negations}
use Rattle.cal_copy.proofs.CopyLemmas.{copy_all, copy_any, copy_read, copy_test, copy_whole, negations-inside}
use Rattle.cal_copy.proofs.copy.+copy_guard.Goals as goal

pub copy_guard-loop-inner-preserved : goal.copy_guard-loop-inner-preserved
copy_guard-loop-inner-preserved t c =
    let n = c.loop-inner.count in
    let operand = c.in-Not.operand.value in
    record {
      rest = λ names.
          rw add-one
          (ap (λ (g : Guard CalPort). negations (suc n) (port_guard names g)) c.deref-inner.ensures
          ∙ sym (negations-inside n (port_guard names operand))
          ∙ ap (λ (g : Guard CalPort). negations n (port_guard names g)) (sym c.in-Not.is)
          ∙ c.loop-inner.invariant.rest names);
      numbers = λ names h. (
          let N : Guard CalPort → Type 0 = GuardHasNumbers names in
          let negated : N operand = subst N c.in-Not.is (c.loop-inner.invariant.numbers names h) in
          subst N (sym c.deref-inner.ensures) negated);
      depth = search (rules, the_lemmas);
    }

pub copy_guard-returns-in-Read : goal.copy_guard-returns-in-Read
copy_guard-returns-in-Read t c =
    let made : Guard CalPort = variants.Read c.in_ok-src-in-Read.src in
    let C : Guard CalPort → Type 0 = λ g. IsGuardCopy g made in
    let copy = copy_read c.in-Read.src c.in_ok-src-in-Read.src (c.in_ok-src-in-Read.ensures.ok ∙ c.deref.ensures) in
    copy_whole c.args.guard.now c.loop-inner.inner.now made c.loop-inner.count c.negate.result c.loop-inner.invariant.rest c.loop-inner.invariant.numbers
    (subst C (sym c.in-Read.is) copy) c.negate.ensures.numbers c.negate.ensures.tree

pub copy_guard-returns-in-Test : goal.copy_guard-returns-in-Test
copy_guard-returns-in-Test t c =
    let made : Guard CalPort = variants.Test c.in-Test.op c.in_ok-left-in-Test.left c.in_ok-right-in-Test.right in
    let C : Guard CalPort → Type 0 = λ g. IsGuardCopy g made in
    let copy = copy_test c.in-Test.op c.in-Test.left c.in-Test.right c.in_ok-left-in-Test.left c.in_ok-right-in-Test.right
    (c.in_ok-left-in-Test.ensures.ok ∙ c.deref-in-Test.ensures) (c.in_ok-right-in-Test.ensures.ok ∙ c.deref-in-Test-2.ensures) in
    copy_whole c.args.guard.now c.loop-inner.inner.now made c.loop-inner.count c.negate-in-Test.result c.loop-inner.invariant.rest c.loop-inner.invariant.numbers
    (subst C (sym c.in-Test.is) copy) c.negate-in-Test.ensures.numbers c.negate-in-Test.ensures.tree

pub copy_guard-returns-in-All : goal.copy_guard-returns-in-All
copy_guard-returns-in-All t c =
    let made : Guard CalPort = variants.All c.in_ok-guards-in-All.guards in
    let C : Guard CalPort → Type 0 = λ g. IsGuardCopy g made in
    let Z : List (Guard CalPort) → Type 0 = λ gs. AllZip IsGuardCopy gs c.in_ok-guards-in-All.guards.items in
    let copies = copy_all c.in-All.guards c.in_ok-guards-in-All.guards (subst Z c.deref-in-All.ensures.value c.in_ok-guards-in-All.ensures) in
    copy_whole c.args.guard.now c.loop-inner.inner.now made c.loop-inner.count c.negate-in-All.result c.loop-inner.invariant.rest c.loop-inner.invariant.numbers
    (subst C (sym c.in-All.is) copies) c.negate-in-All.ensures.numbers c.negate-in-All.ensures.tree

pub copy_guard-returns-in-Any : goal.copy_guard-returns-in-Any
copy_guard-returns-in-Any t c =
    let made : Guard CalPort = variants.Any c.in_ok-guards-in-Any.guards in
    let C : Guard CalPort → Type 0 = λ g. IsGuardCopy g made in
    let Z : List (Guard CalPort) → Type 0 = λ gs. AllZip IsGuardCopy gs c.in_ok-guards-in-Any.guards.items in
    let copies = copy_any c.in-Any.guards c.in_ok-guards-in-Any.guards (subst Z c.deref-in-Any.ensures.value c.in_ok-guards-in-Any.ensures) in
    copy_whole c.args.guard.now c.loop-inner.inner.now made c.loop-inner.count c.negate-in-Any.result c.loop-inner.invariant.rest c.loop-inner.invariant.numbers
    (subst C (sym c.in-Any.is) copies) c.negate-in-Any.ensures.numbers c.negate-in-Any.ensures.tree

pub copy_guards-loop-guard-preserved : goal.copy_guards-loop-guard-preserved
copy_guards-loop-guard-preserved t c =
    rw c.in_ok-push.ensures.items
    (all_zip_more IsGuardCopy c.args.guards.now c.loop-guard.copies.items c.loop-guard.guard-index c.guard-item.result c.in_ok-copy_guard.field-0
    c.loop-guard-test.true c.guard-item.is c.loop-guard.invariant c.in_ok-copy_guard.ensures)
