use Rattle.std.proofs.Common.{refl, sym, subst, inl, inr}
use Rattle.net_core.specs.declared.net.Guard.TheVariants as variants
use Rattle.net_guard.proofs.TopLemmas.{list_guard, read_guard, test_guard}
use Rattle.net_guard.specs.inside.Folding.{CoreHasNumbers, IsGuardOf, core_tree}
use Rattle.net_guard.specs.declared.tops.Core.{Core}
use Rattle.net_guard.proofs.tops.core_guard.Goals as goal

pub returns-in_ok-new-in-Read : goal.returns-in_ok-new-in-Read
returns-in_ok-new-in-Read c = λ names has.
    let N : Core → Type 0 = CoreHasNumbers names in
    let made = c.in_ok-new-in-Read in
    let G : Core → Type 0 = λ core. IsGuardOf names (core_tree names core) (variants.Read made.field-0) in
    subst G (sym c.in-Read.is) (read_guard names c.in-Read.src made.field-0 made.ensures.ok (subst N c.in-Read.is has))

pub returns-in_ok-right-in-Test : goal.returns-in_ok-right-in-Test
returns-in_ok-right-in-Test c = λ names has.
    let N : Core → Type 0 = CoreHasNumbers names in
    let arm = c.in-Test in
    let left = c.in_ok-left-in-Test in
    let right = c.in_ok-right-in-Test in
    let G : Core → Type 0 = λ core. IsGuardOf names (core_tree names core) (variants.Test arm.op left.left right.right) in
    subst G (sym arm.is) (test_guard names arm.op arm.left arm.right left.left right.right left.ensures.ok right.ensures.ok (subst N arm.is has))

pub returns-in_ok-into_vec-in-List-All-default : goal.returns-in_ok-into_vec-in-List-All-default
returns-in_ok-into_vec-in-List-All-default c = λ names has.
    let N : Core → Type 0 = CoreHasNumbers names in
    let arm = c.in-List-All-default in
    let made = c.in_ok-into_vec-in-List-All-default in
    let G : Core → Type 0 = λ core. IsGuardOf names (core_tree names core) (variants.All made.field-0) in
    subst G (sym arm.is) (list_guard names arm.field-0 arm.guards made.field-0 (variants.All made.field-0) made.ensures (inl (arm.field-0-is, refl)) (subst N arm.is has))

pub returns-in_ok-into_vec-in-List-Any-default : goal.returns-in_ok-into_vec-in-List-Any-default
returns-in_ok-into_vec-in-List-Any-default c = λ names has.
    let N : Core → Type 0 = CoreHasNumbers names in
    let arm = c.in-List-Any-default in
    let made = c.in_ok-into_vec-in-List-Any-default in
    let G : Core → Type 0 = λ core. IsGuardOf names (core_tree names core) (variants.Any made.field-0) in
    subst G (sym arm.is) (list_guard names arm.field-0 arm.guards made.field-0 (variants.Any made.field-0) made.ensures (inr (arm.field-0-is, refl)) (subst N arm.is has))
