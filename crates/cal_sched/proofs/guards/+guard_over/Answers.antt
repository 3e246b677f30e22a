use Rattle.std.proofs.Common.{suc, List, All, Contains, ap, subst, sym, inl, inr, ◌∙◌, add-one, rules}
use Rattle.hw_names.specs.Name.{Text}
use Rattle.cal_ast.specs.Numbers.{GuardHasNumbers}
use Rattle.cal_ast.specs.declared.tree.CalPort.{CalPort}
use Rattle.net_core.specs.Guard.{GuardTree, guard_tree}
use Rattle.net_core.specs.declared.net.Guard.{Guard, the_lemmas}
use Rattle.net_core.specs.declared.net.Guard.TheVariants as variants
use Rattle.net_core.specs.declared.net.Src.{Src}
use Rattle.cal_sched.specs.Watching.{AreGuardsOver, HasPorts, guard_reads, negations, source_reads, top_port}
use Rattle.cal_sched.proofs.GuardLemmas.{all_item, all_left, all_right, list_numbers, list_reads, negations-inside, over_all, over_any, over_boxed, over_negated, over_read, over_test}
use Rattle.cal_sched.proofs.guards.+guard_over.Goals as goal

pub guard_over-loop-inner-preserved : goal.guard_over-loop-inner-preserved
guard_over-loop-inner-preserved t c =
    let names = c.args.names.now in
    let n = c.loop-inner.count in
    let tree : Guard CalPort → GuardTree Text = guard_tree (top_port names) in
    let N : Guard CalPort → Type 0 = GuardHasNumbers names in
    let T : Guard CalPort → Type 0 = λ g. HasPorts c.args.ports.now (guard_reads names g) in
    record {
      rest =
          rw add-one
          (ap (λ (g : Guard CalPort). negations (suc n) (tree g)) c.deref-inner.ensures
          ∙ sym (negations-inside n (tree c.in-Not.operand.value))
          ∙ ap (λ (g : Guard CalPort). negations n (tree g)) (sym c.in-Not.is)
          ∙ c.loop-inner.invariant.rest);
      numbers = subst N (sym c.deref-inner.ensures) (subst N c.in-Not.is c.loop-inner.invariant.numbers);
      there = subst T (sym c.deref-inner.ensures) (subst T c.in-Not.is c.loop-inner.invariant.there);
      depth = search (rules, the_lemmas);
    }

pub guard_over-returns-in-Read : goal.guard_over-returns-in-Read
guard_over-returns-in-Read t c =
    let names = c.args.names.now in
    let ports = c.args.ports.now in
    let made = c.in_ok-new-in-Read.field-0 in
    let over = over_boxed names ports c.in-Read.src made c.deref.result.now c.in_ok-src-in-Read.src c.deref.ensures c.in_ok-new-in-Read.ensures.ok c.in_ok-src-in-Read.ensures in
    over_negated names ports c.args.guard.now c.loop-inner.inner.now (variants.Read c.in-Read.src) (variants.Read made) c.loop-inner.count c.negate.result c.loop-inner.invariant.rest
    c.in-Read.is (over_read names ports c.in-Read.src made over) (c.negate.ensures.tree ports) c.negate.ensures.ports

pub guard_over-source_over-requires-in-Test-clause-there : goal.guard_over-source_over-requires-in-Test-clause-there
guard_over-source_over-requires-in-Test-clause-there t c =
    let names = c.args.names.now in
    let T : Guard CalPort → Type 0 = λ g. HasPorts c.args.ports.now (guard_reads names g) in
    let S : Src CalPort → Type 0 = λ s. HasPorts c.args.ports.now (source_reads names s) in
    subst S (sym c.deref-in-Test.ensures)
    (all_left (Contains c.args.ports.now) (source_reads names c.in-Test.left.value) (source_reads names c.in-Test.right.value) (subst T c.in-Test.is c.loop-inner.invariant.there))

pub guard_over-source_over-requires-in-Test-2-clause-there : goal.guard_over-source_over-requires-in-Test-2-clause-there
guard_over-source_over-requires-in-Test-2-clause-there t c =
    let names = c.args.names.now in
    let T : Guard CalPort → Type 0 = λ g. HasPorts c.args.ports.now (guard_reads names g) in
    let S : Src CalPort → Type 0 = λ s. HasPorts c.args.ports.now (source_reads names s) in
    subst S (sym c.deref-in-Test-2.ensures)
    (all_right (Contains c.args.ports.now) (source_reads names c.in-Test.left.value) (source_reads names c.in-Test.right.value) (subst T c.in-Test.is c.loop-inner.invariant.there))

pub guard_over-returns-in-Test : goal.guard_over-returns-in-Test
guard_over-returns-in-Test t c =
    let names = c.args.names.now in
    let ports = c.args.ports.now in
    let left = c.in_ok-left-in-Test-2.left in
    let right = c.in_ok-right-in-Test-2.right in
    let first = over_boxed names ports c.in-Test.left left c.deref-in-Test.result.now c.in_ok-left-in-Test.left c.deref-in-Test.ensures c.in_ok-left-in-Test-2.ensures.ok c.in_ok-left-in-Test.ensures in
    let second =
    over_boxed names ports c.in-Test.right right c.deref-in-Test-2.result.now c.in_ok-right-in-Test.right c.deref-in-Test-2.ensures c.in_ok-right-in-Test-2.ensures.ok c.in_ok-right-in-Test.ensures in
    over_negated names ports c.args.guard.now c.loop-inner.inner.now (variants.Test c.in-Test.op c.in-Test.left c.in-Test.right) (variants.Test c.in-Test.op left right) c.loop-inner.count
    c.negate-in-Test.result c.loop-inner.invariant.rest c.in-Test.is
    (over_test names ports c.in-Test.op c.in-Test.left c.in-Test.right left right first second)
    (c.negate-in-Test.ensures.tree ports) c.negate-in-Test.ensures.ports

pub guard_over-guards_over-requires : goal.guard_over-guards_over-requires
guard_over-guards_over-requires t c =
    let names = c.args.names.now in
    let ports = c.args.ports.now in
    let N : List (Guard CalPort) → Type 0 = All (GuardHasNumbers names) in
    let T : List (Guard CalPort) → Type 0 = All (λ g. HasPorts ports (guard_reads names g)) in
    let inner = c.loop-inner.inner.now in (
      search (rules, the_lemmas),
      (
        subst N (sym c.deref-in-All.ensures.value) (list_numbers names inner c.in-All.guards (inl c.in-All.is) c.loop-inner.invariant.numbers),
        subst T (sym c.deref-in-All.ensures.value) (list_reads (top_port names) (Contains ports) inner c.in-All.guards (inl c.in-All.is) c.loop-inner.invariant.there),
      ),
    )

pub guard_over-returns-in-All : goal.guard_over-returns-in-All
guard_over-returns-in-All t c =
    let names = c.args.names.now in
    let ports = c.args.ports.now in
    let found = c.in_ok-guards-in-All.guards in
    let O : List (Guard CalPort) → Type 0 = λ gs. AreGuardsOver names ports gs found.items in
    over_negated names ports c.args.guard.now c.loop-inner.inner.now (variants.All c.in-All.guards) (variants.All found) c.loop-inner.count c.negate-in-All.result c.loop-inner.invariant.rest
    c.in-All.is (over_all names ports c.in-All.guards found (subst O c.deref-in-All.ensures.value c.in_ok-guards-in-All.ensures)) (c.negate-in-All.ensures.tree ports) c.negate-in-All.ensures.ports

pub guard_over-guards_over-requires-in-Any : goal.guard_over-guards_over-requires-in-Any
guard_over-guards_over-requires-in-Any t c =
    let names = c.args.names.now in
    let ports = c.args.ports.now in
    let N : List (Guard CalPort) → Type 0 = All (GuardHasNumbers names) in
    let T : List (Guard CalPort) → Type 0 = All (λ g. HasPorts ports (guard_reads names g)) in
    let inner = c.loop-inner.inner.now in (
      search (rules, the_lemmas),
      (
        subst N (sym c.deref-in-Any.ensures.value) (list_numbers names inner c.in-Any.guards (inr c.in-Any.is) c.loop-inner.invariant.numbers),
        subst T (sym c.deref-in-Any.ensures.value) (list_reads (top_port names) (Contains ports) inner c.in-Any.guards (inr c.in-Any.is) c.loop-inner.invariant.there),
      ),
    )

pub guard_over-returns-in-Any : goal.guard_over-returns-in-Any
guard_over-returns-in-Any t c =
    let names = c.args.names.now in
    let ports = c.args.ports.now in
    let found = c.in_ok-guards-in-Any.guards in
    let O : List (Guard CalPort) → Type 0 = λ gs. AreGuardsOver names ports gs found.items in
    over_negated names ports c.args.guard.now c.loop-inner.inner.now (variants.Any c.in-Any.guards) (variants.Any found) c.loop-inner.count c.negate-in-Any.result c.loop-inner.invariant.rest
    c.in-Any.is (over_any names ports c.in-Any.guards found (subst O c.deref-in-Any.ensures.value c.in_ok-guards-in-Any.ensures)) (c.negate-in-Any.ensures.tree ports) c.negate-in-Any.ensures.ports

pub guards_over-guard_over-requires : goal.guards_over-guard_over-requires
guards_over-guard_over-requires t c =
    let names = c.args.names.now in
    let guards = c.args.guards.now in
    let i = c.loop-guard.guard-index in
    let item = c.guard-item.result in
    let N : Guard CalPort → Type 0 = GuardHasNumbers names in
    let T : Guard CalPort → Type 0 = λ g. HasPorts c.args.ports.now (guard_reads names g) in (
      search (rules, the_lemmas),
      (
        all_item N guards i item c.loop-guard-test.true c.guard-item.is c.requires.numbers,
        all_item T guards i item c.loop-guard-test.true c.guard-item.is c.requires.there,
      ),
    )
