use Rattle.std.proofs.Common.{◌≡◌, ◌+◌, ◌++◌, ℕ, List, All, Vec, Global, map, replicate, rules, arith, ap, ap₂, sym, subst, inl, inr, ◌∙◌}
use Rattle.hw_names.specs.Name.{Text, text_of}
use Rattle.hw_names.specs.declared.names.NameId.{NameId}
use Rattle.net_core.proofs.GuardLemmas.{guard_tree-All, guard_tree-Any, list_numbers}
use Rattle.net_core.specs.Guard.{GuardTree, AllOf, AnyOf, Compares, guard_tree, guards_of, source_tree}
use Rattle.net_core.specs.Numbers.{GuardHasNumbers}
use Rattle.net_core.specs.declared.net.Guard.{Guard, the_lemmas}
use Rattle.net_core.specs.declared.net.Src.{Src}
use Rattle.ver_print.specs.Values.{guard_text, guards_text, source_text}
use Rattle.ver_print.proofs.GuardLemmas.{closed_put, guards_from, last_guard, list_closed, negation_inside, next_guard, no_guards}
use Rattle.ver_print.proofs.guards.+guards.Goals.{put_guards-then-next-count+in_ok-put-2+in_ok-put-3, put_guards-else-next-count}
use Rattle.ver_print.proofs.guards.+guards.Goals as goal

pub put_guard-loop-inner-preserved : goal.put_guard-loop-inner-preserved
put_guard-loop-inner-preserved t c =
    let names = c.args.names.now in
    let f = text_of names in
    let count = c.loop-inner.count in
    let N : Guard NameId → Type 0 = GuardHasNumbers names in
    let negated : N c.in-Not.operand.value = subst N c.in-Not.is c.loop-inner.invariant.numbers in
    record {
      depth = search (rules, the_lemmas);
      numbers = subst N (sym c.deref-inner.ensures) negated;
      text =
          ap (λ (g : Guard NameId). c.put.new.out.items ++ (guard_text (guard_tree f g) ++ replicate (count + 1) 41)) c.deref-inner.ensures
          ∙ negation_inside c.loop-inner.out.items c.put.new.out.items (guard_text (guard_tree f c.in-Not.operand.value)) count c.in_ok-put-in-Not.ensures
          ∙ ap (λ (g : Guard NameId). c.loop-inner.out.items ++ (guard_text (guard_tree f g) ++ replicate count 41)) (sym c.in-Not.is)
          ∙ c.loop-inner.invariant.text;
    }

pub put_guard-returns-in-Read : goal.put_guard-returns-in-Read
put_guard-returns-in-Read t c =
    let f = text_of c.args.names.now in
    let out = c.loop-inner.out.items in
    let count = c.loop-inner.count in
    closed_put c.put_closed.result c.args.out.now.items out c.put_source.new.out.items c.put_closed.new.out.items (source_text (source_tree f c.deref.result.now)) (guard_text (guard_tree f c.args.guard.now)) count
    c.put_closed.ensures c.in_ok-put_source-in-Read.ensures
    (ap (λ (s : Src NameId). out ++ (source_text (source_tree f s) ++ replicate count 41)) c.deref.ensures
    ∙ ap (λ (g : Guard NameId). out ++ (guard_text (guard_tree f g) ++ replicate count 41)) (sym c.in-Read.is) ∙ c.loop-inner.invariant.text)

pub put_guard-returns-in-Test : goal.put_guard-returns-in-Test
put_guard-returns-in-Test t c =
    let f = text_of c.args.names.now in
    let out = c.loop-inner.out.items in
    let count = c.loop-inner.count in
    let left = c.deref-in-Test.result.now in
    let right = c.deref-in-Test-2.result.now in
    closed_put c.put_closed-in-Test.result c.args.out.now.items out c.put_test.new.out.items c.put_closed-in-Test.new.out.items
    (guard_text (Compares c.in-Test.op (source_tree f left) (source_tree f right))) (guard_text (guard_tree f c.args.guard.now)) count
    c.put_closed-in-Test.ensures c.in_ok-put_test-in-Test.ensures
    (ap₂ (λ (a b : Src NameId). out ++ (guard_text (Compares c.in-Test.op (source_tree f a) (source_tree f b)) ++ replicate count 41)) c.deref-in-Test.ensures c.deref-in-Test-2.ensures
    ∙ ap (λ (g : Guard NameId). out ++ (guard_text (guard_tree f g) ++ replicate count 41)) (sym c.in-Test.is) ∙ c.loop-inner.invariant.text)

pub put_guard-put_guards-requires : goal.put_guard-put_guards-requires
put_guard-put_guards-requires t c =
    let names = c.args.names.now in (
      search (rules, the_lemmas),
      subst (λ (gs : List (Guard NameId)). All (GuardHasNumbers names) gs) (sym c.deref-in-All.ensures.value) (list_numbers names c.loop-inner.inner.now c.in-All.guards (inl c.in-All.is) c.loop-inner.invariant.numbers),
    )

pub put_guard-put_guards-requires-in-Any : goal.put_guard-put_guards-requires-in-Any
put_guard-put_guards-requires-in-Any t c =
    let names = c.args.names.now in (
      search (rules, the_lemmas),
      subst (λ (gs : List (Guard NameId)). All (GuardHasNumbers names) gs) (sym c.deref-in-Any.ensures.value) (list_numbers names c.loop-inner.inner.now c.in-Any.guards (inr c.in-Any.is) c.loop-inner.invariant.numbers),
    )

pub put_guard-returns-in-All : goal.put_guard-returns-in-All
put_guard-returns-in-All t c =
    let f = text_of c.args.names.now in
    let out = c.loop-inner.out.items in
    let count = c.loop-inner.count in
    let tree : AllOf (guards_of (map (guard_tree f) c.deref-in-All.result.now)) ≡ guard_tree f c.loop-inner.inner.now =
    ap (λ (gs : List (Guard NameId)). AllOf (guards_of (map (guard_tree f) gs))) c.deref-in-All.ensures.value ∙ sym (guard_tree-All f c.in-All.guards) ∙ ap (guard_tree f) (sym c.in-All.is) in
    closed_put c.put_closed-in-All.result c.args.out.now.items out c.put_guards.new.out.items c.put_closed-in-All.new.out.items
    (guard_text (AllOf (guards_of (map (guard_tree f) c.deref-in-All.result.now)))) (guard_text (guard_tree f c.args.guard.now)) count
    c.put_closed-in-All.ensures c.in_ok-put_guards-in-All.ensures
    (ap (λ (g : GuardTree Text). out ++ (guard_text g ++ replicate count 41)) tree ∙ c.loop-inner.invariant.text)

pub put_guard-returns-in-Any : goal.put_guard-returns-in-Any
put_guard-returns-in-Any t c =
    let f = text_of c.args.names.now in
    let out = c.loop-inner.out.items in
    let count = c.loop-inner.count in
    let tree : AnyOf (guards_of (map (guard_tree f) c.deref-in-Any.result.now)) ≡ guard_tree f c.loop-inner.inner.now =
    ap (λ (gs : List (Guard NameId)). AnyOf (guards_of (map (guard_tree f) gs))) c.deref-in-Any.ensures.value ∙ sym (guard_tree-Any f c.in-Any.guards) ∙ ap (guard_tree f) (sym c.in-Any.is) in
    closed_put c.put_closed-in-Any.result c.args.out.now.items out c.put_guards-in-Any.new.out.items c.put_closed-in-Any.new.out.items
    (guard_text (AnyOf (guards_of (map (guard_tree f) c.deref-in-Any.result.now)))) (guard_text (guard_tree f c.args.guard.now)) count
    c.put_closed-in-Any.ensures c.in_ok-put_guards-in-Any.ensures
    (ap (λ (g : GuardTree Text). out ++ (guard_text g ++ replicate count 41)) tree ∙ c.loop-inner.invariant.text)

pub put_guards-loop-place-preserved : goal.put_guards-loop-place-preserved
put_guards-loop-place-preserved t c =
    let names = c.args.names.now in
    let tree = guard_tree (text_of names) in
    let mark = c.args.mark.now in
    let guards = c.args.guards.now in
    let i = c.loop-place.place in
    let x = c.index-guards-place.result in
    let out = c.loop-place.out.items in
    let mid = c.put_guard.new.out.items in
    elim c.if-next-count.branch [
      | put_guards-then-next-count+in_ok-put-2+in_ok-put-3 w ↦
          ap (λ (o : Vec ℕ Global). o.items ++ guards_from tree mark guards (i + 1)) w.out-is
          ∙ next_guard tree mark guards i x out mid w.put-then-next-count.new.out.items w.put-then-next-count-2.new.out.items (omega (arith, w.if-next-count.true)) c.index-guards-place.is c.in_ok-put_guard.ensures
          (w.in_ok-put-2.ensures ∙ ap (λ (text : Text). mid ++ text) (w.guard_gap_of.ensures names)) w.in_ok-put-3.ensures
          ∙ c.loop-place.invariant
      | put_guards-else-next-count w ↦
          ap (λ (o : Vec ℕ Global). o.items ++ guards_from tree mark guards (i + 1)) w.out-is
          ∙ last_guard tree mark guards i x out mid c.loop-place-test.true (omega (arith, w.if-next-count.false)) c.index-guards-place.is c.in_ok-put_guard.ensures
          ∙ c.loop-place.invariant
    ]

pub put_guards-returns : goal.put_guards-returns
put_guards-returns t c =
    let tree = guard_tree (text_of c.args.names.now) in
    let guards = c.args.guards.now in
    let i = c.loop-place.place in
    list_closed c.put-2.result c.args.out.now.items c.put.new.out.items c.loop-place.out.items c.put-2.new.out.items (guards_from tree c.args.mark.now guards i)
    (guards_text c.args.mark.now (guards_of (map tree guards))) c.put-2.ensures c.in_ok-put.ensures (no_guards tree c.args.mark.now guards i c.loop-place-test.false) c.loop-place.invariant
