use Rattle.std.proofs.Common.{◌≡◌, Some, codes, drop, length, arith, refl, ap, sym, ◌∙◌}
use Rattle.std.proofs.lemmas.Result.{err_from_is_err_and}
use Rattle.hw_names.specs.Name.{Text, text_of}
use Rattle.net_core.specs.Guard.{GuardTree, GuardTrees, AllOf, AnyOf, guard_tree}
use Rattle.net_text.specs.inside.ReadWords.{after, source_at}
use Rattle.net_text.specs.inside.ReadGuards.{test_from, closed, guard_at, operands_at, bracket_at}
use Rattle.net_text.specs.inside.View.{guards_of}
use Rattle.net_text.proofs.ExitLemmas.{fails}
use Rattle.net_text.proofs.GuardLoops.{negated_guard, negated_none, all_read, all_none, any_read, any_none, test_read, no_bracket, with_first, has_first, take_push, loop_goes_on, loop_is_done, loop_fails, open_bracket, plain_source}
use Rattle.net_text.proofs.GuardTurns.{guard_leaves}
use Rattle.net_text.proofs.GuardRows.{all_tree, any_tree}
use Rattle.net_text.proofs.NameLemmas.{Extends-itself, Extends-then, Grows-then, Grows-past}
use Rattle.net_text.proofs.WordLaws.{pair_first}
use Rattle.net_text.proofs.guards.+guards.Goals as goal

-- ---- guard

pub guard-returns-in_err-inner-clause-read : goal.guard-returns-in_err-inner-clause-read
guard-returns-in_err-inner-clause-read t c =
    let p = err_from_is_err_and c.from_residual.result c.from_residual.ensures.1 in
    let text = c.args.text.now in
    let rest = c.negations-count.result.1.now in
    rw (p.1, p.2) (fails c.in_err-inner.field-0.0 (guard_at rest) (guard_at text) c.in_err-inner.ensures.read (negated_none text rest c.negations-count.result.0 c.negations-count.ensures.is c.negations-count.ensures.rest))

pub guard-returns-clause-read : goal.guard-returns-clause-read
guard-returns-clause-read t c = λ later ext.
    let text = c.args.text.now in
    let n = c.negations-count.result in
    let tree = guard_tree (text_of later) c.in_ok-inner.inner in
    negated_guard text n.1.now n.0 tree c.in_ok-inner.rest.now c.negations-count.ensures.is c.negations-count.ensures.rest (c.in_ok-inner.ensures.read later ext)
    ∙ ap (λ (g : GuardTree Text). Some (g, c.in_ok-inner.rest.now)) (sym (c.in_ok-negate.ensures later))

-- ---- bracket

pub bracket-returns-in_err-first-clause-read : goal.bracket-returns-in_err-first-clause-read
bracket-returns-in_err-first-clause-read t c =
    let p = err_from_is_err_and c.from_residual.result c.from_residual.ensures.1 in
    let text = c.args.text.now in
    rw (p.1, p.2) (fails c.in_err-first.field-0.0 (guard_at text) (bracket_at text) c.in_err-first.ensures.read (no_bracket text))

pub bracket-returns-in_err-guards-clause-read : goal.bracket-returns-in_err-guards-clause-read
bracket-returns-in_err-guards-clause-read t c =
    let p = err_from_is_err_and c.from_residual-in_err-guards.result c.from_residual-in_err-guards.ensures.1 in
    let text = c.args.text.now in
    let names = c.guard.new.names in
    let more = c.in-Some.more.now in
    rw (p.1, p.2) (fails c.in_err-guards.field-0.0 (closed (operands_at (codes " & ") more)) (bracket_at text) c.in_err-guards.ensures.read
    (all_none text (guard_tree (text_of names) c.in_ok-first.first) c.in_ok-first.rest.now more (c.in_ok-first.ensures.read names (Extends-itself names)) (sym c.in-Some.ensures.read)))

pub bracket-returns-in-Some-clause-read : goal.bracket-returns-in-Some-clause-read
bracket-returns-in-Some-clause-read t c = λ later ext.
    let text = c.args.text.now in
    let guards = c.in_ok-guards.guards in
    let rest = c.in_ok-guards.rest.now in
    all_read text (guard_tree (text_of later) c.in_ok-first.first) c.in_ok-first.rest.now c.in-Some.more.now (guards_of later (drop 1 guards.items)) rest
    (c.in_ok-first.ensures.read later (Extends-then c.in_ok-guards.ensures.grows.extends ext)) (sym c.in-Some.ensures.read) (c.in_ok-guards.ensures.read later ext)
    ∙ ap (λ (gs : GuardTrees Text). Some (AllOf gs, rest)) (sym (with_first later guards.items c.in_ok-first.first c.in_ok-guards.ensures.first))
    ∙ ap (λ (g : GuardTree Text). Some (g, rest)) (sym (all_tree later guards))

pub bracket-returns-in_err-guards-2-clause-read : goal.bracket-returns-in_err-guards-2-clause-read
bracket-returns-in_err-guards-2-clause-read t c =
    let p = err_from_is_err_and c.from_residual-in_err-guards-2.result c.from_residual-in_err-guards-2.ensures.1 in
    let text = c.args.text.now in
    let names = c.guard.new.names in
    let more = c.in-Some-after.more.now in
    rw (p.1, p.2) (fails c.in_err-guards-2.field-0.0 (closed (operands_at (codes " | ") more)) (bracket_at text) c.in_err-guards-2.ensures.read
    (any_none text (guard_tree (text_of names) c.in_ok-first.first) c.in_ok-first.rest.now more (c.in_ok-first.ensures.read names (Extends-itself names)) (sym c.in_default.ensures.read) (sym c.in-Some-after.ensures.read)))

pub bracket-returns-in-Some-after-clause-read : goal.bracket-returns-in-Some-after-clause-read
bracket-returns-in-Some-after-clause-read t c = λ later ext.
    let text = c.args.text.now in
    let guards = c.in_ok-guards-2.guards in
    let rest = c.in_ok-guards-2.rest.now in
    any_read text (guard_tree (text_of later) c.in_ok-first.first) c.in_ok-first.rest.now c.in-Some-after.more.now (guards_of later (drop 1 guards.items)) rest
    (c.in_ok-first.ensures.read later (Extends-then c.in_ok-guards-2.ensures.grows.extends ext)) (sym c.in_default.ensures.read) (sym c.in-Some-after.ensures.read) (c.in_ok-guards-2.ensures.read later ext)
    ∙ ap (λ (gs : GuardTrees Text). Some (AnyOf gs, rest)) (sym (with_first later guards.items c.in_ok-first.first c.in_ok-guards-2.ensures.first))
    ∙ ap (λ (g : GuardTree Text). Some (g, rest)) (sym (any_tree later guards))

pub bracket-returns-clause-read : goal.bracket-returns-clause-read
bracket-returns-clause-read t c =
    let names = c.guard.new.names in
    let first = c.in_ok-first.first in
    let rest = c.in_ok-first.rest.now in
    let tree = guard_tree (text_of names) first in
    let read = c.in_ok-first.ensures.read in
    let same : bracket_at c.args.text.now ≡ test_from tree rest = test_read c.args.text.now tree rest (read names (Extends-itself names)) (sym c.in_default.ensures.read) (sym c.in_default-after.ensures.read) in
    rw same (c.compared.ensures.read tree (λ later ext. pair_first (guard_tree (text_of later) first) tree rest rest (sym (read later ext) ∙ read names (Extends-itself names))))

-- ---- list

pub list-returns-in_err-expect-clause-read : goal.list-returns-in_err-expect-clause-read
list-returns-in_err-expect-clause-read t c =
    let p = err_from_is_err_and c.from_residual-in_err-expect.result c.from_residual-in_err-expect.ensures.1 in
    let names = c.operands.new.names in
    let read = c.in_ok-guards.ensures.read names (Extends-itself names) in
    rw (p.1, p.2) (fails c.in_err-expect.field-0.0 (after (codes ")") c.in_ok-guards.rest.now) (closed (operands_at c.args.between.now c.args.text.now)) c.in_err-expect.ensures.read (λ none. rw (read, none) refl))

-- ---- operands

pub operands-returns-in_err-next-clause-read : goal.operands-returns-in_err-next-clause-read
operands-returns-in_err-next-clause-read t c =
    let p = err_from_is_err_and c.from_residual-in_err-next.result c.from_residual-in_err-next.ensures.1 in
    let names = c.loop-guards.names in
    let between = c.args.between.now in
    let rest = c.loop-guards.rest.now in
    let total = operands_at between c.args.text.now in
    rw (p.1, p.2) (fails c.in_err-next.field-0.0 (guard_at rest) total c.in_err-next.ensures.read
    (λ none. loop_fails (guards_of names (drop 1 c.loop-guards.guards.items)) between rest total none (c.loop-guards.invariant.2 names (Extends-itself names))))

pub operands-loop-guards-smaller : goal.operands-loop-guards-smaller
operands-loop-guards-smaller t c =
    let names = c.guard.new.names in
    let rest = c.loop-guards.rest.now in
    let shorter = guard_leaves (length rest) rest (guard_tree (text_of names) c.in_ok-next.next) c.in_ok-next.after_next.now (c.in_ok-next.ensures.read names (Extends-itself names)) in
    omega (arith, shorter, c.in-Some.ensures.length)

pub operands-loop-guards-preserved : goal.operands-loop-guards-preserved
operands-loop-guards-preserved t c =
    let items = c.loop-guards.guards.items in
    let next = c.in_ok-next.next in
    let between = c.args.between.now in
    let rest = c.loop-guards.rest.now in
    let more = c.in-Some.more.now in
    let first = c.loop-guards.invariant.0 in
    rw c.in_ok-push-2.ensures.items (
      take_push items c.args.first next first,
      Grows-past more (Grows-then c.loop-guards.invariant.1 c.in_ok-next.ensures.grows) (omega (arith, c.in-Some.ensures.length)),
      λ later ext. loop_goes_on later items next between rest c.in_ok-next.after_next.now more (operands_at between c.args.text.now) (has_first items c.args.first first) (c.in_ok-next.ensures.read later ext) (sym c.in-Some.ensures.read)
          (c.loop-guards.invariant.2 later (Extends-then c.in_ok-next.ensures.grows.extends ext)),
    )

pub operands-returns-in-None-clause-read : goal.operands-returns-in-None-clause-read
operands-returns-in-None-clause-read t c = λ later ext.
    let items = c.loop-guards.guards.items in
    let between = c.args.between.now in
    rw c.in_ok-push-2.ensures.items
    (loop_is_done later items c.in_ok-next.next between c.loop-guards.rest.now c.in_ok-next.after_next.now (operands_at between c.args.text.now) (has_first items c.args.first c.loop-guards.invariant.0) (c.in_ok-next.ensures.read later ext)
    (sym c.in-None.ensures.read) (c.loop-guards.invariant.2 later (Extends-then c.in_ok-next.ensures.grows.extends ext)))

-- ---- unit

pub unit-returns-in-Some-clause-read : goal.unit-returns-in-Some-clause-read
unit-returns-in-Some-clause-read t c = rw (open_bracket c.args.text.now c.in-Some.rest.now (sym c.in-Some.ensures.read)) c.bracket.ensures.read

pub unit-returns-in_err-source-clause-read : goal.unit-returns-in_err-source-clause-read
unit-returns-in_err-source-clause-read t c =
    let p = err_from_is_err_and c.from_residual.result c.from_residual.ensures.1 in
    let text = c.args.text.now in
    let is = plain_source text c.requires.plain (sym c.in_default.ensures.read) in
    rw (p.1, p.2) (fails c.in_err-source.field-0.0 (source_at text) (guard_at text) c.in_err-source.ensures.read (λ none. is ∙ rw none refl))

pub unit-returns-clause-read : goal.unit-returns-clause-read
unit-returns-clause-read t c = λ later ext.
    plain_source c.args.text.now c.requires.plain (sym c.in_default.ensures.read) ∙ rw (c.in_ok-source.ensures.read later ext) (rw c.in_ok-new.ensures.ok refl)
