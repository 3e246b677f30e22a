use Rattle.std.proofs.Common.{◌≡◌, Bool, [], ◌∷◌, ◌++◌, length, refl, sym, ◌∙◌, ap}
use Rattle.std.proofs.lemmas.Result.{err_from_is_err_and}
use Rattle.hw_grammar.specs.declared.sort.Sort.TheVariants.{Comma}
use Rattle.hw_grammar.specs.Reading.{after}
use Rattle.hw_grammar.proofs.Loop.{goes_on, stops, fails, ends, runs_out}
use Rattle.cal_parse.specs.inside.Reading.{angle_entry_at}
use Rattle.hw_grammar.proofs.Steps.{after_ok, after_fails, unchanged}
use Rattle.cal_parse.proofs.Attributes.{push_true, more_entries_ok, more_entries_fails, more_entries_refused}
use Rattle.cal_parse.proofs.attribute.more_entries.Goals as goal

pub loop-init : goal.loop-init
loop-init c = ([], refl, unchanged (Comma ∷ []) (after Comma angle_entry_at) c.args.ts.now)

pub loop-preserved : goal.loop-preserved
loop-preserved c =
    let n = c.loop.invariant in
    (n.0 ++ c.in_ok-next.next ∷ [], push_true n.0 c.in_ok-next.next c.loop.external n.1, goes_on (Comma ∷ []) (after Comma angle_entry_at) n.0 (length c.args.ts.now) c.loop.counter c.loop.rest.now _ n.2 c.in_ok-next.next c.in_ok-next.after.now c.loop-test.true (sym c.if-not-starts.ensures) (after_ok Comma angle_entry_at c.loop.rest.now _ _ c.in_ok-mid.ensures _ _ c.in_ok-next.ensures))

pub returns-then-not-starts : goal.returns-then-not-starts
returns-then-not-starts c =
    let n = c.loop.invariant in
    more_entries_ok _ _ n.0 c.loop.external (stops (Comma ∷ []) (after Comma angle_entry_at) n.0 (length c.args.ts.now) c.loop.counter c.loop.rest.now _ n.2 c.loop-test.true (sym c.if-not-starts.ensures)) n.1

pub returns-in_err-next : goal.returns-in_err-next
returns-in_err-next c =
    let n = c.loop.invariant in
    let p = err_from_is_err_and c.from_residual-in_err-next.result c.from_residual-in_err-next.ensures.1 in
    rw (p.1, p.2) (more_entries_fails c.args.ts.now c.in_err-next.field-0.0 (fails (Comma ∷ []) (after Comma angle_entry_at) n.0 (length c.args.ts.now) c.loop.counter c.loop.rest.now _ n.2 c.in_err-next.field-0.0 c.loop-test.true (sym c.if-not-starts.ensures) (after_fails Comma angle_entry_at c.loop.rest.now _ _ c.in_ok-mid.ensures c.in_err-next.field-0.0 c.in_err-next.ensures)))

pub returns-then-starts : goal.returns-then-starts
returns-then-starts c =
    let n = c.loop.invariant in
    more_entries_refused _ _ (runs_out (Comma ∷ []) (after Comma angle_entry_at) n.0 (length c.args.ts.now) c.loop.counter c.loop.rest.now _ n.2 c.loop-test.false (sym c.if-starts.ensures))

pub returns-else-starts : goal.returns-else-starts
returns-else-starts c =
    let n = c.loop.invariant in
    more_entries_ok _ _ n.0 c.loop.external (ends (Comma ∷ []) (after Comma angle_entry_at) n.0 (length c.args.ts.now) c.loop.counter c.loop.rest.now _ n.2 c.loop-test.false (sym c.if-starts.ensures)) n.1
