use Rattle.std.proofs.Common.{[], ◌∷◌, length, sym}
use Rattle.std.proofs.lemmas.Result.{err_from_is_err_and}
use Rattle.hw_grammar.proofs.Loop.{goes_on, stops, fails}
use Rattle.hw_grammar.specs.declared.sort.Sort.TheVariants.{Comma}
use Rattle.fil_parse.specs.inside.Reading.{more_number_at}
use Rattle.fil_parse.proofs.value.more_numbers.Goals as goal

pub returns-then-not-starts : goal.returns-then-not-starts
returns-then-not-starts c = stops (Comma ∷ []) (more_number_at) c.loop.all.items (length c.args.ts.now) c.loop.counter c.loop.rest.now _ c.loop.invariant c.loop-test.true (sym c.if-not-starts.ensures)

pub returns-in_err-next : goal.returns-in_err-next
returns-in_err-next c =
    let p = err_from_is_err_and c.from_residual.result c.from_residual.ensures.1 in
    rw (p.1, p.2) (fails (Comma ∷ []) (more_number_at) c.loop.all.items (length c.args.ts.now) c.loop.counter c.loop.rest.now _ c.loop.invariant c.in_err-next.field-0.0 c.loop-test.true (sym c.if-not-starts.ensures) c.in_err-next.ensures)

pub loop-preserved : goal.loop-preserved
loop-preserved c =
    rw c.in_ok-push.ensures.items (goes_on (Comma ∷ []) (more_number_at) c.loop.all.items (length c.args.ts.now) c.loop.counter c.loop.rest.now _ c.loop.invariant c.in_ok-next.next c.in_ok-next.after.now c.loop-test.true (sym c.if-not-starts.ensures) c.in_ok-next.ensures)
