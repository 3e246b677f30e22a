use Rattle.std.proofs.Common.{[], ◌∷◌, ◌++◌, length, sym}
use Rattle.std.proofs.lemmas.Result.{err_from_is_err_and}
use Rattle.hw_grammar.specs.declared.sort.Sort.TheVariants.{Import}
use Rattle.hw_grammar.proofs.Loop.{goes_on, stops, fails, ends, runs_out}
use Rattle.par_parse.specs.inside.Reading.{import_at}
use Rattle.par_parse.proofs.Imports.{dropped, dropped_refused, dropped_fails, unchanged}
use Rattle.par_parse.proofs.component.after_imports.Goals as goal

pub loop-init : goal.loop-init
loop-init c = ([], unchanged c.args.ts.now)

pub loop-preserved : goal.loop-preserved
loop-preserved c =
    let n = c.loop.invariant in
    (n.0 ++ tt ∷ [], goes_on (Import ∷ []) import_at n.0 (length c.args.ts.now) c.loop.counter c.loop.rest.now _ n.1 tt c.in_ok-rest.rest.now c.loop-test.true (sym c.if-not-starts.ensures) c.in_ok-rest.ensures)

pub returns-then-not-starts : goal.returns-then-not-starts
returns-then-not-starts c =
    let n = c.loop.invariant in
    dropped _ _ n.0 (stops (Import ∷ []) import_at n.0 (length c.args.ts.now) c.loop.counter c.loop.rest.now _ n.1 c.loop-test.true (sym c.if-not-starts.ensures))

pub returns-in_err-rest : goal.returns-in_err-rest
returns-in_err-rest c =
    let n = c.loop.invariant in
    let p = err_from_is_err_and c.from_residual.result c.from_residual.ensures.1 in
    rw (p.1, p.2) (dropped_fails c.args.ts.now c.in_err-rest.field-0.0 (fails (Import ∷ []) import_at n.0 (length c.args.ts.now) c.loop.counter c.loop.rest.now _ n.1 c.in_err-rest.field-0.0 c.loop-test.true (sym c.if-not-starts.ensures) c.in_err-rest.ensures))

pub returns-then-starts : goal.returns-then-starts
returns-then-starts c =
    let n = c.loop.invariant in
    dropped_refused _ _ (runs_out (Import ∷ []) import_at n.0 (length c.args.ts.now) c.loop.counter c.loop.rest.now _ n.1 c.loop-test.false (sym c.if-starts.ensures))

pub returns-else-starts : goal.returns-else-starts
returns-else-starts c =
    let n = c.loop.invariant in
    dropped _ _ n.0 (ends (Import ∷ []) import_at n.0 (length c.args.ts.now) c.loop.counter c.loop.rest.now _ n.1 c.loop-test.false (sym c.if-starts.ensures))
