use Rattle.std.proofs.Common.{◌≡◌, [], ◌∷◌, List, length, sym, ◌++◌, map}
use Rattle.std.proofs.lemmas.List.{map_push}
use Rattle.std.proofs.lemmas.Result.{err_from_is_err_and}
use Rattle.hw_names.specs.Name.{Text}
use Rattle.hw_grammar.proofs.Loop.{goes_on, stops, fails, ends, runs_out}
use Rattle.hw_grammar.specs.declared.sort.Sort.TheVariants.{Comma}
use Rattle.cal_parse.specs.inside.Reading.{more_number_at}
use Rattle.cal_parse.proofs.cell.more_numbers.Goals as goal

pub returns-then-not-starts : goal.returns-then-not-starts
returns-then-not-starts c = stops (Comma ∷ []) more_number_at c.loop.all.items (length c.args.ts.now) c.loop.counter c.loop.rest.now _ c.loop.invariant c.loop-test.true (sym c.if-not-starts.ensures)

pub returns-in_err-next : goal.returns-in_err-next
returns-in_err-next c =
    let p = err_from_is_err_and c.from_residual.result c.from_residual.ensures.1 in
    rw (p.1, p.2) (fails (Comma ∷ []) more_number_at c.loop.all.items (length c.args.ts.now) c.loop.counter c.loop.rest.now _ c.loop.invariant c.in_err-next.field-0.0 c.loop-test.true (sym c.if-not-starts.ensures) c.in_err-next.ensures)

pub loop-preserved : goal.loop-preserved
loop-preserved c =
    let e : c.push.new.self.items ≡ c.loop.all.items ++ c.in_ok-next.next ∷ [] = c.in_ok-push.ensures.items in
    rw e (goes_on (Comma ∷ []) more_number_at c.loop.all.items (length c.args.ts.now) c.loop.counter c.loop.rest.now _ c.loop.invariant c.in_ok-next.next c.in_ok-next.after.now c.loop-test.true (sym c.if-not-starts.ensures) c.in_ok-next.ensures)

pub returns-then-starts : goal.returns-then-starts
returns-then-starts c = runs_out (Comma ∷ []) more_number_at c.loop.all.items (length c.args.ts.now) c.loop.counter c.loop.rest.now _ c.loop.invariant c.loop-test.false (sym c.if-starts.ensures)

pub returns : goal.returns
returns c = ends (Comma ∷ []) more_number_at c.loop.all.items (length c.args.ts.now) c.loop.counter c.loop.rest.now _ c.loop.invariant c.loop-test.false (sym c.if-starts.ensures)
