use Rattle.std.proofs.Common.{◌≡◌, [], ◌∷◌, length, sym, ◌++◌, map}
use Rattle.std.proofs.lemmas.List.{map_push}
use Rattle.std.proofs.lemmas.Result.{err_from_is_err_and}
use Rattle.hw_grammar.proofs.Loop.{list_tail_goes_on, list_tail_stops, list_tail_trails, list_tail_fails, list_tail_ends, list_tail_runs_out}
use Rattle.hw_grammar.specs.declared.sort.Sort.TheVariants.{Comma}
use Rattle.par_parse.specs.Tree.{value_tree}
use Rattle.par_parse.specs.inside.Reading.{value_set, value_at}
use Rattle.par_parse.proofs.value.more_values.Goals as goal

pub loop-preserved : goal.loop-preserved
loop-preserved c = λ names.
    let e : map (value_tree names) c.push.new.self.items ≡ map (value_tree names) c.loop.all.items ++ value_tree names c.in_ok-next.next ∷ [] = rw c.in_ok-push.ensures.items (map_push _ c.loop.all.items c.in_ok-next.next) in
    rw e (list_tail_goes_on Comma value_set (value_at names) (map (value_tree names) c.loop.all.items) (length c.args.ts.now) c.loop.counter c.loop.rest.now _ (c.loop.invariant names) _ c.in_ok-mid.mid.now (value_tree names c.in_ok-next.next) c.in_ok-next.after.now c.loop-test.true (sym c.if-not-starts.ensures) c.in_ok-mid.ensures (sym c.if-not-starts_value.ensures) (c.in_ok-next.ensures names))

pub returns-then-not-starts : goal.returns-then-not-starts
returns-then-not-starts c = λ names. list_tail_stops Comma value_set (value_at names) (map (value_tree names) c.loop.all.items) (length c.args.ts.now) c.loop.counter c.loop.rest.now _ (c.loop.invariant names) c.loop-test.true (sym c.if-not-starts.ensures)

pub returns-then-not-starts_value : goal.returns-then-not-starts_value
returns-then-not-starts_value c = λ names. list_tail_trails Comma value_set (value_at names) (map (value_tree names) c.loop.all.items) (length c.args.ts.now) c.loop.counter c.loop.rest.now _ (c.loop.invariant names) _ c.in_ok-mid.mid.now c.loop-test.true (sym c.if-not-starts.ensures) c.in_ok-mid.ensures (sym c.if-not-starts_value.ensures)

pub returns-in_err-next : goal.returns-in_err-next
returns-in_err-next c = λ names.
    let p = err_from_is_err_and c.from_residual-in_err-next.result c.from_residual-in_err-next.ensures.1 in
    rw (p.1, p.2) (list_tail_fails Comma value_set (value_at names) (map (value_tree names) c.loop.all.items) (length c.args.ts.now) c.loop.counter c.loop.rest.now _ (c.loop.invariant names) c.in_err-next.field-0.0 _ c.in_ok-mid.mid.now c.loop-test.true (sym c.if-not-starts.ensures) c.in_ok-mid.ensures (sym c.if-not-starts_value.ensures) (c.in_err-next.ensures names))

pub returns-then-starts : goal.returns-then-starts
returns-then-starts c = λ names. list_tail_runs_out Comma value_set (value_at names) (map (value_tree names) c.loop.all.items) (length c.args.ts.now) c.loop.counter c.loop.rest.now _ (c.loop.invariant names) c.loop-test.false (sym c.if-starts.ensures)

pub returns : goal.returns
returns c = λ names. list_tail_ends Comma value_set (value_at names) (map (value_tree names) c.loop.all.items) (length c.args.ts.now) c.loop.counter c.loop.rest.now _ (c.loop.invariant names) c.loop-test.false (sym c.if-starts.ensures)
