use Rattle.std.proofs.Common.{◌≡◌, [], ◌∷◌, length, sym, ◌++◌, map}
use Rattle.std.proofs.lemmas.List.{map_push}
use Rattle.std.proofs.lemmas.Result.{err_from_is_err_and}
use Rattle.hw_grammar.proofs.Loop.{list_tail_goes_on, list_tail_stops, list_tail_trails, list_tail_fails, list_tail_ends, list_tail_runs_out}
use Rattle.hw_grammar.specs.declared.sort.Sort.TheVariants.{Comma, At}
use Rattle.par_parse.specs.inside.Inputs.{input_tree}
use Rattle.par_parse.specs.inside.Reading.{input_at}
use Rattle.par_parse.proofs.port.more_inputs.Goals as goal

pub loop-preserved : goal.loop-preserved
loop-preserved c = λ names.
    let e : map (input_tree names) c.push.new.self.items ≡ map (input_tree names) c.loop.all.items ++ input_tree names c.in_ok-next.next ∷ [] = rw c.in_ok-push.ensures.items (map_push _ c.loop.all.items c.in_ok-next.next) in
    rw e (list_tail_goes_on Comma (At ∷ []) (input_at names) (map (input_tree names) c.loop.all.items) (length c.args.ts.now) c.loop.counter c.loop.rest.now _ (c.loop.invariant names) _ c.in_ok-mid.mid.now (input_tree names c.in_ok-next.next) c.in_ok-next.after.now c.loop-test.true (sym c.if-not-starts.ensures) c.in_ok-mid.ensures (sym c.if-not-starts-2.ensures) (c.in_ok-next.ensures names))

pub returns-then-not-starts : goal.returns-then-not-starts
returns-then-not-starts c = λ names. list_tail_stops Comma (At ∷ []) (input_at names) (map (input_tree names) c.loop.all.items) (length c.args.ts.now) c.loop.counter c.loop.rest.now _ (c.loop.invariant names) c.loop-test.true (sym c.if-not-starts.ensures)

pub returns-then-not-starts-2 : goal.returns-then-not-starts-2
returns-then-not-starts-2 c = λ names. list_tail_trails Comma (At ∷ []) (input_at names) (map (input_tree names) c.loop.all.items) (length c.args.ts.now) c.loop.counter c.loop.rest.now _ (c.loop.invariant names) _ c.in_ok-mid.mid.now c.loop-test.true (sym c.if-not-starts.ensures) c.in_ok-mid.ensures (sym c.if-not-starts-2.ensures)

pub returns-in_err-next : goal.returns-in_err-next
returns-in_err-next c = λ names.
    let p = err_from_is_err_and c.from_residual-in_err-next.result c.from_residual-in_err-next.ensures.1 in
    rw (p.1, p.2) (list_tail_fails Comma (At ∷ []) (input_at names) (map (input_tree names) c.loop.all.items) (length c.args.ts.now) c.loop.counter c.loop.rest.now _ (c.loop.invariant names) c.in_err-next.field-0.0 _ c.in_ok-mid.mid.now c.loop-test.true (sym c.if-not-starts.ensures) c.in_ok-mid.ensures (sym c.if-not-starts-2.ensures) (c.in_err-next.ensures names))

pub returns-then-starts : goal.returns-then-starts
returns-then-starts c = λ names. list_tail_runs_out Comma (At ∷ []) (input_at names) (map (input_tree names) c.loop.all.items) (length c.args.ts.now) c.loop.counter c.loop.rest.now _ (c.loop.invariant names) c.loop-test.false (sym c.if-starts.ensures)

pub returns : goal.returns
returns c = λ names. list_tail_ends Comma (At ∷ []) (input_at names) (map (input_tree names) c.loop.all.items) (length c.args.ts.now) c.loop.counter c.loop.rest.now _ (c.loop.invariant names) c.loop-test.false (sym c.if-starts.ensures)
