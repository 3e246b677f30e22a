use Rattle.std.proofs.Common.{◌≡◌, [], ◌∷◌, length, sym, ◌++◌, map}
use Rattle.std.proofs.lemmas.List.{map_push}
use Rattle.std.proofs.lemmas.Result.{err_from_is_err_and}
use Rattle.hw_grammar.proofs.Loop.{goes_on, stops, fails}
use Rattle.hw_grammar.specs.declared.sort.Sort.TheVariants.{Comma}
use Rattle.fil_parse.specs.inside.Reading.{more_time_at}
use Rattle.fil_ast.specs.Tree.{time_tree}
use Rattle.fil_parse.proofs.value.more_times.Goals as goal

pub returns-then-not-starts : goal.returns-then-not-starts
returns-then-not-starts g c = stops (Comma ∷ []) (more_time_at g.names) (map (time_tree g.names) c.loop.all.items) (length c.args.ts.now) c.loop.counter c.loop.rest.now _ c.loop.invariant c.loop-test.true (sym c.if-not-starts.ensures)

pub returns-in_err-next : goal.returns-in_err-next
returns-in_err-next g c =
    let p = err_from_is_err_and c.from_residual.result c.from_residual.ensures.1 in
    rw (p.1, p.2) (fails (Comma ∷ []) (more_time_at g.names) (map (time_tree g.names) c.loop.all.items) (length c.args.ts.now) c.loop.counter c.loop.rest.now _ c.loop.invariant c.in_err-next.field-0.0 c.loop-test.true (sym c.if-not-starts.ensures) c.in_err-next.ensures)

pub loop-preserved : goal.loop-preserved
loop-preserved g c =
    let e : map (time_tree g.names) c.push.new.self.items ≡ map (time_tree g.names) c.loop.all.items ++ time_tree g.names c.in_ok-next.next ∷ [] = rw c.in_ok-push.ensures.items (map_push _ c.loop.all.items c.in_ok-next.next) in
    rw e (goes_on (Comma ∷ []) (more_time_at g.names) (map (time_tree g.names) c.loop.all.items) (length c.args.ts.now) c.loop.counter c.loop.rest.now _ c.loop.invariant (time_tree g.names c.in_ok-next.next) c.in_ok-next.after.now c.loop-test.true (sym c.if-not-starts.ensures) c.in_ok-next.ensures)
