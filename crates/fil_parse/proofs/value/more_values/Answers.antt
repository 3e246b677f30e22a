use Rattle.std.proofs.Common.{◌≡◌, [], ◌∷◌, length, sym, ◌++◌, map}
use Rattle.std.proofs.lemmas.List.{map_push}
use Rattle.std.proofs.lemmas.Result.{err_from_is_err_and}
use Rattle.hw_grammar.proofs.Loop.{list_tail_goes_on, list_tail_stops, list_tail_trails, list_tail_fails}
use Rattle.hw_grammar.specs.declared.sort.Sort.TheVariants.{Comma, Name, Literal}
use Rattle.fil_parse.specs.inside.Reading.{value_at}
use Rattle.fil_ast.specs.Tree.{value_tree}
use Rattle.fil_parse.proofs.value.more_values.Goals as goal

pub loop-preserved : goal.loop-preserved
loop-preserved g c =
    let e : map (value_tree g.names) c.push.new.self.items ≡ map (value_tree g.names) c.loop.all.items ++ value_tree g.names c.in_ok-next.next ∷ [] = rw c.in_ok-push.ensures.items (map_push _ c.loop.all.items c.in_ok-next.next) in
    rw e (list_tail_goes_on Comma (Name ∷ Literal ∷ []) (value_at g.names) (map (value_tree g.names) c.loop.all.items) (length c.args.ts.now) c.loop.counter c.loop.rest.now _ c.loop.invariant _ c.in_ok-mid.mid.now (value_tree g.names c.in_ok-next.next) c.in_ok-next.after.now c.loop-test.true (sym c.if-not-starts.ensures) c.in_ok-mid.ensures (sym c.if-not-starts_value.ensures) c.in_ok-next.ensures)

pub returns-then-not-starts : goal.returns-then-not-starts
returns-then-not-starts g c = list_tail_stops Comma (Name ∷ Literal ∷ []) (value_at g.names) (map (value_tree g.names) c.loop.all.items) (length c.args.ts.now) c.loop.counter c.loop.rest.now _ c.loop.invariant c.loop-test.true (sym c.if-not-starts.ensures)

pub returns-then-not-starts_value : goal.returns-then-not-starts_value
returns-then-not-starts_value g c = list_tail_trails Comma (Name ∷ Literal ∷ []) (value_at g.names) (map (value_tree g.names) c.loop.all.items) (length c.args.ts.now) c.loop.counter c.loop.rest.now _ c.loop.invariant _ c.in_ok-mid.mid.now c.loop-test.true (sym c.if-not-starts.ensures) c.in_ok-mid.ensures (sym c.if-not-starts_value.ensures)

pub returns-in_err-next : goal.returns-in_err-next
returns-in_err-next g c =
    let p = err_from_is_err_and c.from_residual-in_err-next.result c.from_residual-in_err-next.ensures.1 in
    rw (p.1, p.2) (list_tail_fails Comma (Name ∷ Literal ∷ []) (value_at g.names) (map (value_tree g.names) c.loop.all.items) (length c.args.ts.now) c.loop.counter c.loop.rest.now _ c.loop.invariant c.in_err-next.field-0.0 _ c.in_ok-mid.mid.now c.loop-test.true (sym c.if-not-starts.ensures) c.in_ok-mid.ensures (sym c.if-not-starts_value.ensures) c.in_err-next.ensures)
