use Rattle.std.proofs.Common.{◌≡◌, [], ◌∷◌, List, length, sym, ◌++◌, map}
use Rattle.std.proofs.lemmas.List.{map_push}
use Rattle.std.proofs.lemmas.Result.{err_from_is_err_and}
use Rattle.hw_names.specs.Name.{Text}
use Rattle.hw_grammar.proofs.Loop.{goes_on, stops, fails, ends, runs_out}
use Rattle.cal_ast.specs.Tree.{cell_tree}
use Rattle.cal_parse.specs.inside.Reading.{pin_set, cell_at}
use Rattle.cal_parse.proofs.cell.read_cell_list.Goals as goal

pub returns-then-not-starts_named : goal.returns-then-not-starts_named
returns-then-not-starts_named c = λ names. stops pin_set (cell_at names) (map (cell_tree names) c.loop.all.items) (length c.args.ts.now) c.loop.counter c.loop.rest.now _ (c.loop.invariant names) c.loop-test.true (sym c.if-not-starts_named.ensures)

pub returns-in_err-next : goal.returns-in_err-next
returns-in_err-next c = λ names.
    let p = err_from_is_err_and c.from_residual.result c.from_residual.ensures.1 in
    rw (p.1, p.2) (fails pin_set (cell_at names) (map (cell_tree names) c.loop.all.items) (length c.args.ts.now) c.loop.counter c.loop.rest.now _ (c.loop.invariant names) c.in_err-next.field-0.0 c.loop-test.true (sym c.if-not-starts_named.ensures) (c.in_err-next.ensures names))

pub loop-preserved : goal.loop-preserved
loop-preserved c = λ names.
    let e : map (cell_tree names) c.push.new.self.items ≡ map (cell_tree names) c.loop.all.items ++ (cell_tree names c.in_ok-next.next) ∷ [] = rw c.in_ok-push.ensures.items (map_push _ c.loop.all.items c.in_ok-next.next) in
    rw e (goes_on pin_set (cell_at names) (map (cell_tree names) c.loop.all.items) (length c.args.ts.now) c.loop.counter c.loop.rest.now _ (c.loop.invariant names) (cell_tree names c.in_ok-next.next) c.in_ok-next.after.now c.loop-test.true (sym c.if-not-starts_named.ensures) (c.in_ok-next.ensures names))

pub returns-then-starts_named : goal.returns-then-starts_named
returns-then-starts_named c = λ names. runs_out pin_set (cell_at names) (map (cell_tree names) c.loop.all.items) (length c.args.ts.now) c.loop.counter c.loop.rest.now _ (c.loop.invariant names) c.loop-test.false (sym c.if-starts_named.ensures)

pub returns : goal.returns
returns c = λ names. ends pin_set (cell_at names) (map (cell_tree names) c.loop.all.items) (length c.args.ts.now) c.loop.counter c.loop.rest.now _ (c.loop.invariant names) c.loop-test.false (sym c.if-starts_named.ensures)
