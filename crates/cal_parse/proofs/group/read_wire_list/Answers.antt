use Rattle.std.proofs.Common.{◌≡◌, [], ◌∷◌, ◌++◌, List, length, map, refl, sym, ap, ◌∙◌}
use Rattle.std.proofs.lemmas.Result.{err_from_is_err_and}
use Rattle.hw_grammar.proofs.Loop.{goes_on, stops, fails, ends, runs_out}
use Rattle.cal_ast.specs.Tree.{group_tree, assignment_tree}
use Rattle.cal_parse.specs.inside.Lines.{wire_tree}
use Rattle.cal_parse.specs.inside.Reading.{wire_set, wire_at}
use Rattle.hw_grammar.proofs.Steps.{unchanged}
use Rattle.cal_parse.proofs.LineLists.{groups_in-push, sets_in-push, wire_list_ok, wire_list_refused, wire_list_fails}
use Rattle.cal_parse.proofs.group.read_wire_list.Goals as goal

pub loop-init : goal.loop-init
loop-init c = λ names. ([], ap (map (group_tree names)) c.new.ensures.items, ap (map (assignment_tree names)) c.new-2.ensures.items, unchanged wire_set (wire_at names) c.args.ts.now)

pub loop-preserved : goal.loop-preserved
loop-preserved c = λ names.
    let n = c.loop.invariant names in
    let line = wire_tree names c.in_ok-next.next in
    let added = c.in_ok-add.ensures names in (
      n.0 ++ line ∷ [],
      groups_in-push n.0 line _ _ n.1 added.0,
      sets_in-push n.0 line _ _ n.2 added.1,
      goes_on wire_set (wire_at names) n.0 (length c.args.ts.now) c.loop.counter c.loop.rest.now _ n.3 line c.in_ok-next.after.now c.loop-test.true (sym c.if-not-starts_wire.ensures) (c.in_ok-next.ensures names),
    )

pub returns-then-not-starts_wire : goal.returns-then-not-starts_wire
returns-then-not-starts_wire c = λ names.
    let n = c.loop.invariant names in
    wire_list_ok names _ _ n.0 _ _ (stops wire_set (wire_at names) n.0 (length c.args.ts.now) c.loop.counter c.loop.rest.now _ n.3 c.loop-test.true (sym c.if-not-starts_wire.ensures)) n.1 n.2

pub returns-in_err-next : goal.returns-in_err-next
returns-in_err-next c = λ names.
    let n = c.loop.invariant names in
    let p = err_from_is_err_and c.from_residual.result c.from_residual.ensures.1 in
    rw (p.1, p.2) (wire_list_fails names c.args.ts.now c.in_err-next.field-0.0 (fails wire_set (wire_at names) n.0 (length c.args.ts.now) c.loop.counter c.loop.rest.now _ n.3 c.in_err-next.field-0.0 c.loop-test.true (sym c.if-not-starts_wire.ensures) (c.in_err-next.ensures names)))

pub returns-then-starts_wire : goal.returns-then-starts_wire
returns-then-starts_wire c = λ names.
    let n = c.loop.invariant names in
    wire_list_refused names _ _ (runs_out wire_set (wire_at names) n.0 (length c.args.ts.now) c.loop.counter c.loop.rest.now _ n.3 c.loop-test.false (sym c.if-starts_wire.ensures))

pub returns : goal.returns
returns c = λ names.
    let n = c.loop.invariant names in
    wire_list_ok names _ _ n.0 _ _ (ends wire_set (wire_at names) n.0 (length c.args.ts.now) c.loop.counter c.loop.rest.now _ n.3 c.loop-test.false (sym c.if-starts_wire.ensures)) n.1 n.2
