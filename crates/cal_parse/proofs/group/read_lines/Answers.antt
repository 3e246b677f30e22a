use Rattle.std.proofs.Common.{◌≡◌, [], ◌∷◌, ◌++◌, List, length, map, refl, sym, ap, ◌∙◌}
use Rattle.std.proofs.lemmas.Result.{err_from_is_err_and}
use Rattle.hw_grammar.proofs.Loop.{goes_on, stops, fails, ends, runs_out}
use Rattle.cal_ast.specs.Tree.{assignment_tree, done_tree}
use Rattle.cal_parse.specs.inside.Lines.{line_tree}
use Rattle.cal_parse.specs.inside.Reading.{pin_set, line_at}
use Rattle.hw_grammar.proofs.Steps.{unchanged}
use Rattle.cal_parse.proofs.LineLists.{assignments_in-push, dones_in-push, lines_ok, lines_refused, lines_fails}
use Rattle.cal_parse.proofs.group.read_lines.Goals as goal

pub loop-init : goal.loop-init
loop-init c = λ names. ([], ap (map (assignment_tree names)) c.new.ensures.items, ap (map (done_tree names)) c.new-2.ensures.items, unchanged pin_set (line_at names) c.args.ts.now)

pub loop-preserved : goal.loop-preserved
loop-preserved c = λ names.
    let n = c.loop.invariant names in
    let line = line_tree names c.in_ok-next.next in
    let added = c.in_ok-add.ensures names in (
      n.0 ++ line ∷ [],
      assignments_in-push n.0 line _ _ n.1 added.0,
      dones_in-push n.0 line _ _ n.2 added.1,
      goes_on pin_set (line_at names) n.0 (length c.args.ts.now) c.loop.counter c.loop.rest.now _ n.3 line c.in_ok-next.after.now c.loop-test.true (sym c.if-not-starts_named.ensures) (c.in_ok-next.ensures names),
    )

pub returns-then-not-starts_named : goal.returns-then-not-starts_named
returns-then-not-starts_named c = λ names.
    let n = c.loop.invariant names in
    lines_ok names _ _ n.0 _ _ (stops pin_set (line_at names) n.0 (length c.args.ts.now) c.loop.counter c.loop.rest.now _ n.3 c.loop-test.true (sym c.if-not-starts_named.ensures)) n.1 n.2

pub returns-in_err-next : goal.returns-in_err-next
returns-in_err-next c = λ names.
    let n = c.loop.invariant names in
    let p = err_from_is_err_and c.from_residual.result c.from_residual.ensures.1 in
    rw (p.1, p.2) (lines_fails names c.args.ts.now c.in_err-next.field-0.0 (fails pin_set (line_at names) n.0 (length c.args.ts.now) c.loop.counter c.loop.rest.now _ n.3 c.in_err-next.field-0.0 c.loop-test.true (sym c.if-not-starts_named.ensures) (c.in_err-next.ensures names)))

pub returns-then-starts_named : goal.returns-then-starts_named
returns-then-starts_named c = λ names.
    let n = c.loop.invariant names in
    lines_refused names _ _ (runs_out pin_set (line_at names) n.0 (length c.args.ts.now) c.loop.counter c.loop.rest.now _ n.3 c.loop-test.false (sym c.if-starts_named.ensures))

pub returns : goal.returns
returns c = λ names.
    let n = c.loop.invariant names in
    lines_ok names _ _ n.0 _ _ (ends pin_set (line_at names) n.0 (length c.args.ts.now) c.loop.counter c.loop.rest.now _ n.3 c.loop-test.false (sym c.if-starts_named.ensures)) n.1 n.2
