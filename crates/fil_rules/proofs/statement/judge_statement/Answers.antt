use Rattle.std.proofs.Common.{refl, arith}
use Rattle.std.proofs.lemmas.Result.{err_from_is_err_and}
use Rattle.fil_ast.specs.Rules.{Rule, F1, F2, F3, F9}
use Rattle.fil_ast.specs.Tree.{statement_tree}
use Rattle.fil_rules.specs.inside.Stages.{KeptAt}
use Rattle.fil_rules.proofs.PlaceLemmas.{stands_next}
use Rattle.fil_rules.proofs.StageLemmas.{all_kept, later_kept}
use Rattle.fil_rules.proofs.statement.judge_statement.Goals as goal

pub returns-in_err-at-clause-broken : goal.returns-in_err-at-clause-broken
returns-in_err-at-clause-broken c scope before stands =
    let made = c.in_ok-made.ensures scope.comps stands.place.shows.components in
    let p = err_from_is_err_and c.from_residual-in_err-at.result c.from_residual-in_err-at.ensures.1 in
    rw (p.1, p.2) (c.in_err-at.ensures.broken scope before stands made)

pub returns-clause-kept : goal.returns-clause-kept
returns-clause-kept c scope before stands =
    let K : Rule → Type 0 = KeptAt scope before (statement_tree c.args.around.now.names.now c.args.stmt.now) in
    all_kept K (c.in_ok-at.ensures.kept scope before stands (c.in_ok-made.ensures scope.comps stands.place.shows.components))

pub returns-clause-next : goal.returns-clause-next
returns-clause-next c scope before stands =
    let names = c.args.around.now.names.now in
    let earlier = c.args.around.now.earlier.now in
    let comp = c.args.around.now.comp.now in
    let tables = c.args.tables.now in
    let s = statement_tree names c.args.stmt.now in
    let K : Rule → Type 0 = KeptAt scope before s in
    let made = c.in_ok-made.ensures scope.comps stands.place.shows.components in
    let kept = c.in_ok-at.ensures.kept scope before stands made in
    let fresh = kept 0 F1 (omega arith) (omega arith) refl in
    stands_next names earlier comp tables scope before stands s c.add_statement.new.tables fresh (c.in_ok-at.ensures.held scope before stands made) (later_kept K 0 10 13 (omega arith) kept)
    (c.in_ok-add_statement.ensures.shown scope stands.place fresh (kept 1 F2 (omega arith) (omega arith) refl) (kept 2 F3 (omega arith) (omega arith) refl) made (c.in_ok-at.ensures.times scope before stands made))
    (c.in_ok-add_statement.ensures.listed scope stands.place fresh (kept 1 F2 (omega arith) (omega arith) refl) (kept 2 F3 (omega arith) (omega arith) refl) made (c.in_ok-at.ensures.times scope before stands made) stands.listed)
    (c.in_ok-add_statement.ensures.connected scope before stands.connected (kept 8 F9 (omega arith) (omega arith) refl))
