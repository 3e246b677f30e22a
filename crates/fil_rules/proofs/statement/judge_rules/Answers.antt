use Rattle.std.proofs.Common.{List, refl, sym, subst, arith}
use Rattle.std.proofs.lemmas.Result.{err_from_is_err_and}
use Rattle.fil_ast.specs.Evidence.{Evidence}
use Rattle.fil_ast.specs.Rules.{Rule, F2}
use Rattle.fil_ast.specs.Tree.{statement_tree}
use Rattle.fil_rules.specs.inside.Stages.{KeptAt, ShownAt}
use Rattle.fil_place.specs.Tables.{AreTimesOf}
use Rattle.fil_place.specs.declared.times.Offset.{Offset}
use Rattle.fil_rules.proofs.StageLemmas.{keeps_both, keeps_none, told_from_start}
use Rattle.fil_rules.proofs.statement.judge_rules.Goals as goal

pub returns-clause-kept : goal.returns-clause-kept
returns-clause-kept c scope before stands made =
    let names = c.args.place.now.names.now in
    let earlier = c.args.place.now.earlier.now in
    let comp = c.args.place.now.comp.now in
    let tables = c.args.place.now.tables.now in
    let s = statement_tree names c.args.stmt.now in
    let K : Rule → Type 0 = KeptAt scope before s in
    let place = stands.place in
    let signed = c.callee_of-callee.ensures scope place made in
    let six = c.in_ok-judge_meaning.ensures.kept scope before place signed in
    let T : List Offset → Type 0 = λ at. AreTimesOf tables.events at s in
    let given = c.in_ok-at.ensures scope place.shows.events (six 1 F2 (omega arith) (omega arith) refl) in
    let timing = c.in_ok-judge_timing.ensures.kept scope before place stands.distinct stands.connected signed (subst T (sym c.deref.ensures.value) given) in
    let ten = keeps_both K 0 6 10 six timing in
    let shared = c.in_ok-judge_use.ensures.kept scope before stands signed (subst T (sym c.deref-2.ensures.value) given) ten in
    keeps_both K 0 10 13 ten shared

pub returns-clause-times : goal.returns-clause-times
returns-clause-times c scope before stands made =
    let comp = c.args.place.now.comp.now in
    let place = stands.place in
    let signed = c.callee_of-callee.ensures scope place made in
    let six = c.in_ok-judge_meaning.ensures.kept scope before place signed in
    c.in_ok-at.ensures scope place.shows.events (six 1 F2 (omega arith) (omega arith) refl)

pub returns-clause-held : goal.returns-clause-held
returns-clause-held c scope before stands made =
    let names = c.args.place.now.names.now in
    let earlier = c.args.place.now.earlier.now in
    let comp = c.args.place.now.comp.now in
    let tables = c.args.place.now.tables.now in
    let s = statement_tree names c.args.stmt.now in
    let K : Rule → Type 0 = KeptAt scope before s in
    let place = stands.place in
    let signed = c.callee_of-callee.ensures scope place made in
    let six = c.in_ok-judge_meaning.ensures.kept scope before place signed in
    let T : List Offset → Type 0 = λ at. AreTimesOf tables.events at s in
    let given = c.in_ok-at.ensures scope place.shows.events (six 1 F2 (omega arith) (omega arith) refl) in
    let timing = c.in_ok-judge_timing.ensures.kept scope before place stands.distinct stands.connected signed (subst T (sym c.deref.ensures.value) given) in
    c.in_ok-judge_timing.ensures.held scope before signed timing

pub returns-in_err-judge_meaning-clause-broken : goal.returns-in_err-judge_meaning-clause-broken
returns-in_err-judge_meaning-clause-broken c scope before stands made =
    let names = c.args.place.now.names.now in
    let earlier = c.args.place.now.earlier.now in
    let comp = c.args.place.now.comp.now in
    let tables = c.args.place.now.tables.now in
    let s = statement_tree names c.args.stmt.now in
    let K : Rule → Type 0 = KeptAt scope before s in
    let place = stands.place in
    let signed = c.callee_of-callee.ensures scope place made in
    let S : Rule → Evidence → Type 0 = ShownAt scope s in
    let p = err_from_is_err_and c.from_residual.result c.from_residual.ensures.1 in
    rw (p.1, p.2) (told_from_start K S 0 c.in_err-judge_meaning.field-0.0 (keeps_none K 0) (c.in_err-judge_meaning.ensures.broken scope before place signed))

pub returns-in_err-judge_timing-clause-broken : goal.returns-in_err-judge_timing-clause-broken
returns-in_err-judge_timing-clause-broken c scope before stands made =
    let names = c.args.place.now.names.now in
    let earlier = c.args.place.now.earlier.now in
    let comp = c.args.place.now.comp.now in
    let tables = c.args.place.now.tables.now in
    let s = statement_tree names c.args.stmt.now in
    let K : Rule → Type 0 = KeptAt scope before s in
    let place = stands.place in
    let signed = c.callee_of-callee.ensures scope place made in
    let S : Rule → Evidence → Type 0 = ShownAt scope s in
    let six = c.in_ok-judge_meaning.ensures.kept scope before place signed in
    let T : List Offset → Type 0 = λ at. AreTimesOf tables.events at s in
    let given = c.in_ok-at.ensures scope place.shows.events (six 1 F2 (omega arith) (omega arith) refl) in
    let p = err_from_is_err_and c.from_residual-in_err-judge_timing.result c.from_residual-in_err-judge_timing.ensures.1 in
    rw (p.1, p.2) (told_from_start K S 6 c.in_err-judge_timing.field-0.0 six (c.in_err-judge_timing.ensures.broken scope before place stands.distinct stands.connected signed (subst T (sym c.deref.ensures.value) given)))

pub returns-in_err-judge_use-clause-broken : goal.returns-in_err-judge_use-clause-broken
returns-in_err-judge_use-clause-broken c scope before stands made =
    let names = c.args.place.now.names.now in
    let earlier = c.args.place.now.earlier.now in
    let comp = c.args.place.now.comp.now in
    let tables = c.args.place.now.tables.now in
    let s = statement_tree names c.args.stmt.now in
    let K : Rule → Type 0 = KeptAt scope before s in
    let place = stands.place in
    let signed = c.callee_of-callee.ensures scope place made in
    let S : Rule → Evidence → Type 0 = ShownAt scope s in
    let six = c.in_ok-judge_meaning.ensures.kept scope before place signed in
    let T : List Offset → Type 0 = λ at. AreTimesOf tables.events at s in
    let given = c.in_ok-at.ensures scope place.shows.events (six 1 F2 (omega arith) (omega arith) refl) in
    let timing = c.in_ok-judge_timing.ensures.kept scope before place stands.distinct stands.connected signed (subst T (sym c.deref.ensures.value) given) in
    let ten = keeps_both K 0 6 10 six timing in
    let p = err_from_is_err_and c.from_residual-in_err-judge_use.result c.from_residual-in_err-judge_use.ensures.1 in
    rw (p.1, p.2) (told_from_start K S 10 c.in_err-judge_use.field-0.0 ten (c.in_err-judge_use.ensures.broken scope before stands signed (subst T (sym c.deref-2.ensures.value) given) ten))
