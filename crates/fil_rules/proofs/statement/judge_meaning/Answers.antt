use Rattle.std.proofs.Common.{refl, arith}
use Rattle.fil_ast.specs.Evidence.{Evidence}
use Rattle.fil_ast.specs.Rules.{Rule, F1, F2, F3, F4}
use Rattle.fil_ast.specs.Tree.{statement_tree}
use Rattle.fil_rules.specs.inside.Stages.{KeptAt, ShownAt}
use Rattle.fil_rules.specs.declared.rules.Rule.TheVariants as code_rule
use Rattle.fil_place.proofs.GeneralLemmas.{clash}
use Rattle.fil_rules.proofs.StageLemmas.{breaks_at, keeps_none, kept_1, kept_2, kept_3, kept_6}
use Rattle.fil_rules.proofs.statement.judge_meaning.Goals as goal

pub returns-then-not-makes_new_names-clause-broken : goal.returns-then-not-makes_new_names-clause-broken
returns-then-not-makes_new_names-clause-broken c scope before place signed =
    let names = c.args.place.now.names.now in
    let s = statement_tree names c.args.stmt.now in
    let K : Rule → Type 0 = KeptAt scope before s in
    let S : Rule → Evidence → Type 0 = ShownAt scope s in
    breaks_at K S 0 0 F1 code_rule.F1 c.breaks.result refl c.breaks.ensures (omega arith) refl (keeps_none K 0)
    (λ new. clash c.makes_new_names.result ((c.makes_new_names.ensures c.args.place.now.earlier.now c.args.place.now.comp.now scope place).1 new) c.if-not-makes_new_names.true) refl

pub returns-then-not-uses_known_names-clause-broken : goal.returns-then-not-uses_known_names-clause-broken
returns-then-not-uses_known_names-clause-broken c scope before place signed =
    let names = c.args.place.now.names.now in
    let s = statement_tree names c.args.stmt.now in
    let K : Rule → Type 0 = KeptAt scope before s in
    let S : Rule → Evidence → Type 0 = ShownAt scope s in
    breaks_at K S 0 1 F2 code_rule.F2 c.breaks-then-not-uses_known_names.result refl c.breaks-then-not-uses_known_names.ensures (omega arith) refl
    (kept_1 scope before s ((c.makes_new_names.ensures c.args.place.now.earlier.now c.args.place.now.comp.now scope place).0 c.if-not-makes_new_names.false))
    (λ known. clash c.uses_known_names.result ((c.uses_known_names.ensures scope place).1 known) c.if-not-uses_known_names.true) refl

pub returns-then-not-keeps_widths-clause-broken : goal.returns-then-not-keeps_widths-clause-broken
returns-then-not-keeps_widths-clause-broken c scope before place signed =
    let names = c.args.place.now.names.now in
    let s = statement_tree names c.args.stmt.now in
    let K : Rule → Type 0 = KeptAt scope before s in
    let S : Rule → Evidence → Type 0 = ShownAt scope s in
    breaks_at K S 0 2 F3 code_rule.F3 c.breaks-then-not-keeps_widths.result refl c.breaks-then-not-keeps_widths.ensures (omega arith) refl
    (kept_2 scope before s ((c.makes_new_names.ensures c.args.place.now.earlier.now c.args.place.now.comp.now scope place).0 c.if-not-makes_new_names.false)
    ((c.uses_known_names.ensures scope place).0 c.if-not-uses_known_names.false))
    (λ wide. clash c.keeps_widths.result ((c.keeps_widths.ensures scope place signed).1 wide) c.if-not-keeps_widths.true) refl

pub returns-then-not-keeps_numbers-clause-broken : goal.returns-then-not-keeps_numbers-clause-broken
returns-then-not-keeps_numbers-clause-broken c scope before place signed =
    let names = c.args.place.now.names.now in
    let s = statement_tree names c.args.stmt.now in
    let K : Rule → Type 0 = KeptAt scope before s in
    let S : Rule → Evidence → Type 0 = ShownAt scope s in
    breaks_at K S 0 3 F4 code_rule.F4 c.breaks-then-not-keeps_numbers.result refl c.breaks-then-not-keeps_numbers.ensures (omega arith) refl
    (kept_3 scope before s ((c.makes_new_names.ensures c.args.place.now.earlier.now c.args.place.now.comp.now scope place).0 c.if-not-makes_new_names.false)
    ((c.uses_known_names.ensures scope place).0 c.if-not-uses_known_names.false)
    ((c.keeps_widths.ensures scope place signed).0 c.if-not-keeps_widths.false))
    (λ each. clash c.keeps_numbers.result ((c.keeps_numbers.ensures scope signed).1 each) c.if-not-keeps_numbers.true) refl

pub returns-clause-kept : goal.returns-clause-kept
returns-clause-kept c scope before place signed =
    kept_6 scope before (statement_tree c.args.place.now.names.now c.args.stmt.now) ((c.makes_new_names.ensures c.args.place.now.earlier.now c.args.place.now.comp.now scope place).0 c.if-not-makes_new_names.false)
    ((c.uses_known_names.ensures scope place).0 c.if-not-uses_known_names.false)
    ((c.keeps_widths.ensures scope place signed).0 c.if-not-keeps_widths.false)
    ((c.keeps_numbers.ensures scope signed).0 c.if-not-keeps_numbers.false)
