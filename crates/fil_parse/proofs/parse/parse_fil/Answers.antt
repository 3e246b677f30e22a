use Rattle.std.proofs.Common.{ℕ, List, subst, sym}
use Rattle.std.proofs.lemmas.Result.{err_from_is_err_and}
use Rattle.fil_ast.specs.Tree.{design_of}
use Rattle.fil_parse.specs.Spelling.{SpellsDesign}
use Rattle.fil_parse.proofs.Parsed.{keeps_nesting, grammar_ends}
use Rattle.fil_parse.proofs.Designs.{tree_written, design_numbers}
use Rattle.fil_parse.proofs.SmallOffsets.{small_offsets}
use Rattle.fil_parse.proofs.parse.parse_fil.Goals as goal

pub returns-in_err-design-clause-refused : goal.returns-in_err-design-clause-refused
returns-in_err-design-clause-refused c =
    let p = err_from_is_err_and c.from_residual.result c.from_residual.ensures.1 in
    let k = keeps_nesting c.args.text.now c.in-Ok.tokens.source c.in-Ok.tokens.tokens c.nesting-count.result c.in-Ok.ensures.text.1 c.in-Ok.ensures.tokens c.nesting-count.ensures c.if-count-gt-MOST_NESTING.false in
    rw (p.1, p.2) (grammar_ends c.args.text.now c.in-Ok.tokens.source c.in_err-design.field-0.0 c.in-Ok.ensures.text.1 k c.in_err-design.ensures.refused)

pub returns-in-Some-clause-refused : goal.returns-in-Some-clause-refused
returns-in-Some-clause-refused c =
    let k = keeps_nesting c.args.text.now c.in-Ok.tokens.source c.in-Ok.tokens.tokens c.nesting-count.result c.in-Ok.ensures.text.1 c.in-Ok.ensures.tokens c.nesting-count.ensures c.if-count-gt-MOST_NESTING.false in
    let s : SpellsDesign c.args.text.now (design_of c.in_ok-design.design) = subst (λ (s : List ℕ). SpellsDesign s (design_of c.in_ok-design.design)) c.in-Ok.ensures.text.1 c.in_ok-design.ensures.spelled in
    (k, (design_of c.in_ok-design.design, s, sym c.in-Some.ensures))

pub returns-in-None-clause-written : goal.returns-in-None-clause-written
returns-in-None-clause-written c = tree_written c.in-Ok.tokens.source (design_of c.in_ok-design.design) c.in_ok-design.ensures.spelled

pub returns-in-None-clause-numbers : goal.returns-in-None-clause-numbers
returns-in-None-clause-numbers c = design_numbers c.in_ok-design.design (tree_written c.in-Ok.tokens.source (design_of c.in_ok-design.design) c.in_ok-design.ensures.spelled)

pub returns-in-None-clause-small : goal.returns-in-None-clause-small
returns-in-None-clause-small c = small_offsets c.in_ok-design.design (sym c.in-None.ensures)
