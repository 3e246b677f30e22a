use Rattle.cal_parse.proofs.Parsed.{keeps_nesting, read_text, read_ends}
use Rattle.cal_parse.proofs.Designs.{result_written, result_numbers}
use Rattle.cal_parse.proofs.parse.parse_calyx.Goals as goal

pub returns-clause-read : goal.returns-clause-read
returns-clause-read c =
    let k = (keeps_nesting c.args.text.now c.in-Ok.tokens.source c.in-Ok.tokens.tokens c.nesting-count.result c.in-Ok.ensures.text.1 c.in-Ok.ensures.tokens c.nesting-count.ensures c.if-count-gt-MOST_NESTING.false) in
    read_text c.args.text.now c.in-Ok.tokens.source c.in-Ok.ensures.text.1 k _ c.read_tokens.ensures.spelled

pub returns-clause-ends : goal.returns-clause-ends
returns-clause-ends c =
    let k = (keeps_nesting c.args.text.now c.in-Ok.tokens.source c.in-Ok.tokens.tokens c.nesting-count.result c.in-Ok.ensures.text.1 c.in-Ok.ensures.tokens c.nesting-count.ensures c.if-count-gt-MOST_NESTING.false) in
    read_ends c.args.text.now c.in-Ok.tokens.source c.in-Ok.ensures.text.1 k _ c.read_tokens.ensures.refused

pub returns-clause-written : goal.returns-clause-written
returns-clause-written c = result_written c.in-Ok.tokens.source _ c.read_tokens.ensures.spelled

pub returns-clause-numbers : goal.returns-clause-numbers
returns-clause-numbers c = result_numbers c.in-Ok.tokens.source _ c.read_tokens.ensures.spelled
