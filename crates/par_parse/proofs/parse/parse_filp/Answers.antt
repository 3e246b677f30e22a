use Rattle.par_parse.proofs.Parsed.{keeps_nesting, read_text, read_nested, read_ends}
use Rattle.par_parse.proofs.Designs.{result_written, result_numbers}
use Rattle.par_parse.proofs.parse.parse_filp.Goals as goal

pub returns-clause-spelled : goal.returns-clause-spelled
returns-clause-spelled c =
    let k = (keeps_nesting c.args.text.now c.in-Ok.tokens.source c.in-Ok.tokens.tokens c.nesting-count.result c.in-Ok.ensures.text.1 c.in-Ok.ensures.tokens c.nesting-count.ensures c.if-count-gt-MOST_NESTING.false) in
    read_text c.args.text.now c.in-Ok.tokens.source c.in-Ok.ensures.text.1 k _ c.read_tokens.ensures.spelled

pub returns-clause-nested : goal.returns-clause-nested
returns-clause-nested c =
    let k = (keeps_nesting c.args.text.now c.in-Ok.tokens.source c.in-Ok.tokens.tokens c.nesting-count.result c.in-Ok.ensures.text.1 c.in-Ok.ensures.tokens c.nesting-count.ensures c.if-count-gt-MOST_NESTING.false) in
    read_nested c.args.text.now c.in-Ok.tokens.source c.in-Ok.ensures.text.1 k _

pub returns-clause-written : goal.returns-clause-written
returns-clause-written c = result_written c.in-Ok.tokens.source _ c.read_tokens.ensures.spelled

pub returns-clause-numbers : goal.returns-clause-numbers
returns-clause-numbers c = result_numbers c.in-Ok.tokens.source _ c.read_tokens.ensures.spelled

pub returns-clause-refused : goal.returns-clause-refused
returns-clause-refused c =
    let k = (keeps_nesting c.args.text.now c.in-Ok.tokens.source c.in-Ok.tokens.tokens c.nesting-count.result c.in-Ok.ensures.text.1 c.in-Ok.ensures.tokens c.nesting-count.ensures c.if-count-gt-MOST_NESTING.false) in
    read_ends c.args.text.now c.in-Ok.tokens.source c.in-Ok.ensures.text.1 k _ c.read_tokens.ensures.refused
