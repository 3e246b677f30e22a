use Rattle.hw_grammar.specs.declared.sort.Sort.TheVariants.{Comma}
use Rattle.par_parse.specs.Tree.{expression_tree}
use Rattle.par_parse.specs.inside.Reading.{expression_at, more_expression_at}
use Rattle.par_parse.proofs.Separated.{separated_first}
use Rattle.par_parse.proofs.expression.read_expressions.Goals as goal

pub returns : goal.returns
unfolding more_expression_at
returns c = λ names. rw (separated_first (expression_tree names) Comma (expression_at names) c.args.ts.now _ c.in_ok-first.first _ _ (c.in_ok-first.ensures names) c.in_ok-push.ensures.items c.new-all.ensures.items) (c.more_expressions.ensures names)
