use Rattle.hw_grammar.specs.declared.sort.Sort.TheVariants.{Comma}
use Rattle.par_parse.specs.Tree.{time_tree}
use Rattle.par_parse.specs.inside.Reading.{time_at, more_time_at}
use Rattle.par_parse.proofs.Separated.{separated_first}
use Rattle.par_parse.proofs.time.separated_times.Goals as goal

pub returns : goal.returns
unfolding more_time_at
returns c = λ names. rw (separated_first (time_tree names) Comma (time_at names) c.args.ts.now _ c.in_ok-first.first _ _ (c.in_ok-first.ensures names) c.in_ok-push.ensures.items c.new-all.ensures.items) (c.more_times.ensures names)
