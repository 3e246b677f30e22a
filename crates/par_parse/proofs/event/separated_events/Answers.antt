use Rattle.hw_grammar.specs.declared.sort.Sort.TheVariants.{Comma}
use Rattle.par_parse.specs.Tree.{event_tree}
use Rattle.par_parse.specs.inside.Reading.{event_at, more_event_at}
use Rattle.par_parse.proofs.Separated.{separated_first}
use Rattle.par_parse.proofs.event.separated_events.Goals as goal

pub returns : goal.returns
unfolding more_event_at
returns c = λ names. rw (separated_first (event_tree names) Comma (event_at names) c.args.ts.now _ c.in_ok-first.first _ _ (c.in_ok-first.ensures names) c.in_ok-push.ensures.items c.new-all.ensures.items) (c.more_events.ensures names)
