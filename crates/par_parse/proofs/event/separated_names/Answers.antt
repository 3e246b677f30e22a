use Rattle.hw_names.specs.Name.{text_of}
use Rattle.hw_grammar.specs.Reading.{any_name, any_word}
use Rattle.hw_grammar.specs.declared.sort.Sort.TheVariants.{Comma}
use Rattle.hw_grammar.proofs.Steps.{mapped_ok}
use Rattle.par_parse.specs.inside.Reading.{more_word_at}
use Rattle.par_parse.proofs.Separated.{separated_first}
use Rattle.par_parse.proofs.event.separated_names.Goals as goal

pub returns : goal.returns
unfolding more_word_at
returns c = λ names.
    rw (separated_first (text_of names) Comma (any_word names) c.args.ts.now _ c.in_ok-first.first _ _ (mapped_ok (text_of names) any_name c.args.ts.now _ _ c.in_ok-first.ensures) c.in_ok-push.ensures.items c.new-all.ensures.items) (c.more_names.ensures names)
