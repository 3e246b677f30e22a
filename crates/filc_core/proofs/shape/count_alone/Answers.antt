use Rattle.std.proofs.Common.{[], ◌∷◌, get_or, refl, ap, ◌∙◌, arith}
use Rattle.std.specs.Prelude.{decimal}
use Rattle.filc_core.proofs.ShapeLemmas.{word_at, texts_differ, texts_same}
use Rattle.filc_core.proofs.WordLemmas.{no_word, two_words}
use Rattle.hw_names.specs.Name.{Text}
use Rattle.filc_core.proofs.shape.count_alone.Goals as goal

pub returns-then-ne : goal.returns-then-ne
returns-then-ne c = λ a spells.
    texts_differ (get_or c.args.words.now 0 no_word).now c.args.command.now c.ne.result c.ne.ensures c.if-ne.true
    (word_at c.args.words.now (c.args.command.now ∷ decimal a.count ∷ []) 0 spells.words_are (omega arith))

pub returns-in_err-count_of : goal.returns-in_err-count_of
returns-in_err-count_of c =
    rw c.from_residual.ensures (λ a spells. c.in_err-count_of.ensures a.count
    (word_at c.args.words.now (c.args.command.now ∷ decimal a.count ∷ []) 1 spells.words_are (omega arith), spells.well_formed.2))

pub returns : goal.returns
returns c = record {
  words_are =
      two_words c.args.words.now c.args.command.now c.in-len2.len_at_least c.in-len2.len_below
      (texts_same (get_or c.args.words.now 0 no_word).now c.args.command.now c.ne.result c.ne.ensures c.if-ne.false)
      ∙ ap (λ (word : Text). c.args.command.now ∷ word ∷ []) c.in_ok-count_of.ensures.0;
  well_formed = ((refl, refl), refl, c.in_ok-count_of.ensures.1);
}
