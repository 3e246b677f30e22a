use Rattle.std.proofs.Common.{[], ◌∷◌, get_or, refl, sym, subst, arith}
use Rattle.filc_core.proofs.ShapeLemmas.{word_at, texts_differ, texts_same}
use Rattle.filc_core.proofs.WordLemmas.{no_word, two_words}
use Rattle.filc_core.specs.Words.{IsFileIn}
use Rattle.filc_core.proofs.shape.Designs.alone.Goals as goal

pub returns-then-ne : goal.returns-then-ne
returns-then-ne c = λ a spells.
    texts_differ (get_or c.args.words.now 0 no_word).now c.args.command.now c.ne.result c.ne.ensures c.if-ne.true
    (word_at c.args.words.now (c.args.command.now ∷ a.design ∷ []) 0 spells.words_are (omega arith))

pub returns-in_err-language : goal.returns-in_err-language
returns-in_err-language c =
    rw c.from_residual.ensures (λ a spells. c.in_err-language.ensures a.language spells.well_formed.0.is_of
    (subst (IsFileIn a.language) (sym (word_at c.args.words.now (c.args.command.now ∷ a.design ∷ []) 1 spells.words_are (omega arith))) spells.well_formed.0.named))

pub returns : goal.returns
returns c = record {
  words_are =
      two_words c.args.words.now c.args.command.now c.in-len2.len_at_least c.in-len2.len_below
      (texts_same (get_or c.args.words.now 0 no_word).now c.args.command.now c.ne.result c.ne.ensures c.if-ne.false);
  well_formed = (record { is_of = c.in_ok-language.ensures.0; named = c.in_ok-language.ensures.1 }, refl, refl);
}
