use Rattle.std.proofs.Common.{[], ◌∷◌, get_or, refl, sym, ap, ◌∙◌, subst, arith}
use Rattle.filc_core.proofs.ShapeLemmas.{word_at, texts_differ, texts_same}
use Rattle.filc_core.proofs.WordLemmas.{no_word, words_of_three}
use Rattle.std.specs.Prelude.{decimal}
use Rattle.filc_core.specs.Words.{IsFileIn}
use Rattle.hw_names.specs.Name.{Text}
use Rattle.filc_core.proofs.shape.Designs.with_count.Goals as goal

pub returns-then-ne : goal.returns-then-ne
returns-then-ne c = λ a spells.
    texts_differ (get_or c.args.words.now 0 no_word).now c.args.command.now c.ne.result c.ne.ensures c.if-ne.true
    (word_at c.args.words.now (c.args.command.now ∷ a.design ∷ decimal a.count ∷ []) 0 spells.words_are (omega arith))

pub returns-in_err-language : goal.returns-in_err-language
returns-in_err-language c =
    rw c.from_residual.ensures (λ a spells. c.in_err-language.ensures a.language spells.well_formed.0.is_of
    (subst (IsFileIn a.language) (sym (word_at c.args.words.now (c.args.command.now ∷ a.design ∷ decimal a.count ∷ []) 1 spells.words_are (omega arith))) spells.well_formed.0.named))

pub returns-in_err-count_of : goal.returns-in_err-count_of
returns-in_err-count_of c =
    rw c.from_residual-in_err-count_of.ensures (λ a spells. c.in_err-count_of.ensures a.count
    (word_at c.args.words.now (c.args.command.now ∷ a.design ∷ decimal a.count ∷ []) 2 spells.words_are (omega arith), spells.well_formed.2))

pub returns : goal.returns
returns c =
    let design = (get_or c.args.words.now 1 no_word).now in let command = c.args.command.now in
    record {
      words_are =
          words_of_three c.args.words.now command c.in-len3.len_at_least c.in-len3.len_below
          (texts_same (get_or c.args.words.now 0 no_word).now command c.ne.result c.ne.ensures c.if-ne.false)
          ∙ ap (λ (word : Text). command ∷ design ∷ word ∷ []) c.in_ok-count_of.ensures.0;
      well_formed = (record { is_of = c.in_ok-language.ensures.0; named = c.in_ok-language.ensures.1 }, refl, c.in_ok-count_of.ensures.1);
    }
