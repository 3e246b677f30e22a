use Rattle.std.proofs.Common.{[], ◌∷◌, true, get_or, refl, sym, subst, arith}
use Rattle.filc_core.proofs.ShapeLemmas.{word_at, texts_differ, texts_same}
use Rattle.filc_core.proofs.WordLemmas.{no_word, words_of_three, failed_test}
use Rattle.filc_core.specs.Words.{IsFileIn, IsStimulusName}
use Rattle.filc_core.proofs.shape.Designs.with_stimulus.Goals.{then-ne-via-then-ne, then-ne-via-else-ne+then-not-is_stimulus_name}
use Rattle.filc_core.proofs.shape.Designs.with_stimulus.Goals as goal

pub returns-then-ne : goal.returns-then-ne
returns-then-ne c = λ a spells.
    let words = c.args.words.now in let texts = c.args.command.now ∷ a.design ∷ a.stimulus ∷ [] in
    elim c.then-ne.branch [
      | then-ne-via-then-ne w ↦
          texts_differ (get_or words 0 no_word).now c.args.command.now c.ne.result c.ne.ensures w.if-ne.true (word_at words texts 0 spells.words_are (omega arith))
      | then-ne-via-else-ne+then-not-is_stimulus_name w ↦
          failed_test (IsStimulusName (get_or words 2 no_word).now) w.is_stimulus_name.result w.is_stimulus_name.ensures.1 w.if-not-is_stimulus_name.true
          (subst IsStimulusName (sym (word_at words texts 2 spells.words_are (omega arith))) spells.well_formed.1)
    ]

pub returns-in_err-language : goal.returns-in_err-language
returns-in_err-language c =
    rw c.from_residual.ensures (λ a spells. c.in_err-language.ensures a.language spells.well_formed.0.is_of
    (subst (IsFileIn a.language) (sym (word_at c.args.words.now (c.args.command.now ∷ a.design ∷ a.stimulus ∷ []) 1 spells.words_are (omega arith))) spells.well_formed.0.named))

pub returns : goal.returns
returns c = record {
  words_are =
      words_of_three c.args.words.now c.args.command.now c.in-len3.len_at_least c.in-len3.len_below
      (texts_same (get_or c.args.words.now 0 no_word).now c.args.command.now c.ne.result c.ne.ensures c.if-ne.false);
  well_formed = (
    record { is_of = c.in_ok-language.ensures.0; named = c.in_ok-language.ensures.1 },
    c.is_stimulus_name.ensures.0 c.if-not-is_stimulus_name.false,
    refl,
  );
}
