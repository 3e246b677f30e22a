use Rattle.std.proofs.Common.{sym, ap, ◌∙◌}
use Rattle.std.specs.Borrow.{Bor}
use Rattle.std.specs.Option.{option_map}
use Rattle.hw_names.specs.Name.{Text}
use Rattle.hw_lex.proofs.Cuts.{rest_slice}
use Rattle.filc_load.specs.CalFile.{first_word, left_out_words}
use Rattle.filc_load.proofs.LeftOutLemmas.{left_out_within, left_out_found, left_out_stands}
use Rattle.filc_load.proofs.cal_file.left_out_word.Goals as goal

pub slice_bounds-first_word-count : goal.slice_bounds-first_word-count
slice_bounds-first_word-count c = left_out_within c.args.text.now c.args.at c.requires

pub slice_bounds-first_word-start : goal.slice_bounds-first_word-start
slice_bounds-first_word-start c = left_out_within c.args.text.now c.args.at c.requires

pub unreachable-requires : goal.unreachable-requires
unreachable-requires c =
    left_out_found c.args.text.now c.args.at c.requires
    (ap (first_word left_out_words) (sym (rest_slice c.args.at c.args.text.now)) ∙ sym c.first_word.ensures ∙ ap (option_map (λ (word : Bor Text). word.now)) c.in-None.is)

pub returns : goal.returns
returns c =
    left_out_stands c.args.text.now c.args.at c.in-Some.word.now
    (ap (first_word left_out_words) (sym (rest_slice c.args.at c.args.text.now)) ∙ sym c.first_word.ensures ∙ ap (option_map (λ (word : Bor Text). word.now)) c.in-Some.is)
