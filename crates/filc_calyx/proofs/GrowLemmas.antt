-- Texts that grow piece by piece.
use Rattle.std.proofs.Common.{◌≡◌, ℕ, ◌+◌, ◌<◌, ◌≤◌, List, [], ◌∷◌, ◌++◌, length, get_or, sym, ap, ◌∙◌, append_assoc}
use Rattle.std.specs.Prelude.{codes, decimal}
use Rattle.hw_names.specs.Name.{Text}
use Rattle.filc_report.proofs.MemoryLemmas.{last_word, next_word, rest_of_words}

-- a piece more of a whole that a text and a rest make
pub piece_more : (text piece new rest next whole : Text) → new ≡ text ++ piece → rest ≡ piece ++ next → text ++ rest ≡ whole → new ++ next ≡ whole
piece_more text piece new rest next whole is parts so_far =
    ap (λ (front : Text). front ++ next) is ∙ append_assoc text piece next ∙ ap (λ (more : Text). text ++ more) (sym parts) ∙ so_far

-- a word more of a memory's line
pub word_more : (words : List ℕ) (at word : ℕ) (text mid new whole : Text) → at < length words → word ≡ get_or words at 0 → mid ≡ text ++ codes " " → new ≡ mid ++ decimal word
    → text ++ rest_of_words words at ≡ whole → new ++ rest_of_words words (at + 1) ≡ whole
word_more words at word text mid new whole within is space digits so_far =
    piece_more text (codes " " ++ decimal word) new (rest_of_words words at) (rest_of_words words (at + 1)) whole
    (digits ∙ ap (λ (front : Text). front ++ decimal word) space ∙ append_assoc text (codes " ") (decimal word)) (next_word words at word within is) so_far

-- the end of the line
pub words_end : (words : List ℕ) (at : ℕ) (text new whole : Text) → length words ≤ at → text ++ rest_of_words words at ≡ whole → new ≡ text ++ 10 ∷ [] → new ≡ whole
words_end words at text new whole past so_far is = is ∙ ap (λ (more : Text). text ++ more) (sym (last_word words at past)) ∙ so_far
