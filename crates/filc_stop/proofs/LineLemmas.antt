-- The texts of a line, one after another.
use Rattle.std.proofs.Common.{◌≡◌, ℕ, ◌==◌, false, List, [], ◌∷◌, ◌++◌, length, codes, decimal, refl, sym, ap, ◌∙◌, append_assoc}
use Rattle.std.proofs.lemmas.List.{append-nil}
use Rattle.hw_names.specs.Name.{Text}
use Rattle.filc_stop.specs.Lines.{as_line, token_line, grammar_line, left_out_line, place_text, spaced, loop_text, rule_line, entry_text, stimulus_text, shown_starts, stimulus_line, conflict_line}

pub conflict_texts : (cycle : ℕ) (port : Text) → codes "conflict cycle " ++ (decimal cycle ++ (codes " port " ++ (port ++ 10 ∷ []))) ≡ as_line (conflict_line cycle port)
conflict_texts cycle port =
    ap (λ rest. codes "conflict cycle " ++ rest)
    (sym (append_assoc (decimal cycle ++ codes " port ") port (10 ∷ []) ∙ append_assoc (decimal cycle) (codes " port ") (port ++ 10 ∷ [])))

pub token_texts : (place : ℕ) → codes "refused token at byte " ++ (decimal place ++ 10 ∷ []) ≡ as_line (token_line place)
token_texts place = refl

pub grammar_texts : (place : ℕ) → codes "refused grammar at byte " ++ (decimal place ++ 10 ∷ []) ≡ as_line (grammar_line place)
grammar_texts place = refl

pub left_out_texts : (word : Text) (place : ℕ) → codes "refused left out " ++ (word ++ (codes " at byte " ++ (decimal place ++ 10 ∷ []))) ≡ as_line (left_out_line word place)
left_out_texts word place =
    ap (λ rest. codes "refused left out " ++ rest)
    (sym (append_assoc (word ++ codes " at byte ") (decimal place) (10 ∷ []) ∙ append_assoc word (codes " at byte ") (decimal place ++ 10 ∷ [])))

-- a loop has ports
pub loop_texts : (ports : List Text) → (length ports == 0) ≡ false → loop_text ports ≡ codes " loop" ++ spaced ports
loop_texts [] some = cc some
loop_texts (port ∷ ports) some = refl

-- a rule's line is its place, what it shows and the line feed
pub rule_texts : (rule name : Text) (item : ℕ) (shows : Text) → place_text rule name item ++ (shows ++ 10 ∷ []) ≡ as_line (rule_line rule name item shows)
rule_texts rule name item shows = sym (append_assoc (place_text rule name item) shows (10 ∷ []))

-- a rule of a stimulus and its entry
pub stimulus_texts : (rule entry : ℕ) → (codes "stimulus S" ++ (decimal rule ++ [])) ++ entry_text rule entry ≡ stimulus_text rule entry
stimulus_texts rule entry = ap (λ number. (codes "stimulus S" ++ number) ++ entry_text rule entry) (append-nil (decimal rule))

-- the line of a stimulus is its rule, what it shows, and the line feed
pub stimulus_lines : (rule entry first second delay : ℕ) → stimulus_text rule entry ++ (shown_starts rule first second delay ++ 10 ∷ []) ≡ as_line (stimulus_line rule entry first second delay)
stimulus_lines rule entry first second delay = sym (append_assoc (stimulus_text rule entry) (shown_starts rule first second delay) (10 ∷ []))
