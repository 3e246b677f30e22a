-- How deep brackets and `!` stand in one another in a list of tokens, each told by its bytes. This project's own.
use Rattle.std.specs.Prelude.{ℕ, zero, suc, ◌+◌, ◌-◌, Bool, false, ◌==◌, max, if◌then◌else◌, List, [], ◌∷◌, length, map, take, fold, reverse, codes}
use Rattle.std.specs.List.{prefix_len, list_any}

-- a text of which each byte counts as a token
abbrev pub byte_tokens : List ℕ → List (List ℕ)
byte_tokens text = map (λ byte. byte ∷ []) text

-- the token is this mark of one byte
abbrev pub is_one_of : List ℕ → List ℕ → Bool
is_one_of marks [] = false
is_one_of marks (byte ∷ []) = list_any (λ mark. mark == byte) marks
is_one_of marks (_ ∷ _ ∷ _) = false

-- an opening bracket
abbrev pub opens : List ℕ → Bool
opens token = is_one_of (codes "([{") token

-- a closing bracket, of whichever kind
abbrev pub closes : List ℕ → Bool
closes token = is_one_of (codes ")]}") token

-- the mark `!`
abbrev pub is_not : List ℕ → Bool
is_not token = is_one_of (codes "!") token

-- how many brackets are open after one more token; a closing one closes whatever is open
abbrev pub open_after : ℕ → List ℕ → ℕ
open_after count token = if opens token then count + 1 else (if closes token then count - 1 else count)

-- how many brackets are open at the last of the tokens
abbrev pub open_count : List (List ℕ) → ℕ
open_count tokens = fold open_after 0 tokens

-- the length of the run of `!` that ends at the last of the tokens
abbrev pub run_of_nots : List (List ℕ) → ℕ
run_of_nots tokens = prefix_len is_not (reverse tokens)

-- the depth at the token with this number: the open brackets and the run of `!`
abbrev pub depth_at : List (List ℕ) → ℕ → ℕ
depth_at tokens i = open_count (take (i + 1) tokens) + run_of_nots (take (i + 1) tokens)

-- the greatest depth at one of the first n tokens, and 0 where n is 0
abbrev pub deepest : List (List ℕ) → ℕ → ℕ
deepest tokens zero = 0
deepest tokens (suc n) = max (deepest tokens n) (depth_at tokens n)

-- the greatest depth at a token
abbrev pub nesting_of : List (List ℕ) → ℕ
nesting_of tokens = deepest tokens (length tokens)
