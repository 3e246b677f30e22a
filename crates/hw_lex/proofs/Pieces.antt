-- What is written piece by piece is cut into these pieces, where no piece runs into the next.
use Rattle.std.proofs.Common.{◌≡◌, ℕ, true, List, [], ◌∷◌, ◌++◌, length, refl, ap, subst}
use Rattle.std.specs.List.{list_all}
use Rattle.hw_lex.specs.declared.token.Dialect.{Dialect}
use Rattle.hw_lex.specs.declared.token.Kind.{Kind}
use Rattle.hw_lex.specs.declared.token.Token.{Token}
use Rattle.hw_lex.specs.Byte.{is_blank}
use Rattle.hw_lex.specs.Word.{Stands}
use Rattle.hw_lex.specs.Gap.{Gap, none, more, blank}
use Rattle.hw_lex.specs.Cut.{place, Cuts, AreTokens}
use Rattle.hw_lex.proofs.Fronts.{and_true}

-- blanks alone are a gap
pub blanks_gap : (blanks rest : List ℕ) → list_all is_blank blanks ≡ true → Gap (blanks ++ rest) rest
blanks_gap [] rest h = none
blanks_gap (byte ∷ blanks) rest h = let t = and_true (is_blank byte) (list_all is_blank blanks) h in more (blank t.0) (blanks_gap blanks rest t.1)

-- a token behind blanks, before what is cut further
pub Cuts-piece : (dialect : Dialect) (size : ℕ) (kind : Kind) (blanks word after : List ℕ) (tokens : List Token) (rest : List ℕ) → list_all is_blank blanks ≡ true → Stands dialect kind (word ++ after) after → Cuts dialect size after tokens rest
    → Cuts dialect size (blanks ++ (word ++ after)) (record { kind = kind; span = record { from = place size (word ++ after); to = place size after } } ∷ tokens) rest
Cuts-piece dialect size kind blanks word after tokens rest h stands cuts =
    (after, record { at = word ++ after; gap = blanks_gap blanks (word ++ after) h; stands = stands; from = refl; to = refl }, cuts)

-- a piece of a text: the blanks before a token, its kind and its bytes
pub record Piece : Type 0 where
  pub blanks : List ℕ
  pub kind : Kind
  pub word : List ℕ

-- the text of the pieces, with what follows them
abbrev pub text_of : List Piece → List ℕ → List ℕ
text_of [] last = last
text_of (piece ∷ pieces) last = piece.blanks ++ (piece.word ++ text_of pieces last)

-- the tokens of the pieces, in a text of this size
abbrev pub tokens_of : ℕ → List Piece → List ℕ → List Token
tokens_of size [] last = []
tokens_of size (piece ∷ pieces) last =
    record { kind = piece.kind; span = record { from = place size (piece.word ++ text_of pieces last); to = place size (text_of pieces last) } } ∷ tokens_of size pieces last

-- each piece stands as a token before the next
abbrev pub AreApart : Dialect → List Piece → List ℕ → Type 0
AreApart dialect [] last = list_all is_blank last ≡ true
AreApart dialect (piece ∷ pieces) last =
    (list_all is_blank piece.blanks ≡ true) × Stands dialect piece.kind (piece.word ++ text_of pieces last) (text_of pieces last) × AreApart dialect pieces last

append_none : (xs : List ℕ) → xs ++ [] ≡ xs
append_none [] = refl
append_none (x ∷ xs) = ap (λ (t : List ℕ). x ∷ t) (append_none xs)

pieces_cut : (dialect : Dialect) (size : ℕ) (pieces : List Piece) (last : List ℕ) → AreApart dialect pieces last → Cuts dialect size (text_of pieces last) (tokens_of size pieces last) []
pieces_cut dialect size [] last h = subst (λ (x : List ℕ). Gap x []) (append_none last) (blanks_gap last [] h)
pieces_cut dialect size (piece ∷ pieces) last h =
    Cuts-piece dialect size piece.kind piece.blanks piece.word (text_of pieces last) (tokens_of size pieces last) [] h.0 h.1 (pieces_cut dialect size pieces last h.2)

-- the tokens of a text that is written so
pub pieces_tokens : (dialect : Dialect) (pieces : List Piece) (last : List ℕ) → AreApart dialect pieces last → AreTokens dialect (text_of pieces last) (tokens_of (length (text_of pieces last)) pieces last)
pieces_tokens dialect pieces last h = pieces_cut dialect (length (text_of pieces last)) pieces last h
