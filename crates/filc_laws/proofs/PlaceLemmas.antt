-- Where a grammar that looks at no name refuses a text: at one terminal, whatever numbers its names have, unless it is past the last.
use Rattle.std.proofs.Common.{◌≡◌, ℕ, ◌<◌, ◌≤◌, ◌⊎◌, inl, inr, List, [], ◌∷◌, length, Option, unwrap_or, sym, ap, subst, ◌∙◌, arith}
use Rattle.std.specs.Option.{option_map}
use Rattle.hw_names.specs.Name.{Text}
use Rattle.hw_lex.specs.declared.token.Dialect.{Dialect}
use Rattle.hw_lex.specs.declared.token.Token.{Token}
use Rattle.hw_lex.proofs.Cuts.{tokens_unique}
use Rattle.hw_grammar.specs.declared.terminal.Terminal.{Terminal}
use Rattle.hw_grammar.specs.Place.{Place}
use Rattle.hw_grammar.specs.Terminals.{AreTerminals}
use Rattle.hw_grammar.specs.TextPlace.{byte_of, IsLexed}
use Rattle.hw_grammar.proofs.Passing.{ArePairs}
use Rattle.hw_grammar.proofs.Texts.{length-AreTerminals}
use Rattle.filc_laws.proofs.FollowLemmas.{LooksSame, Follows, pairs_back, not_before}
use Rattle.filc_laws.proofs.ListLemmas.{past}
use Rattle.filc_laws.proofs.OrderLemmas.{Below, Above, Same, compared}

-- ---- two lists of names give one text terminals that look the same

terminals_alike : (dialect : Dialect) (old new : List Text) (source : List ℕ) (tokens : List Token) (ts us : List Terminal) → AreTerminals dialect old source tokens ts → AreTerminals dialect new source tokens us → ArePairs LooksSame ts us
terminals_alike dialect old new source [] [] [] p q = tt
terminals_alike dialect old new source [] [] (u ∷ us) p q = absurd q
terminals_alike dialect old new source [] (t ∷ ts) us p q = absurd p
terminals_alike dialect old new source (token ∷ tokens) [] us p q = absurd p
terminals_alike dialect old new source (token ∷ tokens) (t ∷ ts) [] p q = absurd q
terminals_alike dialect old new source (token ∷ tokens) (t ∷ ts) (u ∷ us) p q =
    ((q.0.sort ∙ sym p.0.sort, q.0.special ∙ sym p.0.special), terminals_alike dialect old new source tokens ts us p.1 q.1)

module _ (dialect : Dialect) (old new : List Text) (text : List ℕ) (tokens others : List Token) (ts us : List Terminal) (p : IsLexed dialect old text tokens ts) (q : IsLexed dialect new text others us) where
  same_tokens : tokens ≡ others
  same_tokens = tokens_unique dialect text tokens others p.tokens_are q.tokens_are

  pub lexed_alike : ArePairs LooksSame ts us
  lexed_alike = terminals_alike dialect old new text tokens ts us p.terminals_are (subst (λ (x : List Token). AreTerminals dialect new text x us) (sym same_tokens) q.terminals_are)

-- ---- the terminal that is refused

-- two places are one, or both are past the last terminal
abbrev pub AreOnePlace : ℕ → ℕ → ℕ → Type 0
AreOnePlace count j k = (j ≡ k) ⊎ ((count ≤ j) × (count ≤ k))

one_place : (count j k : ℕ) → (j < k → count ≤ j) → (k < j → count ≤ k) → AreOnePlace count j k
one_place count j k before after = elim (compared j k) [
  | Same same ↦ inl same
  | Below less ↦ let far = before less in inr (far, omega (arith, less, far))
  | Above more ↦ let far = after more in inr (omega (arith, more, far), far)
]

-- past the last token there is one byte, the text's length
byte_past : (source : List ℕ) (tokens : List Token) (k : ℕ) → length tokens ≤ k → byte_of source tokens k ≡ length source
byte_past source tokens k far = ap (λ (token : Option Token). unwrap_or (option_map (λ (t : Token). t.span.from) token) (length source)) (past tokens k far)

same_byte : (source : List ℕ) (tokens : List Token) (j k : ℕ) → AreOnePlace (length tokens) j k → byte_of source tokens j ≡ byte_of source tokens k
same_byte source tokens j k (inl same) = ap (byte_of source tokens) same
same_byte source tokens j k (inr (far, far')) = byte_past source tokens j far ∙ sym (byte_past source tokens k far')

-- the places at which two languages, of which each follows the other, refuse one text with two lists of names
module _ {A : Type 0} {L M : List Terminal → A → List Terminal → Type 0} (there : Follows L M) (back : Follows M L) (dialect : Dialect) (old new : List Text) (text : List ℕ) (tokens others : List Token) (ts us : List Terminal) (j k : ℕ) (p : IsLexed dialect old text tokens ts) (q : IsLexed dialect new text others us) (place : Place L ts j) (place' : Place M us k) where
  counts : (length ts ≡ length tokens) × (length us ≡ length tokens)
  counts = (
    length-AreTerminals dialect old text tokens ts p.terminals_are,
    length-AreTerminals dialect new text others us q.terminals_are ∙ ap length (sym (same_tokens dialect old new text tokens others ts us p q)),
  )

  pub same_place : AreOnePlace (length tokens) j k
  same_place =
      let pairs = lexed_alike dialect old new text tokens others ts us p q in
      one_place (length tokens) j k
      (λ less. let far = not_before back ts us j k (pairs_back ts us pairs) place place' less in omega (arith, far, counts.0))
      (λ more. let far = not_before there us ts k j pairs place' place more in omega (arith, far, counts.1))

  pub same_refused_byte : byte_of text tokens j ≡ byte_of text others k
  same_refused_byte = same_byte text tokens j k same_place ∙ ap (λ (x : List Token). byte_of text x k) (same_tokens dialect old new text tokens others ts us p q)
