-- Tokens have terminals, and terminals spell a value or are refused at a place.
use Rattle.std.proofs.Common.{◌≡◌, ℕ, ◌+◌, ◌⊎◌, inl, inr, Bool, true, false, List, [], ◌∷◌, ◌++◌, length, map, Some, refl, sym, ap, ◌∙◌, append_assoc}
use Rattle.std.specs.Prelude.{slice_get, MatchBool}
use Rattle.hw_grammar.specs.Grammar.{Lang}
use Rattle.hw_grammar.specs.Place.{Spells, Viable, Place}
use Rattle.hw_grammar.specs.Sort.{same_sort}
use Rattle.hw_grammar.specs.Terminals.{AreTerminals, sort_of, special_of, width_at, value_at}
use Rattle.hw_grammar.specs.declared.sort.Sort.TheVariants.{Name}
use Rattle.hw_grammar.specs.declared.terminal.Terminal.{Terminal}
use Rattle.hw_lex.specs.Cut.{token_text}
use Rattle.hw_lex.specs.declared.token.Dialect.{Dialect}
use Rattle.hw_lex.specs.declared.token.Token.{Token}
use Rattle.hw_names.specs.Name.{Text}
use Rattle.filc_laws.proofs.existence.Classical.{sure, so, by_cases, greatest}
use Rattle.filc_laws.specs.Classically.{Classically}

-- ---- terminals

-- the number of a word, and 0 for what is no name
number_for : Bool → ℕ → ℕ
number_for true k = k
number_for false k = 0

has_number : (names : List Text) (word : Text) (b : Bool) (k : ℕ) → slice_get names k ≡ Some word → MatchBool b (slice_get names (number_for b k) ≡ Some word) (number_for b k ≡ 0)
unfolding number_for
has_number names word true k at = at
has_number names word false k at = refl

at_seam : (before more : List Text) (word : Text) → slice_get (before ++ word ∷ more) (length before) ≡ Some word
at_seam [] more word = refl
at_seam (first ∷ before) more word = at_seam before more word

module _ (dialect : Dialect) (source : List ℕ) where
  abbrev pub words_of : List Token → List Text
  words_of tokens = map (token_text source) tokens

  -- the terminal of a token whose word has this number
  terminal_of : Token → ℕ → Terminal
  terminal_of token k =
      let sort = sort_of dialect token.kind (token_text source token) in
      record {
        sort = sort;
        name = record { 0 = number_for (same_sort sort Name) k };
        special = special_of token.kind (token_text source token);
        width = width_at token.kind (token_text source token);
        value = value_at token.kind (token_text source token);
      }

  terminals_from : (before : List Text) (tokens : List Token) (names : List Text) → names ≡ before ++ words_of tokens → (ts : List Terminal) × AreTerminals dialect names source tokens ts
  unfolding terminal_of
  terminals_from before [] names is = ([], tt)
  terminals_from before (token ∷ tokens) names is =
      let word = token_text source token in
      let more = terminals_from (before ++ word ∷ []) tokens names (is ∙ sym (append_assoc before (word ∷ []) (words_of tokens))) in
      let sort = sort_of dialect token.kind word in
      let at : slice_get names (length before) ≡ Some word = ap (λ (ns : List Text). slice_get ns (length before)) is ∙ at_seam before (words_of tokens) word in (
        terminal_of token (length before) ∷ more.0,
        (record { sort = refl; name = has_number names word (same_sort sort Name) (length before) at; special = refl; width = refl; value = refl }, more.1),
      )

  -- each word of the tokens is a name of its own
  pub terminals_for : (tokens : List Token) → (ts : List Terminal) × AreTerminals dialect (words_of tokens) source tokens ts
  terminals_for tokens = terminals_from [] tokens (words_of tokens) refl

-- ---- places

-- the terminals spell a value, or are refused at a place
abbrev pub IsJudged : {A : Type 0} → Lang A → List Terminal → Type 0
IsJudged {A} L ts = ((a : A) × Spells L ts a) ⊎ ((k : ℕ) × Place L ts k)

pub is_judged : {A : Type 0} (L : Lang A) (ts whole : List Terminal) (a : A) → Spells L whole a → Classically (IsJudged L ts)
is_judged {A} L ts whole a spells =
    by_cases ((b : A) × Spells L ts b)
    (λ has. sure (inl has))
    (λ none. so (greatest (Viable L ts) (length ts) (whole, a, spells, whole, refl)) (λ g. inr (g.at, (g.has, (λ (more, less). g.past less more), λ b here. none (b, here)))))
