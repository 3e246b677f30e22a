-- A text has tokens, or a byte at which nothing starts.
use Rattle.std.proofs.Common.{ℕ, zero, suc, ◌<◌, ◌⊎◌, inl, inr, List, [], ◌∷◌, length, refl, subst, arith}
use Rattle.hw_lex.proofs.Cuts.{IsEnd}
use Rattle.hw_lex.proofs.Gaps.{Space-shorter}
use Rattle.hw_lex.proofs.Words.{Stands-longer}
use Rattle.hw_lex.specs.Cut.{AreTokens, Cuts, FaultsAt, place}
use Rattle.hw_lex.specs.Gap.{Space, none, more}
use Rattle.hw_lex.specs.Word.{Stands}
use Rattle.hw_lex.specs.declared.token.Dialect.{Dialect}
use Rattle.hw_lex.specs.declared.token.Kind.{Kind}
use Rattle.hw_lex.specs.declared.token.Token.{Token}
use Rattle.filc_laws.proofs.existence.Classical.{sure, so, by_cases}
use Rattle.filc_laws.specs.Classically.{Classically}

module _ (dialect : Dialect) (size : ℕ) where
  -- a cut that can't go on
  record EndsCut (text : List ℕ) : Type 0 where
    pub tokens : List Token
    pub rest : List ℕ
    pub cuts : Cuts dialect size text tokens rest
    pub is_end : IsEnd dialect rest

  -- a blank or a comment goes to the front
  after_space : (text mid : List ℕ) (tokens : List Token) (rest : List ℕ) → Space text mid → Cuts dialect size mid tokens rest → Cuts dialect size text tokens rest
  after_space text mid [] rest space cuts = more space cuts
  after_space text mid (token ∷ tokens) rest space (after, t, cuts) =
      (after, record { at = t.at; gap = more space t.gap; stands = t.stands; from = t.from; to = t.to }, cuts)

  with_space : (text mid : List ℕ) → Space text mid → EndsCut mid → EndsCut text
  with_space text mid space c = record { tokens = c.tokens; rest = c.rest; cuts = after_space text mid c.tokens c.rest space c.cuts; is_end = c.is_end }

  -- a token goes to the front
  with_token : (text after : List ℕ) (kind : Kind) → Stands dialect kind text after → EndsCut after → EndsCut text
  with_token text after kind stands c =
      let token : Token = record { kind = kind; span = record { from = place size text; to = place size after } } in
      record {
        tokens = token ∷ c.tokens;
        rest = c.rest;
        cuts = (after, record { at = text; gap = none; stands = stands; from = refl; to = refl }, c.cuts);
        is_end = c.is_end;
      }

  cut_text : (n : ℕ) (text : List ℕ) → length text < n → Classically (EndsCut text)
  cut_text zero text within = absurd (omega (arith, within))
  cut_text (suc n) text within =
      by_cases ((kind : Kind) × (after : List ℕ) × Stands dialect kind text after)
      (λ (kind, after, stands). let shorter = Stands-longer dialect kind text after stands in so (cut_text n after (omega (arith, within, shorter))) (with_token text after kind stands))
      (λ no_token. by_cases ((mid : List ℕ) × Space text mid)
      (λ (mid, space). let shorter = Space-shorter text mid space in so (cut_text n mid (omega (arith, within, shorter))) (with_space text mid space))
      (λ no_space. sure (record {
        tokens = [];
        rest = text;
        cuts = none;
        is_end = inr (record { no_token = λ kind after stands. no_token (kind, after, stands); no_space = λ mid space. no_space (mid, space) });
      })))

-- tokens, or the first fault
abbrev pub IsCut : Dialect → List ℕ → Type 0
IsCut dialect text = ((tokens : List Token) × AreTokens dialect text tokens) ⊎ ((at : ℕ) × FaultsAt dialect text at)

cut_of : (dialect : Dialect) (text : List ℕ) (tokens : List Token) (rest : List ℕ) → Cuts dialect (length text) text tokens rest → IsEnd dialect rest → IsCut dialect text
cut_of dialect text tokens rest cuts (inl all) = inl (tokens, subst (λ (r : List ℕ). Cuts dialect (length text) text tokens r) all cuts)
cut_of dialect text tokens [] cuts (inr nothing) = inl (tokens, cuts)
cut_of dialect text tokens (c ∷ rest) cuts (inr nothing) =
    inr (place (length text) (c ∷ rest), record { tokens = tokens; rest = c ∷ rest; before = cuts; more = λ e. cc; nothing = nothing; place_is = refl })

pub is_cut : (dialect : Dialect) (text : List ℕ) → Classically (IsCut dialect text)
is_cut dialect text = so (cut_text dialect (length text) (suc (length text)) text (omega arith)) (λ c. cut_of dialect text c.tokens c.rest c.cuts c.is_end)
