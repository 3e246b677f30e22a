-- How deep brackets stand in the text of the soak's design, by its tokens, found one after another. This project's.
use Rattle.std.proofs.Common.{◌≡◌, ℕ, zero, suc, ◌≤◌, ◌^◌, Bool, true, false, cond, ◌&&◌, ltb, leb, ltb-true, leb-true, List, [], ◌∷◌, length, take, drop, Option, None, Some, refl, subst}
use Rattle.std.specs.Option.{option_map, option_map_or}
use Rattle.std.specs.Fmt.{digits}
use Rattle.std.proofs.lemmas.Option.{same_Some}
use Rattle.hw_lex.specs.Byte.{is_blank}
use Rattle.hw_lex.specs.Cut.{Cuts, place, token_texts}
use Rattle.hw_lex.specs.inside.Front.{front_word}
use Rattle.hw_lex.specs.Gap.{Gap, blank, more, none}
use Rattle.hw_lex.specs.Nesting.{nesting_of}
use Rattle.hw_lex.specs.Number.{Fits, number_of, value_of, width_of}
use Rattle.hw_lex.specs.declared.token.Dialect.TheVariants.{Fil}
use Rattle.hw_lex.specs.declared.token.Kind.{Kind}
use Rattle.hw_lex.specs.declared.token.Kind.TheVariants as kinds
use Rattle.hw_lex.specs.declared.token.Token.{Token}
use Rattle.hw_lex.proofs.Fronts.{and_true, by_test}
use Rattle.hw_lex.proofs.Words.{front_some}
use Rattle.hw_names.specs.Name.{Text}
use Rattle.fil_parse.specs.Layout.{fil_text}
use Rattle.fil_parse.specs.Spelling.{KeepsNesting}
use Rattle.filc_run.specs.Soaked.{soak_design}

-- a text without the blanks at its front
abbrev unspaced : List ℕ → List ℕ
unspaced [] = []
unspaced (byte ∷ bytes) = cond (is_blank byte) (unspaced bytes) (byte ∷ bytes)

unspaced_gap : (text : List ℕ) → Gap text (unspaced text)
unspaced_gap [] = none
unspaced_gap (byte ∷ bytes) =
    by_test (λ v. is_blank byte ≡ v → Gap (byte ∷ bytes) (cond v (unspaced bytes) (byte ∷ bytes))) (is_blank byte) (λ _ is. more (blank is) (unspaced_gap bytes)) (λ _ is. none) refl

-- the numbers of a token are small
abbrev is_small : Kind → List ℕ → Bool
is_small kinds.Number bytes = ltb (number_of bytes) (2 ^ 128)
is_small kinds.Literal bytes = ltb (width_of bytes) (2 ^ 128) && ltb (value_of bytes) (2 ^ 128)
is_small kind bytes = true

small_fits : (kind : Kind) (bytes : List ℕ) → is_small kind bytes ≡ true → Fits kind bytes
small_fits kinds.Name bytes small = tt
small_fits kinds.Number bytes small = ltb-true (number_of bytes) (2 ^ 128) small
small_fits kinds.Literal bytes small =
    let both = and_true (ltb (width_of bytes) (2 ^ 128)) (ltb (value_of bytes) (2 ^ 128)) small in
    (ltb-true (width_of bytes) (2 ^ 128) both.0, ltb-true (value_of bytes) (2 ^ 128) both.1)
small_fits kinds.Text bytes small = tt
small_fits kinds.Mark bytes small = tt

-- the token at the front of a text of so many bytes, and then those of the rest
abbrev token_first : ℕ → (List ℕ → Option (List Token)) → List ℕ → Kind × ℕ → Option (List Token)
token_first size later at (kind, len) =
    cond (is_small kind (take len at)) (option_map (λ (tokens : List Token). record { kind = kind; span = record { from = place size at; to = place size (drop len at) } } ∷ tokens) (later (drop len at))) None

abbrev tokens_at : ℕ → (List ℕ → Option (List Token)) → List ℕ → Option (Kind × ℕ) → Option (List Token)
tokens_at size later [] word = Some []
tokens_at size later (byte ∷ bytes) None = None
tokens_at size later (byte ∷ bytes) (Some word) = token_first size later (byte ∷ bytes) word

-- the tokens of a text, if it has at most so many, and no comments
abbrev tokens_of : ℕ → ℕ → List ℕ → Option (List Token)
tokens_of zero size text = None
tokens_of (suc most) size text = tokens_at size (tokens_of most size) (unspaced text) (front_word Fil (unspaced text))

-- they are that
abbrev AreCut : ℕ → List ℕ → Option (List Token) → Type 0
AreCut size text found = (tokens : List Token) → found ≡ Some tokens → Cuts Fil size text tokens []

-- one more before those of the rest
abbrev token_at : ℕ → List ℕ → Kind → ℕ → Token
token_at size at kind len = record { kind = kind; span = record { from = place size at; to = place size (drop len at) } }

cut_first : (size : ℕ) (later : List ℕ → Option (List Token)) → ((text : List ℕ) → AreCut size text (later text)) → (text at : List ℕ) → Gap text at → (kind : Kind) (len : ℕ) → front_word Fil at ≡ Some (kind, len) → AreCut size text (token_first size later at (kind, len))
cut_first size later so text at gap kind len is tokens found =
    by_test (λ v. is_small kind (take len at) ≡ v → cond v (option_map (λ (ts : List Token). token_at size at kind len ∷ ts) (later (drop len at))) None ≡ Some tokens → Cuts Fil size text tokens []) (is_small kind (take len at))
    (λ _ small some. by (later (drop len at)) refl small some)
    (λ _ large some. absurd (let none : ◌≡◌ {A = Option (List Token)} None (Some tokens) = some in cc none)) refl found
  where
    by : (o : Option (List Token)) → later (drop len at) ≡ o → is_small kind (take len at) ≡ true → option_map (λ (ts : List Token). token_at size at kind len ∷ ts) o ≡ Some tokens → Cuts Fil size text tokens []
    by None told small some = absurd (let none : ◌≡◌ {A = Option (List Token)} None (Some tokens) = some in cc none)
    by (Some ts) told small some =
        let stands = (front_some Fil at kind len is (small_fits kind (take len at) small)).0 in
        subst (λ (all : List Token). Cuts Fil size text all []) (same_Some (token_at size at kind len ∷ ts) tokens some)
        (drop len at, record { at = at; gap = gap; stands = stands; from = refl; to = refl }, so (drop len at) ts told)

cut_at : (size : ℕ) (later : List ℕ → Option (List Token)) → ((text : List ℕ) → AreCut size text (later text)) → (text at : List ℕ) → Gap text at → (word : Option (Kind × ℕ)) → front_word Fil at ≡ word → AreCut size text (tokens_at size later at word)
cut_at size later so text [] gap word is tokens found = subst (λ (ts : List Token). Cuts Fil size text ts []) (same_Some [] tokens found) gap
cut_at size later so text (byte ∷ bytes) gap None is tokens found = absurd (let none : ◌≡◌ {A = Option (List Token)} None (Some tokens) = found in cc none)
cut_at size later so text (byte ∷ bytes) gap (Some (kind, len)) is tokens found = cut_first size later so text (byte ∷ bytes) gap kind len is tokens found

cut_so : (most size : ℕ) (text : List ℕ) → AreCut size text (tokens_of most size text)
cut_so zero size text tokens found = absurd (let none : ◌≡◌ {A = Option (List Token)} None (Some tokens) = found in cc none)
cut_so (suc most) size text tokens found = cut_at size (tokens_of most size) (cut_so most size) text (unspaced text) (unspaced_gap text) (front_word Fil (unspaced text)) refl tokens found

-- ---- the design's canonical text

abbrev pub soak_text : Text
soak_text = fil_text soak_design

abbrev found : Option (List Token)
found = tokens_of 500 (length soak_text) soak_text

abbrev is_shallow : Option (List Token) → Bool
is_shallow o = option_map_or (λ (tokens : List Token). leb (nesting_of (token_texts soak_text tokens)) 64) o false

shallow : is_shallow found ≡ true
unfolding digits
shallow = refl

-- brackets keep the limit
pub soak_nesting : KeepsNesting soak_text
soak_nesting = by found refl shallow
  where
    by : (o : Option (List Token)) → found ≡ o → is_shallow o ≡ true → KeepsNesting soak_text
    by None told is = absurd (let none : false ≡ true = is in cc none)
    by (Some tokens) told is =
        let few : nesting_of (token_texts soak_text tokens) ≤ 64 = leb-true (nesting_of (token_texts soak_text tokens)) 64 is in
        (nesting_of (token_texts soak_text tokens), (tokens, cut_so 500 (length soak_text) soak_text tokens told, refl), few)
