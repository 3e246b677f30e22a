-- Terminals of tokens.
use Rattle.std.proofs.Common.{◌≡◌, ℕ, zero, suc, ◌+◌, ◌<◌, Bool, true, false, cond, List, [], ◌∷◌, ◌++◌, length, take, Option, Some, refl, ap, subst, ◌∙◌, unwrap_or, option_map, arith}
use Rattle.std.specs.Prelude.{slice_get, MatchBool}
use Rattle.std.specs.List.{list_all}
use Rattle.std.specs.Str.{bytes_eq}
use Rattle.std.proofs.lemmas.Option.{slice_get-map}
use Rattle.hw_names.specs.Name.{Text, KeepsTexts}
use Rattle.hw_lex.specs.declared.token.Dialect.{Dialect}
use Rattle.hw_lex.specs.declared.token.Kind.{Kind}
use Rattle.hw_lex.specs.declared.token.Token.{Token}
use Rattle.hw_lex.specs.Cut.{token_text, token_texts}
use Rattle.hw_lex.proofs.Nestings.{take-get}
use Rattle.hw_lex.proofs.Fronts.{by_test, and_true}
use Rattle.hw_grammar.specs.declared.sort.Sort.{Sort}
use Rattle.hw_grammar.specs.declared.sort.Sort.TheVariants as sorts
use Rattle.hw_grammar.specs.declared.terminal.Terminal.{Terminal}
use Rattle.hw_grammar.specs.Sort.{same_sort}
use Rattle.hw_grammar.specs.Terminals.{marks, entry_of, IsTerminal, AreTerminals}

-- what holds in each row of a table and by default holds of what the table says
row_all : {A : Type 0} (p : A → Bool) (table : List (Text × A)) (word : Text) (default : A) → list_all (λ row. p row.1) table ≡ true → p default ≡ true → p (unwrap_or (entry_of table word) default) ≡ true
row_all p [] word default h d = d
row_all p (row ∷ table) word default h d =
    let t = and_true (p row.1) (list_all (λ row. p row.1) table) h in
    by_test (λ v. p (unwrap_or (cond v (Some row.1) (entry_of table word)) default) ≡ true) (bytes_eq row.0 word)
    (λ _. t.0)
    (λ _. row_all p table word default t.1 d)

abbrev is_no_name : Sort → Bool
is_no_name sort = cond (same_sort sort sorts.Name) false true

no_name : (sort : Sort) → is_no_name sort ≡ true → same_sort sort sorts.Name ≡ false
no_name sort h = by_test (λ v. cond v false true ≡ true → v ≡ false) (same_sort sort sorts.Name) (λ _ h. absurd cc) (λ _ h. refl) h

pub mark_no_name : (word : Text) → same_sort (unwrap_or (entry_of marks word) sorts.Text) sorts.Name ≡ false
mark_no_name word = no_name _ (row_all is_no_name marks word sorts.Text refl refl)

-- a terminal of the token with a number is that of the token which is found there
pub terminal_found : (dialect : Dialect) (names : List Text) (source : List ℕ) (tokens : List Token) (i : ℕ) (word : Text) (token : Token) (t : Terminal) → slice_get (token_texts source tokens) i ≡ Some word → slice_get tokens i ≡ Some token
    → IsTerminal dialect names token.kind word t → (other : Token) → slice_get tokens i ≡ Some other → IsTerminal dialect names other.kind (token_text source other) t
terminal_found dialect names source tokens i word token t w k is other o =
    let same : token ≡ other = cc in
    let m : slice_get (token_texts source tokens) i ≡ Some (token_text source token) = slice_get-map (token_text source) tokens i ∙ ap (λ (x : Option Token). option_map (token_text source) x) k in
    let text : word ≡ token_text source token = cc in
    subst (λ (x : Token). IsTerminal dialect names x.kind (token_text source x) t) same (subst (λ (x : Text). IsTerminal dialect names token.kind x t) text is)

-- names that are added change no terminal
pub IsTerminal-kept : (dialect : Dialect) (old new : List Text) (kind : Kind) (word : Text) (t : Terminal) → KeepsTexts old new → IsTerminal dialect old kind word t → IsTerminal dialect new kind word t
IsTerminal-kept dialect old new kind word t kept is = record {
  sort = is.sort;
  name = by_test (λ v. MatchBool v (slice_get old t.name.0 ≡ Some word) (t.name.0 ≡ 0) → MatchBool v (slice_get new t.name.0 ≡ Some word) (t.name.0 ≡ 0)) (same_sort t.sort sorts.Name)
      (λ _ n. kept t.name.0 word n)
      (λ _ n. n)
      is.name;
  special = is.special;
  width = is.width;
  value = is.value;
}

pub AreTerminals-kept : (dialect : Dialect) (old new : List Text) (source : List ℕ) (tokens : List Token) (ts : List Terminal) → KeepsTexts old new → AreTerminals dialect old source tokens ts → AreTerminals dialect new source tokens ts
AreTerminals-kept dialect old new source [] [] kept are = tt
AreTerminals-kept dialect old new source [] (t ∷ ts) kept are = absurd are
AreTerminals-kept dialect old new source (token ∷ tokens) [] kept are = absurd are
AreTerminals-kept dialect old new source (token ∷ tokens) (t ∷ ts) kept are =
    (IsTerminal-kept dialect old new token.kind (token_text source token) t kept are.0, AreTerminals-kept dialect old new source tokens ts kept are.1)

-- one more
pub AreTerminals-push : (dialect : Dialect) (names : List Text) (source : List ℕ) (tokens : List Token) (ts : List Terminal) (token : Token) (t : Terminal) → AreTerminals dialect names source tokens ts → IsTerminal dialect names token.kind (token_text source token) t
    → AreTerminals dialect names source (tokens ++ token ∷ []) (ts ++ t ∷ [])
AreTerminals-push dialect names source [] [] token t are is = (is, tt)
AreTerminals-push dialect names source [] (u ∷ ts) token t are is = absurd are
AreTerminals-push dialect names source (first ∷ tokens) [] token t are is = absurd are
AreTerminals-push dialect names source (first ∷ tokens) (u ∷ ts) token t are is = (are.0, AreTerminals-push dialect names source tokens ts token t are.1 is)

pub KeepsTexts-then : (a b c : List Text) → KeepsTexts a b → KeepsTexts b c → KeepsTexts a c
KeepsTexts-then a b c p q = λ i text e. q i text (p i text e)

pub KeepsTexts-same : (a : List Text) → KeepsTexts a a
KeepsTexts-same a = λ i text e. e

get_some : {X : Type 0} (xs : List X) (i : ℕ) → i < length xs → (x : X) × (slice_get xs i ≡ Some x)
get_some [] i lt = absurd (omega arith)
get_some (x ∷ xs) zero lt = (x, refl)
get_some (x ∷ xs) (suc i) lt = get_some xs i (omega arith)

-- the terminals of one token more, with names that may have grown
pub AreTerminals-next : (dialect : Dialect) (old new : List Text) (source : List ℕ) (tokens : List Token) (i : ℕ) (ts : List Terminal) (t : Terminal) → i < length tokens → KeepsTexts old new → AreTerminals dialect old source (take i tokens) ts
    → ((token : Token) → slice_get tokens i ≡ Some token → IsTerminal dialect new token.kind (token_text source token) t) → AreTerminals dialect new source (take (i + 1) tokens) (ts ++ t ∷ [])
AreTerminals-next dialect old new source tokens i ts t lt kept are is =
    let token = get_some tokens i lt in
    rw (take-get tokens i token.0 token.1) (AreTerminals-push dialect new source (take i tokens) ts token.0 t (AreTerminals-kept dialect old new source (take i tokens) ts kept are) (is token.0 token.1))
