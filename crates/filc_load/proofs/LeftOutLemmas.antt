-- Where a text is refused at a word that is left out, that word stands there.
use Rattle.std.proofs.Common.{◌≡◌, ℕ, zero, suc, ◌-◌, ◌≤◌, Bool, true, not, ◌||◌, cond, List, [], ◌∷◌, ◌++◌, length, take, drop, Option, Some, None, unwrap_or, option_map, refl, sym, ap, subst, ◌∙◌, arith, ⊎_elim}
use Rattle.std.specs.Prelude.{Contains, slice_get}
use Rattle.std.specs.List.{list_all, list_any}
use Rattle.std.specs.Str.{bytes_eq}
use Rattle.std.proofs.lemmas.Bool.{false≢true}
use Rattle.std.proofs.lemmas.Bool.Decides.{Decides-eqb}
use Rattle.std.proofs.lemmas.List.{take-append-drop}
use Rattle.std.proofs.lemmas.Option.{get_or_from_slice_get, slice_get_within}
use Rattle.std.proofs.lemmas.Slice.Eq.{bytes_eq-Decides, starts_is}
use Rattle.hw_names.specs.Name.{Text}
use Rattle.hw_lex.specs.declared.token.Dialect.TheVariants.{Cal}
use Rattle.hw_lex.specs.declared.token.Kind.{Kind}
use Rattle.hw_lex.specs.declared.token.Kind.TheVariants as kinds
use Rattle.hw_lex.specs.declared.token.Token.{Token}
use Rattle.hw_lex.specs.Cut.{token_text}
use Rattle.hw_lex.proofs.Cuts.{IsTokenOf, token_of}
use Rattle.hw_lex.proofs.Fronts.{by_test, and_true, or_true, not_true, clash}
use Rattle.hw_grammar.specs.declared.sort.Sort.{Sort}
use Rattle.hw_grammar.specs.declared.sort.Sort.TheVariants as sorts
use Rattle.hw_grammar.specs.declared.terminal.Terminal.{Terminal}
use Rattle.hw_grammar.specs.Sort.{has_sort, has}
use Rattle.hw_grammar.specs.Terminals.{keywords, marks, entry_of, sort_of, IsTerminal, AreTerminals}
use Rattle.cal_parse.specs.Spelling.{EndsBy, IsRefusedAt, left_out, is_left_out}
use Rattle.cal_parse.specs.declared.parse.CalTextEnd.TheVariants as ends
use Rattle.filc_load.specs.CalFile.{LeavesOutAt, first_word, left_out_words}

-- ---- the sort of a word that is left out

abbrev is_known : Text → Bool
is_known word = list_any (λ (known : Text). bytes_eq known word) left_out_words

-- a word with the sort of one that is left out is one of these words
abbrev tells_word : Text → Sort → Bool
tells_word word sort = not (has_sort sort left_out) || is_known word

row_tells : (table : List (Text × Sort)) (word : Text) (default : Sort) → list_all (λ (row : Text × Sort). tells_word row.0 row.1) table ≡ true → tells_word word default ≡ true
    → tells_word word (unwrap_or (entry_of table word) default) ≡ true
row_tells [] word default all by_default = by_default
row_tells (row ∷ table) word default all by_default =
    let both = and_true (tells_word row.0 row.1) (list_all (λ (other : Text × Sort). tells_word other.0 other.1) table) all in
    by_test (λ v. tells_word word (unwrap_or (cond v (Some row.1) (entry_of table word)) default) ≡ true) (bytes_eq row.0 word)
    (λ same. subst (λ (text : Text). tells_word text row.1 ≡ true) ((bytes_eq-Decides row.0 word).0 same) both.0)
    (λ other. row_tells table word default both.1 by_default)

sort_tells : (kind : Kind) (word : Text) → tells_word word (sort_of Cal kind word) ≡ true
sort_tells kinds.Name word = row_tells (keywords Cal) word sorts.Name refl refl
sort_tells kinds.Number word = refl
sort_tells kinds.Literal word = refl
sort_tells kinds.Text word = refl
sort_tells kinds.Mark word = row_tells marks word sorts.Text refl refl

word_known : (kind : Kind) (word : Text) (sort : Sort) → sort ≡ sort_of Cal kind word → has_sort sort left_out ≡ true → is_known word ≡ true
word_known kind word sort is left =
    let left_there : has_sort (sort_of Cal kind word) left_out ≡ true = subst (λ (s : Sort). has_sort s left_out ≡ true) is left in
    ⊎_elim (λ kept. absurd (clash left_there (not_true (has_sort (sort_of Cal kind word) left_out) kept))) (λ known. known)
    (or_true (not (has_sort (sort_of Cal kind word) left_out)) (is_known word) (sort_tells kind word))

-- ---- the token that is refused

-- the token with this number, with its terminal, is such a word
record IsLeftOut (names : List Text) (source : Text) (tokens : List Token) (k : ℕ) : Type 0 where
  pub token : Token
  pub at : slice_get tokens k ≡ Some token
  pub terminal : Terminal
  pub is : IsTerminal Cal names token.kind (token_text source token) terminal
  pub left : has_sort terminal.sort left_out ≡ true

found : (names : List Text) (source : Text) (tokens : List Token) (ts : List Terminal) (k : ℕ) → AreTerminals Cal names source tokens ts → has left_out (drop k ts) ≡ true → IsLeftOut names source tokens k
found names source [] [] zero are left = absurd (false≢true left)
found names source [] [] (suc k) are left = absurd (false≢true left)
found names source [] (t ∷ ts) k are left = absurd are
found names source (token ∷ tokens) [] k are left = absurd are
found names source (token ∷ tokens) (t ∷ ts) zero are left = record { token = token; at = refl; terminal = t; is = are.0; left = left }
found names source (token ∷ tokens) (t ∷ ts) (suc k) are left =
    let rest = found names source tokens ts k are.1 left in record { token = rest.token; at = rest.at; terminal = rest.terminal; is = rest.is; left = rest.left }

-- one of the words stands at this byte
record StandsAt (text : Text) (at : ℕ) : Type 0 where
  pub word : Text
  pub after : Text
  pub known : is_known word ≡ true
  pub stands : drop at text ≡ word ++ after
  pub within : at ≤ length text

stands_at : (text : Text) (at : ℕ) (refusal : IsRefusedAt text at) → is_left_out refusal ≡ true → StandsAt text at
stands_at text at refusal left =
    let t = found refusal.names text refusal.tokens refusal.terminals refusal.place refusal.lexed.terminals_are left in
    let from = t.token.span.from in
    let count = t.token.span.to - from in
    let place : at ≡ from = refusal.byte ∙ ap (λ (token : Option Token). unwrap_or (option_map (λ (x : Token). x.span.from) token) (length text)) t.at in
    let is : IsTokenOf Cal text t.token =
    subst (IsTokenOf Cal text) (get_or_from_slice_get refusal.tokens refusal.place t.token t.token t.at)
    (token_of Cal text refusal.tokens refusal.lexed.tokens_are refusal.place t.token (slice_get_within refusal.tokens refusal.place t.token t.at)) in
    let order = is.order in
    let within = is.within in
    record {
      word = token_text text t.token;
      after = drop count (drop from text);
      known = word_known t.token.kind (token_text text t.token) t.terminal.sort t.is.sort t.left;
      stands = ap (λ (k : ℕ). drop k text) place ∙ sym (take-append-drop count (drop from text));
      within = omega (arith, place, order, within);
    }

-- ---- the first word that stands there

first_is : (words : List Text) (text word : Text) → first_word words text ≡ Some word → Contains words word × (text ≡ word ++ drop (length word) text)
first_is [] text word is = absurd (cc is)
first_is (first ∷ words) text word is =
    by_test (λ v. cond v (Some first) (first_word words text) ≡ Some word → Contains (first ∷ words) word × (text ≡ word ++ drop (length word) text)) (bytes_eq first (take (length first) text))
    (λ same here.
    let e : first ≡ word = cc here in
    subst (λ (w : Text). Contains (first ∷ words) w × (text ≡ w ++ drop (length w) text)) e ((0, omega arith, refl), (starts_is Decides-eqb text first (bytes_eq first (take (length first) text)) refl).0 same))
    (λ other here.
    let rest = first_is words text word here in
    let within = rest.0.1 in
    ((suc rest.0.0, omega (arith, within), rest.0.2), rest.1))
    is

none_first : (words : List Text) (text word after : Text) → list_any (λ (known : Text). bytes_eq known word) words ≡ true → text ≡ word ++ after → first_word words text ≡ None → ⊥
none_first [] text word after known is none = false≢true known
none_first (first ∷ words) text word after known is none =
    by_test (λ v. cond v (Some first) (first_word words text) ≡ None → ⊥) (bytes_eq first (take (length first) text))
    (λ same here. cc here)
    (λ other here.
    ⊎_elim
    (λ same.
    let e : text ≡ first ++ after = is ∙ ap (λ (w : Text). w ++ after) (sym ((bytes_eq-Decides first word).0 same)) in
    clash ((starts_is Decides-eqb text first (bytes_eq first (take (length first) text)) refl).1 after e) other)
    (λ later. none_first words text word after later is here)
    (or_true (bytes_eq first word) (list_any (λ (w : Text). bytes_eq w word) words) known))
    none

-- ---- for the code

-- the place is one in the text
pub left_out_within : (text : Text) (at : ℕ) → EndsBy text (ends.LeftOut at) → at ≤ length text
left_out_within text at end = (stands_at text at end.1.0 end.1.1).within

-- one of the words is found there
pub left_out_found : (text : Text) (at : ℕ) → EndsBy text (ends.LeftOut at) → first_word left_out_words (drop at text) ≡ None → ⊥
left_out_found text at end none = let s = stands_at text at end.1.0 end.1.1 in none_first left_out_words (drop at text) s.word s.after s.known s.stands none

-- what is found stands there
pub left_out_stands : (text : Text) (at : ℕ) (word : Text) → first_word left_out_words (drop at text) ≡ Some word → LeavesOutAt text at word
left_out_stands text at word is =
    let first = first_is left_out_words (drop at text) word is in record { known = first.0; after = drop (length word) (drop at text); stands = first.1 }
