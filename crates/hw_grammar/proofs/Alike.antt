-- Terminals of one text with two lists of names: the same words and numbers, those of the language's grammar.
use Rattle.std.proofs.Common.{◌≡◌, ℕ, ◌<◌, suc, true, not, length, get_or, List, [], ◌∷◌, Some, None, unwrap_or, refl, sym, ap, subst, ◌∙◌, arith, cond, Bool}
use Rattle.std.specs.Prelude.{slice_get, MatchBool}
use Rattle.std.specs.List.{list_all, AllByRecursion}
use Rattle.std.specs.Str.{bytes_eq}
use Rattle.std.proofs.lemmas.Bool.{false≢true}
use Rattle.std.proofs.lemmas.Option.{get_or_from_slice_get}
use Rattle.hw_names.specs.Name.{Text, text_of}
use Rattle.hw_lex.specs.declared.token.Dialect.{Dialect}
use Rattle.hw_lex.specs.declared.token.Dialect.TheVariants.{Fil, Filp, Cal}
use Rattle.hw_lex.specs.declared.token.Kind.{Kind}
use Rattle.hw_lex.specs.declared.token.Kind.TheVariants as kinds
use Rattle.hw_lex.specs.declared.token.Token.{Token}
use Rattle.hw_lex.specs.Cut.{token_text}
use Rattle.hw_lex.specs.Number.{Fits}
use Rattle.hw_lex.specs.Word.{IsWord}
use Rattle.hw_lex.proofs.Cuts.{IsTokenOf, token_of, tokens_unique}
use Rattle.hw_lex.proofs.Fronts.{by_test, and_true, clash}
use Rattle.hw_grammar.specs.declared.sort.Sort.{Sort}
use Rattle.hw_grammar.specs.declared.sort.Sort.TheVariants as sorts
use Rattle.hw_grammar.specs.declared.terminal.Terminal.{Terminal}
use Rattle.hw_grammar.specs.Grammar.{AnyWord, AnyNumber, AnyLiteral}
use Rattle.hw_grammar.specs.Sort.{same_sort}
use Rattle.hw_grammar.specs.Terminals.{keywords, entry_of, sort_of, special_of, width_at, value_at, IsNumbered, IsTerminal, AreTerminals}
use Rattle.hw_grammar.specs.TextPlace.{IsLexed}
use Rattle.hw_grammar.specs.Words.{IsNameOf, IsWritten}
use Rattle.hw_grammar.proofs.TerminalLemmas.{mark_no_name}
use Rattle.hw_grammar.proofs.Passing.{ArePairs, Passes, Both, passes-one}

-- the terminal of a token with one list of names and that with another; what is written in the token is good
pub record IsAlike (dialect : Dialect) (old new : List Text) (t u : Terminal) : Type 0 where
  pub sort : u.sort ≡ t.sort
  pub special : u.special ≡ t.special
  pub meaning : t.sort ≡ sorts.Name → t.special ≡ special_of kinds.Name (text_of old t.name)
  pub word : t.sort ≡ sorts.Name → IsNameOf dialect (text_of old t.name) × (text_of old t.name ≡ text_of new u.name)
  pub width : IsWritten t.width × (t.width ≡ u.width)
  pub value : IsWritten t.value × (t.value ≡ u.value)

row_none : (table : List (Text × Sort)) (word : Text) → list_all (λ row. not (same_sort row.1 sorts.Name)) table ≡ true → unwrap_or (entry_of table word) sorts.Name ≡ sorts.Name → entry_of table word ≡ None
row_none [] word h e = refl
row_none (row ∷ table) word h e =
    let t = and_true (not (same_sort row.1 sorts.Name)) (list_all (λ row. not (same_sort row.1 sorts.Name)) table) h in
    by_test (λ v. unwrap_or (cond v (Some row.1) (entry_of table word)) sorts.Name ≡ sorts.Name → cond v (Some row.1) (entry_of table word) ≡ None) (bytes_eq row.0 word)
    (λ _ e. let same : same_sort row.1 sorts.Name ≡ true = ap (λ (s : Sort). same_sort s sorts.Name) e in absurd (false≢true (ap not (sym same) ∙ t.0)))
    (λ _ e. row_none table word t.1 e)
    e

no_keyword : (dialect : Dialect) (word : Text) → unwrap_or (entry_of (keywords dialect) word) sorts.Name ≡ sorts.Name → entry_of (keywords dialect) word ≡ None
no_keyword Fil word h = row_none (keywords Fil) word refl h
no_keyword Filp word h = row_none (keywords Filp) word refl h
no_keyword Cal word h = row_none (keywords Cal) word refl h

name_of : (dialect : Dialect) (kind : Kind) (word : Text) → IsWord dialect kind word → sort_of dialect kind word ≡ sorts.Name → IsNameOf dialect word
name_of dialect kinds.Name word w e = (w, no_keyword dialect word e)
name_of dialect kinds.Number word w e = absurd (false≢true (ap (λ (s : Sort). same_sort s sorts.Name) e))
name_of dialect kinds.Literal word w e = absurd (false≢true (ap (λ (s : Sort). same_sort s sorts.Name) e))
name_of dialect kinds.Text word w e = absurd (false≢true (ap (λ (s : Sort). same_sort s sorts.Name) e))
name_of dialect kinds.Mark word w e = absurd (clash (ap (λ (s : Sort). same_sort s sorts.Name) e) (mark_no_name word))

-- what is no name has no meaning as one
name_meaning : (dialect : Dialect) (kind : Kind) (word : Text) → sort_of dialect kind word ≡ sorts.Name → special_of kind word ≡ special_of kinds.Name word
name_meaning dialect kinds.Name word e = refl
name_meaning dialect kinds.Number word e = absurd (false≢true (ap (λ (s : Sort). same_sort s sorts.Name) e))
name_meaning dialect kinds.Literal word e = absurd (false≢true (ap (λ (s : Sort). same_sort s sorts.Name) e))
name_meaning dialect kinds.Text word e = absurd (false≢true (ap (λ (s : Sort). same_sort s sorts.Name) e))
name_meaning dialect kinds.Mark word e = absurd (clash (ap (λ (s : Sort). same_sort s sorts.Name) e) (mark_no_name word))

pub named : (names : List Text) (word : Text) (t : Terminal) → IsNumbered names word t.sort t.name → t.sort ≡ sorts.Name → text_of names t.name ≡ word
named names word t is e =
    let yes : same_sort t.sort sorts.Name ≡ true = ap (λ (s : Sort). same_sort s sorts.Name) e in
    let get : slice_get names t.name.0 ≡ Some word = subst (λ (v : Bool). MatchBool v (slice_get names t.name.0 ≡ Some word) (t.name.0 ≡ 0)) yes is in
    get_or_from_slice_get names t.name.0 word [] get

width_written : (kind : Kind) (word : Text) → Fits kind word → IsWritten (width_at kind word)
width_written kinds.Name word f = omega arith
width_written kinds.Number word f = omega arith
width_written kinds.Literal word f = f.0
width_written kinds.Text word f = omega arith
width_written kinds.Mark word f = omega arith

value_written : (kind : Kind) (word : Text) → Fits kind word → IsWritten (value_at kind word)
value_written kinds.Name word f = omega arith
value_written kinds.Number word f = f
value_written kinds.Literal word f = f.1
value_written kinds.Text word f = omega arith
value_written kinds.Mark word f = omega arith

alike : (dialect : Dialect) (old new : List Text) (kind : Kind) (word : Text) (t u : Terminal) → IsWord dialect kind word → Fits kind word → IsTerminal dialect old kind word t → IsTerminal dialect new kind word u → IsAlike dialect old new t u
alike dialect old new kind word t u w f p q = record {
  sort = q.sort ∙ sym p.sort;
  special = q.special ∙ sym p.special;
  meaning = λ e. p.special ∙ name_meaning dialect kind word (sym p.sort ∙ e) ∙ ap (special_of kinds.Name) (sym (named old word t p.name e));
  word = λ e.
      let is = named old word t p.name e in
      (subst (IsNameOf dialect) (sym is) (name_of dialect kind word w (sym p.sort ∙ e)), is ∙ sym (named new word u q.name (q.sort ∙ sym p.sort ∙ e)));
  width = (subst IsWritten (sym p.width) (width_written kind word f), p.width ∙ sym q.width);
  value = (subst IsWritten (sym p.value) (value_written kind word f), p.value ∙ sym q.value);
}

pub each_of : {X : Type 0} (P : X → Type 0) (xs : List X) → ((i : ℕ) (d : X) → i < length xs → P (get_or xs i d)) → AllByRecursion P xs
each_of P [] h = tt
each_of P (x ∷ xs) h = (h 0 x (omega arith), each_of P xs (λ i d lt. h (suc i) d (omega arith)))

pairs_of : (dialect : Dialect) (old new : List Text) (source : List ℕ) (tokens : List Token) (ts us : List Terminal) → AllByRecursion (IsTokenOf dialect source) tokens → AreTerminals dialect old source tokens ts → AreTerminals dialect new source tokens us → ArePairs (IsAlike dialect old new) ts us
pairs_of dialect old new source [] [] [] each p q = tt
pairs_of dialect old new source [] [] (u ∷ us) each p q = absurd q
pairs_of dialect old new source [] (t ∷ ts) us each p q = absurd p
pairs_of dialect old new source (token ∷ tokens) [] us each p q = absurd p
pairs_of dialect old new source (token ∷ tokens) (t ∷ ts) [] each p q = absurd q
pairs_of dialect old new source (token ∷ tokens) (t ∷ ts) (u ∷ us) each p q =
    (alike dialect old new token.kind (token_text source token) t u each.0.word each.0.fits p.0 q.0, pairs_of dialect old new source tokens ts us each.1 p.1 q.1)

-- the terminals of one text with two lists of names
pub lexed_alike : (dialect : Dialect) (old new : List Text) (source : List ℕ) (tokens others : List Token) (ts us : List Terminal) → IsLexed dialect old source tokens ts → IsLexed dialect new source others us → ArePairs (IsAlike dialect old new) ts us
lexed_alike dialect old new source tokens others ts us p q =
    let same = tokens_unique dialect source others tokens q.tokens_are p.tokens_are in
    pairs_of dialect old new source tokens ts us (each_of (IsTokenOf dialect source) tokens (token_of dialect source tokens p.tokens_are)) p.terminals_are (subst (λ (x : List Token). AreTerminals dialect new source x us) same q.terminals_are)

-- ---- names, numbers and literals

module _ (dialect : Dialect) (old new : List Text) where
  pub same_sorts : (t u : Terminal) → IsAlike dialect old new t u → u.sort ≡ t.sort
  same_sorts t u r = r.sort

  pub passes-any_word : Passes (IsAlike dialect old new) (AnyWord old) (AnyWord new) (IsNameOf dialect)
  passes-any_word ts us a rest pairs (n, (t, o, is1), is2) =
      let k = passes-one (IsAlike dialect old new) same_sorts sorts.Name (λ t. text_of old t.name) (λ u. text_of new u.name) (IsNameOf dialect) (λ t u r e. r.word e) ts us a rest pairs (t, o, is2 ∙ ap (text_of old) is1) in
      (k.0, (k.1.0, k.1.1, (k.1.2.0.name, (k.1.2.0, k.1.2.1, refl), k.1.2.2)))

  pub passes-any_number : Passes (IsAlike dialect old new) AnyNumber AnyNumber IsWritten
  passes-any_number = passes-one (IsAlike dialect old new) same_sorts sorts.Number (λ t. t.value) (λ u. u.value) IsWritten (λ t u r e. r.value)

  pub passes-any_literal : Passes (IsAlike dialect old new) AnyLiteral AnyLiteral (Both IsWritten IsWritten)
  passes-any_literal =
      passes-one (IsAlike dialect old new) same_sorts sorts.Literal (λ t. (t.width, t.value)) (λ u. (u.width, u.value)) (Both IsWritten IsWritten)
      (λ t u r e. ((r.width.0, r.value.0), ap (λ (w : ℕ). (w, t.value)) r.width.1 ∙ ap (λ (v : ℕ). (u.width, v)) r.value.1))
