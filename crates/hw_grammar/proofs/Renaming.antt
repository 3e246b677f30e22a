-- A grammar looks at no name: where names get other numbers in the terminals, the value that is spelled has those numbers too.
-- So two lists of names give one text the same value but for the numbers of names.
use Rattle.std.proofs.Common.{◌≡◌, ℕ, zero, suc, true, false, cond, List, [], ◌∷◌, map, Some, None, inl, inr, refl, sym, ap, subst, ◌∙◌, option_map}
use Rattle.std.specs.Prelude.{slice_get, MatchBool}
use Rattle.std.specs.Str.{bytes_eq}
use Rattle.std.proofs.lemmas.Option.{get_or_from_slice_get}
use Rattle.std.proofs.lemmas.Slice.Eq.{bytes_eq-Decides}
use Rattle.hw_names.specs.Name.{Text, AreDistinct}
use Rattle.hw_names.specs.declared.names.NameId.{NameId}
use Rattle.hw_names.proofs.NameLemmas.{same_number}
use Rattle.hw_lex.specs.declared.token.Dialect.{Dialect}
use Rattle.hw_lex.specs.declared.token.Kind.{Kind}
use Rattle.hw_lex.specs.declared.token.Token.{Token}
use Rattle.hw_lex.specs.Cut.{token_text}
use Rattle.hw_lex.proofs.Fronts.{by_test, clash}
use Rattle.hw_lex.proofs.Cuts.{tokens_unique}
use Rattle.hw_grammar.specs.Place.{Spells}
use Rattle.hw_grammar.specs.Terminals.{IsNumbered, IsTerminal, AreTerminals}
use Rattle.hw_grammar.specs.TextPlace.{SpellsText}
use Rattle.hw_grammar.proofs.Sorts.{same_sort-refl}
use Rattle.hw_grammar.proofs.Texts.{same_terminal}
use Rattle.hw_grammar.specs.declared.sort.Sort.{Sort}
use Rattle.hw_grammar.specs.declared.sort.Sort.TheVariants as sorts
use Rattle.hw_grammar.specs.declared.terminal.Terminal.{Terminal}
use Rattle.hw_grammar.specs.Sort.{same_sort}
use Rattle.hw_grammar.specs.inside.Renaming.{index_of, renumbered, renamed}
use Rattle.hw_grammar.specs.Grammar.{Lang, AnyName, AnyNumber, AnyLiteral, One, Empty, Then, ThenBy, Either, Mapped, Optional, After, Many, Separated, ListTail, Listed}

-- where names get other numbers, the value is seen by f
abbrev pub Renames : {A : Type 0} → (NameId → NameId) → Lang A → (A → A) → Type 0
Renames rename L f = (ts : List Terminal) (a : _) (rest : List Terminal) → L ts a rest → L (map (renamed rename) ts) (f a) (map (renamed rename) rest)

module _ (rename : NameId → NameId) where
  pub renames-one : (sort : Sort) → Renames rename (One sort) (renamed rename)
  renames-one sort ts t rest (e, s) = (ap (map (renamed rename)) e, s)

  pub renames-empty : {A : Type 0} (v : A) (f : A → A) → f v ≡ v → Renames rename (Empty v) f
  renames-empty v f h ts a rest (e, s) = (ap f e ∙ h, ap (map (renamed rename)) s)

  pub renames-then : {A B : Type 0} (P : Lang A) (Q : Lang B) (f : A → A) (g : B → B) → Renames rename P f → Renames rename Q g → Renames rename (Then P Q) (λ x. (f x.0, g x.1))
  renames-then P Q f g p q ts x rest (mid, a, b) = (map (renamed rename) mid, p ts x.0 mid a, q mid x.1 rest b)

  pub renames-then_by : {A B : Type 0} (P : Lang A) (Q : A → Lang B) (f : A → A) (g : B → B) → Renames rename P f
      → ((a : A) (ts : List Terminal) (b : B) (rest : List Terminal) → Q a ts b rest → Q (f a) (map (renamed rename) ts) (g b) (map (renamed rename) rest))
      → Renames rename (ThenBy P Q) (λ x. (f x.0, g x.1))
  renames-then_by P Q f g p q ts x rest (mid, a, b) = (map (renamed rename) mid, p ts x.0 mid a, q x.0 mid x.1 rest b)

  pub renames-either : {A : Type 0} (P Q : Lang A) (f : A → A) → Renames rename P f → Renames rename Q f → Renames rename (Either P Q) f
  renames-either P Q f p q ts a rest (inl l) = inl (p ts a rest l)
  renames-either P Q f p q ts a rest (inr l) = inr (q ts a rest l)

  pub renames-mapped : {A B : Type 0} (h : A → B) (P : Lang A) (f : A → A) (g : B → B) → Renames rename P f → ((a : A) → g (h a) ≡ h (f a)) → Renames rename (Mapped h P) g
  renames-mapped h P f g p e ts b rest (a, l, is) = (f a, p ts a rest l, ap g is ∙ e a)

  -- the same, where the function's equation holds of what P spells
  pub renames-mapped_where : {A B : Type 0} (h : A → B) (P : Lang A) (f : A → A) (g : B → B) → Renames rename P f → ((ts : List Terminal) (a : A) (rest : List Terminal) → P ts a rest → g (h a) ≡ h (f a)) → Renames rename (Mapped h P) g
  renames-mapped_where h P f g p e ts b rest (a, l, is) = (f a, p ts a rest l, ap g is ∙ e ts a rest l)

  pub renames-any_name : Renames rename AnyName rename
  renames-any_name = renames-mapped_where (λ t. t.name) (One sorts.Name) (renamed rename) rename (renames-one sorts.Name) (λ ts t rest l. let is : same_sort t.sort sorts.Name ≡ true = rw l.1 (same_sort-refl sorts.Name) in rw is refl)

  pub renames-any_number : Renames rename AnyNumber (λ n. n)
  renames-any_number = renames-mapped (λ t. t.value) (One sorts.Number) (renamed rename) (λ n. n) (renames-one sorts.Number) (λ t. refl)

  pub renames-any_literal : Renames rename AnyLiteral (λ n. n)
  renames-any_literal = renames-mapped (λ t. (t.width, t.value)) (One sorts.Literal) (renamed rename) (λ n. n) (renames-one sorts.Literal) (λ t. refl)

  pub renames-many : {A : Type 0} (P : Lang A) (f : A → A) → Renames rename P f → Renames rename (Many P) (map f)
  renames-many P f p ts [] rest e = ap (map (renamed rename)) e
  renames-many P f p ts (x ∷ xs) rest (mid, a, b) = (map (renamed rename) mid, p ts x mid a, renames-many P f p mid xs rest b)

  pub renames-optional : {A : Type 0} (P : Lang A) (f : A → A) → Renames rename P f → Renames rename (Optional P) (option_map f)
  renames-optional P f p = renames-either (Mapped Some P) (Empty None) (option_map f) (renames-mapped Some P f (option_map f) p (λ a. refl)) (renames-empty None (option_map f) refl)

  pub renames-after : {A : Type 0} (sort : Sort) (P : Lang A) (f : A → A) → Renames rename P f → Renames rename (After sort P) f
  renames-after sort P f p = renames-mapped (λ x. x.1) (Then (One sort) P) (λ x. (renamed rename x.0, f x.1)) f (renames-then (One sort) P (renamed rename) f (renames-one sort) p) (λ x. refl)

  pub renames-separated : {A : Type 0} (sort : Sort) (P : Lang A) (f : A → A) → Renames rename P f → Renames rename (Separated sort P) (map f)
  renames-separated sort P f p = renames-mapped (λ x. x.0 ∷ x.1) (Then P (Many (After sort P))) (λ x. (f x.0, map f x.1)) (map f) (renames-then P (Many (After sort P)) f (map f) p (renames-many (After sort P) f (renames-after sort P f p))) (λ x. refl)

  pub renames-list_tail : {A : Type 0} (sort : Sort) (P : Lang A) (f : A → A) → Renames rename P f → Renames rename (ListTail sort P) (map f)
  renames-list_tail sort P f p =
      renames-mapped (λ x. x.0) (Then (Many (After sort P)) (Either (Mapped (λ _. true) (One sort)) (Empty false))) (λ x. (map f x.0, x.1)) (map f)
      (renames-then (Many (After sort P)) (Either (Mapped (λ _. true) (One sort)) (Empty false)) (map f) (λ b. b) (renames-many (After sort P) f (renames-after sort P f p))
      (renames-either (Mapped (λ _. true) (One sort)) (Empty false) (λ b. b) (renames-mapped (λ _. true) (One sort) (renamed rename) (λ b. b) (renames-one sort) (λ _. refl)) (renames-empty false (λ b. b) refl)))
      (λ x. refl)

  pub renames-listed : {A : Type 0} (sort : Sort) (P : Lang A) (f : A → A) → Renames rename P f → Renames rename (Listed sort P) (map f)
  renames-listed sort P f p =
      renames-either (Mapped (λ x. x.0 ∷ x.1) (Then P (ListTail sort P))) (Empty []) (map f)
      (renames-mapped (λ x. x.0 ∷ x.1) (Then P (ListTail sort P)) (λ x. (f x.0, map f x.1)) (map f) (renames-then P (ListTail sort P) f (map f) p (renames-list_tail sort P f p)) (λ x. refl))
      (renames-empty [] (map f) refl)

-- ---- two lists of names

text_test : (x word : Text) → bytes_eq x word ≡ true → x ≡ word
text_test x word h = (bytes_eq-Decides x word).0 h

not_first : (x : Text) (names : List Text) (j : ℕ) (word : Text) → slice_get (x ∷ names) j ≡ Some word → bytes_eq x word ≡ false → (k : ℕ) × (slice_get names k ≡ Some word)
not_first x names zero word e h = let same : x ≡ word = cc in absurd (clash ((bytes_eq-Decides x word).1 same) h)
not_first x names (suc j) word e h = (j, e)

index_of-gets : (names : List Text) (j : ℕ) (word : Text) → slice_get names j ≡ Some word → slice_get names (index_of names word) ≡ Some word
index_of-gets [] j word e = absurd cc
index_of-gets (x ∷ names) j word e =
    by_test (λ v. bytes_eq x word ≡ v → slice_get (x ∷ names) (cond v 0 (suc (index_of names word))) ≡ Some word) (bytes_eq x word)
    (λ _ h. ap Some (text_test x word h))
    (λ _ h. let k = not_first x names j word e h in index_of-gets names k.0 word k.1)
    refl

terminal_renamed : (dialect : Dialect) (old new : List Text) (kind : Kind) (word : Text) (t u : Terminal) → AreDistinct new → IsTerminal dialect old kind word t → IsTerminal dialect new kind word u → u ≡ renamed (renumbered old new) t
terminal_renamed dialect old new kind word t u distinct p q =
    let sort : u.sort ≡ t.sort = q.sort ∙ sym p.sort in
    let numbered : MatchBool (same_sort t.sort sorts.Name) (slice_get new u.name.0 ≡ Some word) (u.name.0 ≡ 0) = subst (λ (x : Sort). IsNumbered new word x u.name) sort q.name in
    let name : u.name.0 ≡ (renamed (renumbered old new) t).name.0 =
    by_test (λ v. MatchBool v (slice_get old t.name.0 ≡ Some word) (t.name.0 ≡ 0) → MatchBool v (slice_get new u.name.0 ≡ Some word) (u.name.0 ≡ 0) → u.name.0 ≡ (cond v (renumbered old new t.name) t.name).0) (same_sort t.sort sorts.Name)
    (λ _ a b. sym (ap (index_of new) (get_or_from_slice_get old t.name.0 word [] a) ∙ same_number new (index_of new word) u.name.0 word distinct (index_of-gets new u.name.0 word b) b))
    (λ _ a b. b ∙ sym a)
    p.name numbered in
    same_terminal u (renamed (renumbered old new) t) sort name (q.special ∙ sym p.special) (q.width ∙ sym p.width) (q.value ∙ sym p.value)

terminals_renamed : (dialect : Dialect) (old new : List Text) (source : List ℕ) (tokens : List Token) (ts us : List Terminal) → AreDistinct new → AreTerminals dialect old source tokens ts → AreTerminals dialect new source tokens us → us ≡ map (renamed (renumbered old new)) ts
terminals_renamed dialect old new source [] [] [] distinct p q = refl
terminals_renamed dialect old new source [] [] (u ∷ us) distinct p q = absurd q
terminals_renamed dialect old new source [] (t ∷ ts) us distinct p q = absurd p
terminals_renamed dialect old new source (token ∷ tokens) [] us distinct p q = absurd p
terminals_renamed dialect old new source (token ∷ tokens) (t ∷ ts) [] distinct p q = absurd q
terminals_renamed dialect old new source (token ∷ tokens) (t ∷ ts) (u ∷ us) distinct p q =
    let first = terminal_renamed dialect old new token.kind (token_text source token) t u distinct p.0 q.0 in
    let others = terminals_renamed dialect old new source tokens ts us distinct p.1 q.1 in
    ap (λ (x : Terminal). x ∷ us) first ∙ ap (λ (x : List Terminal). renamed (renumbered old new) t ∷ x) others

-- what a text spells with one list of names it spells with another, but for the numbers of names
pub text_renamed : {A : Type 0} (dialect : Dialect) (L : Lang A) (f : A → A) (old new : List Text) (source : List ℕ) (a b : A) → AreDistinct new → Renames (renumbered old new) L f → ((ts : List Terminal) (x y : A) → Spells L ts x → Spells L ts y → x ≡ y)
    → SpellsText dialect L old source a → SpellsText dialect L new source b → b ≡ f a
text_renamed dialect L f old new source a b distinct renames alone (tokens, ts, p, s) (others, us, q, r) =
    let same = tokens_unique dialect source tokens others p.tokens_are q.tokens_are in
    let are = subst (λ (x : List Token). AreTerminals dialect old source x ts) same p.terminals_are in
    let terms = terminals_renamed dialect old new source others ts us distinct are q.terminals_are in
    let spelled : Spells L us (f a) = subst (λ (x : List Terminal). Spells L x (f a)) (sym terms) (renames ts a [] s) in
    alone us b (f a) r spelled
