-- What is written in words and blanks has these words as tokens, and spells what they spell.
use Rattle.std.proofs.Common.{◌≡◌, ℕ, suc, ◌+◌, ◌-◌, Bool, true, false, ◌||◌, cond, eqb, List, [], ◌∷◌, ◌++◌, length, map, take, drop, Some, inl, inr, refl, sym, ap, subst, ◌∙◌, append_assoc, arith}
use Rattle.std.specs.Prelude.{slice_get, flat_map, MatchBool}
use Rattle.std.specs.List.{list_all, AllByRecursion}
use Rattle.std.proofs.lemmas.List.{append-nil, length-append}
use Rattle.std.proofs.Math.Seq.{drop-append_seam, take-append_seam}
use Rattle.hw_names.specs.Name.{Text}
use Rattle.hw_lex.specs.declared.token.Dialect.{Dialect}
use Rattle.hw_lex.specs.declared.token.Kind.{Kind}
use Rattle.hw_lex.specs.declared.token.Kind.TheVariants as kinds
use Rattle.hw_lex.specs.declared.token.Token.{Token}
use Rattle.hw_lex.specs.Byte.{is_blank, is_name_byte, is_single_mark, is_double_mark}
use Rattle.hw_lex.specs.Word.{Stands}
use Rattle.hw_lex.specs.Gap.{none, more, blank}
use Rattle.hw_lex.specs.Cut.{place, Cuts, AreTokens, token_text}
use Rattle.hw_lex.proofs.Fronts.{Ends, and_true}
use Rattle.hw_lex.proofs.Words.{single_stands}
use Rattle.hw_grammar.specs.declared.sort.Sort.{Sort}
use Rattle.hw_grammar.specs.declared.sort.Sort.TheVariants as sorts
use Rattle.hw_grammar.specs.declared.terminal.Terminal.{Terminal}
use Rattle.hw_grammar.specs.Sort.{same_sort}
use Rattle.hw_grammar.specs.Grammar.{Empty, Mapped, Then, Either, After, Closed, Many, Separated, ListTail, Listed}
use Rattle.hw_grammar.specs.Terminals.{sort_of, special_of, width_at, value_at, IsTerminal, AreTerminals}
use Rattle.hw_grammar.specs.TextPlace.{SpellsText}

-- ---- words and blanks

pub data Item : Type 0 where
  Blank : ℕ → Item
  Word : Kind → List ℕ → Item

-- the bytes of the items, with what follows them
abbrev pub bytes_of : List Item → List ℕ → List ℕ
bytes_of [] after = after
bytes_of (Blank byte ∷ items) after = byte ∷ bytes_of items after
bytes_of (Word kind word ∷ items) after = word ++ bytes_of items after

-- the tokens of the items, in a text of this size
abbrev pub tokens_of : ℕ → List Item → List ℕ → List Token
tokens_of size [] after = []
tokens_of size (Blank byte ∷ items) after = tokens_of size items after
tokens_of size (Word kind word ∷ items) after =
    record { kind = kind; span = record { from = place size (word ++ bytes_of items after); to = place size (bytes_of items after) } } ∷ tokens_of size items after

-- each word stands as a token before what follows it
abbrev pub Stand : Dialect → List Item → List ℕ → Type 0
Stand dialect [] after = Unit {0}
Stand dialect (Blank byte ∷ items) after = (is_blank byte ≡ true) × Stand dialect items after
Stand dialect (Word kind word ∷ items) after = Stands dialect kind (word ++ bytes_of items after) (bytes_of items after) × Stand dialect items after

blank_first : (dialect : Dialect) (size byte : ℕ) (text : List ℕ) (tokens : List Token) (rest : List ℕ) → is_blank byte ≡ true → Cuts dialect size text tokens rest → Cuts dialect size (byte ∷ text) tokens rest
blank_first dialect size byte text [] rest h gap = more (blank h) gap
blank_first dialect size byte text (token ∷ tokens) rest h (after, t, c) = (after, record { at = t.at; gap = more (blank h) t.gap; stands = t.stands; from = t.from; to = t.to }, c)

items_cut : (dialect : Dialect) (size : ℕ) (items : List Item) → Stand dialect items [] → Cuts dialect size (bytes_of items []) (tokens_of size items []) []
items_cut dialect size [] s = none
items_cut dialect size (Blank byte ∷ items) s = blank_first dialect size byte (bytes_of items []) (tokens_of size items []) [] s.0 (items_cut dialect size items s.1)
items_cut dialect size (Word kind word ∷ items) s = (bytes_of items [], record { at = word ++ bytes_of items []; gap = none; stands = s.0; from = refl; to = refl }, items_cut dialect size items s.1)

pub bytes-append : (xs ys : List Item) (after : List ℕ) → bytes_of (xs ++ ys) after ≡ bytes_of xs (bytes_of ys after)
bytes-append [] ys after = refl
bytes-append (Blank byte ∷ xs) ys after = ap (λ (t : List ℕ). byte ∷ t) (bytes-append xs ys after)
bytes-append (Word kind word ∷ xs) ys after = ap (λ (t : List ℕ). word ++ t) (bytes-append xs ys after)

pub Stand-append : (dialect : Dialect) (xs ys : List Item) (after : List ℕ) → Stand dialect xs (bytes_of ys after) → Stand dialect ys after → Stand dialect (xs ++ ys) after
Stand-append dialect [] ys after p q = q
Stand-append dialect (Blank byte ∷ xs) ys after p q = (p.0, Stand-append dialect xs ys after p.1 q)
Stand-append dialect (Word kind word ∷ xs) ys after p q =
    (subst (λ (t : List ℕ). Stands dialect kind (word ++ t) t) (sym (bytes-append xs ys after)) p.0, Stand-append dialect xs ys after p.1 q)

-- ---- terminals for the words

-- these terminals, before the rest, stand for the words of the items
abbrev pub StandFor : Dialect → List Text → List Item → List Terminal → List Terminal → Type 0
StandFor dialect names [] ts rest = ts ≡ rest
StandFor dialect names (Blank byte ∷ items) ts rest = StandFor dialect names items ts rest
StandFor dialect names (Word kind word ∷ items) ts rest =
    (t : Terminal) × (others : List Terminal) × (ts ≡ t ∷ others) × IsTerminal dialect names kind word t × StandFor dialect names items others rest

pub split : (dialect : Dialect) (names : List Text) (xs ys : List Item) (ts rest : List Terminal) → StandFor dialect names (xs ++ ys) ts rest → (mid : List Terminal) × StandFor dialect names xs ts mid × StandFor dialect names ys mid rest
split dialect names [] ys ts rest s = (ts, refl, s)
split dialect names (Blank byte ∷ xs) ys ts rest s = split dialect names xs ys ts rest s
split dialect names (Word kind word ∷ xs) ys ts rest (t, others, e, is, s) = let v = split dialect names xs ys others rest s in (v.0, (t, others, e, is, v.1), v.2)

-- the words of the items, and terminals for them that have their places among the words as numbers
abbrev words_of : List Item → List Text
words_of [] = []
words_of (Blank byte ∷ items) = words_of items
words_of (Word kind word ∷ items) = word ∷ words_of items

terminal_at : Dialect → ℕ → Kind → Text → Terminal
terminal_at dialect number kind word = record {
  sort = sort_of dialect kind word;
  name = record { 0 = cond (same_sort (sort_of dialect kind word) sorts.Name) number 0 };
  special = special_of kind word;
  width = width_at kind word;
  value = value_at kind word;
}

abbrev terminals_from : Dialect → ℕ → List Item → List Terminal
terminals_from dialect number [] = []
terminals_from dialect number (Blank byte ∷ items) = terminals_from dialect number items
terminals_from dialect number (Word kind word ∷ items) = terminal_at dialect number kind word ∷ terminals_from dialect (suc number) items

get_seam : (front : List Text) (word : Text) (others : List Text) → slice_get (front ++ word ∷ others) (length front) ≡ Some word
get_seam [] word others = refl
get_seam (x ∷ front) word others = get_seam front word others

numbered_at : (names : List Text) (word : Text) (number : ℕ) (b : Bool) → slice_get names number ≡ Some word → MatchBool b (slice_get names (cond b number 0) ≡ Some word) (cond b number 0 ≡ 0)
numbered_at names word number true e = e
numbered_at names word number false e = refl

terminal_is : (dialect : Dialect) (names : List Text) (number : ℕ) (kind : Kind) (word : Text) → slice_get names number ≡ Some word → IsTerminal dialect names kind word (terminal_at dialect number kind word)
unfolding terminal_at
terminal_is dialect names number kind word e = record {
  sort = refl;
  name = numbered_at names word number (same_sort (sort_of dialect kind word) sorts.Name) e;
  special = refl;
  width = refl;
  value = refl;
}

next_number : (front : List Text) (word : Text) → length (front ++ word ∷ []) ≡ suc (length front)
next_number front word = omega (arith, length-append front (word ∷ []))

stand_for : (dialect : Dialect) (names front : List Text) (items : List Item) → names ≡ front ++ words_of items → StandFor dialect names items (terminals_from dialect (length front) items) []
stand_for dialect names front [] e = refl
stand_for dialect names front (Blank byte ∷ items) e = stand_for dialect names front items e
stand_for dialect names front (Word kind word ∷ items) e =
    let more : names ≡ (front ++ word ∷ []) ++ words_of items = e ∙ sym (append_assoc front (word ∷ []) (words_of items)) in
    let get : slice_get names (length front) ≡ Some word = ap (λ (l : List Text). slice_get l (length front)) e ∙ get_seam front word (words_of items) in (
      terminal_at dialect (length front) kind word,
      terminals_from dialect (suc (length front)) items,
      refl,
      terminal_is dialect names (length front) kind word get,
      subst (λ (n : ℕ). StandFor dialect names items (terminals_from dialect n items) []) (next_number front word) (stand_for dialect names (front ++ word ∷ []) items more),
    )

-- the text of a token is its word
word_text : (source before word rest : List ℕ) (kind : Kind) → source ≡ before ++ (word ++ rest)
    → token_text source (record { kind = kind; span = record { from = place (length source) (word ++ rest); to = place (length source) rest } }) ≡ word
word_text source before word rest kind e =
    let whole : length source ≡ length before + (length word + length rest) = ap length e ∙ length-append before (word ++ rest) ∙ ap (λ (n : ℕ). length before + n) (length-append word rest) in
    let from : place (length source) (word ++ rest) ≡ length before = omega (arith, length-append word rest) in
    let count : place (length source) rest - place (length source) (word ++ rest) ≡ length word = omega (arith, length-append word rest) in
    ap (λ (n : ℕ). take n (drop (place (length source) (word ++ rest)) source)) count
    ∙ ap (λ (n : ℕ). take (length word) (drop n source)) from
    ∙ ap (λ (s : List ℕ). take (length word) (drop (length before) s)) e
    ∙ ap (λ (s : List ℕ). take (length word) s) (drop-append_seam before (word ++ rest))
    ∙ take-append_seam word rest

terminals_are : (dialect : Dialect) (names : List Text) (source before : List ℕ) (items : List Item) (ts : List Terminal) → source ≡ before ++ bytes_of items [] → StandFor dialect names items ts [] → AreTerminals dialect names source (tokens_of (length source) items []) ts
terminals_are dialect names source before [] ts e s = subst (λ (x : List Terminal). AreTerminals dialect names source [] x) (sym s) tt
terminals_are dialect names source before (Blank byte ∷ items) ts e s = terminals_are dialect names source (before ++ byte ∷ []) items ts (e ∙ sym (append_assoc before (byte ∷ []) (bytes_of items []))) s
terminals_are dialect names source before (Word kind word ∷ items) ts e (t, others, f, is, s) =
    let token : Token = record { kind = kind; span = record { from = place (length source) (word ++ bytes_of items []); to = place (length source) (bytes_of items []) } } in
    let text = word_text source before word (bytes_of items []) kind e in
    let rest = terminals_are dialect names source (before ++ word) items others (e ∙ sym (append_assoc before word (bytes_of items []))) s in
    subst (λ (x : List Terminal). AreTerminals dialect names source (token ∷ tokens_of (length source) items []) x) (sym f) (subst (λ (w : List ℕ). IsTerminal dialect names kind w t) (sym text) is, rest)

-- ---- fragments

-- a byte that can go on a name, a number or a literal
abbrev pub is_loose : Dialect → ℕ → Bool
is_loose dialect byte = is_name_byte dialect byte || eqb byte 39

-- a text may come next: a loose fragment is not gone on by it
abbrev pub Follows : Dialect → Bool → List ℕ → Type 0
Follows dialect true after = Ends (is_loose dialect) after
Follows dialect false after = Unit {0}

-- the text is that of words which spell the value
pub record Fragment (dialect : Dialect) {A : Type 0} (L : List Text → List Terminal → A → List Terminal → Type 0) (a : A) (text : List ℕ) (loose : Bool) : Type 0 where
  pub items : List Item
  pub bytes : (after : List ℕ) → bytes_of items after ≡ text ++ after
  pub stand : (after : List ℕ) → Follows dialect loose after → Stand dialect items after
  pub spelled : (names : List Text) (ts rest : List Terminal) → StandFor dialect names items ts rest → L names ts a rest

-- a whole text
pub fragment_spells : (dialect : Dialect) {A : Type 0} (L : List Text → List Terminal → A → List Terminal → Type 0) (a : A) (text : List ℕ) → Fragment dialect L a text false → (names : List Text) × SpellsText dialect (L names) names text a
fragment_spells dialect L a text f =
    let names : List Text = words_of f.items in
    let ts : List Terminal = terminals_from dialect 0 f.items in
    let whole : bytes_of f.items [] ≡ text = f.bytes [] ∙ append-nil text in
    let cut : AreTokens dialect (bytes_of f.items []) (tokens_of (length (bytes_of f.items [])) f.items []) = items_cut dialect (length (bytes_of f.items [])) f.items (f.stand [] tt) in
    let for : StandFor dialect names f.items ts [] = stand_for dialect names [] f.items refl in
    let are = terminals_are dialect names (bytes_of f.items []) [] f.items ts refl for in
    (names, subst (λ (t : List ℕ). SpellsText dialect (L names) names t a) whole (tokens_of (length (bytes_of f.items [])) f.items [], ts, record { tokens_are = cut; terminals_are = are }, f.spelled names ts [] for))

module _ (dialect : Dialect) where
  pub follows_byte : (loose : Bool) (byte : ℕ) (after : List ℕ) → is_loose dialect byte ≡ false → Follows dialect loose (byte ∷ after)
  follows_byte true byte after h = h
  follows_byte false byte after h = tt

  pub retext : {A : Type 0} (L : List Text → List Terminal → A → List Terminal → Type 0) (a : A) (s t : List ℕ) (loose : Bool) → s ≡ t → Fragment dialect L a s loose → Fragment dialect L a t loose
  retext L a s t loose e f = record { items = f.items; bytes = λ after. f.bytes after ∙ ap (λ (x : List ℕ). x ++ after) e; stand = f.stand; spelled = f.spelled }

  -- a tight fragment is a loose one too
  pub loosened : {A : Type 0} (L : List Text → List Terminal → A → List Terminal → Type 0) (a : A) (text : List ℕ) → Fragment dialect L a text false → Fragment dialect L a text true
  loosened L a text f = record { items = f.items; bytes = f.bytes; stand = λ after h. f.stand after tt; spelled = f.spelled }

  pub fragment_empty : {A : Type 0} (v a : A) (loose : Bool) → a ≡ v → Fragment dialect (λ names. Empty v) a [] loose
  fragment_empty v a loose e = record { items = []; bytes = λ after. refl; stand = λ after h. tt; spelled = λ names ts rest s. (e, s) }

  pub fragment_mapped : {A B : Type 0} (f : A → B) (L : List Text → List Terminal → A → List Terminal → Type 0) (a : A) (b : B) (text : List ℕ) (loose : Bool) → b ≡ f a → Fragment dialect L a text loose → Fragment dialect (λ names. Mapped f (L names)) b text loose
  fragment_mapped f L a b text loose e x = record { items = x.items; bytes = x.bytes; stand = x.stand; spelled = λ names ts rest s. (a, x.spelled names ts rest s, e) }

  pub fragment_left : {A : Type 0} (L M : List Text → List Terminal → A → List Terminal → Type 0) (a : A) (text : List ℕ) (loose : Bool) → Fragment dialect L a text loose → Fragment dialect (λ names. Either (L names) (M names)) a text loose
  fragment_left L M a text loose x = record { items = x.items; bytes = x.bytes; stand = x.stand; spelled = λ names ts rest s. inl (x.spelled names ts rest s) }

  pub fragment_right : {A : Type 0} (L M : List Text → List Terminal → A → List Terminal → Type 0) (a : A) (text : List ℕ) (loose : Bool) → Fragment dialect M a text loose → Fragment dialect (λ names. Either (L names) (M names)) a text loose
  fragment_right L M a text loose x = record { items = x.items; bytes = x.bytes; stand = x.stand; spelled = λ names ts rest s. inr (x.spelled names ts rest s) }

  pub fragment_then : {A B : Type 0} (L : List Text → List Terminal → A → List Terminal → Type 0) (M : List Text → List Terminal → B → List Terminal → Type 0) (a : A) (b : B) (s t : List ℕ) (loose last : Bool)
      → ((after : List ℕ) → Follows dialect last after → Follows dialect loose (t ++ after)) → Fragment dialect L a s loose → Fragment dialect M b t last → Fragment dialect (λ names. Then (L names) (M names)) (a, b) (s ++ t) last
  fragment_then L M a b s t loose last next x y = record {
    items = x.items ++ y.items;
    bytes = λ after. bytes-append x.items y.items after ∙ ap (bytes_of x.items) (y.bytes after) ∙ x.bytes (t ++ after) ∙ sym (append_assoc s t after);
    stand = λ after h. Stand-append dialect x.items y.items after (subst (Stand dialect x.items) (sym (y.bytes after)) (x.stand (t ++ after) (next after h))) (y.stand after h);
    spelled = λ names ts rest w. let v = split dialect names x.items y.items ts rest w in (v.0, x.spelled names ts v.0 v.1, y.spelled names v.0 rest v.2);
  }

  -- ---- blanks

  abbrev blanks : List ℕ → List Item
  blanks bytes = map Blank bytes

  bytes-blanks : (bs : List ℕ) (items : List Item) (after : List ℕ) → bytes_of (blanks bs ++ items) after ≡ bs ++ bytes_of items after
  bytes-blanks [] items after = refl
  bytes-blanks (b ∷ bs) items after = ap (λ (t : List ℕ). b ∷ t) (bytes-blanks bs items after)

  Stand-blanks : (bs : List ℕ) (items : List Item) (after : List ℕ) → list_all is_blank bs ≡ true → Stand dialect items after → Stand dialect (blanks bs ++ items) after
  Stand-blanks [] items after h s = s
  Stand-blanks (b ∷ bs) items after h s = let t = and_true (is_blank b) (list_all is_blank bs) h in (t.0, Stand-blanks bs items after t.1 s)

  for-blanks : (names : List Text) (bs : List ℕ) (items : List Item) (ts rest : List Terminal) → StandFor dialect names (blanks bs ++ items) ts rest → StandFor dialect names items ts rest
  for-blanks names [] items ts rest s = s
  for-blanks names (b ∷ bs) items ts rest s = for-blanks names bs items ts rest s

  pub fragment_blank : {A : Type 0} (bs : List ℕ) (L : List Text → List Terminal → A → List Terminal → Type 0) (a : A) (text : List ℕ) (loose : Bool) → list_all is_blank bs ≡ true → Fragment dialect L a text loose → Fragment dialect L a (bs ++ text) loose
  fragment_blank bs L a text loose h x = record {
    items = blanks bs ++ x.items;
    bytes = λ after. bytes-blanks bs x.items after ∙ ap (λ (t : List ℕ). bs ++ t) (x.bytes after) ∙ sym (append_assoc bs text after);
    stand = λ after f. Stand-blanks bs x.items after h (x.stand after f);
    spelled = λ names ts rest s. x.spelled names ts rest (for-blanks names bs x.items ts rest s);
  }

  pub fragment_ended : {A : Type 0} (bs : List ℕ) (L : List Text → List Terminal → A → List Terminal → Type 0) (a : A) (text : List ℕ) → list_all is_blank bs ≡ true → Fragment dialect L a text false → Fragment dialect L a (text ++ bs) false
  fragment_ended bs L a text h x =
      let end : List Item = blanks bs ++ [] in
      record {
        items = x.items ++ end;
        bytes = λ after. bytes-append x.items end after ∙ ap (bytes_of x.items) (bytes-blanks bs [] after) ∙ x.bytes (bs ++ after) ∙ sym (append_assoc text bs after);
        stand = λ after f. Stand-append dialect x.items end after (x.stand (bytes_of end after) tt) (Stand-blanks bs [] after h tt);
        spelled = λ names ts rest w.
            let v = split dialect names x.items end ts rest w in
            let e : v.0 ≡ rest = for-blanks names bs [] v.0 rest v.2 in
            x.spelled names ts rest (subst (λ (r : List Terminal). StandFor dialect names x.items ts r) e v.1);
      }

  -- ---- a word before a fragment, or behind it, with blanks on both sides

  pub fragment_after : {A : Type 0} (before : List ℕ) (kind : Kind) (word behind : List ℕ) (sort : Sort) (L : List Text → List Terminal → A → List Terminal → Type 0) (a : A) (text : List ℕ) (loose : Bool)
      → list_all is_blank before ≡ true → list_all is_blank behind ≡ true → sort_of dialect kind word ≡ sort
      → ((after : List ℕ) → Stands dialect kind (word ++ (behind ++ (text ++ after))) (behind ++ (text ++ after)))
      → Fragment dialect L a text loose → Fragment dialect (λ names. After sort (L names)) a (before ++ (word ++ (behind ++ text))) loose
  fragment_after before kind word behind sort L a text loose h k is stands x =
      let inner : List Item = blanks behind ++ x.items in
      let inner_is : (after : List ℕ) → bytes_of inner after ≡ behind ++ (text ++ after) = λ after. bytes-blanks behind x.items after ∙ ap (λ (t : List ℕ). behind ++ t) (x.bytes after) in
      record {
        items = blanks before ++ Word kind word ∷ inner;
        bytes = λ after. bytes-blanks before (Word kind word ∷ inner) after ∙ ap (λ (t : List ℕ). before ++ (word ++ t)) (inner_is after) ∙ simp append_assoc;
        stand = λ after f.
            Stand-blanks before (Word kind word ∷ inner) after h
            (subst (λ (t : List ℕ). Stands dialect kind (word ++ t) t) (sym (inner_is after)) (stands after), Stand-blanks behind x.items after k (x.stand after f));
        spelled = λ names ts rest w.
            let v = for-blanks names before (Word kind word ∷ inner) ts rest w in
            ((v.0, a), (v.1, (v.2, v.3.sort ∙ is), x.spelled names v.1 rest (for-blanks names behind x.items v.1 rest v.4)), refl);
      }

  pub fragment_closed : {A : Type 0} (before : List ℕ) (kind : Kind) (word behind : List ℕ) (sort : Sort) (L : List Text → List Terminal → A → List Terminal → Type 0) (a : A) (text : List ℕ) (loose : Bool)
      → list_all is_blank before ≡ true → list_all is_blank behind ≡ true → sort_of dialect kind word ≡ sort
      → ((after : List ℕ) → Stands dialect kind (word ++ (behind ++ after)) (behind ++ after)) → ((after : List ℕ) → Follows dialect loose (before ++ (word ++ (behind ++ after))))
      → Fragment dialect L a text loose → Fragment dialect (λ names. Closed (L names) sort) a (text ++ (before ++ (word ++ behind))) false
  fragment_closed before kind word behind sort L a text loose h k is stands next x =
      let last : List Item = blanks behind ++ [] in
      let end : List Item = blanks before ++ Word kind word ∷ last in
      let last_is : (after : List ℕ) → bytes_of last after ≡ behind ++ after = λ after. bytes-blanks behind [] after in
      let end_is : (after : List ℕ) → bytes_of end after ≡ before ++ (word ++ (behind ++ after)) = λ after. bytes-blanks before (Word kind word ∷ last) after ∙ ap (λ (t : List ℕ). before ++ (word ++ t)) (last_is after) in
      record {
        items = x.items ++ end;
        bytes = λ after. bytes-append x.items end after ∙ ap (bytes_of x.items) (end_is after) ∙ x.bytes (before ++ (word ++ (behind ++ after))) ∙ simp append_assoc;
        stand = λ after f.
            Stand-append dialect x.items end after (subst (Stand dialect x.items) (sym (end_is after)) (x.stand (before ++ (word ++ (behind ++ after))) (next after)))
            (Stand-blanks before (Word kind word ∷ last) after h (subst (λ (t : List ℕ). Stands dialect kind (word ++ t) t) (sym (last_is after)) (stands after), Stand-blanks behind [] after k tt));
        spelled = λ names ts rest w.
            let v = split dialect names x.items end ts rest w in
            let u = for-blanks names before (Word kind word ∷ last) v.0 rest v.2 in
            let e : u.1 ≡ rest = for-blanks names behind [] u.1 rest u.4 in
            ((a, u.0), (v.0, x.spelled names ts v.0 v.1, (u.2 ∙ ap (λ (r : List Terminal). u.0 ∷ r) e, u.3.sort ∙ is)), refl);
      }

  -- ---- lists

  follows_list : {A : Type 0} (text : A → List ℕ) (loose : Bool) → ((a : A) (after : List ℕ) → Follows dialect loose (text a ++ after)) → (xs : List A) (after : List ℕ) → Follows dialect loose after → Follows dialect loose (flat_map text xs ++ after)
  follows_list text loose next [] after h = h
  follows_list text loose next (x ∷ xs) after h = subst (Follows dialect loose) (sym (append_assoc (text x) (flat_map text xs) after)) (next x (flat_map text xs ++ after))

  pub fragment_many : {A : Type 0} (L : List Text → List Terminal → A → List Terminal → Type 0) (Good : A → Type 0) (text : A → List ℕ) (loose : Bool) → ((a : A) (after : List ℕ) → Follows dialect loose (text a ++ after))
      → ((a : A) → Good a → Fragment dialect L a (text a) loose) → (xs : List A) → AllByRecursion Good xs → Fragment dialect (λ names. Many (L names)) xs (flat_map text xs) loose
  fragment_many L Good text loose next each [] h = record { items = []; bytes = λ after. refl; stand = λ after h. tt; spelled = λ names ts rest s. s }
  fragment_many L Good text loose next each (x ∷ xs) h =
      let v = fragment_then L (λ names. Many (L names)) x xs (text x) (flat_map text xs) loose loose (λ after f. follows_list text loose next xs after f) (each x h.0) (fragment_many L Good text loose next each xs h.1) in
      record { items = v.items; bytes = v.bytes; stand = v.stand; spelled = v.spelled }

  -- one terminal for a mark, whatever byte follows
  pub mark_stands : (mark : ℕ) → is_single_mark dialect mark ≡ true → ((next : ℕ) → is_double_mark dialect mark next ≡ false) → (rest : List ℕ) → Stands dialect kinds.Mark (mark ∷ rest) rest
  mark_stands mark s alone [] = single_stands dialect mark [] s tt
  mark_stands mark s alone (x ∷ rest) = single_stands dialect mark (x ∷ rest) s (alone x)

  -- items with a comma and a blank between each two
  module _ {A : Type 0} (comma : sort_of dialect kinds.Mark (44 ∷ []) ≡ sorts.Comma) (single : is_single_mark dialect 44 ≡ true) (alone : (next : ℕ) → is_double_mark dialect 44 next ≡ false) (tight : is_loose dialect 44 ≡ false) (L : List Text → List Terminal → A → List Terminal → Type 0) (Good : A → Type 0) (text : A → List ℕ) (loose : Bool) (each : (a : A) → Good a → Fragment dialect L a (text a) loose) where
    abbrev after_comma : A → List ℕ
    after_comma a = 44 ∷ 32 ∷ text a

    more_fragment : (a : A) → Good a → Fragment dialect (λ names. After sorts.Comma (L names)) a (after_comma a) loose
    more_fragment a h = fragment_after [] kinds.Mark (44 ∷ []) (32 ∷ []) sorts.Comma L a (text a) loose refl refl comma (λ after. mark_stands 44 single alone (32 ∷ (text a ++ after))) (each a h)

    more_fragments : (xs : List A) → AllByRecursion Good xs → Fragment dialect (λ names. Many (After sorts.Comma (L names))) xs (flat_map after_comma xs) loose
    more_fragments xs h = fragment_many (λ names. After sorts.Comma (L names)) Good after_comma loose (λ a after. follows_byte loose 44 (32 ∷ (text a ++ after)) tight) more_fragment xs h

    follows_more : (xs : List A) (after : List ℕ) → Follows dialect loose after → Follows dialect loose (flat_map after_comma xs ++ after)
    follows_more xs after f = follows_list after_comma loose (λ a after. follows_byte loose 44 (32 ∷ (text a ++ after)) tight) xs after f

    pub fragment_separated : (x : A) (xs : List A) → AllByRecursion Good (x ∷ xs) → Fragment dialect (λ names. Separated sorts.Comma (L names)) (x ∷ xs) (text x ++ flat_map after_comma xs) loose
    fragment_separated x xs h =
        fragment_mapped (λ (v : A × List A). v.0 ∷ v.1) (λ names. Then (L names) (Many (After sorts.Comma (L names)))) (x, xs) (x ∷ xs) (text x ++ flat_map after_comma xs) loose refl
        (fragment_then L (λ names. Many (After sorts.Comma (L names))) x xs (text x) (flat_map after_comma xs) loose loose (follows_more xs) (each x h.0) (more_fragments xs h.1))

    pub fragment_listed : (x : A) (xs : List A) → AllByRecursion Good (x ∷ xs) → Fragment dialect (λ names. Listed sorts.Comma (L names)) (x ∷ xs) (text x ++ flat_map after_comma xs) loose
    fragment_listed x xs h =
        let tail = more_fragments xs h.1 in
        let ended : Fragment dialect (λ names. ListTail sorts.Comma (L names)) xs (flat_map after_comma xs) loose = record {
          items = tail.items;
          bytes = tail.bytes;
          stand = tail.stand;
          spelled = λ names ts rest s. ((xs, false), (rest, tail.spelled names ts rest s, inr (refl, refl)), refl);
        } in
        let v = fragment_then L (λ names. ListTail sorts.Comma (L names)) x xs (text x) (flat_map after_comma xs) loose loose (follows_more xs) (each x h.0) ended in
        record { items = v.items; bytes = v.bytes; stand = v.stand; spelled = λ names ts rest s. inl ((x, xs), v.spelled names ts rest s, refl) }

    pub fragment_none : (loose : Bool) → Fragment dialect (λ names. Listed sorts.Comma (L names)) [] [] loose
    fragment_none loose = record { items = []; bytes = λ after. refl; stand = λ after h. tt; spelled = λ names ts rest s. inr (refl, s) }
