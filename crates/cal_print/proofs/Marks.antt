-- Marks and keywords of Calyx round what is written, and lines and blocks of it.
use Rattle.std.proofs.Common.{◌≡◌, ◌≢◌, ℕ, Bool, true, false, List, [], ◌∷◌, ◌++◌, codes, refl, sym, append_assoc}
use Rattle.std.specs.List.{list_all, AllByRecursion}
use Rattle.hw_names.specs.Name.{Text}
use Rattle.hw_lex.specs.declared.token.Dialect.TheVariants.{Cal}
use Rattle.hw_lex.specs.declared.token.Kind.TheVariants as kinds
use Rattle.hw_lex.specs.Byte.{is_blank, is_single_mark, is_double_mark}
use Rattle.hw_lex.proofs.Fronts.{and_true}
use Rattle.hw_lex.proofs.Words.{single_stands}
use Rattle.hw_grammar.specs.declared.sort.Sort.{Sort}
use Rattle.hw_grammar.specs.declared.sort.Sort.TheVariants.{LeftParen, RightParen, LeftBrace, RightBrace, Comma, Semicolon, Equals}
use Rattle.hw_grammar.specs.declared.terminal.Terminal.{Terminal}
use Rattle.hw_grammar.specs.Grammar.{Lang, After, Closed, Between, Listed, Separated}
use Rattle.hw_grammar.specs.Terminals.{sort_of}
use Rattle.hw_grammar.proofs.Fragments.{Fragment, is_loose, retext, fragment_blank, fragment_ended, fragment_after, fragment_closed, fragment_listed, fragment_separated, fragment_none, mark_stands, follows_byte}
use Rattle.cal_print.specs.Layout.{joined, line_text, deeper, block_text}

abbrev pub Langs : Type 0 → Type 1
Langs A = List Text → Lang A

pub all_append : (p : ℕ → Bool) (xs ys : List ℕ) → list_all p xs ≡ true → list_all p ys ≡ true → list_all p (xs ++ ys) ≡ true
all_append p [] ys h k = k
all_append p (x ∷ xs) ys h k = let t = and_true (p x) (list_all p xs) h in rw t.0 (all_append p xs ys t.1 k)

pub deeper_blank : (margin : Text) → list_all is_blank margin ≡ true → list_all is_blank (deeper margin) ≡ true
deeper_blank margin h = all_append is_blank margin (codes "  ") h refl

-- what spells the one thing spells the other
pub respelled : {A B : Type 0} (L : Langs A) (M : Langs B) (a : A) (b : B) (text : Text) (loose : Bool) → ((names : List Text) (ts rest : List Terminal) → L names ts a rest → M names ts b rest) → Fragment Cal L a text loose → Fragment Cal M b text loose
respelled L M a b text loose h x = record { items = x.items; bytes = x.bytes; stand = x.stand; spelled = λ names ts rest s. h names ts rest (x.spelled names ts rest s) }

module _ {A : Type 0} (L : Langs A) (a : A) (text : Text) where
  -- a mark of one byte before it, or behind it
  pub after_mark : (mark : ℕ) (behind : Text) (sort : Sort) (loose : Bool) → is_single_mark Cal mark ≡ true → ((next : ℕ) → is_double_mark Cal mark next ≡ false) → list_all is_blank behind ≡ true → sort_of Cal kinds.Mark (mark ∷ []) ≡ sort
      → Fragment Cal L a text loose → Fragment Cal (λ names. After sort (L names)) a (mark ∷ (behind ++ text)) loose
  after_mark mark behind sort loose single alone blank is x = fragment_after Cal [] kinds.Mark (mark ∷ []) behind sort L a text loose refl blank is (λ after. mark_stands Cal mark single alone (behind ++ (text ++ after))) x

  pub closed_mark : (mark : ℕ) (behind : Text) (sort : Sort) (loose : Bool) → is_single_mark Cal mark ≡ true → ((next : ℕ) → is_double_mark Cal mark next ≡ false) → is_loose Cal mark ≡ false → list_all is_blank behind ≡ true → sort_of Cal kinds.Mark (mark ∷ []) ≡ sort
      → Fragment Cal L a text loose → Fragment Cal (λ names. Closed (L names) sort) a (text ++ (mark ∷ behind)) false
  closed_mark mark behind sort loose single alone tight blank is x =
      fragment_closed Cal [] kinds.Mark (mark ∷ []) behind sort L a text loose refl blank is (λ after. mark_stands Cal mark single alone (behind ++ after)) (λ after. follows_byte Cal loose mark (behind ++ after) tight) x

  pub closed_semicolon : Fragment Cal L a text true → Fragment Cal (λ names. Closed (L names) Semicolon) a (text ++ codes ";") false
  closed_semicolon x = closed_mark 59 [] Semicolon true refl (λ next. refl) refl refl refl x

  -- ` = ` behind it, or before it
  pub closed_equals : Fragment Cal L a text true → Fragment Cal (λ names. Closed (L names) Equals) a (text ++ codes " = ") false
  closed_equals x = fragment_closed Cal (32 ∷ []) kinds.Mark (61 ∷ []) (32 ∷ []) Equals L a text true refl refl refl (λ after. single_stands Cal 61 (32 ∷ after) refl refl) (λ after. refl) x

  pub after_equals : (loose : Bool) → Fragment Cal L a text loose → Fragment Cal (λ names. After Equals (L names)) a (codes " = " ++ text) loose
  after_equals loose x = fragment_after Cal (32 ∷ []) kinds.Mark (61 ∷ []) (32 ∷ []) Equals L a text loose refl refl refl (λ after. single_stands Cal 61 (32 ∷ (text ++ after)) refl refl) x

  pub parenthesized : (loose : Bool) → Fragment Cal L a text loose → Fragment Cal (λ names. Between LeftParen (L names) RightParen) a (40 ∷ (text ++ (41 ∷ []))) false
  parenthesized loose x =
      fragment_after Cal [] kinds.Mark (40 ∷ []) [] LeftParen (λ names. Closed (L names) RightParen) a (text ++ (41 ∷ [])) false refl refl refl (λ after. mark_stands Cal 40 refl (λ next. refl) ((text ++ (41 ∷ [])) ++ after))
      (closed_mark 41 [] RightParen loose refl (λ next. refl) refl refl refl x)

  -- a line of its own
  pub line_shown : (margin : Text) → list_all is_blank margin ≡ true → Fragment Cal L a text false → Fragment Cal L a (line_text margin text) false
  line_shown margin blank x =
      retext Cal L a (margin ++ (text ++ codes "\n")) (line_text margin text) false (sym (append_assoc margin text (codes "\n")))
      (fragment_blank Cal margin L a (text ++ codes "\n") false blank (fragment_ended Cal (10 ∷ []) L a text refl x))

  -- lines in braces, behind what the block is
  pub braced : (margin : Text) → list_all is_blank margin ≡ true → Fragment Cal L a text false → Fragment Cal (λ names. Between LeftBrace (L names) RightBrace) a (codes " {\n" ++ (text ++ (margin ++ codes "}"))) false
  braced margin blank x =
      let closed = fragment_closed Cal margin kinds.Mark (125 ∷ []) [] RightBrace L a text false blank refl refl (λ after. mark_stands Cal 125 refl (λ next. refl) after) (λ after. tt) x in
      fragment_after Cal (32 ∷ []) kinds.Mark (123 ∷ []) (10 ∷ []) LeftBrace (λ names. Closed (L names) RightBrace) a (text ++ (margin ++ codes "}")) false refl refl refl
      (λ after. mark_stands Cal 123 refl (λ next. refl) (10 ∷ ((text ++ (margin ++ codes "}")) ++ after))) closed

block_parts : (margin head inner : Text) → line_text margin (head ++ (codes " {\n" ++ (inner ++ (margin ++ codes "}")))) ≡ block_text margin head inner
block_parts margin head inner = simp append_assoc

-- a block as lines of their own
pub block_shown : {A : Type 0} (L : Langs A) (a : A) (margin head inner : Text) → list_all is_blank margin ≡ true → Fragment Cal L a (head ++ (codes " {\n" ++ (inner ++ (margin ++ codes "}")))) false → Fragment Cal L a (block_text margin head inner) false
block_shown L a margin head inner blank x =
    retext Cal L a (line_text margin (head ++ (codes " {\n" ++ (inner ++ (margin ++ codes "}"))))) (block_text margin head inner) false (block_parts margin head inner)
    (line_shown L a (head ++ (codes " {\n" ++ (inner ++ (margin ++ codes "}")))) margin blank x)

-- items joined
module _ {A : Type 0} (L : Langs A) (Good : A → Type 0) (text : A → List ℕ) (each : (a : A) → Good a → Fragment Cal L a (text a) true) where
  pub separated : (xs : List A) → xs ≢ [] → AllByRecursion Good xs → Fragment Cal (λ names. Separated Comma (L names)) xs (joined text xs) true
  separated [] some h = absurd (some refl)
  separated (x ∷ xs) some h = fragment_separated Cal refl refl (λ next. refl) refl L Good text true each x xs h

  pub listed : (xs : List A) → AllByRecursion Good xs → Fragment Cal (λ names. Listed Comma (L names)) xs (joined text xs) true
  listed [] h = fragment_none Cal refl refl (λ next. refl) refl L Good text true each true
  listed (x ∷ xs) h = fragment_listed Cal refl refl (λ next. refl) refl L Good text true each x xs h
