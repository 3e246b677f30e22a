-- Names, numbers and sources at the front of a text: what is read is the text, and the text is read where no more of a word follows.
use Rattle.std.proofs.Common.{◌≡◌, ℕ, ◌<◌, ◌&&◌, ◌||◌, Bool, true, false, cond, eqb, [], ◌∷◌, ◌++◌, length, take, drop, codes, Option, Some, refl, sym, ap, ◌∙◌, append_assoc, subst, inl, inr, ◌⊎◌, eq-eqb, ◌==◌, arith}
use Rattle.std.specs.Fmt.{decimal}
use Rattle.std.specs.List.{list_all}
use Rattle.std.proofs.lemmas.Bool.Decides.{nat_tests}
use Rattle.std.proofs.lemmas.Bool.{eqb-true}
use Rattle.std.proofs.lemmas.List.{take_at, drop_at, take-append-drop}
use Rattle.hw_names.specs.Name.{Text}
use Rattle.net_core.specs.declared.net.Src.{Src}
use Rattle.net_core.specs.declared.net.Src.TheVariants.{Port, Lit}
use Rattle.net_text.specs.Layout.{source_text}
use Rattle.net_text.specs.Names.{begins_name, continues_name, is_segment, is_path, is_rest_of_path, is_number, source_has_text}
use Rattle.net_text.specs.inside.ReadWords.{◌>>=◌, after, is_digit, is_word_byte, word_len, word_at, number_of, number_at, literal_at, source_at}
use Rattle.net_text.proofs.NumberLaws.{both_true, chosen, number_takes, number_again, IsText-decimal}
use Rattle.net_text.proofs.ParamLemmas.{bind_some}
use Rattle.net_text.proofs.WordLemmas.{pair_rest}

pub some_is : {A : Type 0} (a b : A) → ◌≡◌ {A = Option A} (Some a) (Some b) → a ≡ b
some_is a b e = cc

pub either_way : {A : Type 0} (b : Bool) (x y z : A) → cond b x y ≡ z → ((b ≡ true) × (x ≡ z)) ⊎ ((b ≡ false) × (y ≡ z))
either_way true x y z e = inl (refl, e)
either_way false x y z e = inr (refl, e)

pub pair_first : {A : Type 0} (a b : A) (s t : Text) → ◌≡◌ {A = Option (A × Text)} (Some (a, s)) (Some (b, t)) → a ≡ b
pair_first {A} a b s t e = ap (λ (p : A × Text). p.0) (some_is (a, s) (b, t) e)

-- no byte of a word comes next
abbrev pub Apart : Text → Type 0
Apart [] = Unit {0}
Apart (c ∷ cs) = is_word_byte c ≡ false

pub word_again : (w rest : Text) → list_all is_word_byte w ≡ true → Apart rest → word_len (w ++ rest) ≡ length w
word_again [] [] h a = refl
word_again [] (c ∷ cs) h a = rw a refl
word_again (x ∷ w) rest h a =
    let b = both_true (is_word_byte x) (list_all is_word_byte w) h in
    rw (b.0, word_again w rest b.1 a) (omega arith)

pub all_imply : (p q : ℕ → Bool) → ((c : ℕ) → p c ≡ true → q c ≡ true) → (xs : Text) → list_all p xs ≡ true → list_all q xs ≡ true
all_imply p q f [] h = refl
all_imply p q f (x ∷ xs) h =
    let b = both_true (p x) (list_all p xs) h in
    rw (f x b.0) (all_imply p q f xs b.1)

begins_word : (c : ℕ) → begins_name c ≡ true → is_word_byte c ≡ true
begins_word c h = rw h refl

continues_word : (c : ℕ) → continues_name c ≡ true → is_word_byte c ≡ true
continues_word c h = rw h refl

or_second : (b d x y : Bool) → d ≡ true → (b || d || x || y) ≡ true
or_second true d x y h = refl
or_second false d x y h = rw h refl

or_last : (b d : Bool) → d ≡ true → (b || d) ≡ true
or_last true d h = refl
or_last false d h = h

digit_word : (c : ℕ) → is_digit c ≡ true → is_word_byte c ≡ true
digit_word c h = or_second (begins_name c) (is_digit c) (c == 36) (c == 46) h

digit_begins_no_name : (c : ℕ) → is_digit c ≡ true → begins_name c ≡ false
digit_begins_no_name c h = grind (arith, nat_tests)

pub segment_word : (w : Text) → is_segment w ≡ true → list_all is_word_byte w ≡ true
segment_word [] h = refl
segment_word (c ∷ cs) h =
    let b = both_true (begins_name c) (list_all continues_name cs) h in
    rw (begins_word c b.0) (all_imply continues_name is_word_byte continues_word cs b.1)

rest_step : (b : Bool) (c : ℕ) (cs : Text) → (c == 46) ≡ b → cond b (is_path cs) (continues_name c && is_rest_of_path cs) ≡ true
    → (is_path cs ≡ true → list_all is_word_byte cs ≡ true) → (is_rest_of_path cs ≡ true → list_all is_word_byte cs ≡ true) → list_all is_word_byte (c ∷ cs) ≡ true
rest_step true c cs e h f g = rw (or_last (continues_name c) (c == 46) e) (f h)
rest_step false c cs e h f g =
    let b = both_true (continues_name c) (is_rest_of_path cs) h in
    rw (continues_word c b.0) (g b.1)

mutual
  pub path_word : (w : Text) → is_path w ≡ true → list_all is_word_byte w ≡ true
  path_word [] h = refl
  path_word (c ∷ cs) h =
      let b = both_true (begins_name c) (is_rest_of_path cs) h in
      rw (begins_word c b.0) (rest_word cs b.1)

  rest_word : (w : Text) → is_rest_of_path w ≡ true → list_all is_word_byte w ≡ true
  rest_word [] h = refl
  rest_word (c ∷ cs) h = rest_step (c == 46) c cs refl h (path_word cs) (rest_word cs)

pub decimal_word : (n : ℕ) → is_number n ≡ true → list_all is_word_byte (decimal n) ≡ true
decimal_word n h = all_imply is_digit is_word_byte digit_word (decimal n) (IsText-decimal n h).digits

no_path : (ds : Text) → 0 < length ds → list_all is_digit ds ≡ true → is_path ds ≡ false
no_path [] some h = refl
no_path (c ∷ cs) some h = let b = both_true (is_digit c) (list_all is_digit cs) h in rw (digit_begins_no_name c b.0) refl

decimal_no_path : (n : ℕ) → is_number n ≡ true → is_path (decimal n) ≡ false
decimal_no_path n h = no_path (decimal n) (IsText-decimal n h).some (IsText-decimal n h).digits

-- a word at the front of a longer text
pub record IsFront (w rest : Text) : Type 0 where
  pub taken : take (word_len (w ++ rest)) (w ++ rest) ≡ w
  pub left : drop (word_len (w ++ rest)) (w ++ rest) ≡ rest

pub front : (w rest : Text) → list_all is_word_byte w ≡ true → Apart rest → IsFront w rest
front w rest h a =
    let len = word_again w rest h a in
    record { taken = take_at w rest (word_len (w ++ rest)) (sym len); left = drop_at w rest (word_len (w ++ rest)) (sym len) }

-- ---- marks

pub after_again : (mark rest : Text) → after mark (mark ++ rest) ≡ Some rest
after_again [] rest = refl
after_again (c ∷ cs) rest = rw (eq-eqb c c refl) (after_again cs rest)

pub after_takes : (mark text rest : Text) → after mark text ≡ Some rest → text ≡ mark ++ rest
after_takes [] text rest e = cc
after_takes (c ∷ cs) [] rest e = absurd cc
after_takes (c ∷ cs) (d ∷ ds) rest e =
    let b = chosen (eqb c d) (after cs ds) rest e in
    ap (λ (x : ℕ). x ∷ ds) (sym (eqb-true c d b.0)) ∙ ap (λ (t : Text). c ∷ t) (after_takes cs ds rest b.1)

-- ---- names

pub name_again : (test : Text → Bool) (w rest : Text) → test w ≡ true → list_all is_word_byte w ≡ true → Apart rest → word_at test (w ++ rest) ≡ Some (w, rest)
unfolding word_at
name_again test w rest h bytes a =
    let f = front w rest bytes a in
    rw (f.taken, f.left, h) refl

pub name_takes : (test : Text → Bool) (text w rest : Text) → word_at test text ≡ Some (w, rest) → (text ≡ w ++ rest) × (test w ≡ true)
unfolding word_at
name_takes test text w rest e =
    let n = word_len text in
    let b = chosen (test (take n text)) (Some (take n text, drop n text)) (w, rest) e in
    let word = pair_first (take n text) w (drop n text) rest b.1 in
    (sym (take-append-drop n text) ∙ ap (λ (t : Text). t ++ drop n text) word ∙ ap (λ (t : Text). w ++ t) (pair_rest (take n text) w (drop n text) rest b.1), ap test (sym word) ∙ b.0)

-- ---- numbers

pub number_at_again : (n : ℕ) (rest : Text) → is_number n ≡ true → Apart rest → number_at (decimal n ++ rest) ≡ Some (n, rest)
unfolding number_at
number_at_again n rest h a =
    let f = front (decimal n) rest (decimal_word n h) a in
    rw (f.taken, f.left, number_again n h) refl

pub number_at_takes : (text : Text) (n : ℕ) (rest : Text) → number_at text ≡ Some (n, rest) → (text ≡ decimal n ++ rest) × (is_number n ≡ true)
unfolding number_at
number_at_takes text n rest e =
    let len = word_len text in
    let b = bind_some (number_of (take len text)) (λ v. Some (v, drop len text)) (n, rest) e in
    let number = number_takes (take len text) b.0 b.1 in
    let same : b.0 ≡ n = pair_first b.0 n (drop len text) rest b.2 in (
      sym (take-append-drop len text) ∙ ap (λ (t : Text). t ++ drop len text) (number.0 ∙ ap decimal same) ∙ ap (λ (t : Text). decimal n ++ t) (pair_rest b.0 n (drop len text) rest b.2),
      subst (λ (k : ℕ). is_number k ≡ true) same number.1,
    )

-- ---- sources

literal_again : (width value : ℕ) (rest : Text) → is_number width ≡ true → is_number value ≡ true → Apart rest → literal_at (decimal width ++ (codes "'d" ++ (decimal value ++ rest))) ≡ Some (Lit width value, rest)
unfolding literal_at
literal_again width value rest h k a =
    rw (number_at_again width (codes "'d" ++ (decimal value ++ rest)) h refl, number_at_again value rest k a) refl

pub source_again : (s : Src Text) (rest : Text) → source_has_text s ≡ true → Apart rest → source_at (source_text s ++ rest) ≡ Some (s, rest)
unfolding source_at
source_again (Port p) rest h a =
    let f = front p rest (path_word p h) a in
    rw (f.taken, f.left, h) refl
source_again (Lit width value) rest h a =
    let b = both_true (is_number width) (is_number value) h in
    let tail : Text = codes "'d" ++ (decimal value ++ rest) in
    let regrouped : source_text (Lit width value) ++ rest ≡ decimal width ++ tail =
    append_assoc (decimal width ++ codes "'d") (decimal value) rest ∙ append_assoc (decimal width) (codes "'d") (decimal value ++ rest) in
    let f = front (decimal width) tail (decimal_word width b.0) refl in
    ap source_at regrouped ∙ rw (f.taken, decimal_no_path width b.0) (literal_again width value rest b.0 b.1 a)

literal_takes : (text : Text) (s : Src Text) (rest : Text) → literal_at text ≡ Some (s, rest) → (text ≡ source_text s ++ rest) × (source_has_text s ≡ true)
unfolding literal_at
literal_takes text s rest e =
    let a = bind_some (number_at text) (λ w. after (codes "'d") w.1 >>= λ digits. number_at digits >>= λ v. Some (Lit w.0 v.0, v.1)) (s, rest) e in
    let b = bind_some (after (codes "'d") a.0.1) (λ digits. number_at digits >>= λ v. Some (Lit a.0.0 v.0, v.1)) (s, rest) a.2 in
    let c = bind_some (number_at b.0) (λ v. Some (Lit a.0.0 v.0, v.1)) (s, rest) b.2 in
    let width = number_at_takes text a.0.0 a.0.1 a.1 in
    let mark = after_takes (codes "'d") a.0.1 b.0 b.1 in
    let value = number_at_takes b.0 c.0.0 c.0.1 c.1 in
    let whole : text ≡ source_text (Lit a.0.0 c.0.0) ++ c.0.1 =
    width.0 ∙ ap (λ (t : Text). decimal a.0.0 ++ t) (mark ∙ ap (λ (t : Text). codes "'d" ++ t) value.0)
    ∙ sym (append_assoc (decimal a.0.0 ++ codes "'d") (decimal c.0.0) c.0.1 ∙ append_assoc (decimal a.0.0) (codes "'d") (decimal c.0.0 ++ c.0.1)) in
    let fits : source_has_text (Lit a.0.0 c.0.0) ≡ true = rw (width.1, value.1) refl in
    subst (λ (x : Src Text × Text). (text ≡ source_text x.0 ++ x.1) × (source_has_text x.0 ≡ true)) (some_is (Lit a.0.0 c.0.0, c.0.1) (s, rest) c.2) (whole, fits)

pub source_takes : (text : Text) (s : Src Text) (rest : Text) → source_at text ≡ Some (s, rest) → (text ≡ source_text s ++ rest) × (source_has_text s ≡ true)
unfolding source_at
source_takes text s rest e =
    let n = word_len text in
    elim (either_way (is_path (take n text)) (Some (Port (take n text), drop n text)) (literal_at text) (Some (s, rest)) e) [
      | inl h ↦ subst (λ (x : Src Text × Text). (text ≡ source_text x.0 ++ x.1) × (source_has_text x.0 ≡ true)) (some_is (Port (take n text), drop n text) (s, rest) h.1) (sym (take-append-drop n text), h.0)
      | inr h ↦ literal_takes text s rest h.1
    ]
