-- Guards: what is read is the text of the guard, and the text of a guard is read.
use Rattle.std.proofs.Common.{◌≡◌, ℕ, zero, suc, ◌+◌, ◌<◌, ◌≤◌, ◌&&◌, true, false, eqb, leb, [], ◌∷◌, ◌++◌, length, codes, Option, Some, None, refl, sym, ap, ◌∙◌, append_assoc, subst, inl, inr, ◌⊎◌, ◌==◌, arith}
use Rattle.std.specs.Fmt.{decimal}
use Rattle.std.specs.List.{list_all}
use Rattle.std.proofs.lemmas.Bool.{eqb-true, le-leb, leb-true, ne_eqb}
use Rattle.std.proofs.lemmas.List.{append-nil, length-append}
use Rattle.hw_names.specs.Name.{Text}
use Rattle.net_core.specs.Guard.{GuardTree, GuardTrees, Reads, Compares, Negates, AllOf, AnyOf, NoGuards, MoreGuards}
use Rattle.net_core.specs.declared.net.Cmp.{Cmp}
use Rattle.net_core.specs.declared.net.Cmp.TheVariants.{Eq, Neq, Lt, Gt, Le, Ge}
use Rattle.net_core.specs.declared.net.Src.{Src}
use Rattle.net_core.specs.declared.net.Src.TheVariants.{Port, Lit}
use Rattle.net_text.specs.Layout.{source_text, operator_text, guard_text, guards_text, rest_text}
use Rattle.net_text.specs.Names.{is_path, is_number, source_has_text, count_guards, guard_has_text, guards_have_text}
use Rattle.net_text.specs.inside.ReadWords.{Read, ◌>>=◌, after, where_after, is_word_byte, source_at}
use Rattle.net_text.specs.inside.ReadGuards.{operator_at, test_at, test_from, listed, bracket_from, negated_read, guard_from, operands_from, guard_within, operands_within}
use Rattle.net_text.proofs.NumberLaws.{both_true, IsText-decimal}
use Rattle.net_text.proofs.ParamLemmas.{bind_some}
use Rattle.net_text.proofs.WordLaws.{Apart, some_is, either_way, path_word, decimal_word, after_takes, after_again, source_again, source_takes}

-- ---- what is read is the text

-- the guard at the front of the text, and the rest
pub record IsGuardOf (text : Text) (g : GuardTree Text) (rest : Text) : Type 0 where
  pub parts : text ≡ guard_text g ++ rest
  pub has : guard_has_text g ≡ true

-- the guards at the front of the text, and the rest
pub record AreGuardsOf (between text : Text) (gs : GuardTrees Text) (rest : Text) : Type 0 where
  pub parts : text ≡ guards_text between gs ++ rest
  pub have : guards_have_text gs ≡ true
  pub some : 0 < count_guards gs

in_cases : {A : Type 0} (o : Option Text) (f : Text → Option A) (other : Option A) (a : A) → where_after o f other ≡ Some a → ((rest : Text) × (o ≡ Some rest) × (f rest ≡ Some a)) ⊎ (other ≡ Some a)
in_cases (Some rest) f other a e = inl (rest, refl, e)
in_cases None f other a e = inr e

-- the operator with the spaces round it
abbrev mark_text : Cmp → Text
mark_text op = codes " " ++ (operator_text op ++ codes " ")

by_operator : (op : Cmp) (text : Text) (other : Read Cmp) (x : Cmp × Text) → (other ≡ Some x → text ≡ mark_text x.0 ++ x.1) → where_after (after (mark_text op) text) (λ rest. Some (op, rest)) other ≡ Some x → text ≡ mark_text x.0 ++ x.1
by_operator op text other x others e =
    elim (in_cases (after (mark_text op) text) (λ rest. Some (op, rest)) other x e) [
      | inl found ↦ subst (λ (y : Cmp × Text). text ≡ mark_text y.0 ++ y.1) (some_is (op, found.0) x found.2) (after_takes (mark_text op) text found.0 found.1)
      | inr rest ↦ others rest
    ]

operator_takes : (text : Text) (x : Cmp × Text) → operator_at text ≡ Some x → text ≡ mark_text x.0 ++ x.1
unfolding operator_at
operator_takes text x e =
    by_operator Eq text _ x (by_operator Neq text _ x (by_operator Lt text _ x (by_operator Gt text _ x (by_operator Le text _ x (by_operator Ge text None x (λ none. absurd cc)))))) e

compare_parts : (op : Cmp) (a b : Src Text) (rest : Text) → guard_text (Compares op a b) ++ rest ≡ codes "(" ++ (source_text a ++ (mark_text op ++ (source_text b ++ (codes ")" ++ rest))))
compare_parts op a b rest = simp append_assoc

test_takes : (text : Text) (left : Src Text) (x : GuardTree Text × Text) → source_has_text left ≡ true → test_at left text ≡ Some x → IsGuardOf (codes "(" ++ (source_text left ++ text)) x.0 x.1
unfolding test_at
test_takes text left x h e =
    let op = bind_some (operator_at text) (λ op. source_at op.1 >>= λ right. after (codes ")") right.1 >>= λ rest. Some (Compares op.0 left right.0, rest)) x e in
    let right = bind_some (source_at op.0.1) (λ right. after (codes ")") right.1 >>= λ rest. Some (Compares op.0.0 left right.0, rest)) x op.2 in
    let close = bind_some (after (codes ")") right.0.1) (λ rest. Some (Compares op.0.0 left right.0.0, rest)) x right.2 in
    let mark = operator_takes text op.0 op.1 in
    let source = source_takes op.0.1 right.0.0 right.0.1 right.1 in
    let end = after_takes (codes ")") right.0.1 close.0 close.1 in
    let whole : IsGuardOf (codes "(" ++ (source_text left ++ text)) (Compares op.0.0 left right.0.0) close.0 = record {
      parts = ap (λ (t : Text). codes "(" ++ (source_text left ++ t)) (mark ∙ ap (λ (t : Text). mark_text op.0.0 ++ t) (source.0 ∙ ap (λ (t : Text). source_text right.0.0 ++ t) end))
          ∙ sym (compare_parts op.0.0 left right.0.0 close.0);
      has = rw (h, source.1) refl;
    } in
    subst (λ (y : GuardTree Text × Text). IsGuardOf (codes "(" ++ (source_text left ++ text)) y.0 y.1) (some_is (Compares op.0.0 left right.0.0, close.0) x close.2) whole

test_from_takes : (text : Text) (first : GuardTree Text) (x : GuardTree Text × Text) → guard_has_text first ≡ true → test_from first text ≡ Some x → IsGuardOf (codes "(" ++ (guard_text first ++ text)) x.0 x.1
test_from_takes text (Reads left) x h e = test_takes text left x h e
test_from_takes text (Compares op a b) x h e = absurd cc
test_from_takes text (Negates g) x h e = absurd cc
test_from_takes text (AllOf gs) x h e = absurd cc
test_from_takes text (AnyOf gs) x h e = absurd cc

abbrev pub Takes : (Text → Read (GuardTree Text)) → Type 0
Takes guard = (text : Text) (g : GuardTree Text) (rest : Text) → guard text ≡ Some (g, rest) → IsGuardOf text g rest

abbrev pub TakesAll : (Text → Text → Read (GuardTrees Text)) → Type 0
TakesAll operands = (between text : Text) (gs : GuardTrees Text) (rest : Text) → operands between text ≡ Some (gs, rest) → AreGuardsOf between text gs rest

rest_parts : (between : Text) (gs : GuardTrees Text) → 0 < count_guards gs → rest_text between gs ≡ between ++ guards_text between gs
rest_parts between NoGuards some = absurd (omega arith)
rest_parts between (MoreGuards g gs) some = append_assoc between (guard_text g) (rest_text between gs)

list_parts : (first between others close rest : Text) → codes "(" ++ (first ++ (between ++ (others ++ (close ++ rest)))) ≡ ((codes "(" ++ (first ++ (between ++ others))) ++ close) ++ rest
list_parts first between others close rest = simp append_assoc

-- a list of guards that is a guard, whose text has this mark between each two
record IsList (of : GuardTrees Text → GuardTree Text) (between : Text) : Type 0 where
  text : (gs : GuardTrees Text) → guard_text (of gs) ≡ (codes "(" ++ guards_text between gs) ++ codes ")"
  has : (gs : GuardTrees Text) → guard_has_text (of gs) ≡ (leb 2 (count_guards gs) && guards_have_text gs)

all_list : IsList AllOf (codes " & ")
all_list = record { text = λ gs. refl; has = λ gs. refl }

any_list : IsList AnyOf (codes " | ")
any_list = record { text = λ gs. refl; has = λ gs. refl }

listed_takes : (of : GuardTrees Text → GuardTree Text) (between : Text) → IsList of between → (first : GuardTree Text) (text : Text) (read : Read (GuardTrees Text)) (x : GuardTree Text × Text) → guard_has_text first ≡ true
    → ((gs : GuardTrees Text) (rest : Text) → read ≡ Some (gs, rest) → AreGuardsOf between text gs rest) → listed of first read ≡ Some x → IsGuardOf (codes "(" ++ (guard_text first ++ (between ++ text))) x.0 x.1
listed_takes of between list first text read x h takes e =
    let gs = bind_some read (λ gs. after (codes ")") gs.1 >>= λ rest. Some (of (MoreGuards first gs.0), rest)) x e in
    let close = bind_some (after (codes ")") gs.0.1) (λ rest. Some (of (MoreGuards first gs.0.0), rest)) x gs.2 in
    let others = takes gs.0.0 gs.0.1 gs.1 in
    let end = after_takes (codes ")") gs.0.1 close.0 close.1 in
    let all : GuardTrees Text = MoreGuards first gs.0.0 in
    let two : leb 2 (count_guards gs.0.0 + 1) ≡ true = le-leb 2 (count_guards gs.0.0 + 1) (omega (arith, others.some)) in
    let inner : guards_text between all ≡ guard_text first ++ (between ++ guards_text between gs.0.0) = ap (λ (t : Text). guard_text first ++ t) (rest_parts between gs.0.0 others.some) in
    let whole : IsGuardOf (codes "(" ++ (guard_text first ++ (between ++ text))) (of all) close.0 = record {
      parts = ap (λ (t : Text). codes "(" ++ (guard_text first ++ (between ++ t))) (others.parts ∙ ap (λ (t : Text). guards_text between gs.0.0 ++ t) end)
          ∙ list_parts (guard_text first) between (guards_text between gs.0.0) (codes ")") close.0
          ∙ ap (λ (t : Text). ((codes "(" ++ t) ++ codes ")") ++ close.0) (sym inner) ∙ ap (λ (t : Text). t ++ close.0) (sym (list.text all));
      has = list.has all ∙ rw (two, h, others.have) refl;
    } in
    subst (λ (y : GuardTree Text × Text). IsGuardOf (codes "(" ++ (guard_text first ++ (between ++ text))) y.0 y.1) (some_is (of all, close.0) x close.2) whole

bracket_takes : (cs : Text) (read : Read (GuardTree Text)) (operands : Text → Text → Read (GuardTrees Text)) (x : GuardTree Text × Text) → ((g : GuardTree Text) (rest : Text) → read ≡ Some (g, rest) → IsGuardOf cs g rest) → TakesAll operands
    → bracket_from read operands ≡ Some x → IsGuardOf (codes "(" ++ cs) x.0 x.1
unfolding bracket_from
bracket_takes cs None operands x takes take_all e = absurd cc
bracket_takes cs (Some (first, text)) operands x takes take_all e =
    let f = takes first text refl in
    let along : (y : GuardTree Text × Text) (tail : Text) → text ≡ tail → IsGuardOf (codes "(" ++ (guard_text first ++ tail)) y.0 y.1 → IsGuardOf (codes "(" ++ cs) y.0 y.1 = λ y tail same g.
    record { parts = ap (λ (t : Text). codes "(" ++ t) (f.parts ∙ ap (λ (t : Text). guard_text first ++ t) same) ∙ g.parts; has = g.has } in
    elim (in_cases (after (codes " & ") text) (λ rest. listed AllOf first (operands (codes " & ") rest)) _ x e) [
      | inl all ↦ along x (codes " & " ++ all.0) (after_takes (codes " & ") text all.0 all.1) (listed_takes AllOf (codes " & ") all_list first all.0 (operands (codes " & ") all.0) x f.has (take_all (codes " & ") all.0) all.2)
      | inr others ↦
          elim (in_cases (after (codes " | ") text) (λ rest. listed AnyOf first (operands (codes " | ") rest)) (test_from first text) x others) [
            | inl any ↦ along x (codes " | " ++ any.0) (after_takes (codes " | ") text any.0 any.1) (listed_takes AnyOf (codes " | ") any_list first any.0 (operands (codes " | ") any.0) x f.has (take_all (codes " | ") any.0) any.2)
            | inr test ↦ along x text refl (test_from_takes text first x f.has test)
          ]
    ]

negated_takes : (cs : Text) (read : Read (GuardTree Text)) (x : GuardTree Text × Text) → ((g : GuardTree Text) (rest : Text) → read ≡ Some (g, rest) → IsGuardOf cs g rest) → negated_read read ≡ Some x → IsGuardOf (codes "!" ++ cs) x.0 x.1
negated_takes cs read x takes e =
    let g = bind_some read (λ g. Some (Negates g.0, g.1)) x e in
    let inner = takes g.0.0 g.0.1 g.1 in
    subst (λ (y : GuardTree Text × Text). IsGuardOf (codes "!" ++ cs) y.0 y.1) (some_is (Negates g.0.0, g.0.1) x g.2) (record { parts = ap (λ (t : Text). codes "!" ++ t) inner.parts; has = inner.has })

read_takes : (text : Text) (x : GuardTree Text × Text) → (source_at text >>= λ s. Some (Reads s.0, s.1)) ≡ Some x → IsGuardOf text x.0 x.1
read_takes text x e =
    let s = bind_some (source_at text) (λ s. Some (Reads s.0, s.1)) x e in
    let source = source_takes text s.0.0 s.0.1 s.1 in
    subst (λ (y : GuardTree Text × Text). IsGuardOf text y.0 y.1) (some_is (Reads s.0.0, s.0.1) x s.2) (record { parts = source.0; has = source.1 })

guard_from_takes : (guard : Text → Read (GuardTree Text)) (operands : Text → Text → Read (GuardTrees Text)) → Takes guard → TakesAll operands → Takes (guard_from guard operands)
unfolding guard_from
guard_from_takes guard operands takes take_all [] g rest e = absurd cc
guard_from_takes guard operands takes take_all (c ∷ cs) g rest e =
    elim (either_way (c == 33) (negated_read (guard cs)) _ (Some (g, rest)) e) [
      | inl bang ↦ let n = negated_takes cs (guard cs) (g, rest) (takes cs) bang.1 in record { parts = ap (λ (b : ℕ). b ∷ cs) (eqb-true c 33 bang.0) ∙ n.parts; has = n.has }
      | inr other ↦
          elim (either_way (c == 40) (bracket_from (guard cs) operands) (source_at (c ∷ cs) >>= λ s. Some (Reads s.0, s.1)) (Some (g, rest)) other.1) [
            | inl bracket ↦ let b = bracket_takes cs (guard cs) operands (g, rest) (takes cs) take_all bracket.1 in record { parts = ap (λ (b : ℕ). b ∷ cs) (eqb-true c 40 bracket.0) ∙ b.parts; has = b.has }
            | inr source ↦ read_takes (c ∷ cs) (g, rest) source.1
          ]
    ]

operands_from_takes : (between text : Text) (read : Read (GuardTree Text)) (more : Text → Read (GuardTrees Text)) (gs : GuardTrees Text) (rest : Text) → ((g : GuardTree Text) (rest : Text) → read ≡ Some (g, rest) → IsGuardOf text g rest)
    → ((text : Text) (gs : GuardTrees Text) (rest : Text) → more text ≡ Some (gs, rest) → AreGuardsOf between text gs rest) → operands_from read between more ≡ Some (gs, rest) → AreGuardsOf between text gs rest
unfolding operands_from
operands_from_takes between text None more gs rest takes take_all e = absurd cc
operands_from_takes between text (Some (g, after_g)) more gs rest takes take_all e =
    let f = takes g after_g refl in
    elim (in_cases (after between after_g) (λ next. more next >>= λ gs. Some (MoreGuards g gs.0, gs.1)) (Some (MoreGuards g NoGuards, after_g)) (gs, rest) e) [
      | inl found ↦
          let others = bind_some (more found.0) (λ gs. Some (MoreGuards g gs.0, gs.1)) (gs, rest) found.2 in
          let o = take_all found.0 others.0.0 others.0.1 others.1 in
          let mark = after_takes between after_g found.0 found.1 in
          let whole : AreGuardsOf between text (MoreGuards g others.0.0) others.0.1 = record {
            parts = f.parts ∙ ap (λ (t : Text). guard_text g ++ t) (mark ∙ ap (λ (t : Text). between ++ t) o.parts ∙ sym (append_assoc between (guards_text between others.0.0) others.0.1) ∙ ap (λ (t : Text). t ++ others.0.1) (sym (rest_parts between others.0.0 o.some)))
                ∙ sym (append_assoc (guard_text g) (rest_text between others.0.0) others.0.1);
            have = rw (f.has, o.have) refl;
            some = omega arith;
          } in
          subst (λ (y : GuardTrees Text × Text). AreGuardsOf between text y.0 y.1) (some_is (MoreGuards g others.0.0, others.0.1) (gs, rest) others.2) whole
      | inr last ↦
          let whole : AreGuardsOf between text (MoreGuards g NoGuards) after_g = record {
            parts = f.parts ∙ ap (λ (t : Text). t ++ after_g) (sym (append-nil (guard_text g)));
            have = rw f.has refl;
            some = omega arith;
          } in
          subst (λ (y : GuardTrees Text × Text). AreGuardsOf between text y.0 y.1) (some_is (MoreGuards g NoGuards, after_g) (gs, rest) last) whole
    ]

mutual
  unfolding guard_within

  pub guard_takes : (n : ℕ) → Takes (guard_within n)
  guard_takes zero text g rest e = absurd cc
  guard_takes (suc n) text g rest e = guard_from_takes (guard_within n) (operands_within n) (guard_takes n) (operands_take n) text g rest e

  pub operands_take : (n : ℕ) → TakesAll (operands_within n)
  operands_take zero between text gs rest e = absurd cc
  operands_take (suc n) between text gs rest e = operands_from_takes between text (guard_within n text) (operands_within n between) gs rest (guard_takes n text) (operands_take n between) e

-- ---- the text is read

word_head : (w : Text) → list_all is_word_byte w ≡ true → 0 < length w → (c : ℕ) × (cs : Text) × (w ≡ c ∷ cs) × (is_word_byte c ≡ true)
word_head [] h some = absurd (omega arith)
word_head (c ∷ cs) h some = (c, cs, refl, (both_true (is_word_byte c) (list_all is_word_byte cs) h).0)

path_some : (p : Text) → is_path p ≡ true → 0 < length p
path_some [] h = absurd cc
path_some (c ∷ cs) h = omega arith

-- a guard's text is not empty
source_head : (s : Src Text) → source_has_text s ≡ true → (c : ℕ) × (cs : Text) × (source_text s ≡ c ∷ cs) × (is_word_byte c ≡ true)
source_head (Port p) h = word_head p (path_word p h) (path_some p h)
source_head (Lit width value) h =
    let b = both_true (is_number width) (is_number value) h in
    let w = word_head (decimal width) (decimal_word width b.0) (IsText-decimal width b.0).some in
    (w.0, (w.1 ++ codes "'d") ++ decimal value, ap (λ (t : Text). (t ++ codes "'d") ++ decimal value) w.2, w.3)

source_some : (s : Src Text) → source_has_text s ≡ true → 0 < length (source_text s)
source_some s h = let w = source_head s h in omega (arith, ap length w.2)

pub guard_some : (g : GuardTree Text) → guard_has_text g ≡ true → 0 < length (guard_text g)
guard_some (Reads s) h = source_some s h
guard_some (Compares op a b) h = omega arith
guard_some (Negates g) h = omega arith
guard_some (AllOf gs) h = omega arith
guard_some (AnyOf gs) h = omega arith

not_marks : (c : ℕ) → is_word_byte c ≡ true → (eqb c 33 ≡ false) × (eqb c 40 ≡ false)
not_marks c h = (
  ne_eqb c 33 (λ e. let no_word : is_word_byte 33 ≡ true = ap is_word_byte (sym e) ∙ h in cc),
  ne_eqb c 40 (λ e. let no_word : is_word_byte 40 ≡ true = ap is_word_byte (sym e) ∙ h in cc),
)

reads_headed : (guard : Text → Read (GuardTree Text)) (operands : Text → Text → Read (GuardTrees Text)) (c : ℕ) (cs : Text) (s : Src Text) (rest : Text) → is_word_byte c ≡ true → source_at (c ∷ cs) ≡ Some (s, rest) → guard_from guard operands (c ∷ cs) ≡ Some (Reads s, rest)
unfolding guard_from
reads_headed guard operands c cs s rest word read =
    let no_mark = not_marks c word in
    rw (no_mark.0, no_mark.1, read) refl

reads_again : (n : ℕ) (s : Src Text) (rest : Text) → source_has_text s ≡ true → Apart rest → 0 < n → guard_within n (source_text s ++ rest) ≡ Some (Reads s, rest)
unfolding guard_within
reads_again zero s rest h apart some = absurd (omega arith)
reads_again (suc n) s rest h apart some =
    let w = source_head s h in
    let same : source_text s ++ rest ≡ w.0 ∷ (w.1 ++ rest) = ap (λ (t : Text). t ++ rest) w.2 in
    ap (guard_from (guard_within n) (operands_within n)) same ∙ reads_headed (guard_within n) (operands_within n) w.0 (w.1 ++ rest) s rest w.3 (ap source_at (sym same) ∙ source_again s rest h apart)

operator_again : (op : Cmp) (t : Text) → operator_at (mark_text op ++ t) ≡ Some (op, t)
unfolding operator_at
operator_again Eq t = refl
operator_again Neq t = refl
operator_again Lt t = refl
operator_again Gt t = refl
operator_again Le t = refl
operator_again Ge t = refl

no_and : (op : Cmp) (t : Text) → after (codes " & ") (mark_text op ++ t) ≡ None
no_and Eq t = refl
no_and Neq t = refl
no_and Lt t = refl
no_and Gt t = refl
no_and Le t = refl
no_and Ge t = refl

no_or : (op : Cmp) (t : Text) → after (codes " | ") (mark_text op ++ t) ≡ None
no_or Eq t = refl
no_or Neq t = refl
no_or Lt t = refl
no_or Gt t = refl
no_or Le t = refl
no_or Ge t = refl

test_again : (op : Cmp) (a b : Src Text) (rest : Text) → source_has_text b ≡ true → test_at a (mark_text op ++ (source_text b ++ (codes ")" ++ rest))) ≡ Some (Compares op a b, rest)
unfolding test_at
test_again op a b rest h = rw (operator_again op (source_text b ++ (codes ")" ++ rest)), source_again b (codes ")" ++ rest) h refl) refl

compare_again : (n : ℕ) (op : Cmp) (a b : Src Text) (rest : Text) → source_has_text a ≡ true → source_has_text b ≡ true → 1 < n → guard_within n (guard_text (Compares op a b) ++ rest) ≡ Some (Compares op a b, rest)
unfolding guard_within guard_from bracket_from
compare_again zero op a b rest h k some = absurd (omega arith)
compare_again (suc n) op a b rest h k some =
    let tail : Text = mark_text op ++ (source_text b ++ (codes ")" ++ rest)) in
    let left : guard_within n (source_text a ++ tail) ≡ Some (Reads a, tail) = reads_again n a tail h refl (omega arith) in
    ap (guard_within (suc n)) (compare_parts op a b rest)
    ∙ rw (left, no_and op (source_text b ++ (codes ")" ++ rest)), no_or op (source_text b ++ (codes ")" ++ rest))) (test_again op a b rest k)

-- a mark between two guards
record IsMark (between : Text) : Type 0 where
  apart : (t : Text) → Apart (between ++ t)
  closes : (t : Text) → after between (codes ")" ++ t) ≡ None

and_mark : IsMark (codes " & ")
and_mark = record { apart = λ t. refl; closes = λ t. refl }

or_mark : IsMark (codes " | ")
or_mark = record { apart = λ t. refl; closes = λ t. refl }

-- a list of two or more in brackets
list_bracket : (first : Text) (between : Text) (others : GuardTrees Text) (rest : Text) → 0 < count_guards others → ((codes "(" ++ (first ++ rest_text between others)) ++ codes ")") ++ rest ≡ codes "(" ++ (first ++ (between ++ (guards_text between others ++ (codes ")" ++ rest))))
list_bracket first between others rest some =
    ap (λ (t : Text). ((codes "(" ++ (first ++ t)) ++ codes ")") ++ rest) (rest_parts between others some) ∙ sym (list_parts first between (guards_text between others) (codes ")") rest)

all_bracket : (guard : Read (GuardTree Text)) (operands : Text → Text → Read (GuardTrees Text)) (first : GuardTree Text) (others : GuardTrees Text) (text rest : Text) → guard ≡ Some (first, codes " & " ++ text) → operands (codes " & ") text ≡ Some (others, codes ")" ++ rest)
    → bracket_from guard operands ≡ Some (AllOf (MoreGuards first others), rest)
unfolding bracket_from
all_bracket guard operands first others text rest e f = rw (e, f) refl

any_bracket : (guard : Read (GuardTree Text)) (operands : Text → Text → Read (GuardTrees Text)) (first : GuardTree Text) (others : GuardTrees Text) (text rest : Text) → guard ≡ Some (first, codes " | " ++ text) → operands (codes " | ") text ≡ Some (others, codes ")" ++ rest)
    → bracket_from guard operands ≡ Some (AnyOf (MoreGuards first others), rest)
unfolding bracket_from
any_bracket guard operands first others text rest e f = rw (e, f) refl

one_operand : (read : Read (GuardTree Text)) (between : Text) (more : Text → Read (GuardTrees Text)) (g : GuardTree Text) (close : Text) → read ≡ Some (g, close) → after between close ≡ None → operands_from read between more ≡ Some (MoreGuards g NoGuards, close)
unfolding operands_from
one_operand read between more g close e none = rw (e, none) refl

more_operands : (read : Read (GuardTree Text)) (between : Text) (more : Text → Read (GuardTrees Text)) (g : GuardTree Text) (others : GuardTrees Text) (text close : Text) → read ≡ Some (g, between ++ text) → more text ≡ Some (others, close)
    → operands_from read between more ≡ Some (MoreGuards g others, close)
unfolding operands_from
more_operands read between more g others text close e f = rw (e, after_again between text, f) refl

-- the text of the guard is read, whatever follows it apart
abbrev GuardAgain : GuardTree Text → Type 0
GuardAgain g = (n : ℕ) (rest : Text) → guard_has_text g ≡ true → Apart rest → length (guard_text g) ≤ n → guard_within n (guard_text g ++ rest) ≡ Some (g, rest)

abbrev GuardsAgain : GuardTrees Text → Type 0
GuardsAgain NoGuards = Unit {0}
GuardsAgain (MoreGuards g gs) = GuardAgain g × GuardsAgain gs

negates_again : (g : GuardTree Text) → GuardAgain g → GuardAgain (Negates g)
unfolding guard_within guard_from
negates_again g again zero rest h apart le = absurd (omega arith)
negates_again g again (suc n) rest h apart le = ap negated_read (again n rest h apart (omega arith))

-- the guards of a list, up to the closing bracket
operands_again : (gs : GuardTrees Text) (between : Text) (n : ℕ) (rest : Text) → IsMark between → GuardsAgain gs → 0 < count_guards gs → guards_have_text gs ≡ true → length (guards_text between gs) < n
    → operands_within n between (guards_text between gs ++ (codes ")" ++ rest)) ≡ Some (gs, codes ")" ++ rest)
unfolding guard_within
operands_again gs between zero rest mark again some h lt = absurd (omega arith)
operands_again NoGuards between (suc n) rest mark again some h lt = absurd (omega arith)
operands_again (MoreGuards g NoGuards) between (suc n) rest mark again some h lt =
    let b = both_true (guard_has_text g) true h in
    let text : Text = codes ")" ++ rest in
    let alone : guards_text between (MoreGuards g NoGuards) ++ text ≡ guard_text g ++ text = ap (λ (t : Text). t ++ text) (append-nil (guard_text g)) in
    let len : length (guards_text between (MoreGuards g NoGuards)) ≡ length (guard_text g) = ap length (append-nil (guard_text g)) in
    ap (operands_within (suc n) between) alone
    ∙ one_operand (guard_within n (guard_text g ++ text)) between (operands_within n between) g text (again.0 n text b.0 refl (omega arith)) (mark.closes rest)
operands_again (MoreGuards g (MoreGuards f gs)) between (suc n) rest mark again some h lt =
    let others : GuardTrees Text = MoreGuards f gs in
    let b = both_true (guard_has_text g) (guards_have_text others) h in
    let text : Text = guards_text between others ++ (codes ")" ++ rest) in
    let parts = rest_parts between others (omega arith) in
    let regrouped : guards_text between (MoreGuards g others) ++ (codes ")" ++ rest) ≡ guard_text g ++ (between ++ text) =
    append_assoc (guard_text g) (rest_text between others) (codes ")" ++ rest)
    ∙ ap (λ (t : Text). guard_text g ++ t) (ap (λ (t : Text). t ++ (codes ")" ++ rest)) parts ∙ append_assoc between (guards_text between others) (codes ")" ++ rest)) in
    let len : length (guards_text between (MoreGuards g others)) ≡ length (guard_text g) + length (rest_text between others) = length-append (guard_text g) (rest_text between others) in
    let len_rest : length (rest_text between others) ≡ length between + length (guards_text between others) = ap length parts ∙ length-append between (guards_text between others) in
    let first : guard_within n (guard_text g ++ (between ++ text)) ≡ Some (g, between ++ text) = again.0 n (between ++ text) b.0 (mark.apart text) (omega arith) in
    ap (operands_within (suc n) between) regrouped
    ∙ more_operands (guard_within n (guard_text g ++ (between ++ text))) between (operands_within n between) g others text (codes ")" ++ rest) first
    (operands_again others between n rest mark again.1 (omega arith) b.1 (omega (arith, guard_some g b.0)))

-- a list in brackets
list_inner : (g : GuardTree Text) (gs : GuardTrees Text) (between : Text) (n : ℕ) → 0 < count_guards gs → length ((codes "(" ++ guards_text between (MoreGuards g gs)) ++ codes ")") ≤ suc n → (length (guard_text g) ≤ n) × (length (guards_text between gs) < n)
list_inner g gs between n some le =
    let parts = rest_parts between gs some in
    let len_all : length ((codes "(" ++ guards_text between (MoreGuards g gs)) ++ codes ")") ≡ suc (length (guards_text between (MoreGuards g gs))) + 1 = length-append (codes "(" ++ guards_text between (MoreGuards g gs)) (codes ")") in
    let len : length (guards_text between (MoreGuards g gs)) ≡ length (guard_text g) + length (rest_text between gs) = length-append (guard_text g) (rest_text between gs) in
    let len_rest : length (rest_text between gs) ≡ length between + length (guards_text between gs) = ap length parts ∙ length-append between (guards_text between gs) in
    (omega arith, omega arith)

two_or_more : (gs : GuardTrees Text) → leb 2 (count_guards gs + 1) ≡ true → 0 < count_guards gs
two_or_more gs h = omega (arith, leb-true 2 (count_guards gs + 1) h)

all_again : (gs : GuardTrees Text) → GuardsAgain gs → GuardAgain (AllOf gs)
unfolding guard_within guard_from
all_again NoGuards again n rest h apart le = absurd cc
all_again (MoreGuards g gs) again zero rest h apart le = absurd (omega arith)
all_again (MoreGuards g gs) again (suc n) rest h apart le =
    let b = both_true (leb 2 (count_guards gs + 1)) (guards_have_text (MoreGuards g gs)) h in
    let have = both_true (guard_has_text g) (guards_have_text gs) b.1 in
    let some = two_or_more gs b.0 in
    let inner = list_inner g gs (codes " & ") n some le in
    let text : Text = guards_text (codes " & ") gs ++ (codes ")" ++ rest) in
    ap (guard_within (suc n)) (list_bracket (guard_text g) (codes " & ") gs rest some)
    ∙ all_bracket (guard_within n (guard_text g ++ (codes " & " ++ text))) (operands_within n) g gs text rest (again.0 n (codes " & " ++ text) have.0 refl inner.0) (operands_again gs (codes " & ") n rest and_mark again.1 some have.1 inner.1)

any_again : (gs : GuardTrees Text) → GuardsAgain gs → GuardAgain (AnyOf gs)
unfolding guard_within guard_from
any_again NoGuards again n rest h apart le = absurd cc
any_again (MoreGuards g gs) again zero rest h apart le = absurd (omega arith)
any_again (MoreGuards g gs) again (suc n) rest h apart le =
    let b = both_true (leb 2 (count_guards gs + 1)) (guards_have_text (MoreGuards g gs)) h in
    let have = both_true (guard_has_text g) (guards_have_text gs) b.1 in
    let some = two_or_more gs b.0 in
    let inner = list_inner g gs (codes " | ") n some le in
    let text : Text = guards_text (codes " | ") gs ++ (codes ")" ++ rest) in
    ap (guard_within (suc n)) (list_bracket (guard_text g) (codes " | ") gs rest some)
    ∙ any_bracket (guard_within n (guard_text g ++ (codes " | " ++ text))) (operands_within n) g gs text rest (again.0 n (codes " | " ++ text) have.0 refl inner.0) (operands_again gs (codes " | ") n rest or_mark again.1 some have.1 inner.1)

compares_long : (op : Cmp) (a b : Src Text) → 1 < length (guard_text (Compares op a b))
compares_long op a b = omega (arith, length-append (source_text a ++ codes " " ++ operator_text op ++ codes " " ++ source_text b) (codes ")"))

mutual
  pub guard_again : (g : GuardTree Text) → GuardAgain g
  guard_again (Reads s) = λ n rest h apart le. reads_again n s rest h apart (omega (arith, source_some s h))
  guard_again (Compares op a b) = λ n rest h apart le.
      let k = both_true (source_has_text a) (source_has_text b) h in
      compare_again n op a b rest k.0 k.1 (omega (arith, compares_long op a b))
  guard_again (Negates g) = negates_again g (guard_again g)
  guard_again (AllOf gs) = all_again gs (guards_again gs)
  guard_again (AnyOf gs) = any_again gs (guards_again gs)

  guards_again : (gs : GuardTrees Text) → GuardsAgain gs
  guards_again NoGuards = tt
  guards_again (MoreGuards g gs) = (guard_again g, guards_again gs)
