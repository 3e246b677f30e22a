-- The texts of ports, sources and guards spell them.
use Rattle.std.proofs.Common.{◌≡◌, ℕ, zero, suc, ◌+◌, ◌<◌, ◌≤◌, Bool, true, false, ◌==◌, List, [], ◌∷◌, ◌++◌, codes, decimal, Option, Some, None, refl, sym, ap, subst, ◌∙◌, inl, inr, append_assoc, arith}
use Rattle.std.specs.List.{list_all}
use Rattle.std.proofs.lemmas.Bool.{eqb-true}
use Rattle.std.proofs.lemmas.List.{append-nil}
use Rattle.hw_names.specs.Name.{Text}
use Rattle.hw_lex.specs.declared.token.Dialect.TheVariants.{Cal}
use Rattle.hw_lex.specs.declared.token.Kind.TheVariants as kinds
use Rattle.hw_lex.specs.declared.number.Base.TheVariants.{Decimal}
use Rattle.hw_lex.specs.Byte.{is_letter, is_double_mark}
use Rattle.hw_lex.specs.Number.{is_digit}
use Rattle.hw_lex.specs.Word.{IsDigits, Stands}
use Rattle.hw_lex.proofs.Fronts.{Ends, by_test, clash, and_true}
use Rattle.hw_lex.proofs.Words.{single_stands, double_stands}
use Rattle.hw_grammar.specs.declared.sort.Sort.{Sort}
use Rattle.hw_grammar.specs.declared.sort.Sort.TheVariants.{Dot, Not, And, Or, LeftParen, RightParen, LeftAngle, RightAngle, EqualsEquals, NotEquals, AtMost, AtLeast}
use Rattle.hw_grammar.specs.declared.terminal.Terminal.{Terminal}
use Rattle.hw_grammar.specs.Grammar.{Empty, Mapped, AnyWord, AnyLiteral, Then, Optional, After, Between, Many, Separated}
use Rattle.hw_grammar.specs.Terminals.{sort_of}
use Rattle.hw_grammar.proofs.Fragments.{Fragment, Blank, Word, Follows, retext, loosened, fragment_empty, fragment_mapped, fragment_left, fragment_right, fragment_then, fragment_after, mark_stands}
use Rattle.hw_grammar.proofs.Decimals.{decimal_text, fragment_name, fragment_literal}
use Rattle.net_core.specs.declared.net.Src.TheVariants.{Port, Lit}
use Rattle.net_core.specs.declared.net.Cmp.{Cmp}
use Rattle.net_core.specs.declared.net.Cmp.TheVariants.{Eq, Neq, Lt, Gt, Le, Ge}
use Rattle.net_core.specs.Guard.{Reads, Compares, Negates, AllOf, AnyOf, GuardTrees, NoGuards, MoreGuards, guards_of}
use Rattle.cal_ast.specs.Tree.{PortName}
use Rattle.cal_parse.specs.Grammar.{port_from, Source, port_source, literal_from, Guard, all_from, any_from, Compared, IsPort, IsSource, IsOperator, TightTo, GuardTo, UnitOf, ConjunctionOf, IsGuard}
use Rattle.cal_ast.specs.Written.{IsCalName, NameIsWritten, PortIsWritten, SourceIsWritten, HasTwoGuards, GuardIsWritten, GuardsAreWritten}
use Rattle.cal_print.specs.Layout.{cell_part, port_text, source_text, operator_text, is_list, is_compound, enclosed, guard_text, guards_text, more_text}
use Rattle.cal_print.proofs.Marks.{Langs, respelled, after_mark, parenthesized}

-- ---- ports and sources

abbrev IsDotted : Langs (Option Text)
IsDotted names = Optional (After Dot (AnyWord names))

port_with : (cell : Option Text) (pin : Text) → NameIsWritten cell → IsCalName pin → Fragment Cal IsPort (record { cell = cell; pin = pin }) (cell_part cell ++ pin) true
port_with None pin w v =
    let none = fragment_right Cal (λ names. Mapped Some (After Dot (AnyWord names))) (λ names. Empty None) None [] true (fragment_empty Cal {A = Option Text} None None true refl) in
    fragment_mapped Cal port_from (λ names. Then (AnyWord names) (IsDotted names)) (pin, None) (record { cell = None; pin = pin }) pin true refl
    (retext Cal (λ names. Then (AnyWord names) (IsDotted names)) (pin, None) (pin ++ []) pin true (append-nil pin)
    (fragment_then Cal AnyWord IsDotted pin None pin [] true true (λ after f. f) (fragment_name Cal pin v) none))
port_with (Some cell) pin w v =
    let dotted = after_mark AnyWord pin pin 46 [] Dot true refl (λ next. refl) refl refl (fragment_name Cal pin v) in
    let some = fragment_left Cal (λ names. Mapped Some (After Dot (AnyWord names))) (λ names. Empty None) (Some pin) (46 ∷ pin) true (fragment_mapped Cal Some (λ names. After Dot (AnyWord names)) pin (Some pin) (46 ∷ pin) true refl dotted) in
    fragment_mapped Cal port_from (λ names. Then (AnyWord names) (IsDotted names)) (cell, Some pin) (record { cell = Some cell; pin = pin }) ((cell ++ codes ".") ++ pin) true refl
    (retext Cal (λ names. Then (AnyWord names) (IsDotted names)) (cell, Some pin) (cell ++ (46 ∷ pin)) ((cell ++ codes ".") ++ pin) true (sym (append_assoc cell (codes ".") pin))
    (fragment_then Cal AnyWord IsDotted cell (Some pin) cell (46 ∷ pin) true true (λ after f. refl) (fragment_name Cal cell w) some))

pub port_shown : (p : PortName) → PortIsWritten p → Fragment Cal IsPort p (port_text p) true
port_shown p w = port_with p.cell p.pin w.0 w.1

pub source_shown : (s : Source) → SourceIsWritten s → Fragment Cal IsSource s (source_text s) true
source_shown (Port port) w =
    fragment_left Cal (λ names. Mapped port_source (IsPort names)) (λ names. Mapped literal_from AnyLiteral) (Port port) (port_text port) true
    (fragment_mapped Cal port_source IsPort port (Port port) (port_text port) true refl (port_shown port w))
source_shown (Lit width n) w =
    fragment_right Cal (λ names. Mapped port_source (IsPort names)) (λ names. Mapped literal_from AnyLiteral) (Lit width n) (source_text (Lit width n)) true
    (fragment_mapped Cal literal_from (λ names. AnyLiteral) (width, n) (Lit width n) (source_text (Lit width n)) true refl
    (retext Cal (λ names. AnyLiteral) (width, n) (decimal width ++ (39 ∷ 100 ∷ decimal n)) (source_text (Lit width n)) true (sym (append_assoc (decimal width) (codes "'d") (decimal n))) (fragment_literal Cal width n w.0 w.1)))

-- ---- operators

module _ (sort : Sort) (op : Cmp) where
  -- a mark of an operator, with a blank on each side
  mark_shown : (mark : Text) → ((after : List ℕ) → Stands Cal kinds.Mark (mark ++ (32 ∷ after)) (32 ∷ after)) → sort_of Cal kinds.Mark mark ≡ sort → Fragment Cal (λ names. Compared sort op) op (32 ∷ (mark ++ (32 ∷ []))) false
  mark_shown mark stands is = record {
    items = Blank 32 ∷ Word kinds.Mark mark ∷ Blank 32 ∷ [];
    bytes = λ after. ap (λ (t : Text). 32 ∷ t) (sym (append_assoc mark (32 ∷ []) after));
    stand = λ after f. (refl, (stands after, (refl, tt)));
    spelled = λ names ts rest (t, others, e, of, s). (t, (e ∙ ap (λ (r : List Terminal). t ∷ r) s, of.sort ∙ is), refl);
  }

operator_shown : (op : Cmp) → Fragment Cal (λ names. IsOperator) op (32 ∷ (operator_text op ++ (32 ∷ []))) false
operator_shown Eq = respelled (λ names. Compared EqualsEquals Eq) (λ names. IsOperator) Eq Eq (32 ∷ (operator_text Eq ++ (32 ∷ []))) false (λ names ts rest s. inl s) (mark_shown EqualsEquals Eq (codes "==") (λ after. double_stands Cal 61 61 (32 ∷ after) refl) refl)
operator_shown Neq = respelled (λ names. Compared NotEquals Neq) (λ names. IsOperator) Neq Neq (32 ∷ (operator_text Neq ++ (32 ∷ []))) false (λ names ts rest s. inr (inl s)) (mark_shown NotEquals Neq (codes "!=") (λ after. double_stands Cal 33 61 (32 ∷ after) refl) refl)
operator_shown Lt = respelled (λ names. Compared LeftAngle Lt) (λ names. IsOperator) Lt Lt (32 ∷ (operator_text Lt ++ (32 ∷ []))) false (λ names ts rest s. inr (inr (inl s))) (mark_shown LeftAngle Lt (codes "<") (λ after. single_stands Cal 60 (32 ∷ after) refl refl) refl)
operator_shown Gt = respelled (λ names. Compared RightAngle Gt) (λ names. IsOperator) Gt Gt (32 ∷ (operator_text Gt ++ (32 ∷ []))) false (λ names ts rest s. inr (inr (inr (inl s)))) (mark_shown RightAngle Gt (codes ">") (λ after. single_stands Cal 62 (32 ∷ after) refl refl) refl)
operator_shown Le = respelled (λ names. Compared AtMost Le) (λ names. IsOperator) Le Le (32 ∷ (operator_text Le ++ (32 ∷ []))) false (λ names ts rest s. inr (inr (inr (inr (inl s))))) (mark_shown AtMost Le (codes "<=") (λ after. double_stands Cal 60 61 (32 ∷ after) refl) refl)
operator_shown Ge = respelled (λ names. Compared AtLeast Ge) (λ names. IsOperator) Ge Ge (32 ∷ (operator_text Ge ++ (32 ∷ []))) false (λ names ts rest s. inr (inr (inr (inr (inr s))))) (mark_shown AtLeast Ge (codes ">=") (λ after. double_stands Cal 62 61 (32 ∷ after) refl) refl)

-- ---- guards

abbrev TightAt : ℕ → Langs Guard
TightAt n names = TightTo names n

abbrev pub GuardAt : ℕ → Langs Guard
GuardAt n names = GuardTo names n

abbrev UnitAt : ℕ → Langs Guard
UnitAt m names = UnitOf names (TightTo names m) (GuardTo names m)

abbrev ConjunctionAt : ℕ → Langs Guard
ConjunctionAt m names = ConjunctionOf names (TightTo names m) (GuardTo names m)

-- the texts of a guard in a list, and behind `!`
abbrev operand_text : Guard → Text
operand_text g = enclosed (is_list g) (guard_text g)

abbrev tight_text : Guard → Text
tight_text g = enclosed (is_compound g) (guard_text g)

-- how deep `!` and parentheses are in a guard, at most
abbrev mutual
  height : Guard → ℕ
  height (Reads s) = 0
  height (Compares op a b) = 0
  height (Negates g) = height g + 2
  height (AllOf gs) = heights gs + 1
  height (AnyOf gs) = heights gs + 1

  heights : GuardTrees PortName → ℕ
  heights NoGuards = 0
  heights (MoreGuards g gs) = height g + heights gs

-- a text with which `!` makes no mark of two bytes
abbrev IsApart : Text → Type 0
IsApart text = (after : List ℕ) → Ends (is_double_mark Cal 33) (text ++ after)

byte_apart : (p : ℕ → Bool) → p 61 ≡ false → (b : ℕ) → p b ≡ true → is_double_mark Cal 33 b ≡ false
byte_apart p none b h = by_test (λ v. (b == 61) ≡ v → is_double_mark Cal 33 b ≡ false) (b == 61) (λ _ e. absurd (clash (subst (λ (x : ℕ). p x ≡ true) (eqb-true b 61 e) h) none)) (λ _ e. rw e refl) refl

name_apart : (name rest : Text) → IsCalName name → IsApart (name ++ rest)
name_apart [] rest w = absurd w.0
name_apart (first ∷ others) rest w = λ after. byte_apart is_letter refl first w.0.0

digits_apart : (digits rest : Text) → IsDigits Decimal digits → IsApart (digits ++ rest)
digits_apart [] rest d = absurd (omega (arith, d.0))
digits_apart (first ∷ others) rest d = λ after. byte_apart (is_digit Decimal) refl first (and_true (is_digit Decimal first) (list_all (is_digit Decimal) others) d.1).0

port_apart : (cell : Option Text) (pin : Text) → NameIsWritten cell → IsCalName pin → IsApart (cell_part cell ++ pin)
port_apart None pin w v = subst IsApart (append-nil pin) (name_apart pin [] v)
port_apart (Some cell) pin w v = subst IsApart (sym (append_assoc cell (codes ".") pin)) (name_apart cell (codes "." ++ pin) w)

source_apart : (s : Source) → SourceIsWritten s → IsApart (source_text s)
source_apart (Port port) w = port_apart port.cell port.pin w.0 w.1
source_apart (Lit width n) w = subst IsApart (sym (append_assoc (decimal width) (codes "'d") (decimal n))) (digits_apart (decimal width) (codes "'d" ++ decimal n) (decimal_text width w.0).digits)

-- a guard alone is a list of one
module _ (m : ℕ) (g : Guard) (text : Text) where
  one_conjunction : Fragment Cal (UnitAt m) g text true → Fragment Cal (ConjunctionAt m) g text true
  one_conjunction x = respelled (UnitAt m) (ConjunctionAt m) g g text true (λ names ts rest s. (g ∷ [], ((g, []), (rest, s, refl), refl), refl)) x

  one_guard : Fragment Cal (ConjunctionAt m) g text true → Fragment Cal (GuardAt (suc m)) g text true
  one_guard x = respelled (ConjunctionAt m) (GuardAt (suc m)) g g text true (λ names ts rest s. (g ∷ [], ((g, []), (rest, s, refl), refl), refl)) x

  -- in parentheses
  enclosed_shown : Fragment Cal (GuardAt m) g text true → Fragment Cal (λ names. Between LeftParen (GuardTo names m) RightParen) g (40 ∷ (text ++ (41 ∷ []))) true
  enclosed_shown x = loosened Cal (λ names. Between LeftParen (GuardTo names m) RightParen) g (40 ∷ (text ++ (41 ∷ []))) (parenthesized (GuardAt m) g text true x)

-- what is to be shown of a guard: it is spelled as one of a list, behind `!`, and alone
record GuardShown (g : Guard) : Type 0 where
  pub unit : (m : ℕ) → height g < m → Fragment Cal (UnitAt m) g (operand_text g) true
  pub tight : (n : ℕ) → height g + 2 < n → Fragment Cal (TightAt n) g (tight_text g) true
  pub whole : (n : ℕ) → height g + 1 < n → Fragment Cal (GuardAt n) g (guard_text g) true
  pub apart : IsApart (tight_text g)

abbrev GuardsShown : GuardTrees PortName → Type 0
GuardsShown NoGuards = Unit {0}
GuardsShown (MoreGuards g gs) = GuardShown g × GuardsShown gs

-- at each number that is large enough
pub by_suc : (P : ℕ → Type 0) (least : ℕ) → ((m : ℕ) → least ≤ m → P (suc m)) → (n : ℕ) → least < n → P n
by_suc P least f zero lt = absurd (omega arith)
by_suc P least f (suc m) lt = f m (omega arith)

reads_shown : (s : Source) → SourceIsWritten s → GuardShown (Reads s)
reads_shown s w =
    let source = source_shown s w in
    let unit : (m : ℕ) → Fragment Cal (UnitAt m) (Reads s) (source_text s) true = λ m.
    respelled IsSource (UnitAt m) s (Reads s) (source_text s) true (λ names ts rest x. inr (inr ((s, None), (rest, x, inr (refl, refl)), refl))) source in
    record {
      unit = λ m _. unit m;
      tight = by_suc (λ n. Fragment Cal (TightAt n) (Reads s) (source_text s) true) 2 (λ m _. respelled IsSource (TightAt (suc m)) s (Reads s) (source_text s) true (λ names ts rest x. inr (inr (s, x, refl))) source);
      whole = by_suc (λ n. Fragment Cal (GuardAt n) (Reads s) (source_text s) true) 1 (λ m _. one_guard m (Reads s) (source_text s) (one_conjunction m (Reads s) (source_text s) (unit m)));
      apart = source_apart s w;
    }

compare_parts : (a op b : Text) → a ++ ((32 ∷ (op ++ (32 ∷ []))) ++ b) ≡ a ++ codes " " ++ op ++ codes " " ++ b
compare_parts a op b = simp append_assoc

compares_shown : (op : Cmp) (a b : Source) → SourceIsWritten a → SourceIsWritten b → GuardShown (Compares op a b)
compares_shown op a b w v =
    let g : Guard = Compares op a b in
    let text : Text = guard_text g in
    let between : Text = 32 ∷ (operator_text op ++ (32 ∷ [])) in
    let Tail : Langs (Cmp × Source) = λ names. Then IsOperator (IsSource names) in
    let Both : Langs (Source × (Cmp × Source)) = λ names. Then (IsSource names) (Tail names) in
    let tail : Fragment Cal Tail (op, b) (between ++ source_text b) true = fragment_then Cal (λ names. IsOperator) IsSource op b between (source_text b) false true (λ after f. tt) (operator_shown op) (source_shown b v) in
    let both : Fragment Cal Both (a, (op, b)) (source_text a ++ (between ++ source_text b)) true = fragment_then Cal IsSource Tail a (op, b) (source_text a) (between ++ source_text b) true true (λ after f. refl) (source_shown a w) tail in
    let test : Fragment Cal Both (a, (op, b)) text true = retext Cal Both (a, (op, b)) (source_text a ++ (between ++ source_text b)) text true (compare_parts (source_text a) (operator_text op) (source_text b)) both in
    let unit : (m : ℕ) → Fragment Cal (UnitAt m) g text true = λ m.
    respelled Both (UnitAt m) (a, (op, b)) g text true (λ names ts rest x. inr (inr ((a, Some (op, b)), (x.0, x.1, inl ((op, b), x.2, refl)), refl))) test in
    let whole : (m : ℕ) → Fragment Cal (GuardAt (suc m)) g text true = λ m. one_guard m g text (one_conjunction m g text (unit m)) in
    record {
      unit = λ m _. unit m;
      tight = by_suc (λ n. Fragment Cal (TightAt n) g (40 ∷ (text ++ (41 ∷ []))) true) 2 (λ m le.
          respelled (λ names. Between LeftParen (GuardTo names m) RightParen) (TightAt (suc m)) g g (40 ∷ (text ++ (41 ∷ []))) true (λ names ts rest x. inr (inl x))
          (enclosed_shown m g text (by_suc (λ n. Fragment Cal (GuardAt n) g text true) 1 (λ k _. whole k) m (omega arith))));
      whole = by_suc (λ n. Fragment Cal (GuardAt n) g text true) 1 (λ m _. whole m);
      apart = λ after. refl;
    }

negates_shown : (g : Guard) → GuardShown g → GuardShown (Negates g)
negates_shown g inner =
    let not : Guard = Negates g in
    let text : Text = 33 ∷ tight_text g in
    let after_not : (m : ℕ) → height g + 2 < m → Fragment Cal (λ names. After Not (TightTo names m)) g text true = λ m lt.
    fragment_after Cal [] kinds.Mark (33 ∷ []) [] Not (TightAt m) g (tight_text g) true refl refl refl (λ after. single_stands Cal 33 (tight_text g ++ after) refl (inner.apart after)) (inner.tight m lt) in
    let unit : (m : ℕ) → height g + 2 < m → Fragment Cal (UnitAt m) not text true = λ m lt.
    respelled (λ names. After Not (TightTo names m)) (UnitAt m) g not text true (λ names ts rest x. inl (g, x, refl)) (after_not m lt) in
    record {
      unit = unit;
      tight = by_suc (λ n. Fragment Cal (TightAt n) not text true) (height g + 2 + 2) (λ m le. respelled (λ names. After Not (TightTo names m)) (TightAt (suc m)) g not text true (λ names ts rest x. inl (g, x, refl)) (after_not m (omega arith)));
      whole = by_suc (λ n. Fragment Cal (GuardAt n) not text true) (height g + 2 + 1) (λ m le. one_guard m not text (one_conjunction m not text (unit m (omega arith))));
      apart = λ after. refl;
    }

-- ---- lists of guards

abbrev trees_of : GuardTrees PortName → List Guard
trees_of NoGuards = []
trees_of (MoreGuards g gs) = g ∷ trees_of gs

guards_of-trees_of : (gs : GuardTrees PortName) → guards_of (trees_of gs) ≡ gs
guards_of-trees_of NoGuards = refl
guards_of-trees_of (MoreGuards g gs) = ap (MoreGuards g) (guards_of-trees_of gs)

abbrev EachShown : Langs Guard → GuardTrees PortName → Type 0
EachShown L NoGuards = Unit {0}
EachShown L (MoreGuards g gs) = Fragment Cal L g (operand_text g) true × EachShown L gs

-- a mark with blanks round it between each two
module _ (L : Langs Guard) (mark : ℕ) (sort : Sort) (stands : (after : List ℕ) → Stands Cal kinds.Mark (mark ∷ after) after) (is : sort_of Cal kinds.Mark (mark ∷ []) ≡ sort) where
  abbrev Others : Langs (List Guard)
  Others names = Many (After sort (L names))

  more_follows : (gs : GuardTrees PortName) (after : List ℕ) → Follows Cal true after → Follows Cal true (more_text (32 ∷ mark ∷ 32 ∷ []) gs ++ after)
  more_follows NoGuards after f = f
  more_follows (MoreGuards g gs) after f = refl

  more_shown : (gs : GuardTrees PortName) → EachShown L gs → Fragment Cal Others (trees_of gs) (more_text (32 ∷ mark ∷ 32 ∷ []) gs) true
  more_shown NoGuards h = record { items = []; bytes = λ after. refl; stand = λ after f. tt; spelled = λ names ts rest s. s }
  more_shown (MoreGuards g gs) h =
      let front : Text = 32 ∷ mark ∷ 32 ∷ operand_text g in
      let one = fragment_after Cal (32 ∷ []) kinds.Mark (mark ∷ []) (32 ∷ []) sort L g (operand_text g) true refl refl is (λ after. stands (32 ∷ (operand_text g ++ after))) h.0 in
      let all = fragment_then Cal (λ names. After sort (L names)) Others g (trees_of gs) front (more_text (32 ∷ mark ∷ 32 ∷ []) gs) true true (more_follows gs) one (more_shown gs h.1) in
      respelled (λ names. Then (After sort (L names)) (Others names)) Others (g, trees_of gs) (g ∷ trees_of gs) (more_text (32 ∷ mark ∷ 32 ∷ []) (MoreGuards g gs)) true (λ names ts rest s. s) all

  list_shown : (g : Guard) (gs : GuardTrees PortName) → EachShown L (MoreGuards g gs) → Fragment Cal (λ names. Separated sort (L names)) (g ∷ trees_of gs) (guards_text (32 ∷ mark ∷ 32 ∷ []) (MoreGuards g gs)) true
  list_shown g gs h =
      let all = fragment_then Cal L Others g (trees_of gs) (operand_text g) (more_text (32 ∷ mark ∷ 32 ∷ []) gs) true true (more_follows gs) h.0 (more_shown gs h.1) in
      respelled (λ names. Then (L names) (Others names)) (λ names. Separated sort (L names)) (g, trees_of gs) (g ∷ trees_of gs) (guards_text (32 ∷ mark ∷ 32 ∷ []) (MoreGuards g gs)) true (λ names ts rest s. ((g, trees_of gs), s, refl)) all

each_unit : (m : ℕ) (gs : GuardTrees PortName) → GuardsShown gs → heights gs < m → EachShown (UnitAt m) gs
each_unit m NoGuards h lt = tt
each_unit m (MoreGuards g gs) h lt = (h.0.unit m (omega arith), each_unit m gs h.1 (omega arith))

each_conjunction : (m : ℕ) (gs : GuardTrees PortName) → EachShown (UnitAt m) gs → EachShown (ConjunctionAt m) gs
each_conjunction m NoGuards h = tt
each_conjunction m (MoreGuards g gs) h = (one_conjunction m g (operand_text g) h.0, each_conjunction m gs h.1)

all_shown : (gs : GuardTrees PortName) → HasTwoGuards gs → GuardsShown gs → (m : ℕ) → heights gs < m → Fragment Cal (GuardAt (suc m)) (AllOf gs) (guards_text (codes " & ") gs) true
all_shown NoGuards two h m lt = absurd two
all_shown (MoreGuards g NoGuards) two h m lt = absurd two
all_shown (MoreGuards g (MoreGuards k gs)) two h m lt =
    let rest : GuardTrees PortName = MoreGuards k gs in
    let text : Text = guards_text (codes " & ") (MoreGuards g rest) in
    let is : AllOf (MoreGuards g rest) ≡ all_from (g ∷ k ∷ trees_of gs) = ap (λ (x : GuardTrees PortName). AllOf (MoreGuards g (MoreGuards k x))) (sym (guards_of-trees_of gs)) in
    let units = list_shown (UnitAt m) 38 And (λ after. mark_stands Cal 38 refl (λ next. refl) after) refl g rest (each_unit m (MoreGuards g rest) h lt) in
    one_guard m (AllOf (MoreGuards g rest)) text
    (respelled (λ names. Separated And (UnitAt m names)) (ConjunctionAt m) (g ∷ k ∷ trees_of gs) (AllOf (MoreGuards g rest)) text true (λ names ts rest s. (g ∷ k ∷ trees_of gs, s, is)) units)

any_shown : (gs : GuardTrees PortName) → HasTwoGuards gs → GuardsShown gs → (m : ℕ) → heights gs < m → Fragment Cal (GuardAt (suc m)) (AnyOf gs) (guards_text (codes " | ") gs) true
any_shown NoGuards two h m lt = absurd two
any_shown (MoreGuards g NoGuards) two h m lt = absurd two
any_shown (MoreGuards g (MoreGuards k gs)) two h m lt =
    let rest : GuardTrees PortName = MoreGuards k gs in
    let text : Text = guards_text (codes " | ") (MoreGuards g rest) in
    let is : AnyOf (MoreGuards g rest) ≡ any_from (g ∷ k ∷ trees_of gs) = ap (λ (x : GuardTrees PortName). AnyOf (MoreGuards g (MoreGuards k x))) (sym (guards_of-trees_of gs)) in
    let each = each_conjunction m (MoreGuards g rest) (each_unit m (MoreGuards g rest) h lt) in
    let conjunctions = list_shown (ConjunctionAt m) 124 Or (λ after. mark_stands Cal 124 refl (λ next. refl) after) refl g rest each in
    respelled (λ names. Separated Or (ConjunctionAt m names)) (GuardAt (suc m)) (g ∷ k ∷ trees_of gs) (AnyOf (MoreGuards g rest)) text true (λ names ts rest s. (g ∷ k ∷ trees_of gs, s, is)) conjunctions

-- a list as one of a list, behind `!`, and alone
module _ (g : Guard) (text : Text) (least : ℕ) (at : (m : ℕ) → least < m → Fragment Cal (GuardAt (suc m)) g text true) where
  list_whole : (n : ℕ) → least + 1 < n → Fragment Cal (GuardAt n) g text true
  list_whole = by_suc (λ n. Fragment Cal (GuardAt n) g text true) (least + 1) (λ m le. at m (omega arith))

  list_unit : (m : ℕ) → least + 1 < m → Fragment Cal (UnitAt m) g (40 ∷ (text ++ (41 ∷ []))) true
  list_unit m lt = respelled (λ names. Between LeftParen (GuardTo names m) RightParen) (UnitAt m) g g (40 ∷ (text ++ (41 ∷ []))) true (λ names ts rest x. inr (inl x)) (enclosed_shown m g text (list_whole m lt))

  list_tight : (n : ℕ) → least + 1 + 2 < n → Fragment Cal (TightAt n) g (40 ∷ (text ++ (41 ∷ []))) true
  list_tight = by_suc (λ n. Fragment Cal (TightAt n) g (40 ∷ (text ++ (41 ∷ []))) true) (least + 1 + 2) (λ m le.
      respelled (λ names. Between LeftParen (GuardTo names m) RightParen) (TightAt (suc m)) g g (40 ∷ (text ++ (41 ∷ []))) true (λ names ts rest x. inr (inl x)) (enclosed_shown m g text (list_whole m (omega arith))))

mutual
  guard_shown : (g : Guard) → GuardIsWritten g → GuardShown g
  guard_shown (Reads s) w = reads_shown s w
  guard_shown (Compares op a b) w = compares_shown op a b w.0 w.1
  guard_shown (Negates g) w = negates_shown g (guard_shown g w)
  guard_shown (AllOf gs) w =
      let at = all_shown gs w.0 (guards_shown gs w.1) in
      let text : Text = guards_text (codes " & ") gs in
      record {
        unit = list_unit (AllOf gs) text (heights gs) at;
        tight = list_tight (AllOf gs) text (heights gs) at;
        whole = λ n lt. list_whole (AllOf gs) text (heights gs) at n (omega arith);
        apart = λ after. refl;
      }
  guard_shown (AnyOf gs) w =
      let at = any_shown gs w.0 (guards_shown gs w.1) in
      let text : Text = guards_text (codes " | ") gs in
      record {
        unit = list_unit (AnyOf gs) text (heights gs) at;
        tight = list_tight (AnyOf gs) text (heights gs) at;
        whole = λ n lt. list_whole (AnyOf gs) text (heights gs) at n (omega arith);
        apart = λ after. refl;
      }

  guards_shown : (gs : GuardTrees PortName) → GuardsAreWritten gs → GuardsShown gs
  guards_shown NoGuards w = tt
  guards_shown (MoreGuards g gs) w = (guard_shown g w.0, guards_shown gs w.1)

-- a guard alone
pub is_guard_shown : (g : Guard) → GuardIsWritten g → Fragment Cal IsGuard g (guard_text g) true
is_guard_shown g w =
    let n : ℕ = height g + 2 in
    respelled (GuardAt n) IsGuard g g (guard_text g) true (λ names ts rest s. (n, s)) ((guard_shown g w).whole n (omega arith))
