-- In Verilog a source has its value, and a guard the bit that says whether it holds.
use Rattle.std.proofs.Common.{◌≡◌, ℕ, zero, suc, ◌^◌, ◌<◌, Bool, true, false, ◌&&◌, ◌||◌, ◌==◌, List, refl, sym, ap, ap₂, ◌∙◌, arith}
use Rattle.std.proofs.lemmas.Bool.Decides.{Decides-eqb, nat_tests}
use Rattle.std.specs.Prelude.{not, nat_lt, nat_le, Option, Some, option_map}
use Rattle.hw_bits.proofs.WidthLemmas.{low_bits-of_lt}
use Rattle.hw_names.specs.Name.{Text}
use Rattle.hw_prims.specs.Table.{is_width}
use Rattle.net_core.specs.Guard.{GuardTree, GuardTrees, Reads, Compares, Negates, AllOf, AnyOf, NoGuards, MoreGuards, source_value, compare_values, holds, all_hold, any_holds}
use Rattle.net_core.specs.Rules.{PortLine, each_read, each_reads, guard_widths_agree, guards_widths_agree, literal_fits, port_width, source_width}
use Rattle.net_core.specs.declared.net.Cmp.{Cmp}
use Rattle.net_core.specs.declared.net.Cmp.TheVariants.{Eq, Neq, Lt, Gt, Le, Ge}
use Rattle.net_core.specs.declared.net.Src.{Src}
use Rattle.net_core.specs.declared.net.Src.TheVariants.{Port, Lit}
use Rattle.net_text.specs.Names.{count_guards, guard_has_text, guards_have_text}
use Rattle.ver_lang.specs.NetModule.{after_guard, comparison, guard_expr, source_expr}
use Rattle.ver_lang.specs.Size.{Widths, size, left_size, right_size}
use Rattle.ver_lang.specs.Tree.{Operator, Equal, Unequal, Less, Greater, AtMost, AtLeast, And, Or, Expr, Negation, Binary}
use Rattle.ver_lang.specs.Value.{Cycle, bit, both, is_true, operated, value}

pub both_true : (a b : Bool) → (a && b) ≡ true → (a ≡ true) × (b ≡ true)
both_true true b h = (refl, h)
both_true false b h = absurd (cc)

-- the bit of a value of one bit
one_bit : (v : ℕ) → v < 2 → v ≡ bit (v == 1)
one_bit zero small = refl
one_bit (suc zero) small = refl
one_bit (suc (suc v)) small = absurd (omega (arith, small))

not_bit : (p : Bool) → bit (not (is_true (bit p))) ≡ bit (not p)
not_bit true = refl
not_bit false = refl

and_bits : (p q : Bool) → bit (is_true (bit p) && is_true (bit q)) ≡ bit (p && q)
and_bits true true = refl
and_bits true false = refl
and_bits false q = refl

or_bits : (p q : Bool) → bit (is_true (bit p) || is_true (bit q)) ≡ bit (p || q)
or_bits true q = refl
or_bits false true = refl
or_bits false false = refl

and_end : (p : Bool) → bit p ≡ bit (p && true)
and_end true = refl
and_end false = refl

or_end : (p : Bool) → bit p ≡ bit (p || false)
or_end true = refl
or_end false = refl

and_on : (p q r : Bool) → bit ((p && q) && r) ≡ bit (p && (q && r))
and_on true q r = refl
and_on false q r = refl

or_on : (p q r : Bool) → bit ((p || q) || r) ≡ bit (p || (q || r))
or_on true q r = refl
or_on false q r = refl

module _ (widths : Widths) (now : Cycle) where
  -- the expression has the value in a context of any size
  abbrev pub Gives : Expr → ℕ → Type 0
  Gives e v = (w : ℕ) → value widths now w e ≡ Some v

  binary_gives : (op : Operator) (a b : Expr) (x y w : ℕ) → Gives a x → Gives b y → value widths now w (Binary op a b) ≡ Some (operated op w x y)
  binary_gives op a b x y w left right =
      ap₂ (λ (u v : Option ℕ). both (operated op w) u v) (left (left_size op w (size widths a) (size widths b))) (right (right_size op w (size widths a) (size widths b)))

  pub source_gives : (s : Src Text) → literal_fits s ≡ true → Gives (source_expr s) (source_value now.row s)
  source_gives (Port p) fits w = refl
  source_gives (Lit width v) fits w =
      let test = (both_true (is_width width) (nat_lt v (2 ^ width)) fits).1 in
      let small : v < 2 ^ width = grind (arith, nat_tests) in
      ap (λ (u : ℕ). Some u) (low_bits-of_lt width v small)

  compare_gives : (op : Cmp) (a b : Expr) (x y : ℕ) → Gives a x → Gives b y → Gives (Binary (comparison op) a b) (bit (compare_values op x y))
  compare_gives Eq a b x y left right w = binary_gives Equal a b x y w left right
  compare_gives Neq a b x y left right w = binary_gives Unequal a b x y w left right
  compare_gives Lt a b x y left right w = binary_gives Less a b x y w left right
  compare_gives Gt a b x y left right w = binary_gives Greater a b x y w left right
  compare_gives Le a b x y left right w = binary_gives AtMost a b x y w left right
  compare_gives Ge a b x y left right w = binary_gives AtLeast a b x y w left right

  negation_gives : (e : Expr) (p : Bool) → Gives e (bit p) → Gives (Negation e) (bit (not p))
  negation_gives e p gives w =
      ap (λ (o : Option ℕ). option_map (λ v. bit (not (is_true v))) o) (gives (size widths e)) ∙ ap (λ (v : ℕ). Some v) (not_bit p)

  and_gives : (a b : Expr) (p q : Bool) → Gives a (bit p) → Gives b (bit q) → Gives (Binary And a b) (bit (p && q))
  and_gives a b p q left right w = binary_gives And a b (bit p) (bit q) w left right ∙ ap (λ (v : ℕ). Some v) (and_bits p q)

  or_gives : (a b : Expr) (p q : Bool) → Gives a (bit p) → Gives b (bit q) → Gives (Binary Or a b) (bit (p || q))
  or_gives a b p q left right w = binary_gives Or a b (bit p) (bit q) w left right ∙ ap (λ (v : ℕ). Some v) (or_bits p q)

  module _ (ports : List PortLine) (fit : (x : Text) → port_width ports x ≡ 1 → now.row x < 2) where
    alone_gives : (s : Src Text) → literal_fits s ≡ true → (source_width ports s == 1) ≡ true → Gives (source_expr s) (bit (source_value now.row s == 1))
    alone_gives (Port p) fits one w =
        let narrow : port_width ports p ≡ 1 = (Decides-eqb (port_width ports p) 1).0 one in
        ap (λ (v : ℕ). Some v) (one_bit (now.row p) (fit p narrow))
    alone_gives (Lit width v) fits one w =
        let narrow : width ≡ 1 = (Decides-eqb width 1).0 one in
        let test = (both_true (is_width width) (nat_lt v (2 ^ width)) fits).1 in
        let below : nat_lt v (2 ^ 1) ≡ true = ap (λ (k : ℕ). nat_lt v (2 ^ k)) (sym narrow) ∙ test in
        let small : v < 2 = grind (arith, nat_tests) in
        source_gives (Lit width v) fits w ∙ ap (λ (u : ℕ). Some u) (one_bit v small)

    -- what a guard needs for its meaning: a text, widths that agree, literals that fit
    pub record IsSound (g : GuardTree Text) : Type 0 where
      pub text : guard_has_text g ≡ true
      pub agrees : guard_widths_agree ports g ≡ true
      pub literals : each_read literal_fits g ≡ true

    record AreSound (gs : GuardTrees Text) : Type 0 where
      text : guards_have_text gs ≡ true
      agrees : guards_widths_agree ports gs ≡ true
      literals : each_reads literal_fits gs ≡ true

    first_sound : (g : GuardTree Text) (gs : GuardTrees Text) → AreSound (MoreGuards g gs) → IsSound g
    first_sound g gs sound =
        record {
          text = (both_true (guard_has_text g) (guards_have_text gs) sound.text).0;
          agrees = (both_true (guard_widths_agree ports g) (guards_widths_agree ports gs) sound.agrees).0;
          literals = (both_true (each_read literal_fits g) (each_reads literal_fits gs) sound.literals).0;
        }

    others_sound : (g : GuardTree Text) (gs : GuardTrees Text) → AreSound (MoreGuards g gs) → AreSound gs
    others_sound g gs sound =
        record {
          text = (both_true (guard_has_text g) (guards_have_text gs) sound.text).1;
          agrees = (both_true (guard_widths_agree ports g) (guards_widths_agree ports gs) sound.agrees).1;
          literals = (both_true (each_read literal_fits g) (each_reads literal_fits gs) sound.literals).1;
        }

    mutual
      pub guard_gives : (g : GuardTree Text) → IsSound g → Gives (guard_expr g) (bit (holds now.row g))
      guard_gives (Reads s) sound w = alone_gives s sound.literals sound.agrees w
      guard_gives (Compares op a b) sound w =
          let literals = both_true (literal_fits a) (literal_fits b) sound.literals in
          compare_gives op (source_expr a) (source_expr b) (source_value now.row a) (source_value now.row b) (source_gives a literals.0) (source_gives b literals.1) w
      guard_gives (Negates g) sound w =
          negation_gives (guard_expr g) (holds now.row g) (guard_gives g (record { text = sound.text; agrees = sound.agrees; literals = sound.literals })) w
      guard_gives (AllOf NoGuards) sound w = let bad : false ≡ true = sound.text in absurd (cc)
      guard_gives (AllOf (MoreGuards g gs)) sound w =
          let texts = (both_true (nat_le 2 (count_guards (MoreGuards g gs))) (guards_have_text (MoreGuards g gs)) sound.text).1 in
          let all : AreSound (MoreGuards g gs) = record { text = texts; agrees = sound.agrees; literals = sound.literals } in
          all_give (guard_expr g) (holds now.row g) gs (others_sound g gs all) (guard_gives g (first_sound g gs all)) w
      guard_gives (AnyOf NoGuards) sound w = let bad : false ≡ true = sound.text in absurd (cc)
      guard_gives (AnyOf (MoreGuards g gs)) sound w =
          let texts = (both_true (nat_le 2 (count_guards (MoreGuards g gs))) (guards_have_text (MoreGuards g gs)) sound.text).1 in
          let all : AreSound (MoreGuards g gs) = record { text = texts; agrees = sound.agrees; literals = sound.literals } in
          any_gives (guard_expr g) (holds now.row g) gs (others_sound g gs all) (guard_gives g (first_sound g gs all)) w

      all_give : (before : Expr) (p : Bool) (gs : GuardTrees Text) → AreSound gs → Gives before (bit p) → Gives (after_guard And before gs) (bit (p && all_hold now.row gs))
      all_give before p NoGuards sound gives w = gives w ∙ ap (λ (v : ℕ). Some v) (and_end p)
      all_give before p (MoreGuards g gs) sound gives w =
          all_give (Binary And before (guard_expr g)) (p && holds now.row g) gs (others_sound g gs sound)
          (and_gives before (guard_expr g) p (holds now.row g) gives (guard_gives g (first_sound g gs sound))) w
          ∙ ap (λ (v : ℕ). Some v) (and_on p (holds now.row g) (all_hold now.row gs))

      any_gives : (before : Expr) (p : Bool) (gs : GuardTrees Text) → AreSound gs → Gives before (bit p) → Gives (after_guard Or before gs) (bit (p || any_holds now.row gs))
      any_gives before p NoGuards sound gives w = gives w ∙ ap (λ (v : ℕ). Some v) (or_end p)
      any_gives before p (MoreGuards g gs) sound gives w =
          any_gives (Binary Or before (guard_expr g)) (p || holds now.row g) gs (others_sound g gs sound)
          (or_gives before (guard_expr g) p (holds now.row g) gives (guard_gives g (first_sound g gs sound))) w
          ∙ ap (λ (v : ℕ). Some v) (or_on p (holds now.row g) (any_holds now.row gs))
