-- Values that fit a width.
use Rattle.std.proofs.Common.{◌≡◌, ℕ, ◌<◌, ◌≤◌, ◌^◌, Bool, true, false, List, Vec, Global, map, Option, Some, None, Result, Ok, Err, IsSome, MatchOption, SomeIff, ◌↔◌, refl, sym, subst, ap, ◌∙◌}
use Rattle.std.proofs.lemmas.Bool.{false≢true, ltb-true, lt-ltb}
use Rattle.std.specs.List.{list_all}
use Rattle.std.specs.Option.{ok_or}
use Rattle.hw_bits.specs.Values.{values_of, widths_of}
use Rattle.hw_bits.specs.declared.bits.Bits.{Bits}
use Rattle.hw_bits.specs.declared.bits.TheConstants.{MAX_WIDTH}
use Rattle.stim_read.specs.CycleRules.{Targets, fits_width, given_fits, width_of}
use Rattle.stim_read.specs.CycleRun.{Load, Setting}
use Rattle.stim_read.specs.declared.given.Given.{Given}

by_false : (b : Bool) → (b ≡ true → ⊥) → b ≡ false
by_false true never = absurd (never refl)
by_false false never = refl

-- what `Bits::new` says of a value
abbrev pub Made : Option Bits → ℕ → ℕ → Type 0
Made o width value = IsSome o ↔ ((1 ≤ width) × (width ≤ MAX_WIDTH) × (value < 2 ^ width))

pub unfit : (o : Option Bits) (width value : ℕ) → o ≡ None → 1 ≤ width → width ≤ MAX_WIDTH → Made o width value → fits_width width value ≡ false
unfit None width value is wide narrow made = by_false _ (λ fits. false≢true (made.1 (wide, narrow, ltb-true value (2 ^ width) fits)))
unfit (Some b) width value is wide narrow made = absurd cc

pub fit : (o : Option Bits) (b : Bits) (width value : ℕ) → o ≡ Some b → Made o width value → fits_width width value ≡ true
fit None b width value is made = absurd cc
fit (Some other) b width value is made = lt-ltb value (2 ^ width) (made.0 refl).2

pub given_as : (t : Targets) (g : Given) (width : ℕ) (b : Bool) → width_of t g.name ≡ width → fits_width width g.value ≡ b → given_fits t g ≡ b
given_as t g width b same h = ap (λ w. fits_width w g.value) same ∙ h

pub same_setting : (from i j v w x y : ℕ) → i ≡ j → v ≡ w → x ≡ y → ◌≡◌ {A = Setting} (record { from = from; input = i; value = v; width = x }) (record { from = from; input = j; value = w; width = y })
same_setting from i j v w x y p q r = λ k. record { from = from; input = p k; value = q k; width = r k }

pub same_load : (i j : ℕ) (v w x y : List ℕ) → i ≡ j → v ≡ w → x ≡ y → ◌≡◌ {A = Load} (record { memory = i; values = v; widths = x }) (record { memory = j; values = w; widths = y })
same_load i j v w x y p q r = λ k. record { memory = p k; values = q k; widths = r k }

-- what the words of a memory are, where each fits
pub record AreFitted (width : ℕ) (words : List ℕ) (made : List Bits) : Type 0 where
  pub fit : list_all (fits_width width) words ≡ true
  pub values : values_of made ≡ words
  pub widths : widths_of made ≡ map (λ _. width) words

pub fitted_some : (o : Option (Vec Bits Global)) (v : Vec Bits Global) (width : ℕ) (words items : List ℕ) → o ≡ Some v → words ≡ items
    → MatchOption o (list_all (fits_width width) words ≡ false) (λ v. (list_all (fits_width width) words ≡ true) × (values_of v.items ≡ words) × (widths_of v.items ≡ map (λ _. width) words))
    → AreFitted width items v.items
fitted_some None v width words items is same h = absurd cc
fitted_some (Some made) v width words items is same h =
    let is_v : made ≡ v = cc in
    subst (λ (x : Vec Bits Global). AreFitted width items x.items) is_v
    (subst (λ (ws : List ℕ). AreFitted width ws made.items) same (record { fit = h.0; values = h.1; widths = h.2 }))

pub fitted_none : (o : Option (Vec Bits Global)) (width : ℕ) (words items : List ℕ) → o ≡ None → words ≡ items
    → MatchOption o (list_all (fits_width width) words ≡ false) (λ v. (list_all (fits_width width) words ≡ true) × (values_of v.items ≡ words) × (widths_of v.items ≡ map (λ _. width) words))
    → list_all (fits_width width) items ≡ false
fitted_none None width words items is same h = ap (list_all (fits_width width)) (sym same) ∙ h
fitted_none (Some made) width words items is same h = absurd cc

pub number_is : {E : Type 0} (o : Option ℕ) (r : Result ℕ E) (e : E) (n x : ℕ) (P : Type 0) → SomeIff o P x → r ≡ ok_or o e → r ≡ Ok n → n ≡ x
number_is {E} None r e n x P some is ok = let bad : ◌≡◌ {A = Result ℕ E} (Err e) (Ok n) = sym is ∙ ok in absurd cc
number_is {E} (Some m) r e n x P some is ok = let same : ◌≡◌ {A = Result ℕ E} (Ok m) (Ok n) = sym is ∙ ok in let eq : m ≡ n = cc in sym eq ∙ some.1
