-- F14 with one more component.
use Rattle.std.proofs.Common.{◌≡◌, ◌⊎◌, ℕ, zero, suc, ◌<◌, List, [], ◌∷◌, ◌++◌, length, take, slice_get, Some, inl, inr, refl, sym, ap, subst, ◌∙◌, arith}
use Rattle.std.proofs.lemmas.List.{length-append, take-append-le, take_all}
use Rattle.std.proofs.lemmas.Option.{same_Some, slice_get_within}
use Rattle.hw_names.specs.Name.{Text}
use Rattle.fil_ast.specs.Tree.{Component, Design}
use Rattle.fil_ast.specs.Wires.{HasNoLoop, IsLeastLoop}
use Rattle.fil_loops.specs.Levels.{ShowAllLevels, ShowsLevels}
use Rattle.fil_loops.specs.Wired.{HaveNoLoop, IsFirstLoop}
use Rattle.fil_loops.specs.Wiring.{IsInside, ShowInsides}
use Rattle.fil_loops.specs.declared.inside.Inside.{Inside}
use Rattle.fil_loops.specs.declared.levels.Levels.{Levels}

pub slice_get-left : {X : Type 0} (xs ys : List X) (k : ℕ) → k < length xs → slice_get (xs ++ ys) k ≡ slice_get xs k
slice_get-left [] ys k below = absurd (omega arith)
slice_get-left (x ∷ xs) ys zero below = refl
slice_get-left (x ∷ xs) ys (suc k) below = slice_get-left xs ys k (omega arith)

pub slice_get-seam : {X : Type 0} (xs : List X) (x : X) → slice_get (xs ++ x ∷ []) (length xs) ≡ Some x
slice_get-seam [] x = refl
slice_get-seam (y ∷ xs) x = slice_get-seam xs x

-- an element stands before the last one, or is the last one
pub last_or_before : {X : Type 0} (xs : List X) (x : X) (k : ℕ) (y : X) → slice_get (xs ++ x ∷ []) k ≡ Some y → ((k < length xs) × (slice_get xs k ≡ Some y)) ⊎ ((k ≡ length xs) × (x ≡ y))
last_or_before [] x zero y at = inr (refl, same_Some x y at)
last_or_before [] x (suc k) y at = let within = slice_get_within (x ∷ []) (suc k) y at in absurd (omega arith)
last_or_before (z ∷ xs) x zero y at = inl (omega arith, at)
last_or_before (z ∷ xs) x (suc k) y at =
    elim (last_or_before xs x k y at) [
      | inl before ↦ inl (omega (arith, before.0), before.1)
      | inr last ↦ inr (ap suc last.0, last.1)
    ]

module _ (comps : Design) (c : Component) where
  before_last : (k : ℕ) → k < length comps → take k comps ≡ take k (comps ++ c ∷ [])
  before_last k below = sym (take-append-le k comps (c ∷ []) (omega arith))

  before_own : (k : ℕ) → k ≡ length comps → comps ≡ take k (comps ++ c ∷ [])
  before_own k end =
      sym (take-append-le k comps (c ∷ []) (omega arith) ∙ take_all k comps (omega arith))

  -- what holds of each component after those before it, and of one more
  each_more : (P : Design → Component → Type 0) → ((n : ℕ) (d : Component) → slice_get comps n ≡ Some d → P (take n comps) d) → P comps c → (n : ℕ) (d : Component) → slice_get (comps ++ c ∷ []) n ≡ Some d → P (take n (comps ++ c ∷ [])) d
  each_more P each own n d at =
      elim (last_or_before comps c n d at) [
        | inl before ↦ subst (λ (xs : Design). P xs d) (before_last n before.0) (each n d before.1)
        | inr last ↦ subst (λ (xs : Design). P xs d) (before_own n last.0) (subst (P comps) last.1 own)
      ]

  pub no_loop_more : HaveNoLoop comps → HasNoLoop comps c → HaveNoLoop (comps ++ c ∷ [])
  no_loop_more none own = each_more HasNoLoop none own

  inside_more : (insides : List Inside) (own : Inside) → ShowInsides comps insides → IsInside comps c own → (n : ℕ) (d : Component) (w : Inside) → slice_get (comps ++ c ∷ []) n ≡ Some d → slice_get (insides ++ own ∷ []) n ≡ Some w → IsInside (take n (comps ++ c ∷ [])) d w
  inside_more insides own shows shown n d w at at_insides =
      elim (last_or_before comps c n d at) [
        | inl before ↦ elim (last_or_before insides own n w at_insides) [
          | inl known ↦ subst (λ (xs : Design). IsInside xs d w) (before_last n before.0) (shows.each n d w before.1 known.1)
          | inr known ↦ absurd (omega (arith, before.0, known.0, shows.all))
        ]
        | inr last ↦ elim (last_or_before insides own n w at_insides) [
          | inl known ↦ absurd (omega (arith, last.0, known.0, shows.all))
          | inr known ↦ subst (λ (xs : Design). IsInside xs d w) (before_own n last.0) (subst (λ (e : Component). IsInside comps e w) last.1 (subst (IsInside comps c) known.1 shown))
        ]
      ]

  pub insides_more : (insides : List Inside) (own : Inside) → ShowInsides comps insides → IsInside comps c own → ShowInsides (comps ++ c ∷ []) (insides ++ own ∷ [])
  insides_more insides own shows shown = record {
    all = omega (arith, length-append insides (own ∷ []), length-append comps (c ∷ []), shows.all);
    each = inside_more insides own shows shown;
  }

  level_more : (levels : List Levels) (own : Levels) → ShowAllLevels comps levels → ShowsLevels comps c own → (n : ℕ) (d : Component) (l : Levels) → slice_get (comps ++ c ∷ []) n ≡ Some d → slice_get (levels ++ own ∷ []) n ≡ Some l → ShowsLevels (take n (comps ++ c ∷ [])) d l
  level_more levels own shows shown n d l at at_levels =
      elim (last_or_before comps c n d at) [
        | inl before ↦ elim (last_or_before levels own n l at_levels) [
          | inl known ↦ subst (λ (xs : Design). ShowsLevels xs d l) (before_last n before.0) (shows.each n d l before.1 known.1)
          | inr known ↦ absurd (omega (arith, before.0, known.0, shows.all))
        ]
        | inr last ↦ elim (last_or_before levels own n l at_levels) [
          | inl known ↦ absurd (omega (arith, last.0, known.0, shows.all))
          | inr known ↦ subst (λ (xs : Design). ShowsLevels xs d l) (before_own n last.0) (subst (λ (e : Component). ShowsLevels comps e l) last.1 (subst (ShowsLevels comps c) known.1 shown))
        ]
      ]

  pub levels_more : (levels : List Levels) (own : Levels) → ShowAllLevels comps levels → ShowsLevels comps c own → ShowAllLevels (comps ++ c ∷ []) (levels ++ own ∷ [])
  levels_more levels own shows shown = record {
    all = omega (arith, length-append levels (own ∷ []), length-append comps (c ∷ []), shows.all);
    each = level_more levels own shows shown;
  }

  -- the new component is the first that has a loop
  pub own_loop : (name : Text) (ports : List Text) → c.name ≡ name → HaveNoLoop comps → (first : Text) (others : List Text) → ports ≡ first ∷ others → IsLeastLoop comps c first others → IsFirstLoop (comps ++ c ∷ []) name ports
  own_loop name ports named none first others are loop = record {
    number = length comps;
    c = c;
    at = slice_get-seam comps c;
    named = named;
    components = λ m d below at.
        subst (λ (xs : Design). HasNoLoop xs d) (before_last m below) (none m d (sym (slice_get-left comps (c ∷ []) m below) ∙ at));
    first = first;
    others = others;
    are = are;
    loop = subst (λ (xs : Design). IsLeastLoop xs c first others) (before_own (length comps) refl) loop;
  }

  -- the first that has one stays the first
  pub loop_stays : (name : Text) (ports : List Text) → IsFirstLoop comps name ports → IsFirstLoop (comps ++ c ∷ []) name ports
  loop_stays name ports is =
      let below : is.number < length comps = slice_get_within comps is.number is.c is.at in
      record {
        number = is.number;
        c = is.c;
        at = slice_get-left comps (c ∷ []) is.number below ∙ is.at;
        named = is.named;
        components = λ m d less at.
            (let within : m < length comps = omega arith in
            subst (λ (xs : Design). HasNoLoop xs d) (before_last m within) (is.components m d less (sym (slice_get-left comps (c ∷ []) m within) ∙ at)));
        first = is.first;
        others = is.others;
        are = is.are;
        loop = subst (λ (xs : Design). IsLeastLoop xs is.c is.first is.others) (before_last is.number below) is.loop;
      }
