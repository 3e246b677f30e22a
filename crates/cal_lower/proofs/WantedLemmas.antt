-- When groups are wanted: one more guard for one of them.
use Rattle.std.proofs.Common.{◌≡◌, ◌⊎◌, ℕ, zero, suc, ◌<◌, ◌≤◌, ◌==◌, Bool, true, false, List, [], ◌∷◌, ◌++◌, length, All, Contains, Some, set, get_or, refl, sym, ap, subst, ◌∙◌, inl, inr, arith}
use Rattle.std.specs.Prelude.{slice_get, if◌then◌else◌, bytes_eq}
use Rattle.std.proofs.lemmas.Bool.{eqb-false, eqb-true, ne_eqb}
use Rattle.std.proofs.lemmas.Slice.Eq.{bytes_eq-Decides}
use Rattle.std.proofs.lemmas.List.Elements.{All-head, All-tail}
use Rattle.std.proofs.lemmas.Option.{get_or_from_slice_get, same_Some, slice_get_within}
use Rattle.hw_names.proofs.NameLemmas.{Contains-slice_get, same_number}
use Rattle.hw_names.specs.Name.{AreDistinct, Text}
use Rattle.net_core.specs.Guard.{GuardTree}
use Rattle.net_core.specs.declared.net.Guard.{Guard}
use Rattle.cal_ast.specs.Numbers.{GuardHasNumbers}
use Rattle.cal_ast.specs.Tree.{PortName}
use Rattle.cal_ast.specs.declared.tree.CalPort.{CalPort}
use Rattle.cal_lower.specs.inside.Shown.{Guards, PutsGuard, ShowsActs, ShowsGuard, ShowsGuards, ShowsWanted, enabled_in, more_of, nothing, seen_guard, tested_in}
use Rattle.cal_lower.specs.declared.acts.Acts.{Acts}
use Rattle.cal_lower.specs.declared.acts.Wanted.{Wanted}
use Rattle.cal_lower.proofs.GrownLemmas.{show_push}

-- what stands at a place of a list after a write
pub set_at : {X : Type 0} (xs : List X) (n m : ℕ) (v w : X) → slice_get xs m ≡ Some w → ((n ≡ m) × (slice_get (set xs n v) m ≡ Some v)) ⊎ ((n ≡ m → ⊥) × (slice_get (set xs n v) m ≡ Some w))
set_at [] n m v w at = absurd (cc)
set_at (x ∷ xs) zero zero v w at = inl (refl, refl)
set_at (x ∷ xs) zero (suc m) v w at = inr (λ same. omega (arith, same), at)
set_at (x ∷ xs) (suc n) zero v w at = inr (λ same. omega (arith, same), at)
set_at (x ∷ xs) (suc n) (suc m) v w at = elim (set_at xs n m v w at) [
  | inl here ↦ inl (ap suc here.0, here.1)
  | inr there ↦ inr (λ same. there.0 (omega (arith, same)), there.1)
]

same_eqb : (n : ℕ) → (n == n) ≡ true
same_eqb n = by (n == n) refl
  where
    by : (b : Bool) → (n == n) ≡ b → b ≡ true
    by true is = refl
    by false is = absurd (eqb-false n n is refl)

-- a write of a group with one more guard
module _ (these others : Wanted → List (Guard CalPort)) where
  pub puts_set : (ws : List Wanted) (n : ℕ) (x new : Wanted) (g : Guard CalPort) → slice_get ws n ≡ Some x → others new ≡ others x → these new ≡ these x ++ g ∷ []
      → PutsGuard these others n g ws (set ws n new)
  puts_set ws n x new g at same is m w there = elim (set_at ws n m new w there) [
    | inl here ↦
        let W : ℕ → Type 0 = λ k. slice_get ws k ≡ Some w in
        let is_x : x ≡ w = same_Some x w (sym at ∙ subst W (sym here.0) there) in
        let test : (n == m) ≡ true = ap (λ k. n == k) (sym here.0) ∙ same_eqb n in (
          new,
          here.1,
          same ∙ ap others is_x,
          is ∙ ap (λ (u : Wanted). these u ++ g ∷ []) is_x ∙ sym (ap (λ (b : Bool). if b then these w ++ g ∷ [] else these w) test),
        )
    | inr other ↦ (w, other.1, refl, sym (ap (λ (b : Bool). if b then these w ++ g ∷ [] else these w) (ne_eqb n m other.0)))
  ]

  -- no group has the number
  pub puts_none : (ws : List Wanted) (n : ℕ) (g : Guard CalPort) → length ws ≤ n → PutsGuard these others n g ws ws
  puts_none ws n g past m w there =
      let within = slice_get_within ws m w there in
      let not_same : n ≡ m → ⊥ = λ same. omega (arith, same, within, past) in
      (w, there, refl, sym (ap (λ (b : Bool). if b then these w ++ g ∷ [] else these w) (ne_eqb n m not_same)))

-- groups that aren't wanted
wanted_at : (P : Wanted → Type 0) (ws : List Wanted) (n : ℕ) → All P ws → n < length ws → (w : Wanted) × (slice_get ws n ≡ Some w) × P w
wanted_at P [] n all within = absurd (omega (arith, within))
wanted_at P (w ∷ ws) zero all within = (w, refl, All-head P w ws all)
wanted_at P (w ∷ ws) (suc n) all within = wanted_at P ws n (All-tail P w ws all) (omega (arith, within))

pub never_shown : (names : List Text) (acts : Acts) → length acts.wanted.items ≡ length acts.groups → All (ShowsWanted names [] []) acts.wanted.items → ShowsActs names nothing nothing acts
never_shown names acts sized all = record {
  at = λ n group there.
      let within = slice_get_within acts.groups n group there in
      wanted_at (ShowsWanted names [] []) acts.wanted.items n all (omega (arith, sized, within));
}

pub wanted_within : (names : List Text) (enabled tested : Guards) (acts : Acts) (n : ℕ) (group : Text) → slice_get acts.groups n ≡ Some group → ShowsActs names enabled tested acts → n < length acts.wanted.items
wanted_within names enabled tested acts n group there shows =
    let (w, at, was) = shows.at n group there in
    slice_get_within acts.wanted.items n w at

-- what is shown of one of them
pub wanted_shown : (names : List Text) (enabled tested : Guards) (acts : Acts) (n : ℕ) (group : Text) (x : Wanted) → slice_get acts.groups n ≡ Some group → x ≡ get_or acts.wanted.items n x
    → ShowsActs names enabled tested acts → ShowsWanted names (enabled group) (tested group) x
wanted_shown names enabled tested acts n group x there is shows =
    let (w, at, was) = shows.at n group there in
    let W : Wanted → Type 0 = ShowsWanted names (enabled group) (tested group) in
    subst W (sym (is ∙ get_or_from_slice_get acts.wanted.items n w x at)) was

-- the guards of one text are those of its number
module _ (names : List Text) (old new : Acts) (same : new.groups ≡ old.groups) (distinct : AreDistinct old.groups) (group : Text) (number : ℕ) (at : slice_get old.groups number ≡ Some group)
    (tree : GuardTree PortName) (g : Guard CalPort) (shown : ShowsGuard names tree g) where
  -- where one of these is put last by number, it is put last by name
  more_named : (guards : Guards) (n : ℕ) (other : Text) (items more : List (Guard CalPort)) → slice_get old.groups n ≡ Some other → ShowsGuards names (guards other) items
      → more ≡ (if number == n then items ++ g ∷ [] else items) → ShowsGuards names (more_of guards group tree other) more
  more_named guards n other items more there was is = by (number == n) refl
    where
      P : List (Guard CalPort) → Type 0
      P = λ l. ShowsGuards names (more_of guards group tree other) l

      by : (b : Bool) → (number == n) ≡ b → ShowsGuards names (more_of guards group tree other) more
      by true test =
          let is_n : number ≡ n = eqb-true number n test in
          let G : ℕ → Type 0 = λ k. slice_get old.groups k ≡ Some other in
          let is_group : group ≡ other = same_Some group other (sym at ∙ subst G (sym is_n) there) in
          let eq : bytes_eq group other ≡ true = (bytes_eq-Decides group other).1 is_group in
          let E : List (GuardTree PortName) → Type 0 = λ l. ShowsGuards names l more in
          let M : List (Guard CalPort) → Type 0 = ShowsGuards names (guards other ++ tree ∷ []) in
          let is_more = is ∙ ap (λ (b : Bool). if b then items ++ g ∷ [] else items) test in
          subst E (sym (ap (λ (b : Bool). if b then guards other ++ tree ∷ [] else guards other) eq)) (subst M (sym is_more) (show_push GuardHasNumbers seen_guard names (guards other) items tree g was shown))
      by false test =
          let not_same : group ≡ other → ⊥ = λ e.
          let O : Text → Type 0 = λ t. slice_get old.groups number ≡ Some t in
          eqb-false number n test (same_number old.groups number n other distinct (subst O e at) there) in
          let eq : bytes_eq group other ≡ false = differ (bytes_eq group other) refl not_same in
          let E : List (GuardTree PortName) → Type 0 = λ l. ShowsGuards names l more in
          let M : List (Guard CalPort) → Type 0 = ShowsGuards names (guards other) in
          let is_more = is ∙ ap (λ (b : Bool). if b then items ++ g ∷ [] else items) test in
          subst E (sym (ap (λ (b : Bool). if b then guards other ++ tree ∷ [] else guards other) eq)) (subst M (sym is_more) was)
        where
          differ : (b : Bool) → bytes_eq group other ≡ b → (group ≡ other → ⊥) → b ≡ false
          differ true is' apart = absurd (apart ((bytes_eq-Decides group other).0 is'))
          differ false is' apart = refl

  pub enabled_shown : (enabled tested : Guards) → PutsGuard enabled_in tested_in number g old.wanted.items new.wanted.items → ShowsActs names enabled tested old → ShowsActs names (more_of enabled group tree) tested new
  enabled_shown enabled tested puts shows = record {
    at = λ n other there.
        let G : List Text → Type 0 = λ gs. slice_get gs n ≡ Some other in
        let there_old = subst G same there in
        let (w, at_w, was) = shows.at n other there_old in
        let (v, at_v, kept, more) = puts n w at_w in
        let T : List (Guard CalPort) → Type 0 = ShowsGuards names (tested other) in
        (v, at_v, record { enabled = more_named enabled n other w.enabled.items v.enabled.items there_old was.enabled more; tested = subst T (sym kept) was.tested });
  }

  pub tested_shown : (enabled tested : Guards) → PutsGuard tested_in enabled_in number g old.wanted.items new.wanted.items → ShowsActs names enabled tested old → ShowsActs names enabled (more_of tested group tree) new
  tested_shown enabled tested puts shows = record {
    at = λ n other there.
        let G : List Text → Type 0 = λ gs. slice_get gs n ≡ Some other in
        let there_old = subst G same there in
        let (w, at_w, was) = shows.at n other there_old in
        let (v, at_v, kept, more) = puts n w at_w in
        let T : List (Guard CalPort) → Type 0 = ShowsGuards names (enabled other) in
        (v, at_v, record { enabled = subst T (sym kept) was.enabled; tested = more_named tested n other w.tested.items v.tested.items there_old was.tested more });
  }

-- a text that is no group gets nothing
module _ (names : List Text) (enabled tested : Guards) (acts : Acts) (group : Text) (tree : GuardTree PortName) (absent : ¬ Contains acts.groups group) (shows : ShowsActs names enabled tested acts) where
  no_more : (guards : Guards) (n : ℕ) (other : Text) → slice_get acts.groups n ≡ Some other → more_of guards group tree other ≡ guards other
  no_more guards n other there = by (bytes_eq group other) refl
    where
      by : (b : Bool) → bytes_eq group other ≡ b → (if b then guards other ++ tree ∷ [] else guards other) ≡ guards other
      by true is =
          let same : group ≡ other = (bytes_eq-Decides group other).0 is in
          let C : Text → Type 0 = Contains acts.groups in
          absurd (absent (subst C (sym same) (Contains-slice_get acts.groups n other there)))
      by false is = refl

  pub not_enabled : ShowsActs names (more_of enabled group tree) tested acts
  not_enabled = record {
    at = λ n other there.
        let (w, at_w, was) = shows.at n other there in
        let E : List (GuardTree PortName) → Type 0 = λ l. ShowsGuards names l w.enabled.items in
        (w, at_w, record { enabled = subst E (sym (no_more enabled n other there)) was.enabled; tested = was.tested });
  }

  pub not_tested : ShowsActs names enabled (more_of tested group tree) acts
  not_tested = record {
    at = λ n other there.
        let (w, at_w, was) = shows.at n other there in
        let E : List (GuardTree PortName) → Type 0 = λ l. ShowsGuards names l w.tested.items in
        (w, at_w, record { enabled = was.enabled; tested = subst E (sym (no_more tested n other there)) was.tested });
  }
