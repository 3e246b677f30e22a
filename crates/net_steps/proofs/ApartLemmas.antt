-- Assignments that never act at once, one after another.
use Rattle.std.proofs.Common.{◌≡◌, ◌==◌, ◌⊎◌, ℕ, zero, suc, ◌<◌, get_or, arith, Bool, true, false, not, cond, ◌&&◌, ◌||◌, nat_eq, List, [], ◌∷◌, ◌++◌, Option, Some, refl, sym, ap, ◌∙◌, inl, inr, eq-eqb, eqb-true}
use Rattle.std.specs.Prelude.{Contains, slice_index, slice_index_or, unwrap_or}
use Rattle.std.specs.List.{list_any}
use Rattle.std.proofs.lemmas.List.Elements.{Contains-append_left, Contains-append_right, Contains-append_cases}
use Rattle.std.proofs.lemmas.List.Folds.{list_any_at}
use Rattle.hw_prims.specs.Meaning.{bit}
use Rattle.net_steps.specs.Apart.{AreDisjoint, AreNeverBoth, Asks, HasNoTwo, Implies, Joins, JoinsGroups, empty_group, group_at, has_true}
use Rattle.net_steps.specs.Drivers.{acting}
use Rattle.net_steps.specs.Operations.{has_two, is_on, IsStep}
use Rattle.net_steps.specs.Steps.{IsRowOf, IsConstant}
use Rattle.net_steps.specs.StepsValue.{StepsValue}
use Rattle.net_steps.specs.Truths.{is_true, IsBothOf, IsEitherOf}
use Rattle.net_steps.specs.declared.apart.Group.{Group}
use Rattle.net_steps.specs.declared.drivers.Driver.{Driver}
use Rattle.net_steps.specs.declared.equality.Equality.{Equality}
use Rattle.net_steps.specs.declared.operation.Operation.TheVariants.{Equal}
use Rattle.net_steps.specs.declared.other.Other.{Other}
use Rattle.net_steps.specs.declared.truth.Truth.{Truth}
use Rattle.net_steps.specs.declared.truth.Truth.TheVariants.{Slot}
use Rattle.net_steps.proofs.ChoiceLemmas.{value_if}
use Rattle.net_steps.proofs.DriverLemmas.{acting_more}
use Rattle.net_steps.proofs.StepLemmas.{step_made}

-- ---- what a truth asks of a slot

-- in each row in which it is true the other is
abbrev pub Follows : StepsValue → Truth → Truth → Type 0
Follows steps truth other =
    (others : List Other) (slots : List ℕ) → IsRowOf steps others slots → is_true slots truth ≡ true → is_true slots other ≡ true

both_first : (a b c : Bool) → c ≡ (a && b) → c ≡ true → a ≡ true
both_first true b c is on = refl
both_first false b c is on = cc

both_second : (a b c : Bool) → c ≡ (a && b) → c ≡ true → b ≡ true
both_second true b c is on = sym is ∙ on
both_second false b c is on = cc

pub asks_by : (steps : StepsValue) (truth rest : Truth) (slot : ℕ) (numbers : List ℕ) → Follows steps truth rest → Asks steps rest slot numbers → Asks steps truth slot numbers
asks_by steps truth rest slot numbers follows is others slots row on = is others slots row (follows others slots row on)

pub first_follows : (steps : StepsValue) (truth rest one other : Truth) → Follows steps truth rest → IsBothOf steps rest one other → Follows steps truth one
first_follows steps truth rest one other follows is others slots row on =
    both_first (is_true slots one) (is_true slots other) (is_true slots rest) (is others slots row) (follows others slots row on)

pub one_follows : (steps : StepsValue) (truth rest one other next : Truth) → Follows steps truth rest → IsBothOf steps rest one other → (next ≡ one) ⊎ (next ≡ other) → Follows steps truth next
one_follows steps truth rest one other next follows is which others slots row on = elim which [
  | inl e ↦ ap (is_true slots) e ∙ first_follows steps truth rest one other follows is others slots row on
  | inr e ↦ ap (is_true slots) e ∙ both_second (is_true slots one) (is_true slots other) (is_true slots rest) (is others slots row) (follows others slots row on)
]

pub itself_implied : (steps : StepsValue) (slot : ℕ) → Implies steps (Slot slot false) (record { slot = slot; number = 1 })
itself_implied steps slot others slots row on = eqb-true (slice_index slots slot) 1 on

bit_on : (b : Bool) → (bit b == 1) ≡ true → b ≡ true
bit_on true on = refl
bit_on false on = cc

compared_equal : (steps : StepsValue) (on a b : ℕ) → IsStep steps.base steps.items on (Equal a b) → (others : List Other) (slots : List ℕ) → IsRowOf steps others slots → is_on slots on ≡ true → slice_index slots a ≡ slice_index slots b
compared_equal steps on a b step others slots row is =
    eqb-true (slice_index slots a) (slice_index slots b)
    (bit_on (slice_index slots a == slice_index slots b) (ap (λ v. v == 1) (sym (step_made steps others slots on (Equal a b) step row)) ∙ is))

pub left_implied : (steps : StepsValue) (on a b number : ℕ) → IsStep steps.base steps.items on (Equal a b) → IsConstant steps b number → Implies steps (Slot on false) (record { slot = a; number = number })
left_implied steps on a b number step constant others slots row is = compared_equal steps on a b step others slots row is ∙ constant others slots row

pub right_implied : (steps : StepsValue) (on a b number : ℕ) → IsStep steps.base steps.items on (Equal a b) → IsConstant steps a number → Implies steps (Slot on false) (record { slot = b; number = number })
right_implied steps on a b number step constant others slots row is = sym (compared_equal steps on a b step others slots row is) ∙ constant others slots row

-- ---- several numbers of one slot

one_number : (number v : ℕ) → v ≡ number → Contains (number ∷ []) v
one_number number v same = (0, omega arith, sym same)

is_number : (number v : ℕ) → Contains (number ∷ []) v → v ≡ number
is_number number v there = by there.0 there.1 there.2
  where
    by : (k : ℕ) → k < 1 → slice_index_or (number ∷ []) k v ≡ v → v ≡ number
    by zero lt e = sym e
    by (suc k) lt e = absurd (omega (arith, lt))

one_of : (a b : Bool) → (a || b) ≡ true → (a ≡ true) ⊎ (b ≡ true)
one_of true b on = inl refl
one_of false b on = inr on

-- where the truth holds the slot has one of the numbers, or the rest of its alternatives holds
abbrev pub AsksUpto : StepsValue → Truth → ℕ → List ℕ → Truth → Type 0
AsksUpto steps truth slot numbers rest =
    (others : List Other) (slots : List ℕ) → IsRowOf steps others slots → is_true slots truth ≡ true → Contains numbers (slice_index slots slot) ⊎ (is_true slots rest ≡ true)

pub asks_more : (steps : StepsValue) (truth rest first more : Truth) (slot number : ℕ) (numbers : List ℕ) → AsksUpto steps truth slot numbers rest → IsEitherOf steps rest first more → Implies steps first (record { slot = slot; number = number }) → AsksUpto steps truth slot (numbers ++ number ∷ []) more
asks_more steps truth rest first more slot number numbers so_far either asked others slots row on =
    let v = slice_index slots slot in
    elim (so_far others slots row on) [
      | inl there ↦ inl (Contains-append_left numbers (number ∷ []) v there)
      | inr last ↦ elim (one_of (is_true slots first) (is_true slots more) (sym (either others slots row) ∙ last)) [
        | inl now ↦ inl (Contains-append_right numbers (number ∷ []) v (one_number number v (asked others slots row now)))
        | inr later ↦ inr later
      ]
    ]

pub asks_all : (steps : StepsValue) (truth rest : Truth) (slot number : ℕ) (numbers : List ℕ) → AsksUpto steps truth slot numbers rest → Implies steps rest (record { slot = slot; number = number }) → Asks steps truth slot (numbers ++ number ∷ [])
asks_all steps truth rest slot number numbers so_far asked others slots row on =
    let v = slice_index slots slot in
    elim (so_far others slots row on) [
      | inl there ↦ Contains-append_left numbers (number ∷ []) v there
      | inr last ↦ Contains-append_right numbers (number ∷ []) v (one_number number v (asked others slots row last))
    ]

-- ---- two that ask other numbers of one slot

not_true : (b : Bool) → (b ≡ true → ⊥) → b ≡ false
not_true true never = absurd (never refl)
not_true false never = refl

not_both_true : (a b : Bool) → (a ≡ true → b ≡ true → ⊥) → (a && b) ≡ false
not_both_true true b never = not_true b (never refl)
not_both_true false b never = refl

pub apart_two : (steps : StepsValue) (one other : Truth) (slot : ℕ) (first second : List ℕ) → Asks steps one slot first → Asks steps other slot second → AreDisjoint first second → AreNeverBoth steps one other
apart_two steps one other slot first second is also disjoint others slots row =
    not_both_true (is_true slots one) (is_true slots other) (λ on too. disjoint (slice_index slots slot) (is others slots row on) (also others slots row too))

unlike : (b : Bool) → b ≡ false → b ≡ true → ⊥
unlike true off on = cc
unlike false off on = cc

contains_any : (numbers : List ℕ) (v : ℕ) → Contains numbers v → list_any (λ n. nat_eq n v) numbers ≡ true
contains_any numbers v there = list_any_at (λ n. nat_eq n v) numbers there.0 v there.1 (eq-eqb (get_or numbers there.0 v) v there.2)

pub disjoint_none : (second : List ℕ) → AreDisjoint [] second
disjoint_none second v there also = absurd (omega (arith, there.1))

pub disjoint_more : (first second : List ℕ) (number : ℕ) → AreDisjoint first second → list_any (λ n. nat_eq n number) second ≡ false → AreDisjoint (first ++ number ∷ []) second
disjoint_more first second number so_far none v there also = elim (Contains-append_cases first (number ∷ []) v there) [
  | inl earlier ↦ so_far v earlier also
  | inr last ↦ unlike (list_any (λ n. nat_eq n number) second) none (ap (λ k. list_any (λ n. nat_eq n k) second) (sym (is_number number v last)) ∙ contains_any second v also)
]

-- a number that a truth asks of a slot, by the slot's name
pub implied_at : (steps : StepsValue) (truth : Truth) (asked : Equality) (slot : ℕ) → Implies steps truth asked → asked.slot ≡ slot → Implies steps truth (record { slot = slot; number = asked.number })
implied_at steps truth asked slot is same others slots row on = ap (slice_index slots) (sym same) ∙ is others slots row on

-- ---- one that denies the other

both_on : (a b : Bool) → a ≡ true → b ≡ true → (a && b) ≡ false → ⊥
both_on true true on too never = cc
both_on true false on too never = cc
both_on false b on too never = cc

pub denied_by : (steps : StepsValue) (truth part whole : Truth) → Follows steps whole part → AreNeverBoth steps truth part → AreNeverBoth steps truth whole
denied_by steps truth part whole follows never others slots row =
    not_both_true (is_true slots truth) (is_true slots whole) (λ on too. both_on (is_true slots truth) (is_true slots part) on (follows others slots row too) (never others slots row))

pub part_denied : (steps : StepsValue) (whole part other : Truth) → Follows steps whole part → AreNeverBoth steps part other → AreNeverBoth steps whole other
part_denied steps whole part other follows never others slots row =
    not_both_true (is_true slots whole) (is_true slots other) (λ on too. both_on (is_true slots part) (is_true slots other) (follows others slots row on) too (never others slots row))

pub second_follows : (steps : StepsValue) (truth rest one other : Truth) → Follows steps truth rest → IsBothOf steps rest one other → Follows steps truth other
second_follows steps truth rest one other follows is others slots row on =
    both_second (is_true slots one) (is_true slots other) (is_true slots rest) (is others slots row) (follows others slots row on)

pub never_fixed : (steps : StepsValue) (one other : Truth) → ((slots : List ℕ) → is_true slots one ≡ false) → AreNeverBoth steps one other
never_fixed steps one other never others slots row = ap (λ b. b && is_true slots other) (never slots)

and_not : (a b : Bool) → b ≡ not a → (a && b) ≡ false
and_not true b e = e
and_not false b e = refl

pub never_opposite : (steps : StepsValue) (one other : Truth) → ((slots : List ℕ) → is_true slots other ≡ not (is_true slots one)) → AreNeverBoth steps one other
never_opposite steps one other opposite others slots row = and_not (is_true slots one) (is_true slots other) (opposite slots)

and_turned : (a b : Bool) → (a && b) ≡ (b && a)
and_turned true true = refl
and_turned true false = refl
and_turned false true = refl
and_turned false false = refl

pub never_turned : (steps : StepsValue) (one other : Truth) → AreNeverBoth steps one other → AreNeverBoth steps other one
never_turned steps one other never others slots row = and_turned (is_true slots other) (is_true slots one) ∙ never others slots row

-- ---- some that ask for one number

none_beside : (a b c d t : Bool) → (a && t) ≡ false → (b && t) ≡ false → (c && t) ≡ false → d ≡ false → ((a || (b || (c || d))) && t) ≡ false
none_beside true b c d t one two three four = one
none_beside false true c d t one two three four = two
none_beside false false true d t one two three four = three
none_beside false false false true t one two three four = cc
none_beside false false false false t one two three four = refl

one_more : (t a b c d : Bool) → d ≡ false → (t || (a || (b || c))) ≡ ((a || (b || (c || d))) || t)
one_more true true b c d four = refl
one_more true false true c d four = refl
one_more true false false true d four = refl
one_more true false false false true four = refl
one_more true false false false false four = refl
one_more false true b c d four = refl
one_more false false true c d four = refl
one_more false false false true d four = refl
one_more false false false false true four = cc
one_more false false false false false four = refl

pub joins : (steps : StepsValue) (g : Group) (truth : Truth) → AreNeverBoth steps g.first truth → AreNeverBoth steps g.second truth → AreNeverBoth steps g.third truth → ((slots : List ℕ) → is_true slots g.fourth ≡ false) → Joins steps g truth (record { first = truth; second = g.first; third = g.second; fourth = g.third })
joins steps g truth one two three four = record {
  apart = λ others slots row.
      none_beside (is_true slots g.first) (is_true slots g.second) (is_true slots g.third) (is_true slots g.fourth) (is_true slots truth)
      (one others slots row) (two others slots row) (three others slots row) (four slots);
  joined = λ others slots row.
      one_more (is_true slots truth) (is_true slots g.first) (is_true slots g.second) (is_true slots g.third) (is_true slots g.fourth) (four slots);
}

-- ---- one after another

abbrev has_some : List ℕ → Bool
has_some [] = false
has_some (v ∷ values) = true

none_with : (values : List ℕ) (on : Bool) (value : ℕ) → has_two values ≡ false → (on ≡ true → has_some values ≡ false) → has_two (values ++ value_if on value) ≡ false
none_with [] true value alone none = refl
none_with [] false value alone none = refl
none_with (v ∷ []) true value alone none = let e = none refl in cc
none_with (v ∷ []) false value alone none = refl
none_with (v ∷ w ∷ values) on value alone none = cc

some_of : (values : List ℕ) (on : Bool) (value : ℕ) → has_some (values ++ value_if on value) ≡ true → (has_some values ≡ true) ⊎ (on ≡ true)
some_of [] true value some = inr refl
some_of [] false value some = cc
some_of (v ∷ values) on value some = inl refl

or_first : (a b : Bool) → a ≡ true → (a || b) ≡ true
or_first true b e = refl
or_first false b e = cc

or_second : (a b : Bool) → b ≡ true → (a || b) ≡ true
or_second true b e = refl
or_second false b e = e

-- no two of the first drivers act at once, and where one acts it is of those that ask for the slot's number
pub record AreApartUpto (steps : StepsValue) (slot : ℕ) (drivers : List Driver) (groups : ℕ → Option Group) : Type 0 where
  pub alone : HasNoTwo steps drivers
  pub among : (others : List Other) (slots : List ℕ) → IsRowOf steps others slots → has_some (acting slots drivers) ≡ true → has_true slots (group_at groups (slice_index slots slot)) ≡ true

pub apart_none : (steps : StepsValue) (slot : ℕ) (groups : ℕ → Option Group) → AreApartUpto steps slot [] groups
apart_none steps slot groups = record { alone = λ others slots row. refl; among = λ others slots row some. cc }

-- what was put in at a number is true, or what was there before
still_true : (slots : List ℕ) (number v : ℕ) (same : Bool) (group : Group) (old new : ℕ → Option Group) → nat_eq number v ≡ same → new v ≡ cond same (Some group) (old v) → has_true slots (group_at old v) ≡ true → (number ≡ v → has_true slots group ≡ true) → has_true slots (group_at new v) ≡ true
still_true slots number v true group old new same put there joined =
    ap (λ o. has_true slots (unwrap_or o empty_group)) put ∙ joined (eqb-true number v same)
still_true slots number v false group old new same put there joined =
    ap (λ o. has_true slots (unwrap_or o empty_group)) put ∙ there

put_there : (slots : List ℕ) (number v : ℕ) (group : Group) (old new : ℕ → Option Group) → nat_eq number v ≡ true → new v ≡ cond (nat_eq number v) (Some group) (old v) → group_at new v ≡ group
put_there slots number v group old new same put =
    ap (λ o. unwrap_or o empty_group) (put ∙ ap (λ b. cond b (Some group) (old v)) same)

-- one number more
module _ (steps : StepsValue) (old mid new : ℕ → Option Group) (numbers : List ℕ) (truth : Truth) (number : ℕ) (group : Group) (so_far : JoinsGroups steps old mid numbers truth) (joins : Joins steps (group_at mid number) truth group) (put : (q : ℕ) → new q ≡ cond (nat_eq number q) (Some group) (mid q)) where
  true_of_group : (others : List Other) (slots : List ℕ) → IsRowOf steps others slots → (has_true slots (group_at mid number) || is_true slots truth) ≡ true → has_true slots group ≡ true
  true_of_group others slots row one = joins.joined others slots row ∙ one

  stays : (others : List Other) (slots : List ℕ) → IsRowOf steps others slots → (v : ℕ) → has_true slots (group_at mid v) ≡ true → has_true slots (group_at new v) ≡ true
  stays others slots row v there =
      still_true slots number v (nat_eq number v) group mid new refl (put v) there
      (λ same. true_of_group others slots row (or_first (has_true slots (group_at mid number)) (is_true slots truth) (ap (λ q. has_true slots (group_at mid q)) same ∙ there)))

  apart_there : (others : List Other) (slots : List ℕ) → IsRowOf steps others slots → (v : ℕ) → Contains (numbers ++ number ∷ []) v → (has_true slots (group_at old v) && is_true slots truth) ≡ false
  apart_there others slots row v there = elim (Contains-append_cases numbers (number ∷ []) v there) [
    | inl earlier ↦ so_far.apart others slots row v earlier
    | inr last ↦ not_both_true (has_true slots (group_at old v)) (is_true slots truth) (λ some on.
        both_on (has_true slots (group_at mid number)) (is_true slots truth)
        (ap (λ q. has_true slots (group_at mid q)) (sym (is_number number v last)) ∙ so_far.kept others slots row v some) on
        (joins.apart others slots row))
  ]

  joined_there : (others : List Other) (slots : List ℕ) → IsRowOf steps others slots → (v : ℕ) → Contains (numbers ++ number ∷ []) v → is_true slots truth ≡ true → has_true slots (group_at new v) ≡ true
  joined_there others slots row v there on = elim (Contains-append_cases numbers (number ∷ []) v there) [
    | inl earlier ↦ stays others slots row v (so_far.joined others slots row v earlier on)
    | inr last ↦
        ap (has_true slots) (put_there slots number v group mid new (eq-eqb number v (sym (is_number number v last))) (put v))
        ∙ true_of_group others slots row (or_second (has_true slots (group_at mid number)) (is_true slots truth) on)
  ]

  pub joins_more : JoinsGroups steps old new (numbers ++ number ∷ []) truth
  joins_more = record {
    apart = apart_there;
    kept = λ others slots row v some. stays others slots row v (so_far.kept others slots row v some);
    joined = joined_there;
  }

pub joins_none : (steps : StepsValue) (groups : ℕ → Option Group) (truth : Truth) → JoinsGroups steps groups groups [] truth
joins_none steps groups truth = record {
  apart = λ others slots row v there. absurd (omega (arith, there.1));
  kept = λ others slots row v some. some;
  joined = λ others slots row v there on. absurd (omega (arith, there.1));
}

-- one driver more
module _ (steps : StepsValue) (slot : ℕ) (drivers : List Driver) (old new : ℕ → Option Group) (d : Driver) (numbers : List ℕ) (so_far : AreApartUpto steps slot drivers old) (is : Asks steps d.truth slot numbers) (joins : JoinsGroups steps old new numbers d.truth) where
  alone_more : HasNoTwo steps (drivers ++ d ∷ [])
  alone_more others slots row =
      let before = acting slots drivers in
      let v = slice_index slots slot in
      ap has_two (acting_more slots drivers d)
      ∙ none_with before (is_true slots d.truth) (slice_index slots d.source) (so_far.alone others slots row)
      (λ on. not_true (has_some before) (λ some.
      both_on (has_true slots (group_at old v)) (is_true slots d.truth) (so_far.among others slots row some) on
      (joins.apart others slots row v (is others slots row on))))

  among_more : (others : List Other) (slots : List ℕ) → IsRowOf steps others slots → has_some (acting slots (drivers ++ d ∷ [])) ≡ true → has_true slots (group_at new (slice_index slots slot)) ≡ true
  among_more others slots row some =
      let v = slice_index slots slot in
      elim (some_of (acting slots drivers) (is_true slots d.truth) (slice_index slots d.source) (ap has_some (sym (acting_more slots drivers d)) ∙ some)) [
        | inl earlier ↦ joins.kept others slots row v (so_far.among others slots row earlier)
        | inr on ↦ joins.joined others slots row v (is others slots row on) on
      ]

  pub apart_more : AreApartUpto steps slot (drivers ++ d ∷ []) new
  apart_more = record { alone = alone_more; among = among_more }
