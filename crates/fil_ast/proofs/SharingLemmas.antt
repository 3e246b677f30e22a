-- F12 by the use that starts first and the one that starts last says what F12 of each two uses says, where those are apart.
use Rattle.std.proofs.Common.{◌≡◌, ℕ, zero, suc, Bool, filter, flat_map, ◌<◌, ◌≤◌, List, [], ◌∷◌, slice_get, All, Contains, Some, ◌⊎◌, inl, inr, refl, sym, ap, subst, ◌∙◌, arith}
use Rattle.std.specs.Prelude.{◌==◌, ◌&&◌}
use Rattle.std.specs.Str.{bytes_eq}
use Rattle.std.proofs.lemmas.Bool.{and_from, and_parts, cases_lt}
use Rattle.std.proofs.lemmas.Bool.Decides.{Decides-eqb}
use Rattle.std.proofs.lemmas.List.Elements.{All-cons, All-contains, All-nil, All-weaker}
use Rattle.std.proofs.lemmas.Option.{same_Some, slice_get-get_or}
use Rattle.std.proofs.lemmas.Slice.Eq.{bytes_eq-Decides}
use Rattle.fil_ast.proofs.HoldLemmas.{from_filter, from_flat, in_filter, in_flat, use_listed, uses_by_call}
use Rattle.fil_ast.proofs.UseLemmas.{one_use}
use Rattle.fil_ast.specs.Holds.{uses_of}
use Rattle.fil_ast.specs.Scope.{Scope, Invocation}
use Rattle.fil_ast.specs.Sharing.{AreDisjoint, EndsInTime, IsEarlierUse, IsUseOf, IsUseSoFar, IsWithin, KeepsUsesApart, StartsFirst, StartsLast}
use Rattle.fil_ast.specs.Signature.{Signature}
use Rattle.fil_ast.specs.Timeline.{IsUse, Use}
use Rattle.fil_ast.specs.Tree.{Event}

-- of a use and each earlier one of its event, each ends within the delay after the other's start
abbrev pub KeepsPairsInTime : Scope → Invocation → Type 0
KeepsPairsInTime scope v =
    (u earlier : Use) → IsUseOf scope v u → IsEarlierUse scope u earlier → (e : Event) → Contains scope.comp.events e → e.name ≡ u.at.event →
    IsWithin e.delay u earlier × IsWithin e.delay earlier u

-- of two uses on an event, each ends within the delay after the other's start
abbrev pub AreInTime : Scope → Use → Use → Type 0
AreInTime scope u w = (e : Event) → Contains scope.comp.events e → e.name ≡ w.at.event → IsWithin e.delay w u × IsWithin e.delay u w

-- it holds of each two uses of an event of an instance by two of the invocations so far
abbrev pub OfEarlier : (Use → Use → Type 0) → Scope → Type 0
OfEarlier R scope =
    (i j : ℕ) (v w : Invocation) (u x : Use) → i < j → slice_get scope.invocations i ≡ Some v → slice_get scope.invocations j ≡ Some w → IsUseOf scope v u →
    IsUseOf scope w x → u.inst ≡ x.inst → u.event ≡ x.event → R u x

-- an invocation uses an event once
used_once : (scope : Scope) (v : Invocation) (a b : Use) → IsUseOf scope v a → IsUseOf scope v b → a.event ≡ b.event → a ≡ b
used_once scope v a b (s, is_s, use_a) (t, is_t, use_b) same =
    let U : Signature → Type 0 = λ x. IsUse x v.inst v.gives.times b in
    one_use use_a (subst U (same_Some t s (sym is_t ∙ is_s)) use_b) same

pub disjoint_back : (a b : Use) → AreDisjoint a b → AreDisjoint b a
disjoint_back a b apart = elim apart [ inl first ↦ inr first | inr second ↦ inl second ]

-- of the uses so far each two are one, or as two uses by two of the invocations are
module _ (scope : Scope) (u : Use) (R : Use → Use → Type 0) (back : (a b : Use) → R a b → R b a) (earlier : OfEarlier R scope) (own : (x : Use) → IsEarlierUse scope u x → R x u) where
  two_earlier : (a b : Use) → IsEarlierUse scope u a → IsEarlierUse scope u b → (a ≡ b) ⊎ R a b
  two_earlier a b one other =
      let i = one.invocation in
      let j = other.invocation in
      let m = one.is_earlier.0 in
      let n = other.is_earlier.0 in
      let inst : a.inst ≡ b.inst = one.same_instance ∙ sym other.same_instance in
      let event : a.event ≡ b.event = one.same_event ∙ sym other.same_event in
      let at_m : slice_get scope.invocations m ≡ Some i = slice_get-get_or scope.invocations m i one.is_earlier.1 ∙ ap Some one.is_earlier.2 in
      let at_n : slice_get scope.invocations n ≡ Some j = slice_get-get_or scope.invocations n j other.is_earlier.1 ∙ ap Some other.is_earlier.2 in
      elim (cases_lt m n) [
        | inl before ↦ inr (earlier m n i j a b before at_m at_n one.uses other.uses inst event)
        | inr after ↦ elim (cases_lt n m) [
          | inl later ↦ inr (back b a (earlier n m j i b a later at_n at_m other.uses one.uses (sym inst) (sym event)))
          | inr le ↦
              let same : m ≡ n = omega arith in
              let same_invocation = same_Some j i (sym at_n ∙ ap (slice_get scope.invocations) (sym same) ∙ at_m) in
              inl (used_once scope i a b one.uses (subst (λ (w : Invocation). IsUseOf scope w b) same_invocation other.uses) event)
        ]
      ]

  pub one_or_two : (a b : Use) → IsUseSoFar scope u a → IsUseSoFar scope u b → (a ≡ b) ⊎ R a b
  one_or_two a b (inl is_a) (inl is_b) = inl (is_a ∙ sym is_b)
  one_or_two a b (inl is_a) (inr known) = inr (subst (λ (x : Use). R x b) (sym is_a) (back b u (own b known)))
  one_or_two a b (inr known) (inl is_b) = inr (subst (λ (x : Use). R a x) (sym is_b) (own a known))
  one_or_two a b (inr one) (inr other) = two_earlier a b one other

-- uses of which each two are one or apart, where from the first start to each last end is at most the delay
module _ (Among : Use → Type 0) (apart : (a b : Use) → Among a → Among b → (a ≡ b) ⊎ AreDisjoint a b) (delay : ℕ) (first last : Use) (is_first : StartsFirst Among first) (is_last : StartsLast Among last) (fits : (other : Use) → StartsLast Among other → IsWithin delay first other) where
  each_ends : (x : Use) → Among x → IsWithin delay first x
  each_ends x is_x = elim (apart x last is_x is_last.among) [
    | inl same ↦ subst (λ (y : Use). IsWithin delay first y) (sym same) (fits last is_last)
    | inr disjoint ↦ elim disjoint [
      | inl before ↦ (let ends : IsWithin delay first last = fits last is_last in omega arith)
      | inr after ↦
          let latest : x.at.plus ≤ last.at.plus = is_last.greatest x is_x in
          fits x (record { among = is_x; greatest = λ other is_other. (let of_other = is_last.greatest other is_other in omega arith) })
    ]
  ]

  pub each_within : (a b : Use) → Among a → Among b → IsWithin delay a b
  each_within a b is_a is_b =
      let starts : first.at.plus ≤ a.at.plus = is_first.least a is_a in
      let ends : IsWithin delay first b = each_ends b is_b in
      omega arith

-- and where of each two of them each ends within the delay after the other's start, that is so
pub span_within : (Among : Use → Type 0) (delay : ℕ) → ((a b : Use) → Among a → Among b → (a ≡ b) ⊎ IsWithin delay a b) → (u other first last : Use) → Among u → Among other → IsWithin delay other u
    → Among first → StartsLast Among last → IsWithin delay first last
span_within Among delay pairs u other first last is_u is_other ends is_first is_last = elim (pairs first last is_first is_last.among) [
  | inr within ↦ within
  | inl same ↦
      let u_starts : u.at.plus ≤ last.at.plus = is_last.greatest u is_u in
      let other_starts : other.at.plus ≤ last.at.plus = is_last.greatest other is_other in
      let last_ends : IsWithin delay last last = elim (pairs u last is_u is_last.among) [
        | inr within ↦ omega arith
        | inl is ↦ subst (λ (x : Use). IsWithin delay last x) is (omega arith)
      ] in
      subst (λ (x : Use). IsWithin delay x last) (sym same) last_ends
]

-- the one that starts first of these, and the one that starts last
first_among : (x : Use) (xs : List Use) → (y : Use) × Contains (x ∷ xs) y × All (λ (z : Use). y.at.plus ≤ z.at.plus) (x ∷ xs)
first_among x [] =
    let own : x.at.plus ≤ x.at.plus = omega arith in
    (x, (0, omega arith, refl), All-cons (λ (z : Use). x.at.plus ≤ z.at.plus) x [] own (All-nil _))
first_among x (y ∷ ys) =
    let rest = first_among y ys in
    elim (cases_lt rest.0.at.plus x.at.plus) [
      | inl less ↦
          (rest.0, (suc rest.1.0, omega (arith, rest.1.1), rest.1.2), All-cons (λ (z : Use). rest.0.at.plus ≤ z.at.plus) x (y ∷ ys) (omega arith) rest.2)
      | inr ge ↦
          let own : x.at.plus ≤ x.at.plus = omega arith in (
            x,
            (0, omega arith, refl),
            All-cons (λ (z : Use). x.at.plus ≤ z.at.plus) x (y ∷ ys) own
                (All-weaker (λ (z : Use). rest.0.at.plus ≤ z.at.plus) (λ (z : Use). x.at.plus ≤ z.at.plus) (λ z le. omega (arith, le, ge)) (y ∷ ys) rest.2),
          )
    ]

last_among : (x : Use) (xs : List Use) → (y : Use) × Contains (x ∷ xs) y × All (λ (z : Use). z.at.plus ≤ y.at.plus) (x ∷ xs)
last_among x [] =
    let own : x.at.plus ≤ x.at.plus = omega arith in
    (x, (0, omega arith, refl), All-cons (λ (z : Use). z.at.plus ≤ x.at.plus) x [] own (All-nil _))
last_among x (y ∷ ys) =
    let rest = last_among y ys in
    elim (cases_lt x.at.plus rest.0.at.plus) [
      | inl more ↦
          (rest.0, (suc rest.1.0, omega (arith, rest.1.1), rest.1.2), All-cons (λ (z : Use). z.at.plus ≤ rest.0.at.plus) x (y ∷ ys) (omega arith) rest.2)
      | inr le ↦
          let own : x.at.plus ≤ x.at.plus = omega arith in (
            x,
            (0, omega arith, refl),
            All-cons (λ (z : Use). z.at.plus ≤ x.at.plus) x (y ∷ ys) own
                (All-weaker (λ (z : Use). z.at.plus ≤ rest.0.at.plus) (λ (z : Use). z.at.plus ≤ x.at.plus) (λ z ge. omega (arith, le, ge)) (y ∷ ys) rest.2),
          )
    ]

-- where uses are listed, one of them starts first, and one starts last
module _ (Among : Use → Type 0) (u : Use) (uses : List Use) (are : (x : Use) → Contains (u ∷ uses) x → Among x) (all : (x : Use) → Among x → Contains (u ∷ uses) x) where
  pub has_first : (first : Use) × StartsFirst Among first
  has_first =
      let f = first_among u uses in
      (f.0, record { among = are f.0 f.1; least = λ other is. All-contains (λ (z : Use). f.0.at.plus ≤ z.at.plus) (u ∷ uses) other f.2 (all other is) })

  pub has_last : (last : Use) × StartsLast Among last
  has_last =
      let l = last_among u uses in
      (l.0, record { among = are l.0 l.1; greatest = λ other is. All-contains (λ (z : Use). z.at.plus ≤ l.0.at.plus) (u ∷ uses) other l.2 (all other is) })

-- the uses so far, as a list
module _ (scope : Scope) (u : Use) where
  is_alike : Use → Bool
  is_alike w = bytes_eq w.inst u.inst && (w.event == u.event)

  pub listed : List Use
  listed = filter is_alike (flat_map (uses_of scope) scope.invocations)

  pub listed_earlier : (x : Use) → Contains listed x → IsEarlierUse scope u x
  unfolding listed is_alike
  listed_earlier x has =
      let passed = from_filter is_alike (flat_map (uses_of scope) scope.invocations) x has in
      let of = from_flat (uses_of scope) scope.invocations x passed.0 in
      let both = and_parts (bytes_eq x.inst u.inst) (x.event == u.event) passed.1 in
      record {
        invocation = of.0;
        is_earlier = of.1;
        uses = All-contains (IsUseOf scope of.0) (uses_of scope of.0) x (uses_by_call scope of.0).0 of.2;
        same_instance = (bytes_eq-Decides x.inst u.inst).0 both.0;
        same_event = (Decides-eqb x.event u.event).0 both.1;
      }

  pub earlier_listed : (x : Use) → IsEarlierUse scope u x → Contains listed x
  unfolding listed is_alike
  earlier_listed x known =
      in_filter is_alike (flat_map (uses_of scope) scope.invocations) x
      (in_flat (uses_of scope) scope.invocations known.invocation x known.is_earlier (use_listed scope known.invocation x known.uses))
      (and_from (bytes_eq x.inst u.inst) (x.event == u.event) ((bytes_eq-Decides x.inst u.inst).1 known.same_instance) ((Decides-eqb x.event u.event).1 known.same_event))

  are_so_far : (x : Use) → Contains (u ∷ listed) x → IsUseSoFar scope u x
  are_so_far x (zero, within, same) = inl (sym same)
  are_so_far x (suc k, within, same) = inr (listed_earlier x (k, omega arith, same))

  all_so_far : (x : Use) → IsUseSoFar scope u x → Contains (u ∷ listed) x
  all_so_far x (inl is) = (zero, omega arith, sym is)
  all_so_far x (inr known) = let there = earlier_listed x known in (suc there.0, omega (arith, there.1), there.2)

-- where the earlier invocations keep uses apart, F12 gives it of each two uses
pub pairs_by_ends : (scope : Scope) (v : Invocation) → KeepsUsesApart scope v → OfEarlier AreDisjoint scope → EndsInTime scope v → KeepsPairsInTime scope v
pairs_by_ends scope v kept apart ends u earlier is_u known e has named =
    let Among : Use → Type 0 = IsUseSoFar scope u in
    let f = has_first Among u (listed scope u) (are_so_far scope u) (all_so_far scope u) in
    let l = has_last Among u (listed scope u) (are_so_far scope u) (all_so_far scope u) in
    let two = one_or_two scope u AreDisjoint disjoint_back apart (λ x known. (kept u x is_u known).1) in
    let within = each_within Among two e.delay f.0 l.0 f.1 l.1 (λ other is_last. ends u earlier f.0 other is_u known f.1 is_last e has named) in
    (within u earlier (inl refl) (inr known), within earlier u (inr known) (inl refl))

-- where the earlier invocations keep F12 of each two uses, that gives F12
pub ends_by_pairs : (scope : Scope) (v : Invocation) → KeepsUsesApart scope v → OfEarlier (AreInTime scope) scope → KeepsPairsInTime scope v → EndsInTime scope v
ends_by_pairs scope v kept in_time pairs u earlier first last is_u known is_first is_last e has named =
    span_within Among e.delay one_or_within u earlier first last (inl refl) (inr known) (pairs u earlier is_u known e has named).1 is_first.among is_last
  where
    Among : Use → Type 0
    Among x = IsUseSoFar scope u x

    -- both ways, of uses on the event
    EndInTime : Use → Use → Type 0
    EndInTime a b = a.at.event ≡ u.at.event → b.at.event ≡ u.at.event → IsWithin e.delay a b × IsWithin e.delay b a

    on_event : (x : Use) → Among x → x.at.event ≡ u.at.event
    on_event x (inl is) = ap (λ (y : Use). y.at.event) is
    on_event x (inr before) = (kept u x is_u before).0

    one_or_within : (a b : Use) → Among a → Among b → (a ≡ b) ⊎ IsWithin e.delay a b
    one_or_within a b is_a is_b = elim (two a b is_a is_b) [ inl same ↦ inl same | inr both ↦ inr (both (on_event a is_a) (on_event b is_b)).0 ]
      where
        two : (a b : Use) → Among a → Among b → (a ≡ b) ⊎ EndInTime a b
        two = one_or_two scope u EndInTime (λ a b both on_b on_a. (let ends = both on_a on_b in (ends.1, ends.0)))
            (λ i j v w a b less at_i at_j use_v use_w inst event on_a on_b.
            let ends = in_time i j v w a b less at_i at_j use_v use_w inst event e has (named ∙ sym on_b) in
            (ends.1, ends.0))
            (λ x before on_x on_u. (let ends = pairs u x is_u before e has named in (ends.1, ends.0)))
