-- The uses so far, by the offsets at which they start.
use Rattle.std.proofs.Common.{◌≡◌, ◌≢◌, ◌≤◌, ◌<◌, ◌^◌, ◌&&◌, ◌==◌, ◌⊎◌, inl, inr, ℕ, Bool, true, false, if◌then◌else◌, List, [], ◌∷◌, ◌++◌, length, set, slice_get, slice_index_or, Option, Some, None, Result, Ok, Err, refl, sym, ap, ap₂, subst, ◌∙◌}
use Rattle.std.specs.Option.{IfSome, IsSome, option_or}
use Rattle.std.specs.Prelude.{OnErr, OnOk, ⊤}
use Rattle.std.specs.BTreeMap.{BTreeMap, Updates, get}
use Rattle.std.specs.BTreeMap.Range.{IsRangeOf}
use Rattle.std.specs.declared.cmp.Ordering.{Ordering}
use Rattle.std.specs.declared.cmp.Ordering.TheVariants.{Less, Equal, Greater}
use Rattle.std.specs.Ordering.{is_eq, is_gt, is_lt}
use Rattle.std.specs.declared.ops.Bound.TheVariants.{Included, Unbounded}
use Rattle.std.proofs.lemmas.Bool.{cases_eq, cases_lt}
use Rattle.std.proofs.lemmas.Bool.Decides.{eqb_tells}
use Rattle.std.proofs.lemmas.List.{get_or-set_other, get_or-set_same, get_or_past}
use Rattle.std.proofs.lemmas.Option.{same_Some}
use Rattle.fil_place.specs.inside.StoredUses.{HasNoOtherFrom, HasNoOtherUntil, IsAlone, IsFirstOther, IsLastOther, Key, first_at, key_cmp, use_in}
use Rattle.fil_place.specs.Starts.{PutsUse, use_at}
use Rattle.fil_place.specs.declared.starts.First.{First}
use Rattle.fil_place.specs.declared.starts.Starts.{Starts}
use Rattle.fil_place.specs.declared.uses.Use as numbers
use Rattle.fil_place.proofs.StoredUseLemmas.{between, comes_back, comes_by, in_order, key_same, starts_by}

abbrev Firsts : Type 0
Firsts = List (Option First)

abbrev Uses : Type 0
Uses = BTreeMap Key numbers.Use

abbrev pub HaveAll : (ℕ → numbers.Use → Type 0) → Firsts → Uses → Type 0
HaveAll P firsts others = (i k start : ℕ) (held : numbers.Use) → use_in firsts others i k start ≡ Some held → P start held

abbrev pub IsSmall : ℕ → numbers.Use → Type 0
IsSmall start held = (start < 2 ^ 16) × (held.hold < 2 ^ 16)

abbrev pub IsPlaced : ℕ → numbers.Use → Type 0
IsPlaced start held = held.at.plus ≡ start

abbrev pub AreAlone : Firsts → Uses → Type 0
AreAlone firsts others = (i k start : ℕ) → IsAlone (slice_index_or firsts i None) → get key_cmp others (i, k, start) ≡ None

-- ---- the first use of an instance, at a place

pub some_none : (o : Option numbers.Use) → (IsSome o → ⊥) → o ≡ None
some_none None never = refl
some_none (Some x) never = absurd (never refl)

pub not_none : (o : Option numbers.Use) → o ≡ None → IsSome o → ⊥
not_none None none some = absurd (cc)
not_none (Some x) none some = absurd (cc)

pub some_either : (o p : Option numbers.Use) → IsSome (option_or o p) → IsSome o ⊎ IsSome p
some_either None p some = inr some
some_either (Some x) p some = inl refl

abbrev pick : First → Bool → Bool → Option numbers.Use
pick f p q = if p && q then Some f.held else None

first_cases : (f : First) (k s : ℕ) → ((f.event ≡ k) × (f.held.at.plus ≡ s) × (first_at (Some f) k s ≡ Some f.held))
    ⊎ (((f.event ≡ k) × (f.held.at.plus ≡ s) → ⊥) × (first_at (Some f) k s ≡ None))
first_cases f k s = elim (eqb_tells f.event k) [
  | inl (hit, of) ↦ elim (eqb_tells f.held.at.plus s) [
    | inl (also, starts) ↦ inl (of, starts, ap₂ (pick f) hit also)
    | inr (miss, apart) ↦ inr (λ both. apart both.1, ap₂ (pick f) hit miss)
  ]
  | inr (miss, apart) ↦ inr (λ both. apart both.0, ap (λ (p : Bool). pick f p (f.held.at.plus == s)) miss)
]

pub first_is : (f : First) (k s : ℕ) → f.event ≡ k → f.held.at.plus ≡ s → first_at (Some f) k s ≡ Some f.held
first_is f k s of starts = elim (first_cases f k s) [
  | inl is ↦ is.2
  | inr is ↦ absurd (is.0 (of, starts))
]

pub first_other : (f : First) (k s : ℕ) → ((f.event ≡ k) × (f.held.at.plus ≡ s) → ⊥) → first_at (Some f) k s ≡ None
first_other f k s apart = elim (first_cases f k s) [
  | inl is ↦ absurd (apart (is.0, is.1))
  | inr is ↦ is.1
]

pub first_only : (f : First) (k s : ℕ) → IsSome (first_at (Some f) k s) → (f.event ≡ k) × (f.held.at.plus ≡ s)
first_only f k s some = elim (first_cases f k s) [
  | inl is ↦ (is.0, is.1)
  | inr is ↦ absurd (not_none (first_at (Some f) k s) is.1 some)
]

-- ---- one use more

other_key : (a b : Key) → (a ≡ b → ⊥) → is_eq (key_cmp a b) ≡ false
other_key a b apart = by (key_cmp a b) refl
  where
    by : (o : Ordering) → key_cmp a b ≡ o → is_eq (key_cmp a b) ≡ false
    by Less e = ap is_eq e
    by Equal e = absurd (apart (key_same a b e))
    by Greater e = ap is_eq e

abbrev IsPlace : (a b c i k s : ℕ) → Type 0
IsPlace a b c i k s = (i ≡ a) × (k ≡ b) × (s ≡ c)

is_place : (a b c i k s : ℕ) → IsPlace a b c i k s ⊎ (IsPlace a b c i k s → ⊥)
is_place a b c i k s = elim (cases_eq i a) [
  | inl same_i ↦ elim (cases_eq k b) [
    | inl same_k ↦ elim (cases_eq s c) [
      | inl same_s ↦ inl (same_i, same_k, same_s)
      | inr apart ↦ inr (λ same. apart same.2)
    ]
    | inr apart ↦ inr (λ same. apart same.1)
  ]
  | inr apart ↦ inr (λ same. apart same.0)
]

-- one use more; the other places keep theirs
record Puts (n event : ℕ) (held : numbers.Use) (old new : ℕ → ℕ → ℕ → Option numbers.Use) : Type 0 where
  here : new n event held.at.plus ≡ Some held
  others : (i k s : ℕ) → (IsPlace n event held.at.plus i k s → ⊥) → new i k s ≡ old i k s

module _ (P : ℕ → numbers.Use → Type 0) (firsts new_firsts : Firsts) (others new_others : Uses) where
  kept_as : ((i k s : ℕ) → use_in new_firsts new_others i k s ≡ use_in firsts others i k s) → HaveAll P firsts others → HaveAll P new_firsts new_others
  kept_as same all i k s held at = all i k s held (sym (same i k s) ∙ at)

  kept_put : (n event : ℕ) (held : numbers.Use) → Puts n event held (use_in firsts others) (use_in new_firsts new_others) → P held.at.plus held → HaveAll P firsts others → HaveAll P new_firsts new_others
  kept_put n event held puts mine all i k s other at = elim (is_place n event held.at.plus i k s) [
    | inl place ↦
        (let at_i : use_in new_firsts new_others n k s ≡ Some other = subst (λ (x : ℕ). use_in new_firsts new_others x k s ≡ Some other) place.0 at in
        let at_k : use_in new_firsts new_others n event s ≡ Some other = subst (λ (x : ℕ). use_in new_firsts new_others n x s ≡ Some other) place.1 at_i in
        let at_s : use_in new_firsts new_others n event held.at.plus ≡ Some other = subst (λ (x : ℕ). use_in new_firsts new_others n event x ≡ Some other) place.2 at_k in
        let same : held ≡ other = same_Some held other (sym puts.here ∙ at_s) in
        subst (λ (x : ℕ). P x other) (sym place.2) (subst (λ (u : numbers.Use). P held.at.plus u) same mine))
    | inr apart ↦ all i k s other (sym (puts.others i k s apart) ∙ at)
  ]

-- a map with the same entries
same_entries : (a b : Uses) → a.entries ≡ b.entries → (key : Key) → get key_cmp a key ≡ get key_cmp b key
same_entries a b same key = cc

same_get : (a b : Uses) → a.entries ≡ b.entries → (i k s : ℕ) (f : Option First) → option_or (get key_cmp a (i, k, s)) (first_at f k s) ≡ option_or (get key_cmp b (i, k, s)) (first_at f k s)
same_get a b same i k s f = ap (λ (o : Option numbers.Use). option_or o (first_at f k s)) (same_entries a b same (i, k, s))

-- an instance has uses after its first
module _ (firsts : Firsts) (n : ℕ) (f : First) (is : slice_index_or firsts n None ≡ Some f) where
  abbrev one_of : First
  one_of = record { event = f.event; held = f.held; alone = false }

  abbrev with_more : Firsts
  with_more = set firsts n (Some one_of)

  first_within : n < length firsts
  first_within = elim (cases_lt n (length firsts)) [
    | inl within ↦ within
    | inr past ↦ (let bad : None ≡ Some f = sym (get_or_past firsts n None past) ∙ is in absurd (cc))
  ]

  at_more : slice_index_or with_more n None ≡ Some one_of
  at_more = get_or-set_same firsts n (Some one_of) None first_within

  past_more : (i : ℕ) → i ≢ n → slice_index_or with_more i None ≡ slice_index_or firsts i None
  past_more i apart = get_or-set_other firsts n i (Some one_of) None apart

  first_more : (i k s : ℕ) → first_at (slice_index_or with_more i None) k s ≡ first_at (slice_index_or firsts i None) k s
  first_more i k s = elim (cases_eq i n) [
    | inl same ↦
        (let back : first_at (slice_index_or with_more n None) k s ≡ first_at (slice_index_or firsts n None) k s =
        ap (λ (o : Option First). first_at o k s) at_more ∙ ap (λ (o : Option First). first_at o k s) (sym is) in
        subst (λ (x : ℕ). first_at (slice_index_or with_more x None) k s ≡ first_at (slice_index_or firsts x None) k s) (sym same) back)
    | inr other ↦ ap (λ (o : Option First). first_at o k s) (past_more i other)
  ]

  use_more : (others : Uses) (i k s : ℕ) → use_in with_more others i k s ≡ use_in firsts others i k s
  use_more others i k s = ap (λ (o : Option numbers.Use). option_or (get key_cmp others (i, k, s)) o) (first_more i k s)

  not_alone : (i : ℕ) → IsAlone (slice_index_or with_more i None) → i ≢ n
  not_alone i alone same =
      let bad : false ≡ true = subst IsAlone at_more (subst (λ (x : ℕ). IsAlone (slice_index_or with_more x None)) same alone) in
      absurd (cc)

  alone_more : (others : Uses) → AreAlone firsts others → AreAlone with_more others
  alone_more others alone i k s lone = alone i k s (subst IsAlone (past_more i (not_alone i lone)) lone)

  module _ (others new : Uses) (event : ℕ) (held : numbers.Use) (updates : Updates key_cmp others new (n, event, held.at.plus) (Some held)) where
    puts_more : Puts n event held (use_in with_more others) (use_in with_more new)
    puts_more = record {
      here = ap (λ (o : Option numbers.Use). option_or o (first_at (slice_index_or with_more n None) event held.at.plus)) updates.1;
      others = λ i k s apart. ap (λ (o : Option numbers.Use). option_or o (first_at (slice_index_or with_more i None) k s))
          (updates.2 (i, k, s) (other_key (n, event, held.at.plus) (i, k, s) (λ same. apart (ap (λ (q : Key). q.0) (sym same), ap (λ (q : Key). q.1) (sym same), ap (λ (q : Key). q.2) (sym same)))));
    }

    alone_put : AreAlone with_more others → AreAlone with_more new
    alone_put alone i k s lone =
        updates.2 (i, k, s) (other_key (n, event, held.at.plus) (i, k, s) (λ same. not_alone i lone (ap (λ (q : Key). q.0) (sym same)))) ∙ alone i k s lone

  -- an insertion that may fail
  module _ {X E : Type 0} (others new : Uses) (event : ℕ) (held : numbers.Use) where
    pub all_inserted : (P : ℕ → numbers.Use → Type 0) (r : Result X E) → OnOk r (Updates key_cmp others new (n, event, held.at.plus) (Some held)) → OnErr r (new.entries ≡ others.entries)
        → P held.at.plus held → HaveAll P firsts others → HaveAll P with_more new
    all_inserted P (Ok x) updates same mine all =
        kept_put P with_more with_more others new n event held (puts_more others new event held updates) mine (kept_as P firsts with_more others others (use_more others) all)
    all_inserted P (Err e) updates same mine all = kept_as P firsts with_more others new (λ i k s. same_get new others same i k s (slice_index_or with_more i None) ∙ use_more others i k s) all

    pub alone_inserted : (r : Result X E) → OnOk r (Updates key_cmp others new (n, event, held.at.plus) (Some held)) → OnErr r (new.entries ≡ others.entries)
        → AreAlone firsts others → AreAlone with_more new
    alone_inserted (Ok x) updates same alone = alone_put others new event held updates (alone_more others alone)
    alone_inserted (Err e) updates same alone = λ i k s lone. same_entries new others same (i, k, s) ∙ alone_more others alone i k s lone

-- so a use is added to an instance that has one
pub puts_other : (old new : Starts) (n event : ℕ) (held : numbers.Use) (f : First) → slice_index_or old.firsts.items n None ≡ Some f
    → new.firsts.items ≡ set old.firsts.items n (Some (record { event = f.event; held = f.held; alone = false })) → Updates key_cmp old.others new.others (n, event, held.at.plus) (Some held)
    → PutsUse n event held old new
puts_other old new n event held f is items updates =
    let puts = puts_more old.firsts.items n f is old.others new.others event held updates in
    let more : Option First = Some (record { event = f.event; held = f.held; alone = false }) in
    let at : (i k s : ℕ) → use_at new i k s ≡ use_in (set old.firsts.items n more) new.others i k s = λ i k s. ap (λ (fs : Firsts). use_in fs new.others i k s) items in
    record {
      here = at n event held.at.plus ∙ puts.here;
      others = λ i k s apart. at i k s ∙ puts.others i k s apart ∙ use_more old.firsts.items n f is old.others i k s;
    }

pub small_at : (starts : Starts) (i k start : ℕ) (held : numbers.Use) → use_at starts i k start ≡ Some held → held.hold < 2 ^ 16
small_at starts i k start held at = (starts.small i k start held at).1

-- ---- what a range of the map from a key on begins with, and one up to a key ends with

module _ (others : Uses) (i k a : ℕ) (r : List (Key × numbers.Use)) where
  abbrev At : ℕ → Option numbers.Use
  At start = get key_cmp others (i, k, start)

  module _ (range : IsRangeOf key_cmp (Included (i, k, a)) Unbounded others r) where
    pub none_from : r ≡ [] → HasNoOtherFrom others i k a
    none_from empty start le = range.5 empty (i, k, start) (in_order i k a start le, tt)

    module _ (key : Key) (held : numbers.Use) (rest : List (Key × numbers.Use)) (first : r ≡ (key, held) ∷ rest) where
      at_first : slice_get r 0 ≡ Some (key, held)
      at_first = ap (λ (es : List (Key × numbers.Use)). slice_get es 0) first

      is_in : (is_gt (key_cmp (i, k, a) key) ≡ false) × (get key_cmp others key ≡ Some held)
      is_in =
          let I : Option (Key × numbers.Use) → Type 0 = λ o. IfSome o (λ e. ((is_gt (key_cmp (i, k, a) e.0) ≡ false) × ⊤) × (get key_cmp others e.0 ≡ Some e.1)) in
          let found = subst I at_first range.1 in (found.0.0, found.1)

      least : (start : ℕ) → a ≤ start → IsSome (At start) → is_gt (key_cmp key (i, k, start)) ≡ false
      least start le some =
          let I : Option (Key × numbers.Use) → Type 0 = λ o. IfSome o (λ e. is_gt (key_cmp e.0 (i, k, start)) ≡ false) in
          subst I at_first (range.2 (i, k, start) (in_order i k a start le, tt) some)

      pub first_found : key.0 ≡ i → key.1 ≡ k → IsFirstOther others i k a held
      first_found same_i same_k =
          let same : key ≡ (i, k, key.2) = ap₂ (λ (x y : ℕ). (x, y, key.2)) same_i same_k in
          record {
            start = key.2;
            after = starts_by i k a key.2 (comes_by (i, k, a) (i, k, key.2) (subst (λ (q : Key). is_gt (key_cmp (i, k, a) q) ≡ false) same is_in.0));
            there = ap (get key_cmp others) (sym same) ∙ is_in.1;
            least = λ other le some. starts_by i k key.2 other (comes_by (i, k, key.2) (i, k, other) (subst (λ (q : Key). is_gt (key_cmp q (i, k, other)) ≡ false) same (least other le some)));
          }

      pub first_elsewhere : (key.0 ≡ i → key.1 ≡ k → ⊥) → HasNoOtherFrom others i k a
      first_elsewhere apart start le = some_none (At start) (λ some.
          let is = between i k a start key (comes_by (i, k, a) key is_in.0) (comes_by key (i, k, start) (least start le some)) in
          apart is.0 is.1)

  module _ (range : IsRangeOf key_cmp Unbounded (Included (i, k, a)) others r) where
    pub none_until : r ≡ [] → HasNoOtherUntil others i k a
    none_until empty start le = range.5 empty (i, k, start) (tt, in_order i k start a le)

    module _ (key : Key) (held : numbers.Use) (rest : List (Key × numbers.Use)) (last : r ≡ rest ++ (key, held) ∷ []) where
      is_last : (is_gt (key_cmp key (i, k, a)) ≡ false) × (get key_cmp others key ≡ Some held)
      is_last = let found = range.3 (key, held) rest last in (found.0.1, found.1)

      greatest : (start : ℕ) → start ≤ a → IsSome (At start) → is_lt (key_cmp key (i, k, start)) ≡ false
      greatest start le some = range.4 (key, held) rest last (i, k, start) (tt, in_order i k start a le) some

      pub last_found : key.0 ≡ i → key.1 ≡ k → IsLastOther others i k a held
      last_found same_i same_k =
          let same : key ≡ (i, k, key.2) = ap₂ (λ (x y : ℕ). (x, y, key.2)) same_i same_k in
          record {
            start = key.2;
            before = starts_by i k key.2 a (comes_by (i, k, key.2) (i, k, a) (subst (λ (q : Key). is_gt (key_cmp q (i, k, a)) ≡ false) same is_last.0));
            there = ap (get key_cmp others) (sym same) ∙ is_last.1;
            greatest = λ other le some. starts_by i k other key.2 (comes_back (i, k, key.2) (i, k, other) (subst (λ (q : Key). is_lt (key_cmp q (i, k, other)) ≡ false) same (greatest other le some)));
          }

      pub last_elsewhere : (key.0 ≡ i → key.1 ≡ k → ⊥) → HasNoOtherUntil others i k a
      last_elsewhere apart start le = some_none (At start) (λ some.
          let is = between i k start a key (comes_back key (i, k, start) (greatest start le some)) (comes_by key (i, k, a) is_last.0) in
          apart is.0 is.1)
