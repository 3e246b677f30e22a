-- What the evidence says.
use Rattle.std.proofs.Common.{◌≡◌, ℕ, ◌+◌, ◌-◌, ◌<◌, ◌≤◌, List, [], ◌∷◌, ◌++◌, length, take, All, subst, inl, inr, arith}
use Rattle.std.specs.Prelude.{Contains, max, Some, slice_get}
use Rattle.std.proofs.lemmas.Bool.{cases_lt}
use Rattle.std.proofs.lemmas.List.{length-take, length-append}
use Rattle.std.proofs.lemmas.List.Elements.{All-contains, Contains-push_cases}
use Rattle.std.proofs.lemmas.List.Quantifiers.{all_pairs_push}
use Rattle.std.proofs.lemmas.Option.{slice_get_within}
use Rattle.fil_share.specs.Sharing.{IsHeld, AreApart, KeepsApart, BreaksApart, BreaksInTime}
use Rattle.fil_share.specs.Laws.{MeetsItself, MeetsNext, MeetIsReal}
use Rattle.fil_share.specs.declared.hold.Hold.{Hold}
use Rattle.fil_share.specs.declared.hold.Meet.{Meet}
use Rattle.fil_share.proofs.ListLemmas.{slice_get-take, Contains-take, Contains-at, All-next}
use Rattle.fil_share.proofs.SharingLemmas.{starts_differ}
use Rattle.fil_share.proofs.LawLemmas.{legal_two}

pub KeepsApart-push : (uses : List Hold) (use_now : Hold) → KeepsApart uses → All (λ hold. AreApart hold use_now) uses → KeepsApart (uses ++ use_now ∷ [])
KeepsApart-push uses use_now apart from_all = all_pairs_push AreApart uses use_now apart from_all

meets_itself : (uses : List Hold) (n : ℕ) (use_now : Hold) (meet : Meet) → All IsHeld uses → slice_get uses n ≡ Some use_now → BreaksApart (take n uses) use_now meet → MeetsItself uses meet.cycle
meets_itself uses n use_now meet held at broken =
    let o = broken.overlap in
    let at_other = slice_get-take n uses broken.place o.other o.at in
    let before : broken.place < length (take n uses) = slice_get_within (take n uses) broken.place o.other o.at in
    let size = length-take n uses in
    let held_other : o.other.from < o.other.to = All-contains IsHeld uses o.other held (Contains-at uses broken.place o.other at_other) in
    let held_now : use_now.from < use_now.to = All-contains IsHeld uses use_now held (Contains-at uses n use_now at) in
    let a : use_now.from < o.other.to = elim (cases_lt use_now.from o.other.to) [ inl h ↦ h | inr h ↦ absurd (o.overlaps (inl h)) ] in
    let b : o.other.from < use_now.to = elim (cases_lt o.other.from use_now.to) [ inl h ↦ h | inr h ↦ absurd (o.overlaps (inr h)) ] in
    let row = broken.cycle in
    record {
      i = broken.place;
      j = n;
      one = o.other;
      other = use_now;
      differ = omega arith;
      at_one = at_other;
      at_other = at;
      holds_one = (omega arith, omega arith);
      holds_other = (omega arith, omega arith);
    }

-- a use up to this one is one of all
used : (uses : List Hold) (n : ℕ) (use_now x : Hold) → slice_get uses n ≡ Some use_now → Contains (take n uses ++ use_now ∷ []) x → Contains uses x
used uses n use_now x at has =
    elim (Contains-push_cases (take n uses) use_now x has) [
      | inl early ↦ Contains-take n uses x early
      | inr same ↦ subst (Contains uses) same (Contains-at uses n use_now at)
    ]

meets_next : (delay : ℕ) (uses : List Hold) (n : ℕ) (use_now : Hold) (meet : Meet) → All IsHeld uses → slice_get uses n ≡ Some use_now → KeepsApart (take n uses) → BreaksInTime delay (take n uses) use_now meet → MeetsNext delay uses meet.gap meet.cycle
meets_next delay uses n use_now meet held at kept broken =
    let so_far = take n uses ++ use_now ∷ [] in
    let first = broken.first in
    let last = broken.last in
    let has_first = used uses n use_now first at broken.is_first.0 in
    let has_last = used uses n use_now last at broken.is_last.0 in
    let several : 2 ≤ length so_far = omega (arith, length-append (take n uses) (use_now ∷ []), broken.several) in
    let order : first.from < last.from = starts_differ so_far (All-next IsHeld uses n use_now at held) (KeepsApart-push (take n uses) use_now kept broken.apart) several first last broken.is_first broken.is_last in
    let held_first : first.from < first.to = All-contains IsHeld uses first held has_first in
    let held_last : last.from < last.to = All-contains IsHeld uses last held has_last in
    let gap : meet.gap ≡ max delay (last.from - first.from) = broken.gap in
    let row : meet.cycle ≡ meet.gap + first.from = broken.cycle in
    let late : first.from + delay < last.to = broken.late in
    record {
      later = omega arith;
      legal = legal_two delay meet.gap (omega arith);
      one = last;
      other = first;
      has_one = has_last;
      has_other = has_first;
      holds_one = (omega arith, omega arith);
      holds_other = (omega arith, omega arith);
    }

pub meet_is_real : MeetIsReal
meet_is_real delay uses meet held told =
    elim told.broken [
      | inl broken ↦ inl (broken.gap, meets_itself uses told.number told.use_now meet held told.at broken)
      | inr broken ↦ inr (meets_next delay uses told.number told.use_now meet held told.at told.kept.0 broken)
    ]
