-- What the listed uses of an instance say of an invocation of it; and F11 by the uses next to one.
use Rattle.std.proofs.Common.{◌≡◌, ◌≤◌, ◌<◌, ◌⊎◌, inl, inr, ℕ, Vec, Global, List, [], length, map, slice_get, Contains, Option, Some, None, refl, sym, subst, ◌∙◌, arith}
use Rattle.std.specs.Option.{IsSome}
use Rattle.std.proofs.lemmas.Bool.{cases_lt}
use Rattle.std.proofs.lemmas.List.{get_or_past, length-map}
use Rattle.std.proofs.lemmas.Option.{none-some, get_or_from_slice_get}
use Rattle.hw_names.specs.Name.{Text}
use Rattle.fil_ast.proofs.UseLemmas.{parts_of}
use Rattle.fil_ast.specs.Evidence.{AreKeptApart}
use Rattle.fil_ast.specs.Naming.{instance_names}
use Rattle.fil_ast.specs.Scope.{Scope, Invocation}
use Rattle.fil_ast.specs.Sharing.{IsEarlierUse, IsUseOf}
use Rattle.fil_ast.specs.Signature.{Delay, Signature}
use Rattle.fil_ast.specs.Timeline.{IsUse, Use}
use Rattle.fil_ast.specs.Tree.{Statement}
use Rattle.fil_ast.specs.declared.tree.FilComp.{FilComp}
use Rattle.fil_rules.specs.inside.StandsAt.{AreShared}
use Rattle.fil_place.specs.Place.{with_instance}
use Rattle.fil_rules.specs.inside.Shared.{IsInvoked}
use Rattle.fil_place.specs.Uses.{HasDelay, IsShownBy, ShowsUse}
use Rattle.fil_rules.specs.inside.Sharing.{IsUsedBefore, KeepsApartAt, HasRoom}
use Rattle.fil_place.specs.Starts.{IsFirstFrom, IsLastUntil, IsStart, ListsAllUses, ListsUses, StartsNoneFrom, use_at}
use Rattle.fil_place.specs.Tables.{Shows, calls_at, listed}
use Rattle.fil_place.specs.declared.earlier.Earlier.{Earlier}
use Rattle.fil_place.specs.declared.tables.Tables.{Tables}
use Rattle.fil_place.specs.declared.times.Offset.{Offset}
use Rattle.fil_place.specs.declared.uses.Use as numbers
use Rattle.fil_place.proofs.GeneralLemmas.{mapped_at}
use Rattle.fil_place.proofs.InvocationLemmas.{instance_listed_of, use_after, use_before}
use Rattle.fil_place.proofs.UseLemmas.{AreAlike, a_use, no_use, same_use}
use Rattle.fil_rules.proofs.SharingLemmas.{alike_back, apart_alike, apart_texts, from_own}
use Rattle.fil_rules.proofs.SpanLemmas.{two_earlier}

-- ---- the numbers of an instance's invocations

pub calls_there : (tables : Tables) (n : ℕ) (numbers : Vec ℕ Global) → slice_get tables.calls.items n ≡ Some numbers → numbers.items ≡ calls_at tables n
calls_there tables n numbers here =
    sym (get_or_from_slice_get (map listed tables.calls.items) n numbers.items [] (mapped_at listed tables.calls.items n numbers here))

pub calls_gone : (tables : Tables) (n : ℕ) → length tables.calls.items ≤ n → [] ≡ calls_at tables n
calls_gone tables n past =
    let count : length (map listed tables.calls.items) ≡ length tables.calls.items = length-map tables.calls.items listed in
    sym (get_or_past (map listed tables.calls.items) n [] (omega arith))

-- ---- F11

-- a use before another, from which a third is apart, is apart from the third
apart_before : (scope : Scope) (e y x : Use) → 0 < e.hold → 0 < y.hold → AreAlike e y ⊎ (AreShared scope e y ⊎ AreShared scope y e) → AreKeptApart y x → e.at.plus ≤ y.at.plus → y.at.plus ≤ x.at.plus → AreKeptApart e x
apart_before scope e y x held_e held_y two apart before then = elim two [
  | inl like ↦ apart_alike y x e x (alike_back e y like) (refl, refl) apart
  | inr (inl shared) ↦ elim shared.disjoint [
    | inl h ↦ (shared.event ∙ apart.0, inl (omega arith))
    | inr h ↦ absurd (omega arith)
  ]
  | inr (inr shared) ↦ elim shared.disjoint [
    | inl h ↦ absurd (omega arith)
    | inr h ↦ (sym shared.event ∙ apart.0, inl (omega arith))
  ]
]

apart_after : (scope : Scope) (e y x : Use) → 0 < y.hold → AreAlike e y ⊎ (AreShared scope e y ⊎ AreShared scope y e) → AreKeptApart y x → x.at.plus ≤ y.at.plus → y.at.plus ≤ e.at.plus → AreKeptApart e x
apart_after scope e y x held_y two apart then after = elim two [
  | inl like ↦ apart_alike y x e x (alike_back e y like) (refl, refl) apart
  | inr (inl shared) ↦ elim apart.1 [
    | inl h ↦ absurd (omega arith)
    | inr h ↦ (shared.event ∙ apart.0, inr (omega arith))
  ]
  | inr (inr shared) ↦ elim apart.1 [
    | inl h ↦ absurd (omega arith)
    | inr h ↦ (sym shared.event ∙ apart.0, inr (omega arith))
  ]
]

module _ (names : List Text) (comp : FilComp) (tables : Tables) (instance : ℕ) (sig : Signature) (at : List Offset) (with : Scope) (v : Invocation) (is : IsInvoked names comp tables (calls_at tables instance) sig at with v) (lists : ListsUses tables instance with v.inst) where
  own : (u : Use) → IsUseOf with v u → IsUse sig v.inst v.gives.times u
  own u is_u = from_own names comp tables (calls_at tables instance) sig at with v is u is_u

  module _ (k : ℕ) (delay : Delay) (has : HasDelay sig k delay) where
    pub none_apart : ShowsUse tables.events delay v.gives.times k None → KeepsApartAt with v k
    none_apart told u e is_u known here = absurd (no_use tables.events sig v.inst v.gives.times k delay has told u (own u is_u) here)

    module _ (o : numbers.Use) (told : ShowsUse tables.events delay v.gives.times k (Some o)) (room : HasRoom tables.starts instance k o) where
      x : (u : Use) × IsUse sig v.inst v.gives.times u × (u.event ≡ k) × IsShownBy tables.events o u
      x = a_use tables.events sig v.inst v.gives.times k delay has o told

      module _ (u e : Use) (is_u : IsUseOf with v u) (known : IsEarlierUse with u e) (here : u.event ≡ k) where
        abbrev w : Invocation
        w = known.invocation

        named : w.inst ≡ v.inst
        named = sym (parts_of known.uses.2).named ∙ known.same_instance ∙ (parts_of (own u is_u)).named

        held_e : 0 < e.hold
        held_e = is.held w e known.is_earlier known.uses

        starts_here : IsSome (use_at tables.starts instance k e.at.plus)
        starts_here = subst (λ (n : ℕ). IsSome (use_at tables.starts instance n e.at.plus)) (known.same_event ∙ here) (lists.has w e known.is_earlier named known.uses)

        module _ (start : ℕ) (held : numbers.Use) (there : use_at tables.starts instance k start ≡ Some held) where
          s : IsStart tables.events with v.inst k start held
          s = lists.are k start held there

          two : AreAlike e s.use_then ⊎ (AreShared with e s.use_then ⊎ AreShared with s.use_then e)
          two =
              two_earlier names comp tables (calls_at tables instance) sig at with v is w s.invocation e s.use_then known.is_earlier s.is_earlier known.uses s.triggered
              ((parts_of known.uses.2).named ∙ named ∙ sym s.named ∙ sym (parts_of s.triggered.2).named) (known.same_event ∙ here ∙ sym s.same_event)

          held_y : 0 < s.use_then.hold
          held_y = is.held s.invocation s.use_then s.is_earlier s.triggered

        by_before : (held : numbers.Use) (last : IsLastUntil tables.starts instance k o.at.plus held) → AreKeptApart (s last.start held last.there).use_then x.0 → e.at.plus ≤ o.at.plus → AreKeptApart e x.0
        by_before held last apart le =
            let y = s last.start held last.there in
            let at_x : o.at.plus ≡ x.0.at.plus = x.3.plus in
            let at_y : y.use_then.at.plus ≡ last.start = y.starts in
            let before : last.start ≤ o.at.plus = last.before in
            let reach : e.at.plus ≤ last.start = last.greatest e.at.plus le starts_here in
            apart_before with e y.use_then x.0 held_e (held_y last.start held last.there) (two last.start held last.there) apart (omega arith) (omega arith)

        by_after : (held : numbers.Use) (first : IsFirstFrom tables.starts instance k o.at.plus held) → AreKeptApart (s first.start held first.there).use_then x.0 → o.at.plus ≤ e.at.plus → AreKeptApart e x.0
        by_after held first apart le =
            let y = s first.start held first.there in
            let at_x : o.at.plus ≡ x.0.at.plus = x.3.plus in
            let at_y : y.use_then.at.plus ≡ first.start = y.starts in
            let after : o.at.plus ≤ first.start = first.after in
            let reach : first.start ≤ e.at.plus = first.least e.at.plus le starts_here in
            apart_after with e y.use_then x.0 (held_y first.start held first.there) (two first.start held first.there) apart (omega arith) (omega arith)

        nowhere : use_at tables.starts instance k e.at.plus ≡ None → ⊥
        nowhere none = let bad = subst (λ (r : Option numbers.Use). IsSome r) none starts_here in absurd (cc)

        apart_x : AreKeptApart e x.0
        apart_x = elim (cases_lt o.at.plus e.at.plus) [
          | inl later ↦ elim room.after [
            | inl none ↦ absurd (nowhere (none e.at.plus (omega arith)))
            | inr (held, first, apart) ↦
                let y = s first.start held first.there in
                by_after held first (apart_texts tables.events is.distinct held o y.use_then x.0 y.shown x.3 apart) (omega arith)
          ]
          | inr le ↦ elim room.before [
            | inl none ↦ absurd (nowhere (none e.at.plus le))
            | inr (held, last, apart) ↦
                let y = s last.start held last.there in
                by_before held last (apart_texts tables.events is.distinct held o y.use_then x.0 y.shown x.3 apart) le
          ]
        ]

        apart_u : AreKeptApart e u
        apart_u = apart_alike e x.0 e u (refl, refl) (same_use sig v.gives.times v.inst v.inst x.0 u x.1 (own u is_u) (x.2 ∙ sym here)) apart_x

      pub room_apart : KeepsApartAt with v k
      room_apart u e is_u known here = apart_u u e is_u known here

-- ---- F13

module _ (tables : Tables) (instance : ℕ) (with : Scope) (v : Invocation) (lists : ListsUses tables instance with v.inst) (k : ℕ) where
  pub used_from : (held : numbers.Use) → IsFirstFrom tables.starts instance k 0 held → IsUsedBefore with v k
  used_from held first =
      let s = lists.are k first.start held first.there in
      record { earlier = s.invocation; is_earlier = s.is_earlier; same_instance = s.named; use_then = s.use_then; triggered = s.triggered; same_event = s.same_event }

  pub unused_from : StartsNoneFrom tables.starts instance k 0 → IsUsedBefore with v k → ⊥
  unused_from none b =
      let some = lists.has b.earlier b.use_then b.is_earlier b.same_instance b.triggered in
      let here = subst (λ (n : ℕ). IsSome (use_at tables.starts instance n b.use_then.at.plus)) b.same_event some in
      let bad = subst (λ (r : Option numbers.Use). IsSome r) (none b.use_then.at.plus (omega arith)) here in
      absurd (cc)

-- ---- what a statement's invocation sees

module _ (earlier : Earlier) (tables : Tables) (scope : Scope) (shown : Shows earlier tables scope) (s : Statement) (lists : ListsAllUses tables scope) where
  seen_so : (v : Invocation) → Contains scope.invocations v → Contains (instance_names scope.instances) v.inst
  seen_so v there = instance_listed_of earlier tables scope shown v there

  pub lists_with : (n : ℕ) (inst : Text) → slice_get tables.instances n ≡ Some inst → ListsUses tables n (with_instance scope s) inst
  lists_with n inst at =
      let l = lists.each n inst at in
      record {
        has = λ w u there named is_u. l.has w u there named (use_before scope s seen_so w u there is_u);
        are = λ k start held here.
            (let b = l.are k start held here in
            record {
              invocation = b.invocation;
              is_earlier = b.is_earlier;
              named = b.named;
              use_then = b.use_then;
              triggered = use_after scope s seen_so b.invocation b.use_then b.is_earlier b.triggered;
              same_event = b.same_event;
              starts = b.starts;
              shown = b.shown;
            });
      }

  -- of a new instance nothing
  pub lists_fresh : (n : ℕ) (inst : Text) → length tables.instances ≤ n → (Contains tables.instances inst → ⊥) → ListsUses tables n (with_instance scope s) inst
  lists_fresh n inst past absent = record {
    has = λ w u there named is_u.
        absurd (absent (subst (λ (t : Text). Contains tables.instances t) named (subst (λ (ts : List Text). Contains ts w.inst) (sym shown.instances) (seen_so w there))));
    are = λ k start held here. absurd (none-some held (sym (lists.past n k start past) ∙ here));
  }
