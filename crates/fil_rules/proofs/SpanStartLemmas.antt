-- The span of an event's uses by the first and the last of them so far.
use Rattle.std.proofs.Common.{◌≡◌, ℕ, ◌<◌, ◌≤◌, ◌^◌, ◌⊎◌, inl, inr, Bool, List, Option, Some, None, ◌↔◌, is_some, refl, sym, ap, subst, ◌∙◌, arith}
use Rattle.std.specs.Bool.{IsTrue}
use Rattle.std.specs.Option.{IfSome, IsSome}
use Rattle.std.specs.Prelude.{IfNone, MatchOption}
use Rattle.hw_names.specs.Name.{Text}
use Rattle.fil_ast.proofs.UseLemmas.{parts_of}
use Rattle.fil_ast.specs.Evidence.{UsesEvent, Own, Another}
use Rattle.fil_ast.specs.Scope.{Scope, Invocation}
use Rattle.fil_ast.specs.Sharing.{IsUseOf}
use Rattle.fil_ast.specs.Signature.{Signature}
use Rattle.fil_ast.specs.Timeline.{IsUse, Use}
use Rattle.fil_ast.specs.Tree.{TimeAt}
use Rattle.fil_ast.specs.declared.tree.FilComp.{FilComp}
use Rattle.fil_rules.specs.inside.Shared.{IsInvoked}
use Rattle.fil_rules.specs.inside.Sharing.{IsFirstOf, IsLastOf, IsSpanOf, IsUsedBefore}
use Rattle.fil_place.specs.Uses.{IsShownBy}
use Rattle.fil_place.specs.Starts.{IsFirstFrom, IsLastUntil, IsStart, ListsUses, StartsNoneFrom, StartsNoneUntil, use_at}
use Rattle.fil_place.specs.Tables.{calls_at}
use Rattle.fil_rules.specs.declared.sharing.in_time.Span.{Span}
use Rattle.fil_place.specs.declared.tables.Tables.{Tables}
use Rattle.fil_place.specs.declared.times.Offset.{Offset}
use Rattle.fil_place.specs.declared.uses.Use as numbers
use Rattle.fil_rules.proofs.ListedLemmas.{unused_from, used_from}
use Rattle.fil_place.proofs.UseLemmas.{AreAlike}
use Rattle.fil_rules.proofs.SharingLemmas.{from_own}
use Rattle.fil_rules.proofs.SpanLemmas.{alike_in}

pub used_iff : (tables : Tables) (instance : ℕ) (with : Scope) (v : Invocation) → ListsUses tables instance with v.inst → (k : ℕ) (o : Option numbers.Use) → MatchOption o (StartsNoneFrom tables.starts instance k 0) (IsFirstFrom tables.starts instance k 0)
    → (b : Bool) → b ≡ is_some o → IsTrue b ↔ IsUsedBefore with v k
used_iff tables instance with v lists k None found b e = (λ t. absurd (cc), λ used. absurd (unused_from tables instance with v lists k found used))
used_iff tables instance with v lists k (Some o) found b e = (λ t. used_from tables instance with v lists k o found, λ used. e)

module _ (names : List Text) (comp : FilComp) (tables : Tables) (instance : ℕ) (sig : Signature) (at : List Offset) (with : Scope) (v : Invocation) (is : IsInvoked names comp tables (calls_at tables instance) sig at with v) (lists : ListsUses tables instance with v.inst) where
  own : (u : Use) → IsUseOf with v u → IsUse sig v.inst v.gives.times u
  own u is_u = from_own names comp tables (calls_at tables instance) sig at with v is u is_u

  module _ (k : ℕ) (u : Use) (is_u : IsUseOf with v u) (here : u.event ≡ k) where
    abbrev Uses : Use → Type 0
    Uses a = UsesEvent with v k a

    abbrev Shown : numbers.Use → Type 0
    Shown o = (a : Use) × IsShownBy tables.events o a × Uses a

    of_start : (start : ℕ) (held : numbers.Use) → IsStart tables.events with v.inst k start held → Shown held
    of_start start held s =
        (s.use_then, s.shown, Another u is_u here (record { invocation = s.invocation; is_earlier = s.is_earlier; uses = s.triggered; same_instance = (parts_of s.triggered.2).named ∙ s.named ∙ sym (parts_of (own u is_u)).named; same_event = s.same_event ∙ sym here }))

    at_start : (start : ℕ) (held : numbers.Use) → IsStart tables.events with v.inst k start held → held.at.plus ≡ start
    at_start start held s = s.shown.plus ∙ s.starts

    own_or_listed : (a : Use) → Uses a → AreAlike u a ⊎ IsSome (use_at tables.starts instance k a.at.plus)
    own_or_listed a (Own is_a there) = inl (alike_in names comp tables (calls_at tables instance) sig at with v is v u a is_u is_a (here ∙ sym there))
    own_or_listed a (Another x is_x there e) =
        let named : e.invocation.inst ≡ v.inst = sym (parts_of e.uses.2).named ∙ e.same_instance ∙ (parts_of (own x is_x)).named in
        inr (subst (λ (n : ℕ). IsSome (use_at tables.starts instance n a.at.plus)) (e.same_event ∙ there) (lists.has e.invocation a e.is_earlier named e.uses))

    module _ (first last : Option numbers.Use) (first_found : MatchOption first (StartsNoneFrom tables.starts instance k 0) (IsFirstFrom tables.starts instance k 0))
        (last_found : MatchOption last (StartsNoneUntil tables.starts instance k 65535) (IsLastUntil tables.starts instance k 65535)) where
      first_shown : (o : Option numbers.Use) → MatchOption o (StartsNoneFrom tables.starts instance k 0) (IsFirstFrom tables.starts instance k 0) → IfSome o Shown
      first_shown None found = tt
      first_shown (Some o) found = of_start found.start o (lists.are k found.start o found.there)

      last_shown : (o : Option numbers.Use) → MatchOption o (StartsNoneUntil tables.starts instance k 65535) (IsLastUntil tables.starts instance k 65535) → IfSome o Shown
      last_shown None found = tt
      last_shown (Some o) found = of_start found.start o (lists.are k found.start o found.there)

      nothing : (start : ℕ) → use_at tables.starts instance k start ≡ None → IsSome (use_at tables.starts instance k start) → ⊥
      nothing start none some = let bad = subst (λ (r : Option numbers.Use). IsSome r) none some in absurd (cc)

      some_small : (start : ℕ) → IsSome (use_at tables.starts instance k start) → start ≤ 65535
      some_small start some = by (use_at tables.starts instance k start) refl
        where
          by : (r : Option numbers.Use) → use_at tables.starts instance k start ≡ r → start ≤ 65535
          by None e = absurd (nothing start e some)
          by (Some held) e = let small : start < 2 ^ 16 = (tables.starts.small instance k start held e).0 in omega arith

      -- the span with one of them
      module _ (span new : Span) where
        first_step : (o : Option numbers.Use) → IfNone o (new ≡ span) → IfSome o (λ w. IsFirstOf span.first w new.first) → IfSome o Shown → Shown span.first → Shown new.first
        first_step None same chosen others shown = subst (λ (s : Span). Shown s.first) (sym same) shown
        first_step (Some o) same chosen others shown = elim chosen.0 [ inl e ↦ subst Shown (sym e) shown | inr e ↦ subst Shown (sym e) others ]

        last_step : (o : Option numbers.Use) → IfNone o (new ≡ span) → IfSome o (λ w. IsLastOf span.last w new.last) → IfSome o Shown → Shown span.last → Shown new.last
        last_step None same chosen others shown = subst (λ (s : Span). Shown s.last) (sym same) shown
        last_step (Some o) same chosen others shown = elim chosen.0 [ inl e ↦ subst Shown (sym e) shown | inr e ↦ subst Shown (sym e) others ]

        first_low : (o : Option numbers.Use) → IfNone o (new ≡ span) → IfSome o (λ w. IsFirstOf span.first w new.first) → new.first.at.plus ≤ span.first.at.plus
        first_low None same chosen = subst (λ (s : Span). s.first.at.plus ≤ span.first.at.plus) (sym same) (omega arith)
        first_low (Some o) same chosen = chosen.1

        last_high : (o : Option numbers.Use) → IfNone o (new ≡ span) → IfSome o (λ w. IsLastOf span.last w new.last) → span.last.at.plus ≤ new.last.at.plus
        last_high None same chosen = subst (λ (s : Span). span.last.at.plus ≤ s.last.at.plus) (sym same) (omega arith)
        last_high (Some o) same chosen = chosen.1

        first_least : (o : Option numbers.Use) → MatchOption o (StartsNoneFrom tables.starts instance k 0) (IsFirstFrom tables.starts instance k 0) → IfSome o (λ w. IsFirstOf span.first w new.first)
            → (start : ℕ) → IsSome (use_at tables.starts instance k start) → new.first.at.plus ≤ start
        first_least None found chosen start some = absurd (nothing start (found start (omega arith)) some)
        first_least (Some o) found chosen start some =
            let begins = at_start found.start o (lists.are k found.start o found.there) in
            let least = found.least start (omega arith) some in
            let low : new.first.at.plus ≤ o.at.plus = chosen.2 in
            omega arith

        last_greatest : (o : Option numbers.Use) → MatchOption o (StartsNoneUntil tables.starts instance k 65535) (IsLastUntil tables.starts instance k 65535) → IfSome o (λ w. IsLastOf span.last w new.last)
            → (start : ℕ) → IsSome (use_at tables.starts instance k start) → start ≤ new.last.at.plus
        last_greatest None found chosen start some = absurd (nothing start (found start (some_small start some)) some)
        last_greatest (Some o) found chosen start some =
            let begins = at_start found.start o (lists.are k found.start o found.there) in
            let greatest = found.greatest start (some_small start some) some in
            let high : o.at.plus ≤ new.last.at.plus = chosen.2 in
            omega arith

      -- the span of a use of its own, with the first, and then with the last
      pub span_all : (o : numbers.Use) → IsShownBy tables.events o u → (longer all : Span) → IfNone first (longer ≡ record { first = o; last = o }) → IfSome first (λ w. IsFirstOf o w longer.first) → IfSome first (λ w. IsLastOf o w longer.last)
          → IfNone last (all ≡ longer) → IfSome last (λ w. IsFirstOf longer.first w all.first) → IfSome last (λ w. IsLastOf longer.last w all.last) → IsSpanOf tables.events (UsesEvent with v k) all
      span_all o shows longer all same_1 first_1 last_1 same_2 first_2 last_2 =
          let one : Span = record { first = o; last = o } in
          let mine : Shown o = (u, shows, Own is_u here) in
          let f = first_step longer all last same_2 first_2 (last_shown last last_found) (first_step one longer first same_1 first_1 (first_shown first first_found) mine) in
          let l = last_step longer all last same_2 last_2 (last_shown last last_found) (last_step one longer first same_1 last_1 (first_shown first first_found) mine) in
          let plus_f : all.first.at.plus ≡ f.0.at.plus = f.1.plus in
          let plus_l : all.last.at.plus ≡ l.0.at.plus = l.1.plus in
          let plus_o : o.at.plus ≡ u.at.plus = shows.plus in
          let low_1 : longer.first.at.plus ≤ o.at.plus = first_low one longer first same_1 first_1 in
          let low_2 : all.first.at.plus ≤ longer.first.at.plus = first_low longer all last same_2 first_2 in
          let high_1 : o.at.plus ≤ longer.last.at.plus = last_high one longer first same_1 last_1 in
          let high_2 : longer.last.at.plus ≤ all.last.at.plus = last_high longer all last same_2 last_2 in
          record {
            first = f.0;
            shows_first = f.1;
            has_first = f.2;
            least = λ a has_a. elim (own_or_listed a has_a) [
              | inl like ↦ let e : u.at.plus ≡ a.at.plus = ap (λ (t : TimeAt). t.plus) like.0 in omega arith
              | inr some ↦ let e : longer.first.at.plus ≤ a.at.plus = first_least one longer first first_found first_1 a.at.plus some in omega arith
            ];
            last = l.0;
            shows_last = l.1;
            has_last = l.2;
            greatest = λ a has_a. elim (own_or_listed a has_a) [
              | inl like ↦ let e : u.at.plus ≡ a.at.plus = ap (λ (t : TimeAt). t.plus) like.0 in omega arith
              | inr some ↦ let e : a.at.plus ≤ all.last.at.plus = last_greatest longer all last last_found last_2 a.at.plus some in omega arith
            ];
          }
