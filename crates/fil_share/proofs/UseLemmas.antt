-- Uses of a callee's events, event by event.
use Rattle.std.proofs.Common.{◌≡◌, ℕ, ◌+◌, ◌<◌, List, [], ◌∷◌, ◌++◌, length, map, drop, get_or, slice_get, Bor, Option, Some, None, option_map, refl, sym, ap, ◌∙◌, add-one, append_assoc}
use Rattle.std.specs.Option.{option_and_then}
use Rattle.std.specs.Slice.{IsItemAt}
use Rattle.std.proofs.lemmas.List.{map-append}
use Rattle.std.proofs.lemmas.Option.{slice_get-map}
use Rattle.hw_names.specs.Name.{Text, text_of}
use Rattle.hw_names.specs.declared.names.NameId.{NameId}
use Rattle.fil_ast.specs.Holds.{uses_listed, uses_from}
use Rattle.fil_ast.specs.Signature.{SigEvent}
use Rattle.fil_ast.specs.Timeline as tree
use Rattle.fil_ast.specs.Timeline.{hold_of, use_of}
use Rattle.fil_ast.specs.Tree.{TimeAt, time_tree}
use Rattle.fil_ast.specs.declared.tree.Time.{Time}
use Rattle.fil_sig.proofs.ListLemmas.{from_place}
use Rattle.fil_share.specs.Uses.{Held, held, shown_use}
use Rattle.fil_share.specs.declared.uses.Use.{Use}
use Rattle.fil_share.proofs.Lookup.{got, seen_copied}

module _ (names : List Text) (at : List Time) where
  -- the time at a place
  pub time_there : (k : ℕ) (r : Option (Bor Time)) → IsItemAt at k r → option_map (λ (t : Bor Time). time_tree names t.now) r ≡ slice_get (map (time_tree names) at) k
  time_there k r item = seen_copied (time_tree names) r ∙ ap (option_map (time_tree names)) (got at k r item) ∙ sym (slice_get-map (time_tree names) at k)

  module _ (call inst : NameId) (k : ℕ) (e : SigEvent) where
    abbrev used : Option TimeAt → Option Held
    used o = option_map (held (text_of names call)) (option_and_then (λ t. option_map (λ rows. record { inst = text_of names inst; event = k; go = e.go; at = t; hold = rows }) (hold_of e.delay t (slice_get (map (time_tree names) at) (k + 1)))) o)

    abbrev made : Option ℕ → Time → Option Use
    made rows start = option_map (λ (r : ℕ). record { on = start.event; inst = inst; event = k; from = start.plus; to = start.plus + r; call = call }) rows

    pub no_time : (r : Option (Bor Time)) → IsItemAt at k r → r ≡ None → ◌≡◌ {A = Option Held} None (option_map (held (text_of names call)) (use_of k e (text_of names inst) (map (time_tree names) at)))
    no_time r item none = ap used (sym (ap (option_map (λ (t : Bor Time). time_tree names t.now)) none) ∙ time_there k r item)

    same_use : (t : Time) (rows : Option ℕ) → option_map (shown_use names) (made rows t) ≡ option_map (held (text_of names call)) (option_map (λ rows. record { inst = text_of names inst; event = k; go = e.go; at = time_tree names t; hold = rows }) rows)
    same_use t None = refl
    same_use t (Some r) = refl

    pub with_time : (r : Option (Bor Time)) (start : Bor Time) → IsItemAt at k r → r ≡ Some start → (rows : Option ℕ) → rows ≡ hold_of e.delay (time_tree names start.now) (slice_get (map (time_tree names) at) (k + 1))
        → option_map (shown_use names) (made rows start.now) ≡ option_map (held (text_of names call)) (use_of k e (text_of names inst) (map (time_tree names) at))
    with_time r start item is rows held_for =
        same_use start.now rows
        ∙ ap (λ h. option_map (held (text_of names call)) (option_map (λ rows. record { inst = text_of names inst; event = k; go = e.go; at = time_tree names start.now; hold = rows }) h)) held_for
        ∙ ap used (sym (ap (option_map (λ (t : Bor Time). time_tree names t.now)) is) ∙ time_there k r item)

-- one more event
module _ (names : List Text) (call inst : Text) (times : List TimeAt) (events : List SigEvent) (i : ℕ) (e : SigEvent) (within : i < length events) (is : get_or events i e ≡ e) where
  cut : uses_from i (drop i events) inst times ≡ uses_listed (use_of i e inst times) ++ uses_from (i + 1) (drop (i + 1) events) inst times
  cut =
      ap (λ es. uses_from i es inst times) (from_place events i e within ∙ ap (λ x. x ∷ drop (i + 1) events) is)
      ∙ ap (λ k. uses_listed (use_of i e inst times) ++ uses_from k (drop (i + 1) events) inst times) (sym (add-one i))

  -- the uses so far, and those that are left, are all
  abbrev AreAll : List Use → ℕ → List Held → Type 0
  AreAll uses k all = map (shown_use names) uses ++ map (held call) (uses_from k (drop k events) inst times) ≡ all

  pub use_pushed : (uses : List Use) (u : Use) (all : List Held) → Some (shown_use names u) ≡ option_map (held call) (use_of i e inst times) → AreAll uses i all → AreAll (uses ++ u ∷ []) (i + 1) all
  use_pushed uses u all shows so_far = by (use_of i e inst times) refl shows
    where
      by : (o : Option tree.Use) → use_of i e inst times ≡ o → Some (shown_use names u) ≡ option_map (held call) o → AreAll (uses ++ u ∷ []) (i + 1) all
      by None there e' = absurd (cc)
      by (Some x) there e' =
          let same : shown_use names u ≡ held call x = cc in
          ap (λ hs. hs ++ map (held call) (uses_from (i + 1) (drop (i + 1) events) inst times)) (map-append (shown_use names) uses (u ∷ []))
          ∙ append_assoc (map (shown_use names) uses) (shown_use names u ∷ []) (map (held call) (uses_from (i + 1) (drop (i + 1) events) inst times))
          ∙ ap (λ h. map (shown_use names) uses ++ h ∷ map (held call) (uses_from (i + 1) (drop (i + 1) events) inst times)) same
          ∙ ap (λ us. map (shown_use names) uses ++ map (held call) us) (sym (cut ∙ ap (λ o. uses_listed o ++ uses_from (i + 1) (drop (i + 1) events) inst times) there))
          ∙ so_far

  pub use_skipped : (uses : List Use) (all : List Held) → ◌≡◌ {A = Option Held} None (option_map (held call) (use_of i e inst times)) → AreAll uses i all → AreAll uses (i + 1) all
  use_skipped uses all shows so_far = by (use_of i e inst times) refl shows
    where
      by : (o : Option tree.Use) → use_of i e inst times ≡ o → ◌≡◌ {A = Option Held} None (option_map (held call) o) → AreAll uses (i + 1) all
      by None there e' =
          ap (λ us. map (shown_use names) uses ++ map (held call) us) (sym (cut ∙ ap (λ o. uses_listed o ++ uses_from (i + 1) (drop (i + 1) events) inst times) there)) ∙ so_far
      by (Some x) there e' = absurd (cc)
