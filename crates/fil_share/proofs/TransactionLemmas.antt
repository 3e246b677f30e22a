-- What transactions hold, from what one of them uses.
use Rattle.std.proofs.Common.{◌≡◌, ℕ, suc, ◌+◌, ◌<◌, Bool, true, false, cond, List, [], ◌∷◌, ◌++◌, length, map, filter, flat_map, take, drop, get_or, slice_get, Some, option_map, refl, sym, ap, ap₂, ◌∙◌, add-one, append_assoc, arith}
use Rattle.std.specs.Str.{bytes_eq}
use Rattle.std.proofs.lemmas.List.{append-nil, map-append}
use Rattle.std.proofs.lemmas.List.Elements.{filter-append}
use Rattle.std.proofs.lemmas.Option.{get_or_from_slice_get, slice_get_within}
use Rattle.hw_names.specs.Name.{Text, text_of}
use Rattle.fil_ast.specs.Holds.{Hold, Start, hold_from, holds_by, holds_from, start_of, uses_of}
use Rattle.fil_ast.specs.Scope.{Scope, Invocation}
use Rattle.fil_ast.specs.Timeline as tree
use Rattle.fil_ast.specs.Tree.{Component, Event}
use Rattle.fil_ast.specs.declared.tx.Tx.{Tx}
use Rattle.fil_sig.proofs.ListLemmas.{from_place, map_more}
use Rattle.fil_share.specs.Uses.{held, held_by, is_on, listed_start, moved, shown_hold, shown_use, starts_of}
use Rattle.fil_share.specs.declared.hold.Hold as shown
use Rattle.fil_share.specs.declared.uses.Use.{Use}

moved_held : (n row : ℕ) (call : Text) (u : tree.Use) → moved n row (held call u) ≡ hold_from n row call u
moved_held n row call u =
    let F : ℕ → Hold = λ to. record { inst = u.inst; event = u.event; from = row + u.at.plus; to = to; call = call; tx = n } in
    let same : row + (u.at.plus + u.hold) ≡ row + u.at.plus + u.hold = omega arith in
    ap F same

call_moved : (n row : ℕ) (call event : Text) (us : List tree.Use) → map (moved n row) (filter (is_on event) (map (held call) us)) ≡ map (hold_from n row call) (filter (λ (u : tree.Use). bytes_eq u.at.event event) us)
call_moved n row call event [] = refl
call_moved n row call event (u ∷ us) = by (bytes_eq u.at.event event) (call_moved n row call event us)
  where
    by : (b : Bool) → map (moved n row) (filter (is_on event) (map (held call) us)) ≡ map (hold_from n row call) (filter (λ (u : tree.Use). bytes_eq u.at.event event) us)
        → map (moved n row) (cond b (held call u ∷ filter (is_on event) (map (held call) us)) (filter (is_on event) (map (held call) us)))
        ≡ map (hold_from n row call) (cond b (u ∷ filter (λ (u : tree.Use). bytes_eq u.at.event event) us) (filter (λ (u : tree.Use). bytes_eq u.at.event event) us))
    by true rest = ap₂ ◌∷◌ (moved_held n row call u) rest
    by false rest = rest

-- a transaction holds what its event's uses say
all_moved : (scope : Scope) (n : ℕ) (s : Start) (vs : List Invocation) → map (moved n s.row) (filter (is_on s.event) (flat_map (held_by scope) vs)) ≡ flat_map (holds_by scope n s) vs
all_moved scope n s [] = refl
all_moved scope n s (v ∷ vs) =
    ap (map (moved n s.row)) (filter-append (is_on s.event) (held_by scope v) (flat_map (held_by scope) vs))
    ∙ map-append (moved n s.row) (filter (is_on s.event) (held_by scope v)) (filter (is_on s.event) (flat_map (held_by scope) vs))
    ∙ ap₂ ◌++◌ (call_moved n s.row v.name s.event (uses_of scope v)) (all_moved scope n s vs)

-- one more use
module _ (names : List Text) (tx row : ℕ) (event : Text) (uses : List Use) (i : ℕ) (d : Use) (within : i < length uses) where
  abbrev passed : ℕ → List Hold
  passed k = map (moved tx row) (filter (is_on event) (map (shown_use names) (take k uses)))

  next_use : (b : Bool) → bytes_eq (text_of names (get_or uses i d).on) event ≡ b → passed (i + 1) ≡ passed i ++ map (moved tx row) (cond b (shown_use names (get_or uses i d) ∷ []) [])
  next_use b is =
      let x = shown_use names (get_or uses i d) in
      ap (λ us. map (moved tx row) (filter (is_on event) us)) (map_more (shown_use names) uses i d within)
      ∙ ap (map (moved tx row)) (filter-append (is_on event) (map (shown_use names) (take i uses)) (x ∷ []) ∙ ap (λ (b : Bool). filter (is_on event) (map (shown_use names) (take i uses)) ++ cond b (x ∷ []) []) is)
      ∙ map-append (moved tx row) (filter (is_on event) (map (shown_use names) (take i uses))) (cond b (x ∷ []) [])

  pub pushed : (old : List Hold) (holds : List shown.Hold) (h : shown.Hold) → bytes_eq (text_of names (get_or uses i d).on) event ≡ true → shown_hold names h ≡ moved tx row (shown_use names (get_or uses i d))
      → map (shown_hold names) holds ≡ old ++ passed i → map (shown_hold names) (holds ++ h ∷ []) ≡ old ++ passed (i + 1)
  pushed old holds h is shows so_far =
      map-append (shown_hold names) holds (h ∷ []) ∙ ap₂ (λ hs x. hs ++ x ∷ []) so_far shows
      ∙ append_assoc old (passed i) (moved tx row (shown_use names (get_or uses i d)) ∷ []) ∙ ap (λ hs. old ++ hs) (sym (next_use true is))

  pub skipped : (old : List Hold) (holds : List shown.Hold) → bytes_eq (text_of names (get_or uses i d).on) event ≡ false
      → map (shown_hold names) holds ≡ old ++ passed i → map (shown_hold names) holds ≡ old ++ passed (i + 1)
  skipped old holds is so_far = so_far ∙ ap (λ hs. old ++ hs) (sym (append-nil (passed i)) ∙ sym (next_use false is))

-- one more transaction
pub next_tx : (scope : Scope) (c : Component) (names : List Text) (uses : List Use) (txs : List Tx) (i : ℕ) (tx : Tx) (e : Event) (old new all : List Hold)
    → map (shown_use names) uses ≡ flat_map (held_by scope) scope.invocations → slice_get txs i ≡ Some tx → slice_get c.events tx.event ≡ Some e
    → new ≡ old ++ map (moved i tx.start) (filter (is_on e.name) (map (shown_use names) uses))
    → old ++ holds_from scope i (starts_of c (drop i txs)) ≡ all → new ++ holds_from scope (i + 1) (starts_of c (drop (i + 1) txs)) ≡ all
next_tx scope c names uses txs i tx e old new all is_uses at at_event is_new so_far =
    let s : Start = record { event = e.name; row = tx.start } in
    let rest = starts_of c (drop (i + 1) txs) in
    let block = flat_map (holds_by scope i s) scope.invocations in
    let later = holds_from scope (suc i) rest in
    let cut : drop i txs ≡ tx ∷ drop (i + 1) txs = from_place txs i tx (slice_get_within txs i tx at) ∙ ap (λ t. t ∷ drop (i + 1) txs) (get_or_from_slice_get txs i tx tx at) in
    let started : start_of c tx ≡ Some s = ap (option_map (λ (e : Event). record { event = e.name; row = tx.start })) at_event in
    let starts : starts_of c (drop i txs) ≡ s ∷ rest = ap (starts_of c) cut ∙ ap (λ o. listed_start o ++ rest) started in
    let made : new ≡ old ++ block = is_new ∙ ap (λ us. old ++ map (moved i tx.start) (filter (is_on e.name) us)) is_uses ∙ ap (λ hs. old ++ hs) (all_moved scope i s scope.invocations) in
    ap₂ (λ hs k. hs ++ holds_from scope k rest) made (add-one i) ∙ append_assoc old block later ∙ ap (λ ss. old ++ holds_from scope i ss) (sym starts) ∙ so_far
