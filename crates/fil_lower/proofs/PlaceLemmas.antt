-- Bits of events, and ports, as they are found where assignments are made.
use Rattle.std.proofs.Common.{◌≡◌, ℕ, zero, suc, ◌+◌, ◌-◌, ◌<◌, ◌≤◌, List, [], ◌∷◌, length, map, take, drop, slice_get, All, Option, Some, None, Result, Ok, Err, Vec, option_map, refl, sym, ap, ap₂, subst, ◌∙◌, arith}
use Rattle.std.specs.Option.{option_map_or}
use Rattle.std.specs.Prelude.{IfOk, slice_range}
use Rattle.std.specs.declared.alloc.Global.{Global}
use Rattle.std.proofs.Math.Seq.{drop-cons}
use Rattle.std.proofs.lemmas.List.{length-map}
use Rattle.std.proofs.lemmas.List.Elements.{All-drop, All-take}
use Rattle.std.proofs.lemmas.Option.{none-some, same_Some, slice_get-map}
use Rattle.hw_names.proofs.NameLemmas.{length-KeepsTexts, text_of-KeepsTexts}
use Rattle.hw_names.specs.Name.{KeepsTexts, Text, text_of}
use Rattle.hw_names.specs.declared.names.NameId.{NameId}
use Rattle.cal_ast.specs.Numbers.{PortHasNumbers}
use Rattle.cal_ast.specs.Tree.{PortName, own, port_of, port_tree}
use Rattle.cal_ast.specs.declared.tree.CalPort.{CalPort}
use Rattle.fil_ast.specs.Items.{TheSignature}
use Rattle.fil_ast.specs.Naming.{HasNewNames, NamesEvent}
use Rattle.fil_ast.specs.Numbers.{IsNumberOf}
use Rattle.fil_ast.specs.Rules.{F1}
use Rattle.fil_ast.specs.Scope.{Scope}
use Rattle.fil_ast.specs.Signature.{event_number}
use Rattle.fil_ast.specs.Tree.{Component, Event, event_tree, statement_tree}
use Rattle.fil_ast.specs.declared.tree.Stmt.{Stmt}
use Rattle.fil_ast.specs.declared.tree.Stmt.TheVariants as stmts
use Rattle.fil_ast.specs.declared.tree.Value.{Value}
use Rattle.fil_ast.specs.Typing.{HasShape}
use Rattle.fil_fsm.specs.Chain.{chain_bits}
use Rattle.fil_lower.specs.inside.Lowering.{Lowering, bit_at, bits_from, bits_of, connection_set, go_of, registers_of}
use Rattle.fil_lower.specs.inside.Place.{ShowsBody, ShowsPlace, bits_shown}
use Rattle.fil_lower.specs.declared.body.Body.{Body}
use Rattle.fil_lower.specs.declared.place.Place.{Place}
use Rattle.fil_lower.proofs.TimedAsLemmas.{number_of}

-- two facts of an outcome
pub both_ok : {X E : Type 0} (P Q R : X → Type 0) (r : Result X E) → ((x : X) → P x → Q x → R x) → IfOk r P → IfOk r Q → IfOk r R
both_ok P Q R (Ok x) made p q = made x p q
both_ok P Q R (Err e) made p q = tt

-- ---- rules at the signature

module _ (body : Body) (scope : Scope) (shows : ShowsBody body scope) where
  pub has_shape : HasShape scope.comp
  has_shape = shows.rules.keeps shows.number scope.comp shows.at 0 TheSignature refl 4 F1 (omega arith)

  pub has_new_names : HasNewNames (take shows.number shows.design) scope.comp
  has_new_names = shows.rules.keeps shows.number scope.comp shows.at 0 TheSignature refl 0 F1 (omega arith)

  pub few_events : length body.comp.now.events.items ≤ 16
  few_events =
      omega (arith, has_shape.few, ap (λ (c : Component). length c.events) shows.comp, length-map body.comp.now.events.items (event_tree body.names.now))

-- ---- ports

module _ (old new : List Text) (kept : KeepsTexts old new) where
  pub port_shown : (made : CalPort) (cell port : NameId) (pin : Text) → made ≡ record { cell = Some cell; port = port } → IsNumberOf old cell → text_of new port ≡ pin → port_tree new made ≡ port_of (text_of old cell) pin
  port_shown made cell port pin is known text = rw is (ap₂ port_of (text_of-KeepsTexts old new cell kept known) text)

  pub port_has : (made : CalPort) (cell port : NameId) → made ≡ record { cell = Some cell; port = port } → IsNumberOf old cell → IsNumberOf new port → PortHasNumbers new made
  port_has made cell port is known here =
      let P : CalPort → Type 0 = PortHasNumbers new in
      subst P (sym is) (omega (arith, length-KeepsTexts old new kept, known), here)

  pub own_shown : (made : CalPort) (port : NameId) → made ≡ record { cell = None; port = port } → IsNumberOf old port → port_tree new made ≡ own (text_of old port)
  own_shown made port is known = rw is (ap own (text_of-KeepsTexts old new port kept known))

  pub own_has : (made : CalPort) (port : NameId) → made ≡ record { cell = None; port = port } → IsNumberOf old port → PortHasNumbers new made
  own_has made port is known =
      let P : CalPort → Type 0 = PortHasNumbers new in
      subst P (sym is) (tt, omega (arith, length-KeepsTexts old new kept, known))

-- ---- bits

-- the bits of a known event are found by its number
pub record FindsBits (place : Place) (l : Lowering) (event : Text) (k : ℕ) : Type 0 where
  pub bits : Vec CalPort Global
  pub at : slice_get place.bits.now k ≡ Some bits
  pub are : map (port_tree place.names.now) bits.items ≡ bits_of l event

pub finds_bits : (place : Place) (l : Lowering) (event : Text) → ShowsPlace place l → NamesEvent l.scope.comp event → (k : ℕ)
    → k ≡ event_number (map (event_tree place.body.now.names.now) place.body.now.comp.now.events.items) event → FindsBits place l event k
finds_bits place l event shows named k is =
    let (e, at, is_e) = number_of l.scope.comp.events event named in
    let number : event_number l.scope.comp.events event ≡ k = ap (λ (c : Component). event_number c.events event) shows.body.comp ∙ sym is in
    let of_event : Event → List PortName = λ e. bits_of l e.name in
    let there : option_map (bits_shown place.names.now) (slice_get place.bits.now k) ≡ Some (bits_of l e.name) =
    sym (slice_get-map (bits_shown place.names.now) place.bits.now k) ∙ ap (λ bs. slice_get bs k) shows.bits.are ∙ slice_get-map of_event l.scope.comp.events k
    ∙ ap (λ j. option_map of_event (slice_get l.scope.comp.events j)) (sym number) ∙ ap (option_map of_event) at in
    by (slice_get place.bits.now k) refl (there ∙ ap (λ t. Some (bits_of l t)) is_e)
  where
    by : (o : Option (Vec CalPort Global)) → slice_get place.bits.now k ≡ o → option_map (bits_shown place.names.now) o ≡ Some (bits_of l event) → FindsBits place l event k
    by None there is = absurd (none-some (bits_of l event) is)
    by (Some bits) there is = record { bits = bits; at = there; are = same_Some (bits_shown place.names.now bits) (bits_of l event) is }

-- an event with bits has an interface port
pub has_go : (l : Lowering) (event : Text) → 0 < length (bits_of l event) → (go : Text) × (go_of l event ≡ Some go)
has_go l event some = by (go_of l event) refl
  where
    by : (o : Option Text) → go_of l event ≡ o → (go : Text) × (go_of l event ≡ Some go)
    by None none =
        let empty : bits_of l event ≡ [] = ap (λ o. option_map_or (λ go. chain_bits (own go) (registers_of l event)) o []) none in
        absurd (omega (arith, ap (length {A = PortName}) empty, some))
    by (Some go) there = (go, there)

bits_from-take : (l : Lowering) (event : Text) (count from : ℕ) → from + count ≤ length (bits_of l event) → bits_from l event from count ≡ take count (drop from (bits_of l event))
bits_from-take l event zero from within = refl
bits_from-take l event (suc count) from within =
    let here : from < length (bits_of l event) = omega arith in
    let later : suc from + count ≤ length (bits_of l event) = omega arith in
    ap (λ bits. bit_at l event from ∷ bits) (bits_from-take l event count (suc from) later) ∙ sym (ap (take (suc count)) (drop-cons (bits_of l event) from (own []) here))

-- the bits of an interval are a part of all bits
pub bits_range : (l : Lowering) (event : Text) (from to : ℕ) → from ≤ to → to ≤ length (bits_of l event) → slice_range (bits_of l event) from to ≡ bits_from l event from (to - from)
bits_range l event from to ordered within = let all : from + (to - from) ≤ length (bits_of l event) = omega arith in sym (bits_from-take l event (to - from) from all)

map_take : {X Y : Type 0} (f : X → Y) (n : ℕ) (xs : List X) → map f (take n xs) ≡ take n (map f xs)
map_take f zero xs = refl
map_take f (suc n) [] = refl
map_take f (suc n) (x ∷ xs) = ap (λ ys. f x ∷ ys) (map_take f n xs)

map_drop : {X Y : Type 0} (f : X → Y) (n : ℕ) (xs : List X) → map f (drop n xs) ≡ drop n (map f xs)
map_drop f zero xs = refl
map_drop f (suc n) [] = refl
map_drop f (suc n) (x ∷ xs) = map_drop f n xs

pub map_range : {X Y : Type 0} (f : X → Y) (xs : List X) (from to : ℕ) → map f (slice_range xs from to) ≡ slice_range (map f xs) from to
map_range f xs from to = map_take f (to - from) (drop from xs) ∙ ap (take (to - from)) (map_drop f from xs)

pub All-range : {X : Type 0} (P : X → Type 0) (xs : List X) (from to : ℕ) → All P xs → All P (slice_range xs from to)
All-range P xs from to all = All-take P (to - from) (drop from xs) (All-drop P from xs all)

-- ---- connections

-- a statement that connects nothing
pub no_connection : (l : Lowering) (names : List Text) (stmt : Stmt) → ((dst : NameId) (value : Value) → stmt ≡ stmts.Set dst value → ⊥) → connection_set l (statement_tree names stmt) ≡ []
no_connection l names (stmts.New name made params) none = refl
no_connection l names (stmts.Call name inst at args) none = refl
no_connection l names (stmts.Both name made params at args) none = refl
no_connection l names (stmts.Set dst value) none = absurd (none dst value refl)
