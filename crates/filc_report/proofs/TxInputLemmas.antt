-- The inputs of a netlist as its signature's ports.
use Rattle.std.proofs.Common.{◌≡◌, ◌⊎◌, ℕ, zero, suc, ◌+◌, ◌<◌, ◌≤◌, ◌%◌, ◌^◌, Bool, true, false, cond, List, [], ◌∷◌, ◌++◌, length, map, take, drop, get_or, set, Option, None, Some, refl, sym, ap, subst, ◌∙◌, arith, inl, inr, ⊎_elim, get_or-set_same, get_or-set_other, add-zero}
use Rattle.std.specs.Prelude.{slice_get, ◌==◌, bytes_eq}
use Rattle.std.specs.Option.{option_map, option_map_or, is_some}
use Rattle.std.proofs.lemmas.Bool.{cases_eq}
use Rattle.std.proofs.lemmas.List.Filters.{length-filter_more}
use Rattle.stim_read.specs.TxEvents.{ports_after}
use Rattle.std.proofs.Math.Pow.{pow_mono}
use Rattle.hw_bits.specs.Values.{values_of}
use Rattle.hw_bits.specs.declared.bits.Bits.{Bits}
use Rattle.fil_ast.specs.declared.tx.Tx.{Tx}
use Rattle.fil_ast.specs.declared.tx.TxList.{TxList}
use Rattle.filc_report.specs.Driving.{value_in}
use Rattle.filc_report.specs.Intervals.{ArePassed}
use Rattle.filc_report.specs.declared.intervals.Interval.{Interval}
use Rattle.filc_report.specs.declared.tx_inputs.TxInput.{TxInput}
use Rattle.std.proofs.Math.Nat.{mod-eq_of_lt}
use Rattle.std.proofs.lemmas.Bool.Decides.{eqb_tells, nat_tests}
use Rattle.std.proofs.lemmas.List.{map-set, drop_more, length-map}
use Rattle.std.proofs.lemmas.Option.{same_Some, get_or_from_slice_get, slice_get_within}
use Rattle.hw_names.specs.Name.{Text}
use Rattle.fil_ast.specs.Signature.{SigEvent, SigPort}
use Rattle.fil_sig.specs.Seen.{seen_event}
use Rattle.fil_sig.specs.declared.time_sig.SigEvent.{SigEvent as EventInfo}
use Rattle.fil_driven.specs.TxDrive.{event_with}

-- 1 in any width
pub one_bit : (width : ℕ) → 1 ≤ width → 1 % 2 ^ width ≡ 1
one_bit width wide = mod-eq_of_lt (let two : 2 ^ 1 ≤ 2 ^ width = pow_mono wide in two)

-- an element that was pushed, or one before it
pub pushed_at : {X : Type 0} (xs : List X) (x y : X) (k : ℕ) → slice_get (xs ++ x ∷ []) k ≡ Some y → (slice_get xs k ≡ Some y) ⊎ ((k ≡ length xs) × (y ≡ x))
pushed_at [] x y zero at = inr (refl, sym (same_Some x y at))
pushed_at [] x y (suc k) at = inl at
pushed_at (z ∷ xs) x y zero at = inl at
pushed_at {X} (z ∷ xs) x y (suc k) at = ⊎_elim (λ before. inl before) (λ (at_end, is). inr (omega (arith, at_end), is)) (pushed_at xs x y k at)

pub eq_true : (a b : ℕ) → a ≡ b → (a == b) ≡ true
eq_true a b same = grind (arith, nat_tests)

pub eq_false : (a b : ℕ) → (a ≡ b → ⊥) → (a == b) ≡ false
eq_false a b other = ⊎_elim (λ same. absurd (other same.1)) (λ differ. differ.0) (eqb_tells a b)

-- ---- events

event_next : (number : ℕ) (e : SigEvent) (events : List SigEvent) (port : Text) (here : Bool) → option_map_or (bytes_eq port) e.go false ≡ here → event_with number (e ∷ events) port ≡ cond here (Some number) (event_with (suc number) events port)
event_next number e events port here is = ap (λ b. cond b (Some number) (event_with (suc number) events port)) is

-- of the events from one on, this is the first with the interface port
pub found_here : (events : List EventInfo) (number : ℕ) (d : EventInfo) (port : Text) → number < length events → option_map_or (bytes_eq port) (seen_event (get_or events number d)).go false ≡ true → event_with number (map seen_event (drop number events)) port ≡ Some number
found_here events number d port within is =
    ap (λ (es : List EventInfo). event_with number (map seen_event es) port) (drop_more events number d within)
    ∙ event_next number (seen_event (get_or events number d)) (map seen_event (drop (number + 1) events)) port true is

pub found_later : (events : List EventInfo) (number : ℕ) (d : EventInfo) (port : Text) → number < length events → option_map_or (bytes_eq port) (seen_event (get_or events number d)).go false ≡ false → event_with number (map seen_event (drop number events)) port ≡ event_with (number + 1) (map seen_event (drop (number + 1) events)) port
found_later events number d port within is =
    ap (λ (es : List EventInfo). event_with number (map seen_event es) port) (drop_more events number d within)
    ∙ event_next number (seen_event (get_or events number d)) (map seen_event (drop (number + 1) events)) port false is
    ∙ ap (λ (n : ℕ). event_with n (map seen_event (drop (number + 1) events)) port) (omega arith)

none_left : (events : List EventInfo) (k number : ℕ) (port : Text) → length events ≤ k → event_with number (map seen_event (drop k events)) port ≡ None
none_left [] zero number port past = refl
none_left [] (suc k) number port past = refl
none_left (e ∷ events) zero number port past = absurd (omega (arith, past))
none_left (e ∷ events) (suc k) number port past = none_left events k number port (omega (arith, past))

pub none_found : (events : List EventInfo) (number : ℕ) (port : Text) → length events ≤ number → event_with number (map seen_event (drop number events)) port ≡ None
none_found events number port past = none_left events number number port past

-- the number of an event is one of theirs
pub event_within : (events : List SigEvent) (number : ℕ) (port : Text) (e : ℕ) → event_with number events port ≡ Some e → e < number + length events
event_within [] number port e is = cc
event_within (v ∷ events) number port e is = by (option_map_or (bytes_eq port) v.go false) refl (event_within events (suc number) port e)
  where
    by : (here : Bool) → option_map_or (bytes_eq port) v.go false ≡ here → (event_with (suc number) events port ≡ Some e → e < suc number + length events) → e < number + length (v ∷ events)
    by true here later = omega (arith, same_Some number e (sym (event_next number v events port true here) ∙ is))
    by false here later = omega (arith, later (sym (event_next number v events port false here) ∙ is))

-- ---- one step of a loop over ports

set_at : (xs : List ℕ) (at v : ℕ) → at < length xs → get_or (set xs at v) at 0 ≡ v
set_at xs at v within = get_or-set_same xs at v 0 within

-- each has passed only what is over, also after the next of one was moved
pub passed_set : {X : Type 0} (interval : X → Interval) (xs : List X) (txs : List Tx) (nexts : List ℕ) (at first row : ℕ) (d : X) → at < length nexts → ArePassed (interval (get_or xs at d)) txs first row → ((k : ℕ) (x : X) → slice_get xs k ≡ Some x → ArePassed (interval x) txs (get_or nexts k 0) row) → (k : ℕ) (x : X) → slice_get xs k ≡ Some x → ArePassed (interval x) txs (get_or (set nexts at first) k 0) row
passed_set interval xs txs nexts at first row d within here before k x is = elim (cases_eq k at) [
  | inl same ↦
      let one : get_or xs at d ≡ x = ap (λ j. get_or xs j d) (sym same) ∙ get_or_from_slice_get xs k x d is in
      let put : first ≡ get_or (set nexts at first) k 0 = sym (set_at nexts at first within) ∙ ap (λ j. get_or (set nexts at first) j 0) (sym same) in
      subst (λ (n : ℕ). ArePassed (interval x) txs n row) put (subst (λ y. ArePassed (interval y) txs first row) one here)
  | inr other ↦ subst (λ (n : ℕ). ArePassed (interval x) txs n row) (sym (get_or-set_other nexts at k first 0 other)) (before k x is)
]

pub value_more : (ports : List TxInput) (list : TxList) (row : ℕ) (inputs : List Bits) (widths : List ℕ) (at : ℕ) (v : Bits) (d : TxInput) → at < length inputs → v.value ≡ value_in (get_or ports at d) list row (get_or widths at 0) → ((k : ℕ) (i : TxInput) → k < at → slice_get ports k ≡ Some i → get_or (values_of inputs) k 0 ≡ value_in i list row (get_or widths k 0)) → (k : ℕ) (i : TxInput) → k < at + 1 → slice_get ports k ≡ Some i → get_or (values_of (set inputs at v)) k 0 ≡ value_in i list row (get_or widths k 0)
value_more ports list row inputs widths at v d within here before k i early is =
    let moved : values_of (set inputs at v) ≡ set (values_of inputs) at v.value = map-set (λ (b : Bits). b.value) inputs at v in
    ap (λ (vs : List ℕ). get_or vs k 0) moved ∙ elim (cases_eq k at) [
      | inl same ↦
          let one : get_or ports at d ≡ i = ap (λ j. get_or ports j d) (sym same) ∙ get_or_from_slice_get ports k i d is in
          let put : get_or (set (values_of inputs) at v.value) k 0 ≡ v.value = ap (λ j. get_or (set (values_of inputs) at v.value) j 0) same ∙ set_at (values_of inputs) at v.value (omega (arith, within, length-map inputs (λ (b : Bits). b.value))) in
          put ∙ here ∙ ap (λ (y : TxInput). value_in y list row (get_or widths at 0)) one ∙ ap (λ j. value_in i list row (get_or widths j 0)) (sym same)
      | inr other ↦ get_or-set_other (values_of inputs) at k v.value 0 other ∙ before k i (omega (arith, early, other)) is
    ]

-- one more mark
pub marks_more : {X : Type 0} (f : X → Bool) (xs : List X) (old : List Bool) (at : ℕ) (d : X) (v : Bool) → at < length xs → length xs ≤ length old → v ≡ f (get_or xs at d) → set (map f (take at xs) ++ drop at old) at v ≡ map f (take (suc at) xs) ++ drop (suc at) old
marks_more {X} f [] old at d v within few is = absurd (let none : length {A = X} [] ≡ 0 = refl in omega (arith, within, none))
marks_more f (x ∷ xs) [] at d v within few is = absurd (let none : length {A = Bool} [] ≡ 0 = refl in omega (arith, few, none))
marks_more f (x ∷ xs) (b ∷ old) zero d v within few is = ap (λ (m : Bool). m ∷ old) is
marks_more f (x ∷ xs) (b ∷ old) (suc at) d v within few is = ap (λ (ms : List Bool). f x ∷ ms) (marks_more f xs old at d v (omega (arith, within)) (omega (arith, few)) is)

pub is_some-map : {X Y : Type 0} (f : X → Y) (o : Option X) → is_some (option_map f o) ≡ is_some o
is_some-map f None = refl
is_some-map f (Some x) = refl

-- ---- ports of an event

pub few_of_event : (e : ℕ) (ports : List SigPort) → length (ports_after e ports) ≤ length ports
few_of_event e [] = omega arith
few_of_event e (p ∷ ports) = by (p.from.event == e) (few_of_event e ports)
  where
    by : (here : Bool) → length (ports_after e ports) ≤ length ports → length (cond here (p ∷ ports_after e ports) (ports_after e ports)) ≤ length (p ∷ ports)
    by true few = omega (arith, few)
    by false few = omega (arith, few)

-- with one port more, the count of its event is one more, and the counts of others are the same
pub counted_more : (ports : List SigPort) (at : ℕ) (port : SigPort) (places : List ℕ) (e n : ℕ) → slice_get ports at ≡ Some port → port.from.event ≡ e → e < length places → get_or places n 0 ≡ length (ports_after n (take at ports)) → get_or (set places e (get_or places e 0 + 1)) n 0 ≡ length (ports_after n (take (at + 1) ports))
counted_more ports at port places e n is of_event within counted =
    let test : SigPort → Bool = λ (p : SigPort). p.from.event == n in
    let inside : at < length ports = slice_get_within ports at port is in
    let here : get_or ports at port ≡ port = get_or_from_slice_get ports at port port is in
    let more : length (ports_after n (take (at + 1) ports)) ≡ length (ports_after n (take at ports)) + cond (port.from.event == n) 1 0 =
    length-filter_more test ports at port inside ∙ ap (λ (p : SigPort). length (ports_after n (take at ports)) + cond (p.from.event == n) 1 0) here in
    elim (cases_eq n e) [
      | inl same ↦
          let yes : (port.from.event == n) ≡ true = eq_true port.from.event n (of_event ∙ sym same) in
          ap (λ j. get_or (set places e (get_or places e 0 + 1)) j 0) same ∙ set_at places e (get_or places e 0 + 1) within
          ∙ ap (λ j. get_or places j 0 + 1) (sym same) ∙ ap (λ c. c + 1) counted ∙ ap (λ b. length (ports_after n (take at ports)) + cond b 1 0) (sym yes) ∙ sym more
      | inr other ↦
          let never : (port.from.event == n) ≡ false = eq_false port.from.event n (λ same. other (sym same ∙ of_event)) in
          get_or-set_other places e n (get_or places e 0 + 1) 0 other ∙ counted ∙ sym (add-zero (length (ports_after n (take at ports))))
          ∙ ap (λ b. length (ports_after n (take at ports)) + cond b 1 0) (sym never) ∙ sym more
    ]
