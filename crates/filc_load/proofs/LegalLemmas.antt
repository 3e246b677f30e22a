-- Transactions that are legal for the signature of a component are legal for the component.
use Rattle.std.proofs.Common.{◌≡◌, ℕ, suc, ◌+◌, ◌<◌, ◌≤◌, ◌++◌, List, [], ◌∷◌, length, map, get_or, slice_get, All, Some, refl, sym, ap, ap₂, subst, ◌∙◌, arith, ⊎_elim}
use Rattle.std.specs.Option.{option_map_or}
use Rattle.std.specs.Prelude.{AllPairs, option_map}
use Rattle.std.proofs.lemmas.Bool.{cases_lt}
use Rattle.std.proofs.lemmas.List.{get_or-map, length-map}
use Rattle.std.proofs.lemmas.Option.{slice_get-get_or, slice_get-map, same_Some}
use Rattle.hw_names.specs.Name.{AreDistinct}
use Rattle.fil_ast.specs.Holds.{Start, AreLegalStarts}
use Rattle.fil_ast.specs.Holds as held
use Rattle.fil_ast.specs.Signature.{component_signature, sig_event}
use Rattle.fil_ast.specs.Tree.{Event, Component}
use Rattle.fil_ast.specs.declared.tx.Tx.{Tx}
use Rattle.fil_share.specs.Uses.{listed_start, starts_of}
use Rattle.net_sim.proofs.GiverLemmas.{at_some}
use Rattle.stim_read.specs.Fits.{AreLegal}
use Rattle.stim_read.specs.Fits as fits
use Rattle.stim_read.specs.TxRun.{transaction_seen}
use Rattle.filc_load.specs.Built.{FitsComponent}
use Rattle.filc_load.specs.StimulusFile.{event_name}
use Rattle.filc_load.proofs.TransactionLemmas.{names_of, name_is}

-- of two elements of a list, what a function gives
of_mapped : {X Y : Type 0} (R : Y → Y → Type 0) (f : X → Y) (xs : List X) (i j : ℕ) (x : X) (y : Y) → i < length xs → j < length xs → R (f (get_or xs i x)) (f (get_or xs j x)) → R (get_or (map f xs) i y) (get_or (map f xs) j y)
of_mapped R f xs i j x y first last holds =
    subst (λ b. R (get_or (map f xs) i y) b) (sym (get_or-map f xs j x y last)) (subst (λ a. R a (f (get_or xs j x))) (sym (get_or-map f xs i x y first)) holds)

to_mapped : {X Y : Type 0} (R : Y → Y → Type 0) (f : X → Y) (xs : List X) (i j : ℕ) (x : X) (y : Y) → i < length xs → j < length xs → R (get_or (map f xs) i y) (get_or (map f xs) j y) → R (f (get_or xs i x)) (f (get_or xs j x))
to_mapped R f xs i j x y first last holds =
    subst (λ b. R (f (get_or xs i x)) b) (get_or-map f xs j x y last) (subst (λ a. R a (get_or (map f xs) j y)) (get_or-map f xs i x y first) holds)

-- when a transaction starts
abbrev start_seen : Component → Tx → Start
start_seen c tx = record { event = event_name c tx.event; row = tx.start }

start_here : (c : Component) (tx : Tx) (e : Event) → slice_get c.events tx.event ≡ Some e → listed_start (held.start_of c tx) ≡ start_seen c tx ∷ []
start_here c tx e at =
    ap (λ o. listed_start (option_map (λ (d : Event). record { event = d.name; row = tx.start }) o)) at
    ∙ ap (λ name. record { event = name; row = tx.start } ∷ []) (sym (ap (λ o. option_map_or (λ (d : Event). d.name) o []) at))

-- each transaction starts once
starts_are : (c : Component) (txs : List Tx) → All (FitsComponent c) txs → starts_of c txs ≡ map (start_seen c) txs
starts_are c [] fit = refl
starts_are c (tx ∷ txs) fit =
    let event = at_some c.events tx.event (fit 0 tx (omega arith)).event in
    ap₂ ◌++◌ (start_here c tx event.0 event.1) (starts_are c txs (λ k d within. fit (suc k) d (omega (arith, within))))

-- events of a component have names of their own, and delays of a row or more
module _ (c : Component) (named : AreDistinct (names_of c.events)) (delays : All (λ (e : Event). 1 ≤ e.delay) c.events) where
  -- two numbers of one name are one
  one_event : (k m : ℕ) → k < length c.events → m < length c.events → event_name c k ≡ event_name c m → k ≡ m
  one_event k m here there same =
      let name : get_or (names_of c.events) k [] ≡ get_or (names_of c.events) m [] = sym (name_is c k) ∙ same ∙ name_is c m in
      let count = length-map c.events (λ (e : Event). e.name) in
      ⊎_elim (λ before. absurd (named k m [] before (omega (arith, there, count)) name))
      (λ late. ⊎_elim (λ after. absurd (named m k [] after (omega (arith, here, count)) (sym name))) (λ early. omega (arith, late, early)) (cases_lt m k)) (cases_lt k m)

  start_follows : (first second : Tx) → first.event < length c.events → second.event < length c.events → fits.Follows (component_signature c) (transaction_seen first) (transaction_seen second) → held.Follows c (start_seen c first) (start_seen c second)
  start_follows first second here there follows same =
      let at = at_some c.events first.event here in
      let event = at.0 in
      let number = one_event first.event second.event here there same in
      let in_signature = slice_get-map (sig_event c.interfaces) c.events first.event ∙ ap (option_map (sig_event c.interfaces)) at.1 in
      let apart : first.start + event.delay ≤ second.start = follows number (sig_event c.interfaces event) event.delay in_signature refl in
      let here_is : get_or c.events first.event event ≡ event = same_Some _ _ (sym (slice_get-get_or c.events first.event event here) ∙ at.1) in
      let long : 1 ≤ event.delay = subst (λ (e : Event). 1 ≤ e.delay) here_is (delays first.event event here) in (
        omega (arith, apart, long),
        λ e has is.
            let its_name : event_name c has.0 ≡ e.name = name_is c has.0 ∙ get_or-map (λ (d : Event). d.name) c.events has.0 e [] has.1 ∙ ap (λ (d : Event). d.name) has.2 in
            let its_number : has.0 ≡ first.event = one_event has.0 first.event has.1 here (its_name ∙ is) in
            let its_place : slice_get c.events has.0 ≡ Some e = slice_get-get_or c.events has.0 e has.1 ∙ ap Some has.2 in
            let same_event : event ≡ e = same_Some event e (sym at.1 ∙ ap (slice_get c.events) (sym its_number) ∙ its_place) in
            subst (λ (d : Event). first.start + d.delay ≤ second.start) same_event apart,
      )

  pub legal_starts : (txs : List Tx) → All (FitsComponent c) txs → AreLegal (component_signature c) (map transaction_seen txs) → AreLegalStarts c (starts_of c txs)
  legal_starts txs fit legal =
      let pairs : AllPairs (held.Follows c) (map (start_seen c) txs) = λ i j d before within.
      let last : j < length txs = omega (arith, within, length-map txs (start_seen c)) in
      let first : i < length txs = omega (arith, before, last) in
      let x = (at_some txs i first).0 in
      let seen = to_mapped (fits.Follows (component_signature c)) transaction_seen txs i j x (transaction_seen x) first last
      (legal i j (transaction_seen x) before (omega (arith, last, length-map txs transaction_seen))) in
      of_mapped (held.Follows c) (start_seen c) txs i j x d first last
      (start_follows (get_or txs i x) (get_or txs j x) (fit i x first).event (fit j x last).event seen) in
      subst (AreLegalStarts c) (sym (starts_are c txs fit)) pairs
