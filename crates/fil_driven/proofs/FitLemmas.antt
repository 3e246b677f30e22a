-- A component's transactions fit its signature.
use Rattle.std.proofs.Common.{◌≡◌, ℕ, ◌<◌, ◌==◌, Bool, true, false, cond, List, [], ◌∷◌, ◌++◌, map, filter, get_or, slice_get, All, Some, option_map, refl, sym, ap, subst, ◌∙◌, arith}
use Rattle.std.specs.Prelude.{AllPairs}
use Rattle.std.specs.Str.{bytes_eq}
use Rattle.std.proofs.lemmas.List.{length-map}
use Rattle.std.proofs.lemmas.List.Elements.{All-head, All-map, All-tail, All-weaker}
use Rattle.std.proofs.lemmas.List.Kept.{AllPairs-cons}
use Rattle.std.proofs.lemmas.Option.{same_Some, slice_get-map}
use Rattle.std.proofs.lemmas.Simd.{map-map}
use Rattle.hw_names.specs.Name.{Text}
use Rattle.fil_ast.specs.Behaviours.{event_named}
use Rattle.fil_ast.specs.Holds as holds
use Rattle.fil_ast.specs.Holds.{Start, start_of}
use Rattle.fil_ast.specs.Signature.{Fixed, SigEvent, SigPort, component_signature, event_number, sig_event, sig_port}
use Rattle.fil_ast.specs.Transactions.{is_of_event}
use Rattle.fil_ast.specs.Tree.{Event, DataPort, Component}
use Rattle.fil_ast.specs.declared.tx.Tx.{Tx}
use Rattle.fil_sig.proofs.ListLemmas.{All-unmap}
use Rattle.fil_share.specs.Carried.{IsOfEvent}
use Rattle.fil_share.specs.Uses.{listed_start, starts_of}
use Rattle.fil_share.proofs.ListLemmas.{AllPairs-head, AllPairs-tail, Contains-at}
use Rattle.fil_share.proofs.OwnLemmas.{no_event}
use Rattle.stim_read.specs.Fits as fits
use Rattle.stim_read.specs.Fits.{AreLegal, FitsSignature}
use Rattle.stim_read.specs.TxEvents.{HasFixedDelay, ports_after}
use Rattle.stim_read.specs.TxRun.{transaction_seen}
use Rattle.fil_driven.specs.Laws.{IsTransactionOf, TransactionsFit}
use Rattle.fil_driven.proofs.EventLemmas.{event_at, name_is, own_event}

-- ---- ports of an event

module _ (events : List Event) (k : ℕ) (event : Text) (same : (name : Text) → (event_number events name == k) ≡ bytes_eq name event) where
  ports_are : (ports : List DataPort) → ports_after k (map (sig_port events) ports) ≡ map (sig_port events) (filter (is_of_event event) ports)
  ports_are [] = refl
  ports_are (p ∷ ports) =
      ap (λ b. cond b (sig_port events p ∷ ports_after k (map (sig_port events) ports)) (ports_after k (map (sig_port events) ports))) (same p.from.event)
      ∙ by (is_of_event event p) (ports_are ports)
    where
      by : (b : Bool) → ports_after k (map (sig_port events) ports) ≡ map (sig_port events) (filter (is_of_event event) ports)
          → cond b (sig_port events p ∷ ports_after k (map (sig_port events) ports)) (ports_after k (map (sig_port events) ports))
          ≡ map (sig_port events) (cond b (p ∷ filter (is_of_event event) ports) (filter (is_of_event event) ports))
      by true rest = ap (λ (ps : List SigPort). sig_port events p ∷ ps) rest
      by false rest = rest

  widths_are : (ports : List DataPort) → map (λ (p : SigPort). p.width) (ports_after k (map (sig_port events) ports)) ≡ map (λ (p : DataPort). p.width) (filter (is_of_event event) ports)
  widths_are ports =
      ap (map (λ (p : SigPort). p.width)) (ports_are ports) ∙ map-map (λ (p : SigPort). p.width) (sig_port events) (filter (is_of_event event) ports)

-- ---- starts

-- when the transaction starts
abbrev start_on : Component → Tx → Start
start_on c tx = record { event = event_named c tx.event; row = tx.start }

start_is : (c : Component) (tx : Tx) → IsOfEvent c tx → start_of c tx ≡ Some (start_on c tx)
start_is c tx within =
    let at = event_at c tx within in
    let named = name_is c tx.event (get_or c.events tx.event no_event) at in
    let started : Text → Start = λ name. record { event = name; row = tx.start } in
    ap (option_map (λ (e : Event). started e.name)) at ∙ ap (λ name. Some (started name)) (sym named)

starts_are : (c : Component) (txs : List Tx) → All (IsOfEvent c) txs → starts_of c txs ≡ map (start_on c) txs
starts_are c [] all = refl
starts_are c (tx ∷ txs) all =
    ap (λ o. listed_start o ++ starts_of c txs) (start_is c tx (All-head (IsOfEvent c) tx txs all))
    ∙ ap (λ (ss : List Start). start_on c tx ∷ ss) (starts_are c txs (All-tail (IsOfEvent c) tx txs all))

follows_two : (c : Component) (a b : Tx) → IsOfEvent c a → holds.Follows c (start_on c a) (start_on c b) → fits.Follows (component_signature c) (transaction_seen a) (transaction_seen b)
follows_two c a b within follows same e rows at_e delay =
    let f = get_or c.events a.event no_event in
    let at = event_at c a within in
    let signed : slice_get (map (sig_event c.interfaces) c.events) a.event ≡ Some (sig_event c.interfaces f) = slice_get-map (sig_event c.interfaces) c.events a.event ∙ ap (option_map (sig_event c.interfaces)) at in
    let fixed : Fixed f.delay ≡ Fixed rows = ap (λ (x : SigEvent). x.delay) (same_Some (sig_event c.interfaces f) e (sym signed ∙ at_e)) ∙ delay in
    let long : f.delay ≡ rows = cc in
    let later = (follows (ap (event_named c) same)).1 f (Contains-at c.events a.event f at) (sym (name_is c a.event f at)) in
    omega (arith, later, long)

follow_all : (c : Component) (txs : List Tx) → All (IsOfEvent c) txs → AllPairs (holds.Follows c) (map (start_on c) txs) → AreLegal (component_signature c) (map transaction_seen txs)
follow_all c [] all pairs = λ i j d less within. absurd (omega arith)
follow_all c (tx ∷ txs) all pairs =
    let R = fits.Follows (component_signature c) in
    let here = transaction_seen tx in
    let follow = All-unmap (holds.Follows c (start_on c tx)) (start_on c) txs (AllPairs-head (holds.Follows c) (start_on c tx) (map (start_on c) txs) pairs) in
    AllPairs-cons R here (map transaction_seen txs)
    (All-map (R here) transaction_seen txs
    (λ k d within. follows_two c tx (get_or txs k d) (All-head (IsOfEvent c) tx txs all) (follow k d within)))
    (follow_all c txs (All-tail (IsOfEvent c) tx txs all) (AllPairs-tail (holds.Follows c) (start_on c tx) (map (start_on c) txs) pairs))

pub transactions_fit : TransactionsFit
transactions_fit comps n c list rules there are =
    let txs = list.txs.items in
    let all : All (IsOfEvent c) txs = All-weaker (IsTransactionOf c) (IsOfEvent c) (λ tx is. is.event) txs are.each in
    let P : List Start → Type 0 = AllPairs (holds.Follows c) in
    record {
      fixed = All-map HasFixedDelay (sig_event c.interfaces) c.events (λ k d within. tt);
      each = λ k d within.
          (let tx = get_or txs k d in
          let is = are.each k d within in
          record {
            event = subst (λ (m : ℕ). tx.event < m) (sym (length-map c.events (sig_event c.interfaces))) is.event;
            start = is.start;
            widths = is.widths ∙ sym (widths_are c.events tx.event (event_named c tx.event) (own_event comps n c rules there tx is.event) c.ins);
          });
      legal = follow_all c txs all (subst P (starts_are c txs all) are.legal);
    }
