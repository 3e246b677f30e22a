-- What a text of transactions says of its entries, and what the events of a signature are.
use Rattle.std.proofs.Common.{◌≡◌, ℕ, zero, suc, ◌+◌, ◌-◌, ◌*◌, ◌^◌, ◌<◌, ◌≤◌, ◌==◌, ◌&&◌, Bool, true, false, nat_lt, List, [], ◌∷◌, length, map, get_or, All, codes, Option, Some, None, Result, Ok, Err, IfOk, IfErr, refl, sym, ap, subst, ◌∙◌, arith}
use Rattle.std.proofs.lemmas.Bool.{ltb-true, and_parts}
use Rattle.std.proofs.lemmas.List.{length-map, get_or-map}
use Rattle.std.proofs.lemmas.List.Elements.{All-map, All-filter}
use Rattle.std.proofs.lemmas.Option.{same_Some}
use Rattle.hw_bits.specs.declared.bits.TheConstants.{MAX_WIDTH}
use Rattle.serde_json.specs.Data.{Data}
use Rattle.serde_json.specs.Find.{get}
use Rattle.fil_ast.specs.Signature.{SigEvent, SigPort, Signature}
use Rattle.fil_ast.specs.declared.tx.TxList.{TxList}
use Rattle.stim_read.specs.Parts.{◌>>=◌, provided, each, items_in, is_object_of, number_at}
use Rattle.stim_read.specs.Amounts.{version_in}
use Rattle.stim_read.specs.CycleText.{givens_at}
use Rattle.stim_read.specs.TxText.{Starts, Transactions, once, repeat_keys, repeat_in, repeat_at, event_at, tx_keys, starts_fit, tx_entry_in, entries_in, idle_at, transactions_keys, transactions_in}
use Rattle.stim_read.specs.TxEvents.{EventList, ports_after, event_of, events_from, events_of}
use Rattle.stim_read.specs.CycleRun.{NoMemory}
use Rattle.stim_read.specs.TxRun.{tx_run_of, tx_run_seen, SayTransactions, GiveTransactions, NoJson, IsTxCause, NoTransactions, BrokenRule}
use Rattle.stim_read.specs.inside.TxWalk.{IsEntry, HasWidths, AreUsable, transactions_fault}
use Rattle.stim_read.specs.inside.Walk.{IsTold, Tells}
use Rattle.stim_read.specs.declared.amounts.Version.{Version}
use Rattle.stim_read.specs.declared.stim_end.StimEnd.{StimEnd}
use Rattle.stim_read.specs.declared.stim_end.StimEnd.TheVariants.{Refused, Limit, Memory}
use Rattle.stim_read.specs.declared.tx_text.Repeat.{Repeat}
use Rattle.stim_read.proofs.TxEventLemmas.{length_events}
use Rattle.stim_read.proofs.TxRuleLemmas.{transactions_kept, transactions_broken}

bind_some : {A B : Type 0} (o : Option A) (f : A → Option B) (y : B) → (o >>= f) ≡ Some y → (x : A) × (o ≡ Some x) × (f x ≡ Some y)
bind_some {A} {B} None f y h = let bad : ◌≡◌ {A = Option B} None (Some y) = h in absurd cc
bind_some {A} {B} (Some x) f y h = (x, refl, h)

provided_some : {A : Type 0} (b : Bool) (o : Option A) (y : A) → provided b o ≡ Some y → (b ≡ true) × (o ≡ Some y)
provided_some {A} false o y h = let bad : ◌≡◌ {A = Option A} None (Some y) = h in absurd cc
provided_some {A} true o y h = (refl, h)

all_cons : {A : Type 0} (P : A → Type 0) (y : A) (ys : List A) → P y → All P ys → All P (y ∷ ys)
all_cons P y ys here there zero d within = here
all_cons P y ys here there (suc i) d within = there i d (omega arith)

all_nil : {A : Type 0} (P : A → Type 0) → All P []
all_nil P i d within = absurd (omega arith)

each_all : {A B : Type 0} (f : A → Option B) (P : B → Type 0) → ((x : A) (y : B) → f x ≡ Some y → P y) → (xs : List A) (ys : List B) → each f xs ≡ Some ys → All P ys
each_all {A} {B} f P holds [] ys h = subst (λ (zs : List B). All P zs) (same_Some [] ys h) (all_nil P)
each_all {A} {B} f P holds (x ∷ xs) ys h =
    let a = bind_some (f x) (λ y. each f xs >>= λ zs. Some (y ∷ zs)) ys h in
    let b = bind_some (each f xs) (λ zs. Some (a.0 ∷ zs)) ys a.2 in
    subst (λ (zs : List B). All P zs) (same_Some (a.0 ∷ b.0) ys b.2) (all_cons P a.0 b.0 (holds x a.0 a.1) (each_all f P holds xs b.0 b.1))

repeat_some : (value : Data) (r : Repeat) → repeat_in value ≡ Some r → 0 < r.times
repeat_some value r h =
    let a = bind_some (provided (is_object_of repeat_keys value) (number_at (codes "times") value)) _ r h in
    let b = bind_some (number_at (codes "every") value) _ r a.2 in
    let p = provided_some (nat_lt 0 a.0 && nat_lt 0 b.0) _ r b.2 in
    subst (λ (x : Repeat). 0 < x.times) (same_Some _ r p.1) (ltb-true 0 a.0 (and_parts (nat_lt 0 a.0) (nat_lt 0 b.0) p.0).0)

repeated_some : (o : Option Data) (r : Repeat) → repeat_at o ≡ Some r → 0 < r.times
repeated_some None r h = subst (λ (x : Repeat). 0 < x.times) (same_Some once r h) (omega arith)
repeated_some (Some value) r h = repeat_some value r h

entry_said : (version : Version) (value : Data) (e : Starts) → tx_entry_in version value ≡ Some e → IsEntry e
entry_said version value e h =
    let a = bind_some (provided (is_object_of (tx_keys version) value) (number_at (codes "start") value)) _ e h in
    let g = bind_some (givens_at version (codes "inputs") value) _ e a.2 in
    let r = bind_some (repeat_at (get (codes "repeat") value)) _ e g.2 in
    let v = bind_some (event_at (get (codes "event") value)) _ e r.2 in
    let p = provided_some (starts_fit a.0 r.0) _ e v.2 in
    subst IsEntry (same_Some _ e p.1) (record { some = repeated_some (get (codes "repeat") value) r.0 r.1; fits = ltb-true (a.0 + (r.0.times - 1) * r.0.every) (2 ^ 64) p.0 })

-- each entry stands for a start, and its last start is below 2 ^ 64
pub entries_said : (value : Data) (t : Transactions) → transactions_in value ≡ Some t → All IsEntry t.entries
entries_said value t h =
    let a = bind_some (provided (is_object_of transactions_keys value) (version_in value)) _ t h in
    let b = bind_some (entries_in a.0 value) _ t a.2 in
    let i = bind_some (idle_at a.0 (get (codes "idle") value)) _ t b.2 in
    let ds = bind_some (get (codes "transactions") value >>= items_in) (each (tx_entry_in a.0)) b.0 b.1 in
    subst (λ (x : Transactions). All IsEntry x.entries) (same_Some _ t i.2) (each_all (tx_entry_in a.0) IsEntry (entry_said a.0) ds.0 b.0 ds.2)

pub mapped_hold : {X Y : Type 0} (f : X → Y) (P : Y → Type 0) (xs : List X) (i : ℕ) (x : X) → All P (map f xs) → i < length xs → x ≡ get_or xs i x → P (f x)
mapped_hold f P xs i x all within is = subst P (get_or-map f xs i x (f x) within ∙ ap f (sym is)) (all i (f x) (omega (arith, length-map xs f, within)))

-- ---- events

abbrev HasWidth : SigPort → Type 0
HasWidth p = (1 ≤ p.width) × (p.width ≤ MAX_WIDTH)

module _ (sig : Signature) (widths : All HasWidth sig.ins) where
  event_widths : (n : ℕ) (e : SigEvent) → HasWidths (event_of sig n e)
  event_widths n e =
      let ports = ports_after n sig.ins in
      record {
        paired = length-map ports (λ (p : SigPort). p.name) ∙ sym (length-map ports (λ (p : SigPort). p.width));
        widths = All-map (λ (w : ℕ). (1 ≤ w) × (w ≤ MAX_WIDTH)) (λ (p : SigPort). p.width) ports (All-filter (λ (p : SigPort). p.from.event == n) HasWidth sig.ins widths);
      }

  events_widths : (n : ℕ) (es : List SigEvent) → All HasWidths (events_from sig n es)
  events_widths n [] = all_nil HasWidths
  events_widths n (e ∷ es) = all_cons HasWidths (event_of sig n e) (events_from sig (n + 1) es) (event_widths n e) (events_widths (n + 1) es)

  pub usable : length sig.events ≤ 256 → AreUsable (events_of sig)
  usable few = record {
    paired = length-map sig.events (λ (e : SigEvent). e.name) ∙ sym (length_events sig 0 sig.events);
    few = omega (arith, length_events sig 0 sig.events, few);
    widths = events_widths 0 sig.events;
  }

pub gives_transactions : (bytes : List ℕ) (ev wanted : EventList) (t : Transactions) (r : Result TxList StimEnd) → ev ≡ wanted → SayTransactions bytes t → Tells r (transactions_fault ev t) → IfOk r (λ list. tx_run_seen list ≡ tx_run_of ev t)
    → IfOk r (λ list. GiveTransactions bytes wanted (tx_run_seen list))
gives_transactions bytes ev wanted t (Ok list) same said told run =
    record { stimulus = t; said = said; kept = transactions_kept wanted t (subst (λ (v : EventList). transactions_fault v t ≡ None) same told); gives = run ∙ ap (λ v. tx_run_of v t) same }
gives_transactions bytes ev wanted t (Err e) same said told run = tt

told_tx_cause : (bytes : List ℕ) (events : EventList) (t : Transactions) (end : StimEnd) → SayTransactions bytes t → IsTold end (transactions_fault events t) → IsTxCause bytes events end
told_tx_cause bytes events t (Refused rule entry first second delay) said told =
    BrokenRule t (Refused rule entry first second delay) said (transactions_broken events t (Refused rule entry first second delay) told)
told_tx_cause bytes events t (Limit count limit cycles) said told = BrokenRule t (Limit count limit cycles) said (transactions_broken events t (Limit count limit cycles) told)
told_tx_cause bytes events t Memory said told = NoTransactions Memory (NoJson Memory NoMemory)

pub tells_tx_cause : (bytes : List ℕ) (ev wanted : EventList) (t : Transactions) (r : Result TxList StimEnd) → ev ≡ wanted → SayTransactions bytes t → Tells r (transactions_fault ev t) → IfErr r (IsTxCause bytes wanted)
tells_tx_cause bytes ev wanted t (Ok list) same said told = tt
tells_tx_cause bytes ev wanted t (Err e) same said told = told_tx_cause bytes wanted t e said (subst (λ (v : EventList). IsTold e (transactions_fault v t)) same told)
