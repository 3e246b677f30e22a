-- What the outputs of a soak's run add up to is what its transactions compute.
use Rattle.std.proofs.Common.{◌≡◌, ◌≢◌, ℕ, zero, suc, ◌+◌, ◌-◌, ◌<◌, ◌≤◌, ◌^◌, Bool, true, false, eqb, List, [], ◌∷◌, length, map, get_or, All, Option, None, Some, refl, sym, ap, ap₂, subst, ◌∙◌, arith, ⊎_elim}
use Rattle.std.specs.List.{fold, sum_by}
use Rattle.std.specs.Option.{option_map_or}
use Rattle.std.specs.Prelude.{Contains, filter, max, min, slice_get}
use Rattle.std.proofs.lemmas.Bool.Decides.{eqb_tells}
use Rattle.std.proofs.lemmas.List.Sums.{sum_by-cons}
use Rattle.std.proofs.lemmas.Option.{same_Some}
use Rattle.hw_prims.specs.Row.{Trace}
use Rattle.net_core.specs.NetRun.{net_circuit}
use Rattle.net_core.specs.Netlist.{Netlist}
use Rattle.fil_ast.specs.Behaviours.{event_named, transaction_on}
use Rattle.fil_ast.specs.Rules.{FilRules}
use Rattle.fil_ast.specs.Signature.{SigPort, component_signature, sig_port}
use Rattle.fil_ast.specs.Transactions.{is_of_event}
use Rattle.fil_ast.specs.Tree.{DataPort}
use Rattle.fil_ast.specs.declared.tx.Tx.{Tx}
use Rattle.fil_ast.specs.declared.tx.TxList.{TxList}
use Rattle.fil_driven.proofs.DriveLemmas.{covered_is, covered_so}
use Rattle.fil_driven.proofs.ListLemmas.{find_some}
use Rattle.fil_driven.proofs.ShownLemmas.{value_is}
use Rattle.fil_driven.specs.Laws.{AreTransactionsOf, IsTransactionOf}
use Rattle.fil_driven.specs.Shown.{computed}
use Rattle.fil_driven.specs.TxDrive.{covering, covers}
use Rattle.fil_promise.specs.Refines.{CarriesList, Refines}
use Rattle.stim_read.specs.TxEvents.{Event, events_of}
use Rattle.stim_read.specs.TxRun.{Transaction, TxRun, end_row, transaction_seen, tx_run_seen}
use Rattle.filc_report.specs.Sums.{due_in, over_rows}
use Rattle.filc_run.specs.Soaked.{soak, soak_design, soak_out, soak_rows, soak_run, soak_transactions}
use Rattle.filc_run.proofs.DueLemmas.{Rise, all_due, due, over}
use Rattle.filc_run.proofs.SoakListLemmas.{AreSoaked, soak_soaked, soaked_legal}
use Rattle.filc_run.proofs.SoakTextLemmas.{top_number}

-- ---- the component

-- the component whose netlist this is is the pipeline
pub soak_number : (n : Netlist) (refines : Refines soak_design n) → refines.number ≡ 1
soak_number n refines = top_number refines.number refines.is_top

pub soak_here : (n : Netlist) (refines : Refines soak_design n) → refines.c ≡ soak
soak_here n refines =
    let there : slice_get soak_design 1 ≡ Some refines.c = sym (ap (slice_get soak_design) (soak_number n refines)) ∙ refines.at in
    sym (same_Some soak refines.c there)

abbrev out_port : SigPort
out_port = sig_port soak.events soak_out

-- ---- the transactions

each_soaked : (txs : List Tx) (from last : ℕ) → last ≤ 1000000 → AreSoaked from last (map transaction_seen txs) → All (IsTransactionOf soak) txs
each_soaked [] from last few are = λ k d within. absurd (omega arith)
each_soaked (tx ∷ txs) from last few are = λ k. elim k as (λ k. (d : Tx) → k < length (tx ∷ txs) → IsTransactionOf soak (get_or (tx ∷ txs) k d)) [
  | zero ↦ λ d within.
      let first : tx.event ≡ 0 = are.2 in
      let event : tx.event < 1 = omega (arith, first) in
      let early : tx.start ≤ last = are.1 in
      let start : tx.start ≤ 1000000 = omega (arith, early, few) in
      record {
        event = event;
        start = start;
        widths = are.3 ∙ ap (λ (k : ℕ). map (λ (p : DataPort). p.width) (filter (is_of_event (event_named soak k)) soak.ins)) (sym are.2);
      }
  | suc k ↦ λ d within. each_soaked txs (tx.start + 1) last few are.4 k d (omega arith)
]

pub soak_are : (count : ℕ) (list : TxList) → count ≤ 100000 → tx_run_seen list ≡ soak_run count → AreTransactionsOf soak list
soak_are count list few is =
    let are : AreSoaked 0 200000 (map transaction_seen list.txs.items) = subst (AreSoaked 0 200000) (sym (ap (λ (run : TxRun). run.transactions) is)) (soak_soaked count few) in
    record { each = each_soaked list.txs.items 0 200000 (omega arith) are; legal = soaked_legal list.txs.items 0 200000 are }

-- ---- the rows in which an output is due

abbrev due_row : Transaction → ℕ
due_row t = t.start + 16

-- a transaction's output is due in one row
covers_one : (s : Transaction) → s.event ≡ 0 → (t : ℕ) → covers out_port t s ≡ eqb t (due_row s)
covers_one s first t =
    ⊎_elim
    (λ same.
    let at : t ≡ s.start + 16 = same.1 in
    let from : s.start + 16 ≤ t = omega (arith, at) in
    let to : t < s.start + 17 = omega (arith, at) in
    covered_is out_port t s (record { event = sym first; from = from; to = to }) ∙ sym same.0)
    (λ differ. by (covers out_port t s) refl differ.1 ∙ sym differ.0) (eqb_tells t (due_row s))
  where
    by : (b : Bool) → covers out_port t s ≡ b → t ≢ due_row s → b ≡ false
    by false is differ = refl
    by true is differ =
        let covered = covered_so out_port t s is in
        let from : s.start + 16 ≤ t = covered.from in
        let to : t < s.start + 17 = covered.to in
        let same : t ≡ s.start + 16 = omega (arith, from, to) in
        absurd (differ same)

-- these transactions end among so many rows
abbrev EndAmong : List Event → ℕ → List Transaction → Type 0
EndAmong events rows [] = Unit {0}
EndAmong events rows (t ∷ ts) = (end_row events t ≤ rows) × EndAmong events rows ts

abbrev last_end : List Event → ℕ → List Transaction → ℕ
last_end events first ts = fold (λ n t. max n (end_row events t)) first ts

from_first : (events : List Event) (first : ℕ) (ts : List Transaction) → first ≤ last_end events first ts
from_first events first [] = omega arith
from_first events first (t ∷ ts) = let later = from_first events (max first (end_row events t)) ts in omega (arith, later)

end_among : (events : List Event) (first rows : ℕ) (ts : List Transaction) → last_end events first ts ≤ rows → EndAmong events rows ts
end_among events first rows [] few = tt
end_among events first rows (t ∷ ts) few =
    let more = from_first events (max first (end_row events t)) ts in
    let all : last_end events (max first (end_row events t)) ts ≤ rows = few in
    (omega (arith, more, all), end_among events (max first (end_row events t)) rows ts all)

abbrev soak_events : List Event
soak_events = (events_of (component_signature soak)).events

-- its output is due in its last row
ends_in : (t : Transaction) → t.event ≡ 0 → end_row soak_events t ≡ t.start + 17
ends_in t first = ap (λ (k : ℕ). end_row soak_events (record { event = k; start = t.start; values = t.values; widths = t.widths })) first

rise_so : (from last whole : ℕ) (ts : List Transaction) → last ≤ 1000000 → AreSoaked from last ts → EndAmong soak_events whole ts
    → Rise (covers out_port) due_row (computed soak_design soak soak_out) (from + 16) (min whole (2 ^ 64 - 1)) ts
rise_so from last whole [] few are end = tt
rise_so from last whole (t ∷ ts) few are end =
    let last_row : t.start + 17 ≤ whole = omega (arith, end.0, ends_in t are.2) in
    let later : Rise (covers out_port) due_row (computed soak_design soak soak_out) (due_row t + 1) (min whole (2 ^ 64 - 1)) ts =
    subst (λ (row : ℕ). Rise (covers out_port) due_row (computed soak_design soak soak_out) row (min whole (2 ^ 64 - 1)) ts) (let e : t.start + 1 + 16 ≡ t.start + 16 + 1 = omega arith in e) (rise_so (t.start + 1) last whole ts few are.4 end.1) in
    let low : from + 16 ≤ t.start + 16 = omega (arith, are.0) in
    let high : t.start + 16 < min whole (2 ^ 64 - 1) = omega (arith, last_row, are.1, few) in
    (covers_one t are.2, low, high, later)

rise_all : (count : ℕ) → count ≤ 100000 → Rise (covers out_port) due_row (computed soak_design soak soak_out) 16 (soak_rows count) (soak_transactions count)
rise_all count few =
    let ts = soak_transactions count in
    rise_so 0 200000 (last_end soak_events 0 ts) ts (omega arith) (soak_soaked count few) (end_among soak_events 0 (last_end soak_events 0 ts) ts (omega arith))

-- ---- the sum

module _ (n : Netlist) (refines : Refines soak_design n) (rules : FilRules soak_design) (list : TxList) (are : AreTransactionsOf soak list) (asked height : ℕ) (trace : Trace) (carries : CarriesList soak_design 1 (net_circuit n) (map (transaction_on soak) list.txs.items) asked height trace) where
  abbrev seen : List Transaction
  seen = map transaction_seen list.txs.items

  -- an output that is due is what its transaction computes
  due_is : (row : ℕ) → row < height → option_map_or (λ (t : Transaction). trace row soak_out.name) (covering out_port row seen) 0 ≡ option_map_or (computed soak_design soak soak_out) (covering out_port row seen) 0
  due_is row within = by (covering out_port row seen) refl
    where
      by : (o : Option Transaction) → covering out_port row seen ≡ o → option_map_or (λ (t : Transaction). trace row soak_out.name) o 0 ≡ option_map_or (computed soak_design soak soak_out) o 0
      by None is = refl
      by (Some s) is =
          let t = find_some (covers out_port row) transaction_seen list.txs.items s is in
          let has : Contains soak.outs soak_out = (0, omega arith, refl) in
          value_is soak_design 1 soak rules refl n list are asked height trace carries row within soak_out has t.0 t.1 (covered_so out_port row (transaction_seen t.0) t.3)
          ∙ ap (computed soak_design soak soak_out) t.2

  rows_due : (t : ℕ) → t ≤ height → over_rows (due_in (component_signature soak).outs seen) trace t ≡ over (due (covers out_port) due_row (computed soak_design soak soak_out) seen) t
  rows_due zero within = refl
  rows_due (suc t) within =
      let value : SigPort → ℕ = λ (p : SigPort). option_map_or (λ (s : Transaction). trace t p.name) (covering p t seen) 0 in
      let alone : value out_port + 0 ≡ value out_port = omega arith in
      let one : sum_by value (out_port ∷ []) ≡ value out_port = sum_by-cons value out_port [] ∙ alone in
      ap₂ ◌+◌ (rows_due t (omega arith)) (one ∙ due_is t (omega arith))

-- what is due over all rows is what the transactions compute
pub due_computed : (n : Netlist) (refines : Refines soak_design n) → FilRules soak_design → (count : ℕ) → count ≤ 100000 → (list : TxList) → tx_run_seen list ≡ soak_run count → (trace : Trace)
    → CarriesList soak_design 1 (net_circuit n) (map (transaction_on soak) list.txs.items) (soak_rows count) (soak_rows count) trace
    → over_rows (due_in (component_signature soak).outs (soak_transactions count)) trace (soak_rows count) ≡ sum_by (computed soak_design soak soak_out) (soak_transactions count)
due_computed n refines rules count few list is trace carries =
    let value = computed soak_design soak soak_out in
    let same : map transaction_seen list.txs.items ≡ soak_transactions count = ap (λ (run : TxRun). run.transactions) is in
    ap (λ (ts : List Transaction). over_rows (due_in (component_signature soak).outs ts) trace (soak_rows count)) (sym same)
    ∙ rows_due n refines rules list (soak_are count list few is) (soak_rows count) (soak_rows count) trace carries (soak_rows count) (omega arith)
    ∙ ap (λ (ts : List Transaction). over (due (covers out_port) due_row value ts) (soak_rows count)) same
    ∙ all_due (covers out_port) due_row value 16 (soak_rows count) (soak_transactions count) (rise_all count few)
