-- What transactions give to the inputs of a netlist that has the ports of their signature.
use Rattle.std.proofs.Common.{◌≡◌, ◌⊎◌, ℕ, zero, suc, ◌+◌, ◌<◌, ◌≤◌, ◌%◌, ◌^◌, Bool, true, false, cond, if◌then◌else◌, List, [], ◌∷◌, ◌++◌, length, map, take, get_or, Option, None, Some, refl, sym, ap, ap₂, subst, ◌∙◌, arith, inl, inr, ⊎_elim, length-append}
use Rattle.std.specs.Prelude.{slice_get, filter, find, ◌==◌, ◌&&◌, ◌||◌, bytes_eq, IsSome}
use Rattle.std.specs.List.{list_any}
use Rattle.std.specs.Option.{option_map, option_map_or}
use Rattle.std.proofs.Math.ListN.{get_or-append}
use Rattle.std.proofs.lemmas.Bool.{cases_lt}
use Rattle.std.proofs.lemmas.Bool.Decides.{eqb_tells}
use Rattle.std.proofs.lemmas.List.{length-map, get_or-map, map-append}
use Rattle.std.proofs.lemmas.Option.{same_Some, slice_get-map, slice_get-get_or, slice_get_within, get_or_from_slice_get}
use Rattle.std.proofs.lemmas.Simd.{map-map}
use Rattle.std.proofs.lemmas.Slice.Eq.{bytes_eq-Decides}
use Rattle.hw_bits.specs.Values.{values_of, widths_of}
use Rattle.hw_bits.specs.declared.bits.Bits.{Bits}
use Rattle.hw_names.specs.Name.{Text, AreDistinct}
use Rattle.hw_prims.specs.Table.{Pin, pin_names}
use Rattle.net_core.specs.Netlist.{Netlist}
use Rattle.net_core.specs.Rules.{ports_of, IsValid}
use Rattle.net_core.proofs.ValidLemmas.{port_names_are_distinct}
use Rattle.fil_ast.specs.Signature.{Delay, Fixed, Gap, End, SigEvent, SigPort, Signature}
use Rattle.fil_ast.specs.declared.tx.Tx.{Tx}
use Rattle.fil_ast.specs.declared.tx.TxList.{TxList}
use Rattle.stim_read.specs.TxEvents.{ports_after, IsFixed}
use Rattle.stim_read.specs.TxRun.{Transaction, transaction_seen, tx_run_seen}
use Rattle.fil_sig.specs.Seen.{seen}
use Rattle.net_sim.proofs.ValidLemmas.{slice_get-append_right}
use Rattle.filc_load.proofs.ListLemmas.{distinct_front, distinct_back}
use Rattle.filc_report.specs.Driving.{txs_of, FitsDrive, value_given, value_in, GivesValue, AreTransactionsFor, DrivesPin, IsInterface, IsDataInput}
use Rattle.fil_driven.specs.TxDrive.{port_pin, HasPortsOf}
use Rattle.filc_report.specs.Intervals.{port_interval, lies_in, holding, RiseByEvent}
use Rattle.fil_driven.specs.TxDrive.{value_at, given_value, input_in, starts_in, go_in, event_with, input_named, driven_by}
use Rattle.filc_report.specs.declared.drive.Drive.{Drive}
use Rattle.filc_report.specs.declared.drive.Drive.TheVariants.{Cycles, Txs}
use Rattle.filc_report.specs.declared.intervals.Interval.{Interval}
use Rattle.filc_report.specs.declared.tx_inputs.Gives.TheVariants.{Start, Value}
use Rattle.filc_report.specs.declared.tx_inputs.TxInput.{TxInput}
use Rattle.filc_report.proofs.IntervalLemmas.{lies_there, later_not, over_not, event_of_lying}
use Rattle.filc_report.proofs.PortLemmas.{port_names, pin_texts, inner_names, names_of_ports}
use Rattle.filc_report.proofs.StandLemmas.{apart}
use Rattle.filc_report.proofs.TxInputLemmas.{eq_true}

-- ---- the starts of an event rise

fixed_rows : (d : Delay) → IsFixed d → (rows : ℕ) × (d ≡ Fixed rows)
fixed_rows (Fixed rows) is = (rows, refl)
fixed_rows Gap is = absurd is
fixed_rows End is = absurd is

pub rises : (n : Netlist) (sig : Signature) (list : TxList) → AreTransactionsFor n sig list → RiseByEvent list.txs.items
rises n sig list are i j d before within same =
    let txs = list.txs.items in
    let a = get_or txs i d in
    let early : i < length txs = omega arith in
    let known : a.event < length sig.events = (are.fit i d early).event in
    let e : SigEvent = record { name = []; delay = Gap; go = None } in
    let at = slice_get-get_or sig.events a.event e known in
    let rows = fixed_rows (get_or sig.events a.event e).delay (are.fixed a.event e known) in
    let seen_at : (k : ℕ) → k < length txs → get_or (map transaction_seen txs) k (transaction_seen d) ≡ transaction_seen (get_or txs k d) = λ k inside. get_or-map transaction_seen txs k d (transaction_seen d) inside in
    let apart_so = are.legal i j (transaction_seen d) before (omega (arith, within, length-map txs transaction_seen)) in
    let first = seen_at i early in let second = seen_at j within in
    let gap : a.start + rows.0 ≤ (get_or txs j d).start =
    subst (λ (t : Transaction). a.start + rows.0 ≤ t.start) second
    (subst (λ (t : Transaction). t.start + rows.0 ≤ (get_or (map transaction_seen txs) j (transaction_seen d)).start) first
    (apart_so (ap (λ (t : Transaction). t.event) first ∙ same ∙ sym (ap (λ (t : Transaction). t.event) second)) (get_or sig.events a.event e) rows.0
    (ap (λ (t : Transaction). slice_get sig.events t.event) first ∙ at) rows.1)) in
    omega (arith, gap)

-- ---- interface ports

abbrev start_interval : ℕ → Interval
start_interval event = record { event = event; from = 0; to = 1 }

starts_same : (event row : ℕ) (tx : Tx) → lies_in (start_interval event) row (transaction_seen tx) ≡ starts_in event row (transaction_seen tx)
starts_same event row tx = ⊎_elim
    (λ same. ⊎_elim
    (λ now. lies_there (start_interval event) row tx (sym same.1) (omega (arith, now.1)) (omega (arith, now.1)) ∙ sym (ap₂ (λ a b. a && b) same.0 now.0))
    (λ other. ⊎_elim
    (λ before. over_not (start_interval event) row tx (λ e. omega (arith, before)))
    (λ after. later_not (start_interval event) row tx (λ e. omega (arith, after, other.1)))
    (cases_lt tx.start row) ∙ sym (ap₂ (λ a b. a && b) same.0 other.0))
    (eqb_tells tx.start row))
    (λ other. later_not (start_interval event) row tx (λ e. absurd (other.1 (sym e))) ∙ sym (ap (λ a. a && tx.start == row) other.0))
    (eqb_tells tx.event event)

go_step : (here more : Bool) (t : Transaction) (o : Option Transaction) (idle width : ℕ) → value_given Start o idle width ≡ (if more then 1 else 0) → value_given Start (cond here (Some t) o) idle width ≡ (if (here || more) then 1 else 0)
go_step true more t o idle width same = refl
go_step false more t o idle width same = same

go_same : (event row idle width : ℕ) (txs : List Tx) → value_given Start (holding (start_interval event) row txs) idle width ≡ (if list_any (starts_in event row) (map transaction_seen txs) then 1 else 0)
go_same event row idle width [] = refl
go_same event row idle width (tx ∷ txs) =
    go_step (lies_in (start_interval event) row (transaction_seen tx)) (list_any (starts_in event row) (map transaction_seen txs)) (transaction_seen tx) (holding (start_interval event) row txs) idle width (go_same event row idle width txs)
    ∙ ap (λ b. if (b || list_any (starts_in event row) (map transaction_seen txs)) then 1 else 0) (starts_same event row tx)

pub interface_drives : (sig : Signature) (list : TxList) (p : Pin) (i : TxInput) → IsInterface sig.events p.name i → DrivesPin list (driven_by sig (tx_run_seen list)) i p
interface_drives sig list p i is = record {
  values = λ row.
      ap (λ (j : TxInput). value_in j list row p.width) is.starts ∙ go_same is.event row list.idle p.width list.txs.items
      ∙ sym (ap (λ (o : Option ℕ). option_map_or (go_in (tx_run_seen list) row) o (option_map_or (input_in sig (tx_run_seen list) row) (input_named sig p.name) 0)) is.is);
  given = λ k d within same. subst (λ (j : TxInput). GivesValue j.gives p.width (get_or list.txs.items k d)) (sym is.starts) tt;
}

-- ---- places among the ports of an event

abbrev sig_names : List SigPort → List Text
sig_names ports = map (λ (p : SigPort). p.name) ports

same_name : (a : Text) → bytes_eq a a ≡ true
same_name a = (bytes_eq-Decides a a).1 refl

-- a port's name is not that of an earlier one
name_apart : (p q : SigPort) (ports : List SigPort) (k : ℕ) → AreDistinct (sig_names (p ∷ ports)) → slice_get ports k ≡ Some q → bytes_eq p.name q.name ≡ false
name_apart p q ports k distinct at =
    let within : k < length ports = slice_get_within ports k q at in
    let named : get_or (sig_names ports) k [] ≡ q.name = get_or-map (λ (r : SigPort). r.name) ports k q [] within ∙ ap (λ (r : SigPort). r.name) (get_or_from_slice_get ports k q q at) in
    apart p.name q.name (λ same. distinct 0 (suc k) [] (omega arith) (omega (arith, within, length-map ports (λ (r : SigPort). r.name))) (same ∙ sym named))

others_distinct : (p : SigPort) (ports : List SigPort) → AreDistinct (sig_names (p ∷ ports)) → AreDistinct (sig_names ports)
others_distinct p ports distinct i j d before within = distinct (suc i) (suc j) d (omega arith) (omega arith)

at_first : (here : Bool) (p : SigPort) (rest : List SigPort) (values : List ℕ) (name : Text) → here ≡ true → bytes_eq p.name name ≡ true → length values ≡ length (cond here (p ∷ rest) rest) → value_at (cond here (p ∷ rest) rest) values name ≡ get_or values 0 0
at_first true p rest [] name is same many = absurd (let none : length {A = ℕ} [] ≡ 0 = refl in omega (arith, many, none))
at_first true p rest (v ∷ values) name is same many = ap (λ (t : Bool). if t then v else value_at rest values name) same
at_first false p rest values name is same many = cc

at_later : (here : Bool) (p : SigPort) (rest front : List SigPort) (values : List ℕ) (name : Text) → bytes_eq p.name name ≡ false → length values ≡ length (cond here (p ∷ rest) rest) → ((vs : List ℕ) → length vs ≡ length rest → value_at rest vs name ≡ get_or vs (length front) 0) → value_at (cond here (p ∷ rest) rest) values name ≡ get_or values (length (cond here (p ∷ front) front)) 0
at_later true p rest front [] name other many later = absurd (let none : length {A = ℕ} [] ≡ 0 = refl in omega (arith, many, none))
at_later true p rest front (v ∷ values) name other many later = ap (λ (t : Bool). if t then v else value_at rest values name) other ∙ later values (omega (arith, many))
at_later false p rest front values name other many later = later values many

-- the value of a port is that with its place among those that pass
value_at_place : (test : SigPort → Bool) (ports : List SigPort) (k : ℕ) (q : SigPort) (values : List ℕ) → AreDistinct (sig_names ports) → slice_get ports k ≡ Some q → test q ≡ true → length values ≡ length (filter test ports) → value_at (filter test ports) values q.name ≡ get_or values (length (filter test (take k ports))) 0
value_at_place test [] zero q values distinct at passes many = cc
value_at_place test [] (suc k) q values distinct at passes many = cc
value_at_place test (p ∷ ports) zero q values distinct at passes many =
    let same : p ≡ q = same_Some p q at in
    at_first (test p) p (filter test ports) values q.name (ap test same ∙ passes) (ap (λ (r : SigPort). bytes_eq r.name q.name) same ∙ same_name q.name) many
value_at_place test (p ∷ ports) (suc k) q values distinct at passes many =
    at_later (test p) p (filter test ports) (filter test (take k ports)) values q.name (name_apart p q ports k distinct at) many
    (λ vs as_many. value_at_place test ports k q vs (others_distinct p ports distinct) at passes as_many)

kept_first : (here : Bool) (p : SigPort) (rest : List SigPort) → here ≡ true → slice_get (cond here (p ∷ rest) rest) 0 ≡ Some p
kept_first true p rest is = refl
kept_first false p rest is = cc

kept_later : (here : Bool) (p q : SigPort) (rest front : List SigPort) → slice_get rest (length front) ≡ Some q → slice_get (cond here (p ∷ rest) rest) (length (cond here (p ∷ front) front)) ≡ Some q
kept_later true p q rest front at = at
kept_later false p q rest front at = at

port_at_place : (test : SigPort → Bool) (ports : List SigPort) (k : ℕ) (q : SigPort) → slice_get ports k ≡ Some q → test q ≡ true → slice_get (filter test ports) (length (filter test (take k ports))) ≡ Some q
port_at_place test [] zero q at passes = cc
port_at_place test [] (suc k) q at passes = cc
port_at_place test (p ∷ ports) zero q at passes =
    let same : p ≡ q = same_Some p q at in kept_first (test p) p (filter test ports) (ap test same ∙ passes) ∙ ap Some same
port_at_place test (p ∷ ports) (suc k) q at passes = kept_later (test p) p q (filter test ports) (filter test (take k ports)) (port_at_place test ports k q at passes)

named_first : (ports : List SigPort) (k : ℕ) (q : SigPort) → AreDistinct (sig_names ports) → slice_get ports k ≡ Some q → find (λ (p : SigPort). bytes_eq p.name q.name) ports ≡ Some q
named_first [] zero q distinct at = cc
named_first [] (suc k) q distinct at = cc
named_first (p ∷ ports) zero q distinct at =
    let same : p ≡ q = same_Some p q at in
    ap (λ t. cond t (Some p) (find (λ (r : SigPort). bytes_eq r.name q.name) ports)) (ap (λ (r : SigPort). bytes_eq r.name q.name) same ∙ same_name q.name) ∙ ap Some same
named_first (p ∷ ports) (suc k) q distinct at =
    ap (λ t. cond t (Some p) (find (λ (r : SigPort). bytes_eq r.name q.name) ports)) (name_apart p q ports k distinct at) ∙ named_first ports k q (others_distinct p ports distinct) at

-- ---- data inputs

found_step : (here : Bool) (f g : Transaction → ℕ) (none : ℕ) (t : Transaction) (o : Option Transaction) → (here ≡ true → f t ≡ g t) → option_map_or f o none ≡ option_map_or g o none → option_map_or f (cond here (Some t) o) none ≡ option_map_or g (cond here (Some t) o) none
found_step true f g none t o same others = same refl
found_step false f g none t o same others = others

found_same : (test : Transaction → Bool) (f g : Transaction → ℕ) (none : ℕ) (txs : List Tx) → ((k : ℕ) (d : Tx) → k < length txs → test (transaction_seen (get_or txs k d)) ≡ true → f (transaction_seen (get_or txs k d)) ≡ g (transaction_seen (get_or txs k d))) → option_map_or f (find test (map transaction_seen txs)) none ≡ option_map_or g (find test (map transaction_seen txs)) none
found_same test f g none [] same = refl
found_same test f g none (tx ∷ txs) same =
    found_step (test (transaction_seen tx)) f g none (transaction_seen tx) (find test (map transaction_seen txs)) (same 0 tx (omega arith)) (found_same test f g none txs (λ k d within. same (suc k) d (omega arith)))

given_so : (place idle width : ℕ) (o : Option Transaction) → value_given (Value place) o idle width ≡ option_map_or (λ (t : Transaction). get_or t.values place 0) o (idle % 2 ^ width)
given_so place idle width None = refl
given_so place idle width (Some t) = refl

pub data_drives : (n : Netlist) (sig : Signature) (list : TxList) → AreTransactionsFor n sig list → AreDistinct (sig_names sig.ins) → (k : ℕ) (q : SigPort) (i : TxInput) → slice_get sig.ins k ≡ Some q → i ≡ record { interval = port_interval q; gives = Value (length (ports_after q.from.event (take k sig.ins))) } → DrivesPin list (driven_by sig (tx_run_seen list)) i (port_pin q)
data_drives n sig list are distinct k q i at is =
    let txs = list.txs.items in
    let run = tx_run_seen list in
    let place : ℕ = length (ports_after q.from.event (take k sig.ins)) in
    let idle : ℕ = list.idle % 2 ^ q.width in
    let within : k < length sig.ins = slice_get_within sig.ins k q at in
    let none : event_with 0 sig.events q.name ≡ None = subst (λ (r : SigPort). event_with 0 sig.events r.name ≡ None) (get_or_from_slice_get sig.ins k q q at) (are.ports.others k q within) in
    record {
      values = λ row.
          ap (λ (j : TxInput). value_in j list row q.width) is ∙ given_so place list.idle q.width (holding (port_interval q) row txs)
          ∙ found_same (lies_in (port_interval q) row) (λ (t : Transaction). get_or t.values place 0) (given_value sig q.name) idle txs
          (λ m d inside lies.
          let tx = get_or txs m d in
          let same : q.from.event ≡ tx.event = event_of_lying (port_interval q) row (transaction_seen tx) lies in
          let widths = (are.fit m d inside).widths in
          let many : length (values_of tx.values.items) ≡ length (ports_after tx.event sig.ins) =
          omega (arith, length-map tx.values.items (λ (b : Bits). b.value), length-map tx.values.items (λ (b : Bits). b.width), ap length widths, length-map (ports_after tx.event sig.ins) (λ (p : SigPort). p.width)) in
          ap (λ (e : ℕ). get_or (values_of tx.values.items) (length (ports_after e (take k sig.ins))) 0) same
          ∙ sym (value_at_place (λ (p : SigPort). p.from.event == tx.event) sig.ins k q (values_of tx.values.items) distinct at (eq_true q.from.event tx.event same) many))
          ∙ sym (ap (λ (o : Option ℕ). option_map_or (go_in run row) o (option_map_or (input_in sig run row) (input_named sig q.name) 0)) none
          ∙ ap (λ (o : Option SigPort). option_map_or (input_in sig run row) o 0) (named_first sig.ins k q distinct at));
      given = λ m d inside same'.
          let tx = get_or txs m d in
          let same : q.from.event ≡ tx.event = sym (ap (λ (j : TxInput). j.interval.event) is) ∙ same' in
          let widths = (are.fit m d inside).widths in
          let there = port_at_place (λ (p : SigPort). p.from.event == tx.event) sig.ins k q at (eq_true q.from.event tx.event same) in
          let given : slice_get (widths_of tx.values.items) (length (ports_after tx.event (take k sig.ins))) ≡ Some q.width =
          ap (λ (ws : List ℕ). slice_get ws (length (ports_after tx.event (take k sig.ins)))) widths
          ∙ slice_get-map (λ (p : SigPort). p.width) (ports_after tx.event sig.ins) (length (ports_after tx.event (take k sig.ins))) ∙ ap (option_map (λ (p : SigPort). p.width)) there in
          subst (λ (j : TxInput). GivesValue j.gives q.width tx) (sym is) (ap (λ (e : ℕ). slice_get (widths_of tx.values.items) (length (ports_after e (take k sig.ins)))) same ∙ given);
    }

-- ---- a netlist's inputs, one after another

split_at : {X : Type 0} (xs ys : List X) (k : ℕ) (z : X) → slice_get (xs ++ ys) k ≡ Some z → ((k < length xs) × (slice_get xs k ≡ Some z)) ⊎ ((j : ℕ) × (k ≡ length xs + j) × (slice_get ys j ≡ Some z))
split_at [] ys k z at = inr (k, omega arith, at)
split_at (x ∷ xs) ys zero z at = inl (omega arith, at)
split_at (x ∷ xs) ys (suc k) z at = ⊎_elim (λ early. inl (omega (arith, early.0), early.1)) (λ late. inr (late.0, omega (arith, late.1), late.2)) (split_at xs ys k z at)

-- the name of an input, among all names
pub input_name : (n : Netlist) (names : List Text) → names ≡ port_names (ports_of n) → (k : ℕ) (p : Pin) → slice_get n.ins k ≡ Some p → get_or names k [] ≡ p.name
input_name n names are k p at =
    let within : k < length n.ins = slice_get_within n.ins k p at in
    ap (λ (ns : List Text). get_or ns k []) (are ∙ names_of_ports n)
    ∙ get_or-append (pin_texts n.ins) (pin_texts n.outs ++ inner_names n) [] k (omega (arith, within, length-map n.ins (λ (q : Pin). q.name)))
    ∙ get_or-map (λ (q : Pin). q.name) n.ins k p [] within ∙ ap (λ (q : Pin). q.name) (get_or_from_slice_get n.ins k p p at)

-- the names of inputs differ
pub ins_differ : (n : Netlist) → IsValid n → AreDistinct (pin_names n.ins)
ins_differ n valid =
    let D : List Text → Type 0 = AreDistinct in
    distinct_front (pin_texts n.ins) (pin_texts n.outs ++ inner_names n) (subst D (names_of_ports n) (port_names_are_distinct n valid))

module _ (n : Netlist) (sig : Signature) (ports : HasPortsOf sig n) where
  pub ins_are : length n.ins ≡ length ports.interfaces + length sig.ins
  ins_are = omega (arith, ap length ports.ins, length-append ports.interfaces (map port_pin sig.ins), length-map sig.ins port_pin)

  -- the first are interface ports of events
  pub first_in : (names : List Text) → names ≡ port_names (ports_of n) → (k : ℕ) → k < length ports.interfaces → IsSome (event_with 0 sig.events (get_or names k []))
  first_in names are k within =
      let none : Pin = record { name = []; width = 0 } in
      let inside : k < length n.ins = omega (arith, within, ins_are) in
      let named = input_name n names are k (get_or n.ins k none) (slice_get-get_or n.ins k none inside) in
      let first : get_or n.ins k none ≡ get_or ports.interfaces k none = ap (λ (l : List Pin). get_or l k none) ports.ins ∙ get_or-append ports.interfaces (map port_pin sig.ins) none k within in
      subst (λ (name : Text). IsSome (event_with 0 sig.events name)) (sym (named ∙ ap (λ (q : Pin). q.name) first)) (ports.triggers k none within)

  -- the others are the data inputs
  later_in : (j : ℕ) (p : Pin) (q : SigPort) → slice_get n.ins (length ports.interfaces + j) ≡ Some p → slice_get sig.ins j ≡ Some q → port_pin q ≡ p
  later_in j p q pin port =
      same_Some (port_pin q) p (
      sym (ap (λ (l : List Pin). slice_get l (length ports.interfaces + j)) ports.ins ∙ slice_get-append_right ports.interfaces (map port_pin sig.ins) j
      ∙ slice_get-map port_pin sig.ins j ∙ ap (option_map port_pin) port) ∙ pin
      )

  sig_ins_differ : AreDistinct (pin_texts n.ins) → AreDistinct (sig_names sig.ins)
  sig_ins_differ distinct =
      let D : List Text → Type 0 = AreDistinct in
      let names : pin_texts n.ins ≡ pin_texts ports.interfaces ++ sig_names sig.ins =
      ap pin_texts ports.ins ∙ map-append (λ (q : Pin). q.name) ports.interfaces (map port_pin sig.ins)
      ∙ ap (λ (ns : List Text). pin_texts ports.interfaces ++ ns) (map-map (λ (q : Pin). q.name) port_pin sig.ins) in
      distinct_back (pin_texts ports.interfaces) (sig_names sig.ins) (subst D names distinct)

  -- so transactions drive each input
  pub inputs_drive : IsValid n → (names : List Text) → names ≡ port_names (ports_of n) → (first rest : List TxInput) → length first ≡ length ports.interfaces → ((k : ℕ) (i : TxInput) → slice_get first k ≡ Some i → IsInterface sig.events (get_or names k []) i) → ((k : ℕ) (i : TxInput) → slice_get rest k ≡ Some i → IsDataInput sig.ins k i) → (list : TxList) → AreTransactionsFor n sig list → (k : ℕ) (i : TxInput) (p : Pin) → slice_get (first ++ rest) k ≡ Some i → slice_get n.ins k ≡ Some p → DrivesPin list (driven_by sig (tx_run_seen list)) i p
  inputs_drive valid names are first rest many interfaces others list fit k i p at pin = ⊎_elim
      (λ early. interface_drives sig list p i (subst (λ (name : Text). IsInterface sig.events name i) (input_name n names are k p pin) (interfaces k i early.1)))
      (λ late.
      let is = others late.0 i late.2 in
      let here : k ≡ length ports.interfaces + late.0 = omega (arith, late.1, many) in
      let pin_is : port_pin is.port ≡ p = later_in late.0 p is.port (subst (λ (j : ℕ). slice_get n.ins j ≡ Some p) here pin) is.at in
      subst (λ (q : Pin). DrivesPin list (driven_by sig (tx_run_seen list)) i q) pin_is
      (data_drives n sig list fit (sig_ins_differ (ins_differ n valid)) late.0 is.port i is.at is.is))
      (split_at first rest k i at)

-- the starts of the transactions of a drive rise
pub drive_rises : (n : Netlist) (drive : Drive) → FitsDrive n drive → RiseByEvent (txs_of drive)
drive_rises n (Cycles list) fits i j d before within = absurd (let none : length {A = Tx} [] ≡ 0 = refl in omega (arith, within, none))
drive_rises n (Txs list sig) fits i j d before within = rises n (seen sig.now) list.now fits i j d before within
