-- Sums over rows, one row after another, modulo 2 ^ 64.
use Rattle.std.proofs.Common.{codes, decimal, append_assoc, ◌≡◌, ℕ, zero, suc, ◌+◌, ◌-◌, ◌<◌, ◌≤◌, ◌^◌, Bool, true, false, List, [], ◌∷◌, ◌++◌, length, get_or, map, take, drop, slice_get, slice_range, if◌then◌else◌, Option, None, Some, refl, sym, ap, ap₂, subst, ◌∙◌, arith, add-one}
use Rattle.std.specs.List.{sum, sum_by}
use Rattle.std.specs.Prelude.{Contains}
use Rattle.std.specs.Option.{is_some, option_map_or}
use Rattle.std.proofs.Math.Nat.{mod-add-mod, add-mod-mod}
use Rattle.std.proofs.lemmas.List.{append-nil, drop-map, drop_all, get_or_read, length-map, take-map}
use Rattle.std.specs.declared.ops.Range.{Range}
use Rattle.std.proofs.lemmas.List.Sums.{sum_by-cons, sum_by_more, sum-map}
use Rattle.std.proofs.lemmas.Option.{same_Some, slice_get-get_or}
use Rattle.std.proofs.lemmas.Simd.{map-map}
use Rattle.hw_io.proofs.WritingLemmas.{passed_prefix, prefix_longer}
use Rattle.hw_io.specs.Writing.{AppendsPrefix, Passes}
use Rattle.hw_names.specs.Name.{Text, AreDistinct}
use Rattle.hw_prims.specs.Row.{Row, Trace}
use Rattle.hw_prims.specs.Table.{Pin}
use Rattle.net_core.specs.NetRun.{HasPin, NetRun}
use Rattle.net_core.specs.Netlist.{Netlist}
use Rattle.net_core.specs.Rules.{IsValid, PortLine, ports_of}
use Rattle.net_sim.specs.Layout.{name_of, port_names}
use Rattle.net_sim.specs.Order.{IsOrderOf}
use Rattle.net_sim.specs.Sim.{SimValue, IsRowOfSim, input_row, port_row}
use Rattle.net_sim.specs.Slots.{row_of}
use Rattle.net_sim.specs.Standing.{StandsAt, StandsOn}
use Rattle.fil_ast.specs.Signature as tree
use Rattle.fil_ast.specs.declared.tx.Tx.{Tx}
use Rattle.fil_driven.proofs.ListLemmas.{contains_map}
use Rattle.fil_driven.specs.TxDrive.{port_pin}
use Rattle.fil_share.proofs.ListLemmas.{Contains-here, Contains-there}
use Rattle.fil_sig.specs.Seen.{seen_port}
use Rattle.fil_sig.specs.declared.time_sig.SigPort.{SigPort}
use Rattle.stim_read.specs.TxRun.{Transaction, transaction_seen}
use Rattle.filc_report.specs.Intervals.{port_interval, holding}
use Rattle.filc_report.specs.Streams.{shown_ports}
use Rattle.filc_report.specs.Sums.{AddUp, AddsRow, AreAdded, MeetConflict, count_line, due_in, marked_sum, over_rows, ports_in, sum_at, sum_seen, wrapped}
use Rattle.filc_report.specs.Views.{ports_seen, marks_in}
use Rattle.filc_report.specs.declared.intervals.Interval.{Interval}
use Rattle.filc_report.specs.declared.sums.Sums.{Sums}
use Rattle.filc_report.specs.declared.view.View.{View}
use Rattle.filc_report.proofs.NetLaws.{IsPort, same_rows}
use Rattle.filc_report.proofs.RowLemmas.{range_length}
use Rattle.filc_report.proofs.StandLemmas.{before, longer, map_row_of, runs_into, steps_on, this_row}
use Rattle.filc_report.proofs.StreamLemmas.{runs_to}

-- ---- numbers modulo 2 ^ 64

pub wrapped_left : (a b : ℕ) → wrapped (wrapped a + b) ≡ wrapped (a + b)
wrapped_left a b = mod-add-mod a (2 ^ 64) b

pub wrapped_right : (a b : ℕ) → wrapped (a + wrapped b) ≡ wrapped (a + b)
wrapped_right a b = add-mod-mod a b (2 ^ 64)

pub wrapped_both : (a b : ℕ) → wrapped (wrapped a + wrapped b) ≡ wrapped (a + b)
wrapped_both a b = wrapped_left a (wrapped b) ∙ wrapped_right a b

-- one more is added to a sum
pub total_more : (total before more value all : ℕ) → total ≡ wrapped before → more ≡ wrapped value → all ≡ before + value → wrapped (total + more) ≡ wrapped all
total_more total before more value all so_far low is =
    ap₂ (λ (a b : ℕ). wrapped (a + b)) so_far low ∙ wrapped_both before value ∙ ap wrapped (sym is)

-- ---- the values of a row

value_at : (values : List ℕ) (i value : ℕ) → i < length values → slice_get values i ≡ Some value → get_or values i 0 ≡ value
value_at values i value within is = same_Some _ _ (sym (slice_get-get_or values i 0 within) ∙ is)

pub sum_more : (values : List ℕ) (i value : ℕ) → i < length values → slice_get values i ≡ Some value → sum (take (i + 1) values) ≡ sum (take i values) + value
sum_more values i value within is = sum_by_more (λ (x : ℕ). x) values i 0 within ∙ ap (λ v. sum (take i values) + v) (value_at values i value within is)

marked_next : (values : List ℕ) (marks : List Bool) (k : ℕ) → k < length values → k < length marks
    → marked_sum (take (suc k) values) (take (suc k) marks) ≡ marked_sum (take k values) (take k marks) + (if get_or marks k false then get_or values k 0 else 0)
marked_next [] marks k within marked = absurd (omega arith)
marked_next (v ∷ values) [] k within marked = absurd (omega arith)
marked_next (v ∷ values) (m ∷ marks) zero within marked = omega arith
marked_next (v ∷ values) (m ∷ marks) (suc k) within marked =
    let later = marked_next values marks k (omega arith) (omega arith) in omega (arith, later)

pub marked_more : (values : List ℕ) (marks : List Bool) (k value : ℕ) (mark : Bool) → k < length values → k < length marks → value ≡ get_or values k value → mark ≡ get_or marks k mark
    → marked_sum (take (k + 1) values) (take (k + 1) marks) ≡ marked_sum (take k values) (take k marks) + (if mark then value else 0)
marked_more values marks k value mark within marked is is_marked =
    ap (λ (n : ℕ). marked_sum (take n values) (take n marks)) (add-one k) ∙ marked_next values marks k within marked
    ∙ ap₂ (λ (m : Bool) (v : ℕ). marked_sum (take k values) (take k marks) + (if m then v else 0)) (sym (get_or_read marks k mark marked is_marked false)) (sym (get_or_read values k value within is 0))

-- the values of all ports
pub ports_added : (n : Netlist) (values : List ℕ) (cycle : ℕ) → AreDistinct (port_names n) → length values ≡ length (port_names n) → sum values ≡ ports_in n cycle (port_row n values)
ports_added n values cycle distinct all =
    ap sum (sym (map_row_of (port_names n) values distinct all) ∙ map-map (port_row n values) (λ (p : PortLine). p.name) (ports_of n))
    ∙ sum-map (λ (p : PortLine). port_row n values p.name) (ports_of n)

-- ---- what is due

abbrev names_of : List SigPort → List Text
names_of outs = map (λ (p : SigPort). p.name) outs

abbrev shows : List Tx → ℕ → SigPort → Bool
shows txs cycle p = is_some (holding (port_interval (seen_port p)) cycle txs)

one_due : (o : Option Transaction) (value : ℕ) → (if is_some o then value else 0) ≡ option_map_or (λ (t : Transaction). value) o 0
one_due None value = refl
one_due (Some t) value = refl

due_marked : (txs : List Tx) (cycle : ℕ) (outs : List SigPort) (row : Row) → marked_sum (map row (names_of outs)) (map (shows txs cycle) outs) ≡ due_in (map seen_port outs) (map transaction_seen txs) cycle row
due_marked txs cycle [] row = refl
due_marked txs cycle (p ∷ outs) row =
    ap₂ ◌+◌ (one_due (holding (port_interval (seen_port p)) cycle txs) (row p.name)) (due_marked txs cycle outs row)
    ∙ sym (sum_by-cons (λ (q : tree.SigPort). option_map_or (λ (t : Transaction). row q.name) (holding (port_interval q) cycle txs) 0) (seen_port p) (map seen_port outs))

-- a view of the outputs marks those that are due
module _ (n : Netlist) (names : List Text) (view : View) (txs : List Tx) (outs : List SigPort) (pins : n.outs ≡ map port_pin (map seen_port outs)) (ports : ports_seen names view ≡ shown_ports n false) (intervals : view.intervals.items ≡ map (λ (p : SigPort). port_interval (seen_port p)) outs) (marks : view.ports.start + length view.shown.items ≡ view.ports.end) (within : view.ports.end ≤ length names) where
  named : ports_seen names view ≡ names_of outs
  named = ports ∙ ap (map (λ (p : Pin). p.name)) (pins ∙ map-map port_pin seen_port outs) ∙ map-map (λ (p : Pin). p.name) (λ (p : SigPort). port_pin (seen_port p)) outs

  as_many : length view.shown.items ≡ length outs
  as_many =
      omega (
        arith,
        range_length names view.ports.start view.ports.end within,
        ap length named,
        length-map outs (λ (p : SigPort). p.name),
        marks,
      )

  marked : (cycle : ℕ) → marks_in view txs cycle ≡ map (shows txs cycle) outs
  marked cycle =
      let shown : Interval → Bool = λ (i : Interval). is_some (holding i cycle txs) in
      ap (λ (rest : List Bool). map shown view.intervals.items ++ rest)
      (drop_all (length view.intervals.items) view.shown.items (omega (arith, as_many, ap length intervals, length-map outs (λ (p : SigPort). port_interval (seen_port p)))))
      ∙ append-nil (map shown view.intervals.items) ∙ ap (map shown) intervals ∙ map-map shown (λ (p : SigPort). port_interval (seen_port p)) outs

  pub due_seen : (cycle : ℕ) (row : Row) → sum_seen names txs view cycle row ≡ due_in (map seen_port outs) (map transaction_seen txs) cycle row
  due_seen cycle row =
      ap₂ (λ (ps : List Text) (ms : List Bool). marked_sum (map row ps) ms) named (marked cycle) ∙ due_marked txs cycle outs row

-- ---- rows

-- sums over the first rows depend on those rows
over_same : (sum_in : ℕ → Row → ℕ) (trace trace' : Trace) (t : ℕ) → ((u : ℕ) → u < t → trace u ≡ trace' u) → over_rows sum_in trace t ≡ over_rows sum_in trace' t
over_same sum_in trace trace' zero same = refl
over_same sum_in trace trace' (suc t) same = ap₂ ◌+◌ (over_same sum_in trace trace' t (λ u before. same u (omega arith))) (ap (sum_in t) (same t (omega arith)))

pub over_so : (sum_in sum_in' : ℕ → Row → ℕ) (trace : Trace) (t : ℕ) → ((u : ℕ) (row : Row) → sum_in u row ≡ sum_in' u row) → over_rows sum_in trace t ≡ over_rows sum_in' trace t
over_so sum_in sum_in' trace zero same = refl
over_so sum_in sum_in' trace (suc t) same = ap₂ ◌+◌ (over_so sum_in sum_in' trace t same) (same t (trace t))

-- rows 0 to t - 1 were added
pub record AddedTo (n : Netlist) (due : ℕ → Row → ℕ) (sim : SimValue) (t : ℕ) (inputs : Trace) (loads : Text → List ℕ) (sums : Sums) : Type 0 where
  pub trace : Trace
  pub stands : StandsOn n sim t inputs loads trace
  pub outputs : sums.outputs ≡ wrapped (over_rows due trace t)
  pub ports : sums.ports ≡ wrapped (over_rows (ports_in n) trace t)

pub added_none : (n : Netlist) (due : ℕ → Row → ℕ) (sim : SimValue) (inputs : Trace) (loads : Text → List ℕ) → StandsAt n sim 0 inputs loads → AddedTo n due sim 0 inputs loads (record { outputs = 0; ports = 0 })
added_none n due sim inputs loads stands = record { trace = stands.0; stands = stands.1; outputs = refl; ports = refl }

pub added_all : (n : Netlist) (due : ℕ → Row → ℕ) (sim : SimValue) (t : ℕ) (inputs : Trace) (loads : Text → List ℕ) (sums : Sums) → AddedTo n due sim t inputs loads sums → AddUp n due t inputs loads sums
added_all n due sim t inputs loads sums so_far =
    record { trace = so_far.trace; runs = runs_to n sim t inputs loads so_far.trace so_far.stands; outputs = so_far.outputs; ports = so_far.ports }

-- the sums of a run, by another word for what is due
pub added_so : (n : Netlist) (due due' : ℕ → Row → ℕ) (rows : ℕ) (inputs : Trace) (loads : Text → List ℕ) (sums : Sums) → ((u : ℕ) (row : Row) → due u row ≡ due' u row) → AddUp n due rows inputs loads sums → AddUp n due' rows inputs loads sums
added_so n due due' rows inputs loads sums same added =
    record { trace = added.trace; runs = added.runs; outputs = added.outputs ∙ ap wrapped (over_so due due' added.trace rows same); ports = added.ports }

pub are_added_so : (n : Netlist) (due due' : ℕ → Row → ℕ) (rows : ℕ) (inputs : Trace) (loads : Text → List ℕ) (result : Option Sums) → ((u : ℕ) (row : Row) → due u row ≡ due' u row) → AreAdded n due rows inputs loads result → AreAdded n due' rows inputs loads result
are_added_so n due due' rows inputs loads None same clash = record { trace = clash.trace; cycle = clash.cycle; port = clash.port; runs = clash.runs }
are_added_so n due due' rows inputs loads (Some sums) same added = added_so n due due' rows inputs loads sums same added

module _ (n : Netlist) (due : ℕ → Row → ℕ) (sim sim' : SimValue) (t : ℕ) (inputs : Trace) (loads : Text → List ℕ) (ins : List ℕ) (sums sums' : Sums) (so_far : AddedTo n due sim t inputs loads sums) (given : (port : Text) → HasPin n.ins port → input_row n ins port ≡ inputs t port) where
  -- one row more
  pub added_more : (v : View) (row : AddsRow v ins sim sim' sums sums') → sum_at row.between.values v ≡ due t (port_row n row.between.values) → sum row.between.values ≡ ports_in n t (port_row n row.between.values) → AddedTo n due sim' (suc t) inputs loads sums'
  added_more v row seen all =
      let mid = row.between in
      let trace' = longer n sim mid t inputs loads so_far.trace ins None so_far.stands given row.row in
      let same : (u : ℕ) → u < t → so_far.trace u ≡ trace' u = λ u earlier. sym (before n sim mid t inputs loads so_far.trace ins None so_far.stands given row.row u earlier) in
      let here : port_row n mid.values ≡ trace' t = sym (this_row n sim mid t inputs loads so_far.trace ins None so_far.stands given row.row) in
      record {
        trace = trace';
        stands = steps_on n sim mid t inputs loads so_far.trace ins None so_far.stands given row.row refl sim' row.edge;
        outputs =
            row.outputs ∙ ap (λ (s : ℕ). wrapped (s + sum_at mid.values v)) so_far.outputs ∙ wrapped_left (over_rows due so_far.trace t) (sum_at mid.values v)
            ∙ ap wrapped (ap₂ ◌+◌ (over_same due so_far.trace trace' t same) (seen ∙ ap (due t) here));
        ports =
            row.ports ∙ ap (λ (s : ℕ). wrapped (s + sum mid.values)) so_far.ports ∙ wrapped_left (over_rows (ports_in n) so_far.trace t) (sum mid.values)
            ∙ ap wrapped (ap₂ ◌+◌ (over_same (ports_in n) so_far.trace trace' t same) (all ∙ ap (ports_in n t) here));
      }

  -- or a Conflict
  pub meets_conflict : (rows port : ℕ) → t < rows → IsRowOfSim sim ins sim' (Some port) → MeetConflict n rows inputs loads
  meets_conflict rows port within row = record {
    trace = longer n sim sim' t inputs loads so_far.trace ins (Some port) so_far.stands given row;
    cycle = t;
    port = name_of n port;
    runs = runs_into n sim sim' t inputs loads so_far.trace ins (Some port) so_far.stands given row rows port within refl;
  }

-- ---- one sum

same_sum : {X : Type 0} (f g : X → ℕ) (xs : List X) → ((x : X) → Contains xs x → f x ≡ g x) → sum_by f xs ≡ sum_by g xs
same_sum f g [] same = refl
same_sum f g (x ∷ xs) same =
    sum_by-cons f x xs ∙ ap₂ ◌+◌ (same x (Contains-here x xs)) (same_sum f g xs (λ y has. same y (Contains-there x xs y has))) ∙ sym (sum_by-cons g x xs)

-- rows that agree at a netlist's ports add up to the same there
pub ports_alike : (n : Netlist) (trace trace' : Trace) (t : ℕ) → ((u : ℕ) → u < t → (port : Text) → IsPort n port → trace u port ≡ trace' u port) → over_rows (ports_in n) trace t ≡ over_rows (ports_in n) trace' t
ports_alike n trace trace' zero same = refl
ports_alike n trace trace' (suc t) same =
    ap₂ ◌+◌ (ports_alike n trace trace' t (λ u before. same u (omega arith)))
    (same_sum (λ (p : PortLine). trace t p.name) (λ (p : PortLine). trace' t p.name) (ports_of n)
    (λ p has. same t (omega arith) p.name (contains_map (λ (q : PortLine). q.name) (ports_of n) p has)))

-- two runs of a netlist add up to the same there
pub same_ports : (n : Netlist) → IsValid n → (order : List ℕ) → IsOrderOf n order → (asked : ℕ) (inputs : Trace) (loads : Text → List ℕ) (trace trace' : Trace)
    → NetRun n asked inputs loads asked trace → NetRun n asked inputs loads asked trace' → over_rows (ports_in n) trace asked ≡ over_rows (ports_in n) trace' asked
same_ports n valid order ordered asked inputs loads trace trace' run run' =
    ports_alike n trace trace' asked (λ u before. same_rows n valid order ordered asked asked asked inputs loads trace trace' run run' u before before)

-- ---- what a view marks

-- the marks of a view add up what is due in their row
pub sum_marked_so : (n : Netlist) (names : List Text) (txs : List Tx) (first view : View) (cycle : ℕ) (values : List ℕ) → names ≡ port_names n → AreDistinct names → length values ≡ length (port_names n) → view.ports ≡ first.ports → view.shown.items ≡ marks_in first txs cycle
    → sum_at values view ≡ sum_seen names txs first cycle (port_row n values)
sum_marked_so n names txs first view cycle values are distinct all ports marks =
    let range : Range ℕ → List ℕ = λ (r : Range ℕ). slice_range values r.start r.end in
    let row : Row = row_of names values in
    let own : slice_range values first.ports.start first.ports.end ≡ map row (ports_seen names first) =
    ap (λ (vs : List ℕ). slice_range vs first.ports.start first.ports.end) (sym (map_row_of names values distinct (all ∙ ap length (sym are))))
    ∙ ap (take (first.ports.end - first.ports.start)) (drop-map row first.ports.start names) ∙ take-map row (first.ports.end - first.ports.start) (drop first.ports.start names) in
    ap₂ marked_sum (ap range ports ∙ own) marks
    ∙ ap (λ (ns : List Text). marked_sum (map (row_of ns values) (ports_seen names first)) (marks_in first txs cycle)) are

-- ---- the summary

-- the texts of a line of the summary, one after another
pub count_texts : (name space digits end : Text) (number : ℕ) → space ≡ codes " " → digits ≡ decimal number → end ≡ 10 ∷ [] → name ++ (space ++ (digits ++ (end ++ []))) ≡ count_line name number
count_texts name space digits end number e1 e2 e3 =
    ap (λ (t : Text). name ++ t) (ap₂ ◌++◌ e1 (ap₂ ◌++◌ e2 (ap (λ (t : Text). t ++ []) e3)))
    ∙ sym (in_turn name (codes " ") (decimal number) (10 ∷ []))
  where
    in_turn : (a b c d : Text) → a ++ b ++ c ++ d ≡ a ++ (b ++ (c ++ d))
    in_turn a b c d = simp append_assoc

-- parts of four texts, one after another
pub first_part : (old new : Option Text) (a b c d : Text) → AppendsPrefix old new a → AppendsPrefix old new (a ++ b ++ c ++ d)
first_part old new a b c d part = prefix_longer old new (a ++ b ++ c) d (prefix_longer old new (a ++ b) c (prefix_longer old new a b part))

pub second_part : (old mid new : Option Text) (held a b c d : Text) → Passes old [] mid held a → AppendsPrefix mid new (held ++ b) → AppendsPrefix old new (a ++ b ++ c ++ d)
second_part old mid new held a b c d passed part = prefix_longer old new (a ++ b ++ c) d (prefix_longer old new (a ++ b) c (passed_prefix b passed part))

pub third_part : (old mid new : Option Text) (held a b c d : Text) → Passes old [] mid held (a ++ b) → AppendsPrefix mid new (held ++ c) → AppendsPrefix old new (a ++ b ++ c ++ d)
third_part old mid new held a b c d passed part = prefix_longer old new (a ++ b ++ c) d (passed_prefix c passed part)

pub fourth_part : (old mid new : Option Text) (held a b c d : Text) → Passes old [] mid held (a ++ b ++ c) → AppendsPrefix mid new (held ++ d) → AppendsPrefix old new (a ++ b ++ c ++ d)
fourth_part old mid new held a b c d passed part = passed_prefix d passed part
