-- The lines of rows, as a view shows them.
use Rattle.std.proofs.Common.{◌≡◌, ℕ, ◌-◌, ◌≤◌, slice_range, Bool, true, false, List, [], ◌∷◌, ◌++◌, length, map, drop, replicate, flat_map, codes, decimal, Option, None, Some, refl, sym, ap, ap₂, ◌∙◌, arith}
use mathlib.Core.Path.{fun_ext}
use Rattle.std.specs.Option.{is_some, option_map_or}
use Rattle.std.specs.declared.ops.Range.{Range}
use Rattle.std.proofs.lemmas.List.{append-nil, length-map, length-replicate}
use Rattle.std.proofs.lemmas.Simd.{map-map}
use Rattle.hw_names.specs.Name.{Text}
use Rattle.hw_prims.specs.Row.{Row}
use Rattle.hw_prims.specs.Table.{Pin}
use Rattle.net_core.specs.Netlist.{Netlist}
use Rattle.fil_ast.specs.Signature as tree
use Rattle.fil_ast.specs.declared.tx.Tx.{Tx}
use Rattle.fil_sig.specs.Seen.{seen_port}
use Rattle.fil_sig.specs.declared.time_sig.SigPort.{SigPort}
use Rattle.stim_read.specs.TxRun.{Transaction, transaction_seen}
use Rattle.filc_report.specs.Driving.{txs_of, FitsDrive}
use Rattle.fil_driven.specs.TxDrive.{port_pin}
use Rattle.filc_report.specs.Intervals.{port_interval, holding}
use Rattle.filc_report.specs.Rows.{port_text, value_text, marked_ports, marked_line, row_text}
use Rattle.filc_report.specs.Streams.{shown_ports}
use Rattle.fil_driven.specs.Shown.{shown_value, outputs_line}
use Rattle.filc_report.specs.Views.{line_of, line_seen, marked_row, marks_in, output_intervals, ports_seen}
use Rattle.filc_report.specs.declared.drive.Drive.{Drive}
use Rattle.filc_report.specs.declared.drive.Drive.TheVariants.{Cycles, Txs}
use Rattle.filc_report.specs.declared.intervals.Interval.{Interval}
use Rattle.filc_report.specs.declared.view.View.{View}
use Rattle.filc_report.proofs.RowLemmas.{no_more}

-- where every port is shown
all_marked : (ports : List Text) (row : Row) → marked_ports ports (map row ports) (replicate (length ports) true) ≡ flat_map (λ port. port_text port (row port)) ports
all_marked [] row = refl
all_marked (port ∷ ports) row = ap (λ rest. port_text port (row port) ++ rest) (all_marked ports row)

-- an output where its interval holds a transaction
marked_so : (o : Option Transaction) (value : ℕ) → value_text (is_some o) value ≡ option_map_or (λ (t : Transaction). decimal value) o (codes "-")
marked_so None value = refl
marked_so (Some t) value = refl

abbrev names_of : List SigPort → List Text
names_of outs = map (λ (p : SigPort). p.name) outs

outputs_marked : (txs : List Tx) (cycle : ℕ) (outs : List SigPort) (row : Row) → marked_ports (names_of outs) (map row (names_of outs)) (map (λ (p : SigPort). is_some (holding (port_interval (seen_port p)) cycle txs)) outs) ≡ flat_map (λ (p : tree.SigPort). codes " " ++ p.name ++ codes "=" ++ shown_value (map transaction_seen txs) cycle p (row p.name)) (map seen_port outs)
outputs_marked txs cycle [] row = refl
outputs_marked txs cycle (p ∷ outs) row =
    ap₂ (λ text rest. (codes " " ++ p.name ++ codes "=" ++ text) ++ rest) (marked_so (holding (port_interval (seen_port p)) cycle txs) (row p.name)) (outputs_marked txs cycle outs row)

module _ (n : Netlist) (names : List Text) (view : View) (all : Bool) (ports : ports_seen names view ≡ shown_ports n all) (shown : view.shown.items ≡ replicate (view.ports.end - view.ports.start) true) (many : length (ports_seen names view) ≡ view.ports.end - view.ports.start) where
  abbrev count : ℕ
  count = view.ports.end - view.ports.start

  -- every port is shown, as no interval says otherwise
  whole_line : (txs : List Tx) → view.intervals.items ≡ [] → line_seen names txs view ≡ row_text (shown_ports n all)
  whole_line txs none = fun_ext (λ cycle. fun_ext (λ row.
      ap₂ (λ (ps : List Text) (marks : List Bool). marked_line cycle ps (map row ps) marks) ports
      (ap₂ (λ (is : List Interval) (ms : List Bool). map (λ (i : Interval). is_some (holding i cycle txs)) is ++ drop (length is) ms) none shown
      ∙ ap (λ (c : ℕ). replicate c true) (sym many ∙ ap length ports))
      ∙ ap (λ text. (decimal cycle ++ text) ++ 10 ∷ []) (all_marked (shown_ports n all) row)))

  -- the outputs of a signature, by their intervals
  output_line : (txs : List Tx) (outs : List SigPort) → all ≡ false → n.outs ≡ map port_pin (map seen_port outs) → view.intervals.items ≡ map (λ (p : SigPort). port_interval (seen_port p)) outs → line_seen names txs view ≡ outputs_line (map transaction_seen txs) (map seen_port outs)
  output_line txs outs not_all pins intervals = fun_ext (λ cycle. fun_ext (λ row.
      let named : ports_seen names view ≡ names_of outs =
      ports ∙ ap (shown_ports n) not_all ∙ ap (map (λ (p : Pin). p.name)) (pins ∙ map-map port_pin seen_port outs) ∙ map-map (λ (p : Pin). p.name) (λ (p : SigPort). port_pin (seen_port p)) outs in
      let as_many : count ≡ length outs = sym many ∙ ap length named ∙ length-map outs (λ (p : SigPort). p.name) in
      let shows : Interval → Bool = λ (i : Interval). is_some (holding i cycle txs) in
      let marks : marks_in view txs cycle ≡ map (λ (p : SigPort). is_some (holding (port_interval (seen_port p)) cycle txs)) outs =
      ap₂ (λ (is : List Interval) (ms : List Bool). map shows is ++ drop (length is) ms) intervals (shown ∙ ap (λ (c : ℕ). replicate c true) as_many)
      ∙ ap (λ rest. map shows (map (λ (p : SigPort). port_interval (seen_port p)) outs) ++ rest) (no_more (replicate (length outs) true) (length (map (λ (p : SigPort). port_interval (seen_port p)) outs)) (omega (arith, length-replicate {A = Bool} (length outs) true, length-map outs (λ (p : SigPort). port_interval (seen_port p)))))
      ∙ append-nil (map shows (map (λ (p : SigPort). port_interval (seen_port p)) outs)) ∙ map-map shows (λ (p : SigPort). port_interval (seen_port p)) outs in
      ap₂ (λ (ps : List Text) (ms : List Bool). marked_line cycle ps (map row ps) ms) named marks
      ∙ ap (λ text. (decimal cycle ++ text) ++ 10 ∷ []) (outputs_marked txs cycle outs row)))

  pub line_made : (drive : Drive) → FitsDrive n drive → view.intervals.items ≡ output_intervals drive all → line_seen names (txs_of drive) view ≡ line_of n drive all
  line_made (Cycles list) fits intervals = whole_line [] intervals
  line_made (Txs list sig) fits intervals = by all refl
    where
      by : (b : Bool) → all ≡ b → line_seen names list.now.txs.items view ≡ line_of n (Txs list sig) all
      by true is = whole_line list.now.txs.items (intervals ∙ ap (λ b. output_intervals (Txs list sig) b) is) ∙ ap (λ b. row_text (shown_ports n b)) is ∙ sym (ap (λ b. line_of n (Txs list sig) b) is)
      by false is = output_line list.now.txs.items sig.now.outs.items is fits.ports.outs (intervals ∙ ap (λ b. output_intervals (Txs list sig) b) is) ∙ sym (ap (λ b. line_of n (Txs list sig) b) is)

-- ---- a view before the first row

-- there are no more intervals than ports
pub few_intervals : (n : Netlist) (drive : Drive) (all : Bool) → FitsDrive n drive → length (output_intervals drive all) ≤ length (shown_ports n all)
few_intervals n (Cycles list) all fits = let none : length (output_intervals (Cycles list) all) ≡ 0 = refl in omega (arith, none)
few_intervals n (Txs list sig) true fits = let none : length (output_intervals (Txs list sig) true) ≡ 0 = refl in omega (arith, none)
few_intervals n (Txs list sig) false fits =
    let outs = sig.now.outs.items in
    omega (
      arith,
      length-map outs (λ (p : SigPort). port_interval (seen_port p)),
      ap length fits.ports.outs,
      length-map n.outs (λ (p : Pin). p.name),
      length-map (map seen_port outs) port_pin,
      length-map outs seen_port,
    )

-- the marks of a view make the line of their row
pub row_marked : (names : List Text) (txs : List Tx) (first view : View) (row : ℕ) → view.ports ≡ first.ports → view.shown.items ≡ marks_in first txs row → (values : Row) → marked_row names view row values ≡ line_seen names txs first row values
row_marked names txs first view row ports marks values =
    let seen_same : ports_seen names view ≡ ports_seen names first = ap₂ (λ (from to : ℕ). slice_range names from to) (ap (λ (r : Range ℕ). r.start) ports) (ap (λ (r : Range ℕ). r.end) ports) in
    ap₂ (λ (ps : List Text) (ms : List Bool). marked_line row ps (map values ps) ms) seen_same marks
