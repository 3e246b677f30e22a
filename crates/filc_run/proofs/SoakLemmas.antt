-- What is left of a soak in the sink, at each of its ends.
use Rattle.std.proofs.Common.{◌≡◌, ℕ, suc, ◌≤◌, List, [], ◌∷◌, ◌++◌, map, Option, Some, Result, Ok, Err, refl, sym, ap, ap₂, subst, ◌∙◌, arith, inl, inr}
use Rattle.std.specs.Prelude.{OnOk, OnErr, IfErr, slice_get}
use Rattle.std.specs.Result.{IsErrAnd}
use Rattle.std.specs.Io.KnownBytes.{Appends}
use Rattle.hw_io.proofs.WritingLemmas.{appends_both, prefix_after, prefix_longer}
use Rattle.hw_io.specs.Writing.{AppendsPrefix}
use Rattle.hw_names.specs.Name.{Text}
use Rattle.hw_prims.specs.Row.{Trace}
use Rattle.net_core.specs.NetRun.{NetRun, net_circuit}
use Rattle.net_core.specs.Netlist.{Netlist}
use Rattle.net_guard.specs.Folded.{HasFoldedGuards}
use Rattle.net_sim.specs.Order.{IsOrderOf}
use Rattle.net_text.proofs.OneNetlist.{one_netlist}
use Rattle.net_text.specs.Layout.{net_text}
use Rattle.net_text.specs.Names.{HasText}
use Rattle.fil_ast.specs.Behaviours.{transaction_on}
use Rattle.fil_ast.specs.Signature.{Signature, component_signature}
use Rattle.fil_ast.specs.Top.{IsTop}
use Rattle.fil_ast.specs.Tree.{Component, Design, design_of}
use Rattle.fil_ast.specs.declared.tx.Tx.{Tx}
use Rattle.fil_ast.specs.declared.tx.TxList.{TxList}
use Rattle.fil_driven.proofs.DriveLemmas.{driven_runs_carry}
use Rattle.fil_driven.specs.Laws.{AreTransactionsOf}
use Rattle.fil_driven.specs.TxDrive.{driven_by}
use Rattle.fil_promise.specs.Refines.{CarriesList, Refines}
use Rattle.stim_read.specs.TxRun.{TxRun, transaction_seen, tx_run_seen}
use Rattle.filc_load.specs.Built.{IsFilReady}
use Rattle.filc_load.specs.declared.fil_file.FilBuilt.{FilBuilt}
use Rattle.filc_report.proofs.SumLemmas.{same_ports}
use Rattle.filc_report.specs.Driving.{AreTransactionsFor}
use Rattle.filc_report.specs.Runs.{no_loads}
use Rattle.filc_report.specs.Sums.{AddUp, AreAdded, MeetConflict, due_in, over_rows, ports_in, summary_text, wrapped}
use Rattle.filc_report.specs.declared.sums.Sums.{Sums}
use Rattle.filc_stop.proofs.SinkLemmas.{keeps_all, whole_prefix}
use Rattle.filc_stop.specs.Leaving.{IsCutShort, Leaves, LeavesAt}
use Rattle.filc_stop.specs.Outcome.{Outcome, done_with}
use Rattle.filc_stop.specs.Stops.{IsWritingStop}
use Rattle.filc_stop.specs.declared.stop.Stop.{Stop}
use Rattle.filc_stop.specs.declared.stop.Stop.TheVariants as stop
use Rattle.filc_run.proofs.FitLemmas.{fits_call, transactions_for}
use Rattle.filc_run.proofs.SoakLoopLemmas.{soak_rules}
use Rattle.filc_run.proofs.SoakTextLemmas.{top_number}
use Rattle.filc_run.proofs.SoakSumLemmas.{due_computed, soak_are, soak_here, soak_number}
use Rattle.filc_run.specs.Meant.{rows_taken}
use Rattle.filc_run.specs.Soaked.{Soaks, soak, soak_design, soak_ports, soak_rows, soak_run, soak_sum, soak_transactions}
use Rattle.filc_run.specs.Traced.{IsMadeOf, IsNetOf}

abbrev pub SoakLeaves : ℕ → Result (Unit {0}) Stop → Option Text → Option Text → Type 0
SoakLeaves count result out out' = Leaves (IsMadeOf soak_design) (Soaks count) result out out'

abbrev pub SoakLeavesAt : ℕ → Stop → Option Text → Option Text → Type 0
SoakLeavesAt count why out out' = LeavesAt (IsMadeOf soak_design) (Soaks count) why out out'

-- an error that is passed on leaves what it left
pub soak_passed : (count : ℕ) (result : Result (Unit {0}) Stop) (why : Stop) (out out' : Option Text) → IsErrAnd result (λ e. e ≡ why) → SoakLeavesAt count why out out' → SoakLeaves count result out out'
soak_passed count (Ok done) why out out' is leaves = absurd is
soak_passed count (Err e) why out out' is leaves = subst (λ w. SoakLeavesAt count w out out') (sym is) leaves

-- ---- where nothing is written

-- there was no memory
pub soak_memory : (count : ℕ) (result : Result (Unit {0}) Stop) (out : Option Text) → IsErrAnd result (λ e. e ≡ stop.Memory) → SoakLeaves count result out out
soak_memory count result out is = soak_passed count result stop.Memory out out is (inl (keeps_all out))

-- nor was there for the design
pub soak_unbuilt : (count : ℕ) (result : Result (Unit {0}) Stop) (why : Stop) (out : Option Text) → IsErrAnd result (λ e. e ≡ why) → why ≡ stop.Memory → SoakLeaves count result out out
soak_unbuilt count result why out is memory = soak_memory count result out (subst (λ (w : Stop). IsErrAnd result (λ e. e ≡ w)) memory is)

-- ---- the run

-- the same run by what a call is given
pub added_call : (n : Netlist) (sig sig' : Signature) (run run' : TxRun) (rows rows' : ℕ) (result : Option Sums) → sig' ≡ sig → run' ≡ run → rows' ≡ rows
    → AreAdded n (due_in sig'.outs run'.transactions) rows' (driven_by sig' run') no_loads result → AreAdded n (due_in sig.outs run.transactions) rows (driven_by sig run) no_loads result
added_call n sig sig' run run' rows rows' result same_sig same_run same_rows added =
    subst (λ (s : Signature). AreAdded n (due_in s.outs run.transactions) rows (driven_by s run) no_loads result) same_sig
    (subst (λ (r : TxRun). AreAdded n (due_in sig'.outs r.transactions) rows (driven_by sig' r) no_loads result) same_run
    (subst (λ (k : ℕ). AreAdded n (due_in sig'.outs run'.transactions) k (driven_by sig' run') no_loads result) same_rows added))

-- such a list of transactions, and a netlist that keeps what the design promises
module _ (count : ℕ) (few : count ≤ 100000) (list : TxList) (is : tx_run_seen list ≡ soak_run count) (n : Netlist) (refines : Refines soak_design n) where
  abbrev pub IsSoakRun : ℕ → ℕ → Trace → Type 0
  IsSoakRun asked height trace = NetRun n asked (driven_by (component_signature soak) (soak_run count)) no_loads height trace

  carried : (asked height : ℕ) (trace : Trace) → IsSoakRun asked height trace → CarriesList soak_design 1 (net_circuit n) (map (transaction_on soak) list.txs.items) asked height trace
  carried asked height trace run =
      let here = soak_here n refines in
      let run' = subst (λ (c : Component). NetRun n asked (driven_by (component_signature c) (tx_run_seen list)) no_loads height trace) (sym here)
      (subst (λ (r : TxRun). NetRun n asked (driven_by (component_signature soak) r) no_loads height trace) (sym is) run) in
      let are = subst (λ (c : Component). AreTransactionsOf c list) (sym here) (soak_are count list few is) in
      let carries = driven_runs_carry soak_design n refines list soak_rules are asked no_loads height trace run' in
      subst (λ (k : ℕ). CarriesList soak_design k (net_circuit n) (map (transaction_on soak) list.txs.items) asked height trace) (soak_number n refines)
      (subst (λ (c : Component). CarriesList soak_design refines.number (net_circuit n) (map (transaction_on c) list.txs.items) asked height trace) here carries)

  -- it has no Conflict
  pub never_meets : MeetConflict n (soak_rows count) (driven_by (component_signature soak) (soak_run count)) no_loads → ⊥
  never_meets clash = (carried (soak_rows count) (suc clash.cycle) clash.trace clash.runs.run).clean clash.cycle clash.port (omega arith) clash.runs.reported.has

  module _ (folded : HasFoldedGuards n) (has_text : HasText n) (order : List ℕ) (ordered : IsOrderOf n order) where
    abbrev pub head : Text
    head = net_text n ++ 10 ∷ []

    made_net : IsNetOf soak_design n (net_text n)
    made_net = record { refines = refines; folded = folded; spells = (has_text, refl) }

    -- whatever comes begins with the netlist's text
    begins : (o : Outcome) → Soaks count (net_text n) o → (rest : Text) × (head ++ rest ≡ o.report)
    begins o soaks =
        (summary_text count (soak_rows count) (soak_sum count) (soak_ports soaks.net soaks.trace (soak_rows count)), sym (ap (λ (x : Outcome). x.report) soaks.outcome))

    -- a part of that text was written
    cut_in_head : (out out' : Option Text) → AppendsPrefix out out' head → IsCutShort (IsMadeOf soak_design) (Soaks count) out out'
    cut_in_head out out' part = inr (record {
      made = net_text n;
      makes_it = (n, made_net);
      part = by;
    })
      where
        by : (o : Outcome) → Soaks count (net_text n) o → AppendsPrefix out out' o.report
        by o soaks =
            let text = begins o soaks in subst (AppendsPrefix out out') text.1 (prefix_longer out out' head text.0 part)

    pub soak_unwritten : (result : Result (Unit {0}) Stop) (out out' : Option Text) → IsErrAnd result (λ e. e ≡ stop.WriteFault) → AppendsPrefix out out' head → SoakLeaves count result out out'
    soak_unwritten result out out' passed part = soak_passed count result stop.WriteFault out out' passed (cut_in_head out out' part)

    pub soak_unsummed : (result : Result (Unit {0}) Stop) (out out' : Option Text) → IsErrAnd result (λ e. e ≡ stop.Memory) → Appends out out' head → SoakLeaves count result out out'
    soak_unsummed result out out' passed written = soak_passed count result stop.Memory out out' passed (cut_in_head out out' (whole_prefix out out' head written))

    module _ (sums : Sums) (added : AddUp n (due_in (component_signature soak).outs (soak_transactions count)) (soak_rows count) (driven_by (component_signature soak) (soak_run count)) no_loads sums) where
      abbrev told : Text
      told = summary_text count (soak_rows count) sums.outputs sums.ports

      outputs_are : sums.outputs ≡ soak_sum count
      outputs_are = added.outputs ∙ ap wrapped (due_computed n refines soak_rules count few list is added.trace (carried (soak_rows count) (soak_rows count) added.trace added.runs.run))

      -- the sums are those of the design
      soaked : Soaks count (net_text n) (done_with (head ++ told))
      soaked = record {
        net = n;
        made_net = made_net;
        trace = added.trace;
        is_run = added.runs.run;
        outcome = ap₂ (λ (outputs ports : ℕ). done_with (head ++ summary_text count (soak_rows count) outputs ports)) outputs_are added.ports;
      }

      -- and the only ones with this text
      one_report : (m : Netlist) (trace : Trace) → m ≡ n → NetRun m (soak_rows count) (driven_by (component_signature soak) (soak_run count)) no_loads (soak_rows count) trace
          → wrapped (over_rows (ports_in m) trace (soak_rows count)) ≡ sums.ports
      one_report m trace same run =
          let run' = subst (λ (k : Netlist). NetRun k (soak_rows count) (driven_by (component_signature soak) (soak_run count)) no_loads (soak_rows count) trace) same run in
          ap (λ (k : Netlist). wrapped (over_rows (ports_in k) trace (soak_rows count))) same
          ∙ ap wrapped (same_ports n refines.valid order ordered (soak_rows count) (driven_by (component_signature soak) (soak_run count)) no_loads trace added.trace run' added.runs.run)
          ∙ sym added.ports

      report_is : (o : Outcome) → Soaks count (net_text n) o → head ++ told ≡ o.report
      report_is o soaks =
          sym (ap (λ (x : Outcome). x.report) soaks.outcome
          ∙ ap₂ (λ (outputs ports : ℕ). head ++ summary_text count (soak_rows count) outputs ports) (sym outputs_are)
          (one_report soaks.net soaks.trace (one_netlist (net_text n) soaks.net n soaks.made_net.spells (has_text, refl)) soaks.is_run))

      cut_in_told : (out out' : Option Text) → AppendsPrefix out out' (head ++ told) → IsCutShort (IsMadeOf soak_design) (Soaks count) out out'
      cut_in_told out out' part = inr (record {
        made = net_text n;
        makes_it = (n, made_net);
        part = by;
      })
        where
          by : (o : Outcome) → Soaks count (net_text n) o → AppendsPrefix out out' o.report
          by o soaks = subst (AppendsPrefix out out') (report_is o soaks) part

      -- the summary was written, or a part of it
      pub soak_told : (result : Result (Unit {0}) Stop) (out mid out' : Option Text) → Appends out mid head → OnOk result (Appends mid out' told) → OnErr result (AppendsPrefix mid out' told) → IfErr result IsWritingStop → SoakLeaves count result out out'
      soak_told (Ok done) out mid out' first written part stops = record {
        made = net_text n;
        report = head ++ told;
        outcome = soaked;
        reported = appends_both out mid out' head told first written;
      }
      soak_told (Err stop.ReadFault) out mid out' first written part stops = absurd stops
      soak_told (Err stop.StimulusReadFault) out mid out' first written part stops = absurd stops
      soak_told (Err (stop.Refused why)) out mid out' first written part stops = absurd stops
      soak_told (Err stop.WriteFault) out mid out' first written part stops = cut_in_told out out' (prefix_after out mid out' head told first part)
      soak_told (Err stop.Memory) out mid out' first written part stops = cut_in_told out out' (prefix_after out mid out' head told first part)

-- ---- the design that was built

-- its top component is the pipeline
pub soak_at : (b : FilBuilt) → IsFilReady b → design_of b.design ≡ soak_design → slice_get (design_of b.design) b.top ≡ Some soak
soak_at b ready same =
    let number = top_number b.top (subst (λ (d : Design). IsTop d b.top) same ready.top) in
    ap (λ (d : Design). slice_get d b.top) same ∙ ap (slice_get soak_design) number

-- the rows that the transactions take
pub rows_are : (count rows : ℕ) (list : TxList) (txs : List Tx) → tx_run_seen list ≡ soak_run count → txs ≡ list.txs.items → rows ≡ rows_taken soak (map transaction_seen txs) → rows ≡ soak_rows count
rows_are count rows list txs is same taken =
    taken ∙ ap (λ (ts : List Tx). rows_taken soak (map transaction_seen ts)) same ∙ ap (λ (run : TxRun). rows_taken soak run.transactions) is

-- the netlist may be driven so
pub soak_fits : (count : ℕ) → count ≤ 100000 → (list : TxList) → tx_run_seen list ≡ soak_run count → (n : Netlist) (refines : Refines soak_design n) → (sig' : Signature) (list' : TxList)
    → sig' ≡ component_signature soak → list' ≡ list → AreTransactionsFor n sig' list'
soak_fits count few list is n refines sig' list' same_sig same_list =
    let here = soak_here n refines in
    let are = subst (λ (c : Component). AreTransactionsOf c list) (sym here) (soak_are count list few is) in
    fits_call n (component_signature refines.c) sig' list list' (same_sig ∙ ap component_signature (sym here)) same_list (transactions_for soak_design n refines soak_rules list are)
