-- Where rows carry transactions, what is shown of their outputs is what the source means.
use Rattle.std.proofs.Common.{◌≡◌, ◌⊎◌, ℕ, ◌+◌, ◌<◌, Bool, true, false, cond, List, [], ◌∷◌, ◌++◌, map, filter, take, get_or, slice_get, codes, decimal, Contains, All, Option, Some, None, refl, sym, ap, ◌∙◌, inl, inr, arith}
use Rattle.std.specs.Option.{option_map_or}
use Rattle.std.specs.Str.{bytes_eq}
use Rattle.std.proofs.lemmas.Bool.{false≢true}
use Rattle.std.proofs.lemmas.List.Elements.{All-contains, All-weaker}
use Rattle.hw_bits.specs.Values.{values_of}
use Rattle.hw_names.specs.Name.{Text}
use Rattle.hw_prims.specs.Row.{Trace}
use Rattle.net_core.specs.NetRun.{net_circuit}
use Rattle.net_core.specs.Netlist.{Netlist}
use Rattle.fil_ast.specs.Behaviours.{Itself, component_behaviour, timed_port, transaction_on}
use Rattle.fil_ast.specs.Flow.{Named, value_named}
use Rattle.fil_ast.specs.Rules.{FilRules}
use Rattle.fil_ast.specs.Signature.{SigPort, event_number, sig_port}
use Rattle.fil_ast.specs.Transactions.{is_of_event, transaction_flow}
use Rattle.fil_ast.specs.Tree.{DataPort, Component, Design}
use Rattle.fil_ast.specs.declared.tx.Tx.{Tx}
use Rattle.fil_ast.specs.declared.tx.TxList.{TxList}
use Rattle.fil_promise.specs.Refines.{CarriesList}
use Rattle.fil_share.specs.Carried.{IsOfEvent}
use Rattle.fil_share.proofs.CarriedLemmas.{transactions_keep_flow}
use Rattle.fil_share.proofs.Lookup.{same_name}
use Rattle.fil_share.proofs.OwnLemmas.{no_event}
use Rattle.stim_read.specs.TxRun as stim
use Rattle.stim_read.specs.TxRun.{transaction_seen}
use Rattle.fil_driven.specs.Laws.{AreTransactionsOf, CarriedRowsAreMeant, IsTransactionOf}
use Rattle.fil_driven.specs.Shown.{computed, meant_value, shown_value}
use Rattle.fil_driven.specs.TxDrive.{covering, covers}
use Rattle.fil_driven.proofs.DriveLemmas.{IsCovered, covered_so}
use Rattle.fil_driven.proofs.EventLemmas.{event_at, is_name, name_is, named_at_number}
use Rattle.fil_driven.proofs.ListLemmas.{contains_map, filtered_has, find_some, first_or_later, flat_map_agree}

-- ports whose values their names tell
abbrev named_by : (Text → ℕ) → List DataPort → List Named
named_by told ports = map (λ (q : DataPort). record { name = q.name; value = told q.name }) ports

told_by : (told : Text → ℕ) (ports : List DataPort) (p : DataPort) → Contains ports p → value_named (named_by told ports) p.name ≡ told p.name
told_by told [] p has = absurd (omega (arith, has.1))
told_by told (q ∷ ports) p has = by (bytes_eq q.name p.name) refl (first_or_later q ports p has) (told_by told ports p)
  where
    by : (b : Bool) → bytes_eq q.name p.name ≡ b → (q ≡ p) ⊎ Contains ports p → (Contains ports p → value_named (named_by told ports) p.name ≡ told p.name) → cond b (told q.name) (value_named (named_by told ports) p.name) ≡ told p.name
    by true is one rest = ap told (is_name q.name p.name is)
    by false is (inl same) rest = absurd (false≢true (sym is ∙ same_name q.name p.name (ap (λ (x : DataPort). x.name) same)))
    by false is (inr later) rest = rest later

module _ (comps : Design) (n : ℕ) (c : Component) (rules : FilRules comps) (there : slice_get comps n ≡ Some c) where
  -- what a transaction computes for an output of its event is the flow
  computed_is : (p : DataPort) → Contains c.outs p → (t : Tx) → IsOfEvent c t → event_number c.events p.from.event ≡ t.event → computed comps c p (transaction_seen t) ≡ (component_behaviour (take n comps) c).flow (transaction_on c t).values p.name
  computed_is p has t within on =
      let e = get_or c.events t.event no_event in
      let at = event_at c t within in
      let own : is_of_event e.name p ≡ true = same_name p.from.event e.name (sym (named_at_number c.events p.from.event e (ap (slice_get c.events) on ∙ at))) in
      ap (λ (name : Text). value_named (transaction_flow comps c name (values_of t.values.items)) p.name) (name_is c t.event e at)
      ∙ ap (λ (ports : List Named). value_named ports p.name) (transactions_keep_flow comps n c t e rules there at)
      ∙ told_by ((component_behaviour (take n comps) c).flow (transaction_on c t).values) (filter (is_of_event e.name) c.outs) p (filtered_has (is_of_event e.name) c.outs p has own)

  module _ (net : Netlist) (list : TxList) (are : AreTransactionsOf c list) (asked height : ℕ) (trace : Trace) (carries : CarriesList comps n (net_circuit net) (map (transaction_on c) list.txs.items) asked height trace) (row : ℕ) (within : row < height) where
    abbrev txs : List Tx
    txs = list.txs.items

    on_events : All (IsOfEvent c) txs
    on_events = All-weaker (IsTransactionOf c) (IsOfEvent c) (λ tx is. is.event) txs are.each

    -- in each row of its interval an output has the value that the transaction computes
    pub value_is : (p : DataPort) → Contains c.outs p → (t : Tx) → Contains txs t → IsCovered (sig_port c.events p) row (transaction_seen t) → trace row p.name ≡ computed comps c p (transaction_seen t)
    value_is p has t has_t covered =
        let b = component_behaviour (take n comps) c in
        let to : row < t.start + p.to.plus = covered.to in
        (carries.carries [] b (map (transaction_on c) txs) (Itself n c there refl) row within).1 (transaction_on c t) (contains_map (transaction_on c) txs t has_t)
        (timed_port (sig_port c.events p)) (contains_map timed_port (map (sig_port c.events) c.outs) (sig_port c.events p) (contains_map (sig_port c.events) c.outs p has))
        (covered.event, covered.from, omega (arith, to))
        ∙ sym (computed_is p has t (All-contains (IsOfEvent c) txs t on_events has_t) covered.event)

    shown_is : (p : DataPort) → Contains c.outs p → shown_value (map transaction_seen txs) row (sig_port c.events p) (trace row p.name) ≡ meant_value comps c (map transaction_seen txs) row p
    shown_is p has = by (covering (sig_port c.events p) row (map transaction_seen txs)) refl
      where
        by : (o : Option stim.Transaction) → covering (sig_port c.events p) row (map transaction_seen txs) ≡ o
            → option_map_or (λ (t : stim.Transaction). decimal (trace row p.name)) o (codes "-") ≡ option_map_or (λ (t : stim.Transaction). decimal (computed comps c p t)) o (codes "-")
        by None is = refl
        by (Some s) is =
            let q = sig_port c.events p in
            let t = find_some (covers q row) transaction_seen txs s is in
            ap decimal (value_is p has t.0 t.1 (covered_so q row (transaction_seen t.0) t.3) ∙ ap (computed comps c p) t.2)

pub carried_rows_are_meant : CarriedRowsAreMeant
carried_rows_are_meant comps number c n list rules there are asked height trace carries row within =
    let seen = map transaction_seen list.txs.items in
    ap (λ (shown : Text). decimal row ++ shown ++ 10 ∷ [])
    (flat_map_agree (λ (p : SigPort). codes " " ++ p.name ++ codes "=" ++ shown_value seen row p (trace row p.name)) (sig_port c.events)
    (λ (p : DataPort). codes " " ++ p.name ++ codes "=" ++ meant_value comps c seen row p) c.outs
    (λ p has. ap (λ (value : Text). codes " " ++ p.name ++ codes "=" ++ value) (shown_is comps number c rules there n list are asked height trace carries row within p has)))
