-- No port of a lowered component is driven twice in a row, where the starts of a legal list are carried.
use Rattle.std.proofs.Common.{◌≡◌, ℕ, suc, ◌<◌, ◌≤◌, Bool, true, false, List, [], ◌∷◌, ◌++◌, length, map, flat_map, take, slice_get, All, Option, Some, None, refl, sym, ap, subst, ◌∙◌, inl, inr, arith}
use Rattle.std.specs.List.{fold}
use Rattle.std.specs.Option.{option_and_then, option_map_or}
use Rattle.std.specs.Prelude.{Contains, bytes_eq, codes, if◌then◌else◌, max}
use Rattle.std.proofs.lemmas.Bool.{cases_Bool, false≢true}
use Rattle.std.proofs.lemmas.List.{append-nil, length-map}
use Rattle.std.proofs.lemmas.List.Elements.{All-contains, All-weaker}
use Rattle.std.proofs.lemmas.Option.{same_Some, slice_get_within}
use Rattle.std.proofs.lemmas.Simd.{map-map}
use Rattle.std.proofs.lemmas.Slice.Eq.{bytes_eq-Decides}
use Rattle.hw_names.specs.Name.{Text, AreDistinct, full_name}
use Rattle.hw_prims.specs.Table.{Pin, pin_names}
use Rattle.hw_prims.specs.Timed.{CarriesStarts, AreLegalTransactions, Transaction}
use Rattle.net_core.specs.Guard.{guard_holds, source_value}
use Rattle.net_core.specs.declared.net.Src.TheVariants.{Port, Lit}
use Rattle.cal_ast.proofs.LocalLemmas.{is_port, is_port-same}
use Rattle.cal_ast.proofs.SideLemmas.{destination_pin}
use Rattle.cal_ast.specs.CalRun.{look}
use Rattle.cal_ast.specs.Laws.{local_values}
use Rattle.cal_ast.specs.Ports.{cell_inputs, cell_named, made_inputs, part_of, primitive_of}
use Rattle.cal_ast.specs.Sides.{IsDestination}
use Rattle.cal_ast.specs.Tree as calyx
use Rattle.cal_ast.specs.Tree.{Assignment, CellDef, PortName, own, port_of}
use Rattle.fil_ast.specs.Connections.{connected_at}
use Rattle.fil_ast.specs.Items.{TheEnd}
use Rattle.fil_ast.specs.Rules.{F1}
use Rattle.fil_ast.specs.Scope.{Instance, instance_named}
use Rattle.fil_ast.specs.Tree.{DataPort, Design, Event}
use Rattle.fil_ast.specs.Wires.{whole_scope}
use Rattle.fil_fsm.specs.Chain.{bit_of, chain_sets, takes}
use Rattle.fil_fsm.proofs.DelayLemmas.{local_values-filter}
use Rattle.fil_lower.specs.inside.Lowered.{source_in}
use Rattle.fil_lower.specs.inside.Lowering.{Lowering, go_of, last_bit, lowered_component, lowered_sets, lowering_with, registers_of, starting_bits, wanted_by}
use Rattle.fil_lower.specs.inside.Plan.{Plan, Use}
use Rattle.fil_lower.specs.inside.PlanOf.{plan_of}
use Rattle.fil_lower.proofs.ArgumentLemmas.{arguments_are}
use Rattle.fil_lower.proofs.AvailableLemmas.{found_passes}
use Rattle.fil_lower.proofs.BackLemmas.{register_cell}
use Rattle.fil_lower.proofs.BitLemmas.{some_on}
use Rattle.fil_lower.proofs.CallLemmas.{signature_is}
use Rattle.fil_lower.proofs.CellLemmas.{DrivesOne, chain_cells, elsewhere_by, other_cell}
use Rattle.fil_lower.proofs.ChainLemmas.{all_of, chain_alone, distinct_at, registers_at}
use Rattle.fil_lower.proofs.DriveLemmas.{no_clash}
use Rattle.fil_lower.proofs.ListLemmas.{contains_none, from_flat}
use Rattle.fil_lower.proofs.LoweredParts.{LoweredComp, StandingComp}
use Rattle.fil_lower.proofs.NameLemmas.{first_differs, from_map, later_distinct}
use Rattle.fil_lower.proofs.PlanLemmas.{connected_where}
use Rattle.fil_lower.proofs.PortLemmas.{IsInstance, data_values, go_values, own_values, pins}
use Rattle.fil_lower.proofs.RowLemmas.{is_lowered, shown}
use Rattle.fil_lower.proofs.TimedAsLemmas.{place_of}
use Rattle.fil_lower.proofs.UseLemmas.{some_at}
use Rattle.fil_lower.proofs.ValueLemmas.{IsElsewhere, first_value, joined_values, later_values, no_values}
use Rattle.fil_lower.proofs.WellLemmas.{connected_some, plans_well_timed}

-- ---- few values

one_at_most : (b : Bool) (x : ℕ) → length (if b then x ∷ [] else []) < 2
one_at_most true x = omega arith
one_at_most false x = omega arith

module _ (see : PortName → ℕ) (p : PortName) where
  abbrev IsFew : List Assignment → Type 0
  IsFew sets = length (local_values see p sets) < 2

  one_few : (a : Assignment) → IsFew (a ∷ [])
  one_few a =
      elim (cases_Bool (is_port a.dst p)) [
        | inl here ↦ subst (λ (vs : List ℕ). length vs < 2) (sym (first_value see p a [] (is_port-same a.dst p here))) (one_at_most (guard_holds see a.guard) (source_value see a.src))
        | inr there ↦ subst (λ (vs : List ℕ). length vs < 2) (sym (later_values see p a [] there)) (omega arith)
      ]

  -- assignments of two ports
  two_few : (a b : Assignment) → (a.dst ≡ b.dst → ⊥) → IsFew (a ∷ b ∷ [])
  two_few a b apart =
      elim (cases_Bool (is_port a.dst p)) [
        | inl here ↦
            let at : a.dst ≡ p = is_port-same a.dst p here in
            elim (cases_Bool (is_port b.dst p)) [
              | inl same ↦ absurd (apart (at ∙ sym (is_port-same b.dst p same)))
              | inr other ↦
                  subst (λ (vs : List ℕ). length vs < 2)
                  (sym (first_value see p a (b ∷ []) at ∙ ap (λ (rest : List ℕ). if guard_holds see a.guard then source_value see a.src ∷ rest else rest) (later_values see p b [] other)))
                  (one_at_most (guard_holds see a.guard) (source_value see a.src))
            ]
        | inr there ↦ subst (λ (vs : List ℕ). length vs < 2) (sym (later_values see p a (b ∷ []) there)) (one_few b)
      ]

-- ---- registers

module _ (see : PortName → ℕ) (name pin : Text) where
  other_pins : codes "in" ≡ codes "write_en" → ⊥
  other_pins same = false≢true (ap (λ (x : Text). bytes_eq x (codes "write_en")) same)

  -- a register takes a bit by assignments of two ports
  takes_few : (bit : PortName) (register : Text) → length (local_values see (port_of name pin) (takes bit register)) < 2
  takes_few bit register =
      two_few see (port_of name pin) (record { dst = port_of register (codes "in"); guard = None; src = Port bit }) (record { dst = port_of register (codes "write_en"); guard = None; src = Lit 1 1 })
      (λ same. other_pins (ap (λ (x : PortName). x.pin) same))

  takes_none : (bit : PortName) (register : Text) → (register ≡ name → ⊥) → local_values see (port_of name pin) (takes bit register) ≡ []
  takes_none bit register apart =
      let other = elsewhere_by see (port_of name pin) (Some register) (other_cell register name apart) in
      let first : Assignment = record { dst = port_of register (codes "in"); guard = None; src = Port bit } in
      let second : Assignment = record { dst = port_of register (codes "write_en"); guard = None; src = Lit 1 1 } in
      later_values see (port_of name pin) first (second ∷ []) (other first refl) ∙ later_values see (port_of name pin) second [] (other second refl)

  chain_none : (bit : PortName) (names : List Text) → (Contains names name → ⊥) → local_values see (port_of name pin) (chain_sets bit names) ≡ []
  chain_none bit names absent =
      no_values see (port_of name pin) (chain_sets bit names)
      (All-weaker (DrivesOne names) (IsElsewhere see (port_of name pin))
      (λ a d. elsewhere_by see (port_of name pin) (Some d.0) (other_cell d.0 name (λ same. absent (subst (λ (x : Text). Contains names x) same d.1))) a d.2) (chain_sets bit names) (chain_cells bit names))

  chain_few : (bit : PortName) (names : List Text) → AreDistinct names → length (local_values see (port_of name pin) (chain_sets bit names)) < 2
  chain_few bit [] distinct = omega arith
  chain_few bit (register ∷ names) distinct =
      let joined = joined_values see (port_of name pin) (takes bit register) (chain_sets (bit_of register) names) in
      subst (λ (vs : List ℕ). length vs < 2) (sym joined)
      (elim (cases_Bool (bytes_eq register name)) [
        | inl here ↦
            let same : register ≡ name = (bytes_eq-Decides register name).0 here in
            let rest = chain_none (bit_of register) names (λ has. first_differs register names name distinct has same) in
            subst (λ (vs : List ℕ). length vs < 2) (sym (ap (λ (more : List ℕ). local_values see (port_of name pin) (takes bit register) ++ more) rest ∙ append-nil (local_values see (port_of name pin) (takes bit register)))) (takes_few bit register)
        | inr there ↦
            let none = takes_none bit register (λ same. false≢true (sym there ∙ (bytes_eq-Decides register name).1 same)) in
            subst (λ (vs : List ℕ). length vs < 2) (sym (ap (λ (first : List ℕ). first ++ local_values see (port_of name pin) (chain_sets (bit_of register) names)) none))
            (chain_few (bit_of register) names (later_distinct register names distinct))
      ])

module _ (comp : LoweredComp) where
  open comp use {pair, pair.{comps, rules, plain, design, lowered}, n, c, here, registers, enough, new}

  abbrev earlier : Design
  earlier = take n comps

  abbrev l : Lowering
  l = lowering_with (take n comps) c registers

  abbrev low : calyx.Component
  low = lowered_component l

  -- a register is one of an event with an interface port
  register_few : (see : PortName → ℕ) (name pin : Text) → Contains (all_of registers) name → length (local_values see (port_of name pin) (lowered_sets l)) < 2
  register_few see name pin has =
      let m = from_flat (λ (names : List Text). names) registers name has in
      let place = place_of registers m.0 m.1 in
      let inside = slice_get_within registers place.0 m.0 place.1 in
      let long : length registers ≡ length c.events = sym (length-map registers length) ∙ ap length enough ∙ length-map c.events (λ (e : Event). last_bit l e.name) in
      let e = some_at c.events place.0 (omega (arith, inside, long)) in
      let own_registers = registers_at comp place.0 e.0 e.1 in
      let same : m.0 ≡ registers_of l e.0.name = same_Some m.0 (registers_of l e.0.name) (sym place.1 ∙ own_registers.0) in
      let has_own : Contains (registers_of l e.0.name) name = subst (λ (names : List Text). Contains names name) same m.2 in
      by e.0 place.0 e.1 own_registers.0 own_registers.1 has_own (go_of l e.0.name) refl
    where
      by : (e : Event) (k : ℕ) → slice_get c.events k ≡ Some e → slice_get registers k ≡ Some (registers_of l e.name) → length (registers_of l e.name) ≡ last_bit l e.name → Contains (registers_of l e.name) name →
          (o : Option Text) → go_of l e.name ≡ o → length (local_values see (port_of name pin) (lowered_sets l)) < 2
      by e k at_k at_r long has_own None none =
          let no_bits : last_bit l e.name ≡ 0 = ap (λ (o : Option Text). option_map_or (λ go. fold max 0 (flat_map (wanted_by l e.name) l.scope.invocations)) o 0) none in
          let inside = has_own.1 in
          absurd (omega (arith, long, no_bits, inside))
      by e k at_k at_r long has_own (Some go) is_go =
          let alone = chain_alone comp k e at_k go is_go name has_own in
          let values : local_values see (port_of name pin) (lowered_sets l) ≡ local_values see (port_of name pin) (chain_sets (own go) (registers_of l e.name)) =
          sym (local_values-filter see name pin (lowered_sets l)) ∙ ap (local_values see (port_of name pin)) alone ∙ local_values-filter see name pin (chain_sets (own go) (registers_of l e.name)) in
          subst (λ (vs : List ℕ). length vs < 2) (sym values) (chain_few see name pin (own go) (registers_of l e.name) (distinct_at registers new.distinct k (registers_of l e.name) at_r))

  -- an output is connected once
  own_few : (see : PortName → ℕ) (pin : Text) → Contains (pin_names low.outs) pin → length (local_values see (own pin) (lowered_sets l)) < 2
  own_few see pin has =
      let out_pin : DataPort → Pin = λ x. record { name = x.name; width = x.width } in
      let names : pin_names low.outs ≡ map (λ (x : DataPort). x.name) c.outs = map-map (λ (x : Pin). x.name) out_pin c.outs in
      let d = from_map (λ (x : DataPort). x.name) c.outs pin (subst (λ (ns : List Text). Contains ns pin) names has) in
      let ends : All (λ (x : DataPort). Contains (flat_map connected_at c.body) x.name) c.outs = rules.keeps n c here (suc (length c.body)) TheEnd (inr (refl, refl)) 8 F1 (omega arith) in
      let arg = connected_some comps rules n c here c.body d.0.name (All-contains (λ (x : DataPort). Contains (flat_map connected_at c.body) x.name) c.outs d.0 ends d.1) in
      let w = connected_where c.body d.0.name arg.0 arg.1 in
      let values = own_values comp see d.0.name arg.0 w.k w.at in
      subst (λ (x : Text). length (local_values see (own x) (lowered_sets l)) < 2) d.2 (subst (λ (vs : List ℕ). length vs < 2) (sym values) (omega arith))

  -- ---- in a run

  module _ (standing : StandingComp comp)
      (txs : List Transaction) (legal : AreLegalTransactions (plan_of (take n comps) c).sig txs) (r : ℕ) (below : r < standing.below_top.height)
      (starts : (s : ℕ) → s ≤ r → CarriesStarts (plan_of (take n comps) c).sig (full_name standing.path) (standing.below_top.trace s) txs s) where
    open standing use {below_top, below_top.{top, asked, inputs, loads, height, trace, run}, path, at, plain_sets}

    abbrev plan : Plan
    plan = plan_of (take n comps) c

    abbrev see : PortName → ℕ
    see = look path (trace r)

    instance_few : (inst pin : Text) → IsInstance comp inst → Contains (pin_names (cell_inputs design low inst)) pin → length (local_values see (port_of inst pin) (lowered_sets l)) < 2
    instance_few inst pin is has =
        let h = pins comp inst is in
        let rows = shown comp standing in
        let shows = is_lowered comp standing in
        elim (h.pin_is pin has) [
          | inl p ↦
              (let values = data_values comp inst is see p.0 p.1
              ∙ arguments_are comp standing r below inst p.0 p.1 in
              let few = no_clash plan (plans_well_timed comps rules n c here) rows shows txs legal r below starts inst p.0 p.1 (λ (call : Use). source_in rows (trace r) (call.args p.0.name)) in
              subst (λ (x : Text). length (local_values see (port_of inst x) (lowered_sets l)) < 2) p.2 (subst (λ (vs : List ℕ). length vs < 2) (sym values) few))
          | inr g ↦
              (let values = go_values comp inst is see g.0 g.1 pin g.2 g.3 in
              subst (λ (vs : List ℕ). length vs < 2) (sym values) (one_at_most (some_on see (starting_bits l inst g.0)) 1))
        ]

    -- a cell with input pins, that is no instance, is a register
    cell_few : (cell pin : Text) → Contains (pin_names (cell_inputs design low cell)) pin → (o : Option Instance) → instance_named (whole_scope earlier c).instances cell ≡ o → length (local_values see (port_of cell pin) (lowered_sets l)) < 2
    cell_few cell pin has (Some i) found =
        let s = signature_is comps rules n c here cell i found in
        instance_few cell pin (record { i = i; found = found; sig = s.0; signed = s.1 }) has
    cell_few cell pin has None none = by (cell_named low.cells cell) refl
      where
        by : (o : Option CellDef) → cell_named low.cells cell ≡ o → length (local_values see (port_of cell pin) (lowered_sets l)) < 2
        by None nothing =
            let no_inputs : cell_inputs design low cell ≡ [] = ap (λ (o : Option CellDef). made_inputs (option_and_then primitive_of o) (option_and_then (part_of design) o)) nothing in
            absurd (contains_none pin (subst (λ (ps : List Pin). Contains (pin_names ps) pin) no_inputs has))
        by (Some def) found =
            let m = register_cell comp cell none def found in
            let is_name : m.0 ≡ cell = ap (λ (x : CellDef). x.name) m.2 ∙ (bytes_eq-Decides def.name cell).0 (found_passes (λ (x : CellDef). bytes_eq x.name cell) low.cells def found) in
            register_few see cell pin (subst (λ (x : Text). Contains (all_of registers) x) is_name m.1)

    pub few_values : (cell : Option Text) (pin : Text) → IsDestination design low (record { cell = cell; pin = pin }) → length (local_values see (record { cell = cell; pin = pin }) (lowered_sets l)) < 2
    few_values None pin sink = own_few see pin (destination_pin design low None pin sink)
    few_values (Some cell) pin sink = cell_few cell pin (destination_pin design low (Some cell) pin sink) (instance_named (whole_scope earlier c).instances cell) refl
