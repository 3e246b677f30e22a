-- The ports evaluated so far, the least Conflict among them, and the row that they make.
use Rattle.std.proofs.Common.{◌≡◌, ◌≢◌, ℕ, ◌+◌, ◌<◌, ◌≤◌, List, [], Option, Some, None, length, get_or, set, refl, sym, ap, ◌∙◌, arith, inl, inr, ◌⊎◌, subst, get_or-set_other, get_or-set_same}
use Rattle.std.specs.Prelude.{slice_get}
use Rattle.std.specs.Cmp.Lexicographic.{slice_cmp}
use Rattle.std.specs.Ordering.{nat_cmp}
use Rattle.std.specs.declared.cmp.Ordering.TheVariants.{Greater}
use Rattle.std.proofs.lemmas.Bool.{cases_lt}
use Rattle.std.proofs.lemmas.List.{length-map, get_or-map, ext_get_or}
use Rattle.std.proofs.lemmas.Option.{slice_get_within, get_or_from_slice_get, slice_get-get_or, same_Some}
use Rattle.hw_names.specs.Name.{Text, dotted}
use Rattle.hw_prims.proofs.PrimLemmas.{length-output_values}
use Rattle.hw_prims.specs.Meaning.{output_values}
use Rattle.hw_prims.specs.Row.{Row, values_at}
use Rattle.hw_prims.specs.State.{State}
use Rattle.hw_prims.specs.Table.{inputs_of, outputs_of, pin_names}
use Rattle.hw_prims.specs.declared.prim.Primitive.{Primitive}
use Rattle.net_core.specs.Circuit.{settled, Drive, IsRow, IsComputed, HasConflict}
use Rattle.net_core.specs.Graph.{ReadsPort}
use Rattle.net_core.specs.NetRun.{net_circuit, net_drive, IsNetCell, values_for}
use Rattle.net_core.specs.Netlist.{Netlist}
use Rattle.net_core.specs.Rules.{ports_of}
use Rattle.net_sim.proofs.CoverLemmas.{cover}
use Rattle.net_sim.proofs.GiverLemmas.{at_some}
use Rattle.hw_graph.proofs.NameOrderLemmas.{at_most_itself, at_most_trans}
use Rattle.net_sim.proofs.PlaceLemmas.{in_place, writable_place, output_place, named_at}
use Rattle.net_sim.proofs.PortLemmas.{port_with}
use Rattle.net_sim.proofs.RowLemmas.{Once, once_from_distinct, row_at, row_set, AgreeBut, drivers_kept, value_kept}
use Rattle.net_sim.proofs.SettleLemmas.{driven_writable}
use Rattle.hw_graph.specs.ByName.{IsAtMost, IsLesser}
use Rattle.net_sim.specs.Evaluated.{IsValueOf, Clashes, IsLeastConflict}
use Rattle.net_sim.specs.Layout.{port_names, name_of}
use Rattle.net_sim.specs.Order.{IsNamed}
use Rattle.net_sim.specs.OrderValue.{OrderValue}
use Rattle.net_sim.specs.Plan.{IsCompiled}
use Rattle.net_sim.specs.inside.Settled.{IsClash}
use Rattle.net_sim.specs.Sim.{AreConflicts, port_row}
use Rattle.net_sim.specs.declared.cells.CellPorts.{CellPorts}
use Rattle.net_sim.specs.declared.plan.Giver.{Giver}
use Rattle.net_sim.specs.declared.plan.Source.{Source}
use Rattle.net_sim.specs.declared.settle.Settled.{Settled}
use Rattle.net_sim.specs.declared.settle.Settled.TheVariants.{Undriven, Driven, Clash}

-- the first ports of the order have the values that a row asks of them
abbrev pub AreDone : Netlist → Row → (Text → Primitive → State) → List ℕ → ℕ → List ℕ → Type 0
AreDone n inputs states ports i values =
    (k port : ℕ) → k < i → slice_get ports k ≡ Some port → IsValueOf n inputs states (port_row n values) (name_of n port) (get_or values port 0)

-- one of the first ports of the order
abbrev pub IsAmong : List ℕ → ℕ → ℕ → Type 0
IsAmong ports i port = (k : ℕ) × (k < i) × (slice_get ports k ≡ Some port)

-- the least port with a Conflict among the first of the order
abbrev pub IsLeastSoFar : Netlist → Row → List ℕ → ℕ → Option ℕ → Type 0
IsLeastSoFar n row ports i None = (port : ℕ) → IsAmong ports i port → Clashes n row port → ⊥
IsLeastSoFar n row ports i (Some p) =
    IsAmong ports i p × Clashes n row p × ((port : ℕ) → IsAmong ports i port → Clashes n row port → IsAtMost (port_names n) p port)

-- what the loop over the order keeps
pub record AreEvaluated (n : Netlist) (inputs : Row) (states : Text → Primitive → State) (ports : List ℕ) (i : ℕ) (values : List ℕ) (found : Option ℕ) : Type 0 where
  pub done : AreDone n inputs states ports i values
  pub least : IsLeastSoFar n (port_row n values) ports i found

pub evaluated_none : (n : Netlist) (inputs : Row) (states : Text → Primitive → State) (ports values : List ℕ) → AreEvaluated n inputs states ports 0 values None
evaluated_none n inputs states ports values = record { done = λ k port lt. absurd (omega (arith, lt)); least = λ port among. absurd (omega (arith, among.1)) }

-- ---- the least Conflict

-- the Conflicts of the first ports are the same in another row
pub least_kept : (n : Netlist) (row row' : Row) (ports : List ℕ) (i : ℕ) (found : Option ℕ) → ((port : ℕ) → IsAmong ports i port → values_for (name_of n port) row n.sets ≡ values_for (name_of n port) row' n.sets) → IsLeastSoFar n row ports i found → IsLeastSoFar n row' ports i found
least_kept n row row' ports i None same none = λ port among clash. none port among (omega (arith, clash, ap length (same port among)))
least_kept n row row' ports i (Some p) same least = (
  least.0,
  (let e = ap length (same p least.0) in omega (arith, least.1, e)),
  λ port among clash. least.2 port among (omega (arith, clash, ap length (same port among))),
)

module _ (n : Netlist) (row : Row) (ports : List ℕ) (i port : ℕ) (here : slice_get ports i ≡ Some port) where
  is_here : (q : ℕ) → IsAmong ports (i + 1) q → IsAmong ports i q ⊎ (q ≡ port)
  is_here q among = elim (cases_lt among.0 i) [
    | inl before ↦ inl (among.0, before, among.2)
    | inr last ↦ let e : among.0 ≡ i = omega (arith, among.1, last) in inr (same_Some q port (sym among.2 ∙ ap (slice_get ports) e ∙ here))
  ]

  later : (q : ℕ) → IsAmong ports i q → IsAmong ports (i + 1) q
  later q among = (among.0, omega (arith, among.1), among.2)

  this : IsAmong ports (i + 1) port
  this = (i, omega arith, here)

  unchanged : (found : Option ℕ) → (Clashes n row port → ⊥) → IsLeastSoFar n row ports i found → IsLeastSoFar n row ports (i + 1) found
  unchanged None none least = λ q among clash. elim (is_here q among) [ inl before ↦ least q before clash | inr e ↦ none (subst (Clashes n row) e clash) ]
  unchanged (Some p) none least = (later p least.0, least.1, λ q among clash. elim (is_here q among) [ inl before ↦ least.2 q before clash | inr e ↦ absurd (none (subst (Clashes n row) e clash)) ])

  first_found : Clashes n row port → IsLeastSoFar n row ports i None → IsLeastSoFar n row ports (i + 1) (Some port)
  first_found clash none = (
    this,
    clash,
    λ q among clash'. elim (is_here q among) [
      | inl before ↦ absurd (none q before clash')
      | inr e ↦ subst (IsAtMost (port_names n) port) (sym e) (at_most_itself (port_names n) port)
    ],
  )

  lesser_found : (other least : ℕ) → Clashes n row port → IsLesser (port_names n) other port least → IsLeastSoFar n row ports i (Some other) → IsLeastSoFar n row ports (i + 1) (Some least)
  lesser_found other least clash lesser found = (
    elim lesser.one [ inl e ↦ subst (IsAmong ports (i + 1)) (sym e) (later other found.0) | inr e ↦ subst (IsAmong ports (i + 1)) (sym e) this ],
    elim lesser.one [ inl e ↦ subst (Clashes n row) (sym e) found.1 | inr e ↦ subst (Clashes n row) (sym e) clash ],
    λ q among clash'. elim (is_here q among) [
      | inl before ↦ at_most_trans (port_names n) least other q lesser.first (found.2 q before clash')
      | inr e ↦ subst (IsAtMost (port_names n) least) (sym e) lesser.second
    ],
  )

  pub least_more : (s : Settled) (found result : Option ℕ) → (IsClash s → Clashes n row port) → (Clashes n row port → IsClash s) → IsLeastConflict (port_names n) s found port result → IsLeastSoFar n row ports i found → IsLeastSoFar n row ports (i + 1) result
  least_more Undriven found result clash of is least = subst (IsLeastSoFar n row ports (i + 1)) (sym is) (unchanged found of least)
  least_more (Driven value) found result clash of is least = subst (IsLeastSoFar n row ports (i + 1)) (sym is) (unchanged found of least)
  least_more Clash None result clash of is least = subst (IsLeastSoFar n row ports (i + 1)) (sym (is.1 ∙ ap Some is.2)) (first_found (clash tt) least)
  least_more Clash (Some other) result clash of is least = subst (IsLeastSoFar n row ports (i + 1)) (sym is.1) (lesser_found other is.0 (clash tt) is.2 least)

-- ---- one more port

module _ (n : Netlist) (order : OrderValue) (cells : List CellPorts) (sources : List Source) (givers : List Giver) (compiled : IsCompiled n order cells sources givers) (inputs : Row) (states : Text → Primitive → State) where
  count_is : length (port_names n) ≡ length (ports_of n)
  count_is = length-map (ports_of n) _

  named : (port : ℕ) → port < length (port_names n) → IsNamed n port (name_of n port)
  named port lt =
      let p = port_with n port lt in
      (p.0, p.1, sym (get_or_from_slice_get (port_names n) port p.0.name [] (named_at n port p.0 p.1)))

  pub in_range : (i port : ℕ) → slice_get order.ports i ≡ Some port → port < length (port_names n)
  in_range i port at = omega (arith, compiled.ordered.ports.in_range i port at, count_is)

  -- no port up to this one reads it
  not_read : (i port : ℕ) → slice_get order.ports i ≡ Some port → (k q : ℕ) → k < i + 1 → slice_get order.ports k ≡ Some q → ReadsPort n (name_of n q) (name_of n port) → ⊥
  not_read i port here k q lt at reads =
      let before = compiled.ordered.ports.after k i q port (name_of n q) (name_of n port) at here (named q (in_range k q at)) (named port (in_range i port here)) reads in
      omega (arith, before, lt)

  others_kept : (values : List ℕ) (port value : ℕ) → port < length (port_names n) → AgreeBut (name_of n port) (port_row n values) (port_row n (set values port value))
  others_kept values port value within = λ name ne. row_set (port_names n) values port value (name_of n port) name (slice_get-get_or (port_names n) port [] within) ne

  -- what drives the ports up to this one stays when it gets its value
  pub same_drivers : (values : List ℕ) (i port value : ℕ) → slice_get order.ports i ≡ Some port → (q : ℕ) → IsAmong order.ports (i + 1) q → values_for (name_of n q) (port_row n values) n.sets ≡ values_for (name_of n q) (port_row n (set values port value)) n.sets
  same_drivers values i port value here q among =
      drivers_kept n (port_row n values) (port_row n (set values port value)) (name_of n port) (name_of n q) (others_kept values port value (in_range i port here)) (not_read i port here among.0 q among.1 among.2)

  pub done_more : (values : List ℕ) (i port value : ℕ) → length values ≡ length (port_names n) → slice_get order.ports i ≡ Some port → IsValueOf n inputs states (port_row n values) (name_of n port) value → AreDone n inputs states order.ports i values → AreDone n inputs states order.ports (i + 1) (set values port value)
  done_more values i port value size here is done k q lt at =
      let within = in_range i port here in
      let agree = others_kept values port value within in
      let unread : ReadsPort n (name_of n q) (name_of n port) → ⊥ = not_read i port here k q lt at in
      let kept = λ (v : ℕ). value_kept n inputs states (port_row n values) (port_row n (set values port value)) (name_of n port) (name_of n q) v agree unread in
      elim (cases_lt k i) [
        | inl before ↦
            let ne : q ≢ port = λ e. let twice = compiled.ordered.ports.once k i q at (here ∙ ap Some (sym e)) in omega (arith, twice, before) in
            subst (λ v. IsValueOf n inputs states (port_row n (set values port value)) (name_of n q) v) (sym (get_or-set_other values port q value 0 ne)) (kept (get_or values q 0) (done k q before at))
        | inr last ↦
            let e : k ≡ i = omega (arith, lt, last) in
            let same : q ≡ port = same_Some q port (sym at ∙ ap (slice_get order.ports) e ∙ here) in
            subst (λ v. IsValueOf n inputs states (port_row n (set values port value)) (name_of n q) v) (sym (ap (λ x. get_or (set values port value) x 0) same ∙ get_or-set_same values port value 0 (omega (arith, within, size))))
            (kept value (subst (λ x. IsValueOf n inputs states (port_row n values) (name_of n x) value) (sym same) is))
      ]

  -- ---- the whole row

  module _ (values : List ℕ) (size : length values ≡ length (port_names n)) (done : AreDone n inputs states order.ports (length order.ports) values) where
    names_once : Once (port_names n)
    names_once = once_from_distinct (port_names n) compiled.distinct

    covered : (port : ℕ) → port < length (port_names n) → (k : ℕ) × (slice_get order.ports k ≡ Some port)
    covered port lt = cover order.ports (length (ports_of n)) compiled.ordered.ports.all compiled.ordered.ports.in_range compiled.ordered.ports.once port (omega (arith, lt, count_is))

    value_at : (port : ℕ) (name : Text) → slice_get (port_names n) port ≡ Some name → IsValueOf n inputs states (port_row n values) name (port_row n values name)
    value_at port name at =
        let k = covered port (slice_get_within (port_names n) port name at) in
        let is = done k.0 port (slice_get_within order.ports k.0 port k.1) k.1 in
        let same : name_of n port ≡ name = get_or_from_slice_get (port_names n) port name [] at in
        subst (λ v. IsValueOf n inputs states (port_row n values) name v) (sym (row_at (port_names n) values names_once (sym size) port name at))
        (subst (λ x. IsValueOf n inputs states (port_row n values) x (get_or values port 0)) same is)

    computed_at : (cell : Text) (prim : Primitive) → IsNetCell n cell prim → IsComputed (port_row n values) cell prim (states cell prim)
    computed_at cell prim has = ext_get_or 0 (values_at (port_row n values) (dotted cell) (pin_names (outputs_of prim))) (output_values prim (states cell prim) ins) sizes each
      where
        ins : List ℕ
        ins = values_at (port_row n values) (dotted cell) (pin_names (inputs_of prim))

        sizes : length (values_at (port_row n values) (dotted cell) (pin_names (outputs_of prim))) ≡ length (output_values prim (states cell prim) ins)
        sizes = length-map (pin_names (outputs_of prim)) (λ pin. port_row n values (dotted cell pin)) ∙ length-map (outputs_of prim) _ ∙ sym (length-output_values prim (states cell prim) ins)

        each : (k : ℕ) → k < length (values_at (port_row n values) (dotted cell) (pin_names (outputs_of prim))) → get_or (values_at (port_row n values) (dotted cell) (pin_names (outputs_of prim))) k 0 ≡ get_or (output_values prim (states cell prim) ins) k 0
        each k lt =
            let within : k < length (pin_names (outputs_of prim)) = omega (arith, lt, length-map (pin_names (outputs_of prim)) (λ pin. port_row n values (dotted cell pin))) in
            let pin = at_some (pin_names (outputs_of prim)) k within in
            let place = output_place n cells compiled.listed cell prim k pin.0 has pin.1 in
            get_or-map (λ p. port_row n values (dotted cell p)) (pin_names (outputs_of prim)) k [] 0 within
            ∙ ap (λ p. port_row n values (dotted cell p)) (get_or_from_slice_get (pin_names (outputs_of prim)) k pin.0 [] pin.1)
            ∙ (value_at place.number (dotted cell pin.0) place.at).computed cell prim k pin.0 has pin.1 refl

    pub row_is_made : (t : ℕ) → IsRow (net_circuit n) t inputs states (port_row n values)
    row_is_made t = record {
      given = λ port has. let place = in_place n cells compiled.listed port has in (value_at place.number port place.at).given has;
      driven = λ port drive sink. let place = writable_place n cells compiled.listed port sink.0 in (value_at place.number port place.at).driven sink.0 ∙ ap (λ (d : Drive). settled (d t (port_row n values))) (sym sink.1);
      computed = computed_at;
    }

    -- a Conflict by its port's number
    pub record IsClashAt (port : Text) : Type 0 where
      pub number : ℕ
      pub among : IsAmong order.ports (length order.ports) number
      pub named_as : name_of n number ≡ port
      pub clash : Clashes n (port_row n values) number

    clash_at : (t : ℕ) (port : Text) → HasConflict (net_circuit n) t (port_row n values) port → IsClashAt port
    clash_at t port has =
        let place = writable_place n cells compiled.listed port has.sink.0 in
        let k = covered place.number (slice_get_within (port_names n) place.number port place.at) in
        let same : name_of n place.number ≡ port = get_or_from_slice_get (port_names n) place.number port [] place.at in
        let two : 2 ≤ length (values_for port (port_row n values) n.sets) = subst (λ (d : Drive). 2 ≤ length (d t (port_row n values))) has.sink.1 has.clash in
        record { number = place.number; among = (k.0, slice_get_within order.ports k.0 place.number k.1, k.1); named_as = same; clash = subst (λ x. 2 ≤ length (values_for x (port_row n values) n.sets)) (sym same) two }

    conflict_of : (t port : ℕ) → Clashes n (port_row n values) port → HasConflict (net_circuit n) t (port_row n values) (name_of n port)
    conflict_of t port clash =
        record { drive = net_drive n (name_of n port); sink = (driven_writable n compiled.valid (port_row n values) (name_of n port) (omega (arith, clash)), refl); clash = clash }

    pub conflicts_are : (t : ℕ) (found : Option ℕ) → IsLeastSoFar n (port_row n values) order.ports (length order.ports) found → AreConflicts n t (port_row n values) found
    conflicts_are t None none = λ port has. let c = clash_at t port has in none c.number c.among c.clash
    conflicts_are t (Some p) least = (
      in_range least.0.0 p least.0.2,
      record {
        has = conflict_of t p least.1;
        least = λ other has. let c = clash_at t other has in subst (λ x. slice_cmp nat_cmp (name_of n p) x ≢ Greater) c.named_as (least.2 c.number c.among c.clash);
      },
    )
