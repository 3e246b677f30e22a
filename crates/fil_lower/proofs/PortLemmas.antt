-- What drives each port of a lowered component: an output its connection, a data input of an instance its arguments, an interface port its start.
use Rattle.std.proofs.Common.{◌≡◌, ℕ, ◌+◌, ◌<◌, Bool, true, false, List, [], ◌∷◌, ◌++◌, flat_map, take, slice_get, Option, Some, None, refl, sym, ap, ap₂, subst, ◌∙◌, inl, arith}
use Rattle.std.specs.Option.{option_and_then, option_map_or}
use Rattle.std.specs.Prelude.{Contains, bytes_eq, if◌then◌else◌}
use Rattle.std.proofs.lemmas.List.{append-nil}
use Rattle.std.proofs.lemmas.List.Elements.{All-contains, All-weaker}
use Rattle.std.proofs.lemmas.Slice.Eq.{bytes_eq-Decides}
use Rattle.hw_names.specs.Name.{Text, IsPlain, port_at}
use Rattle.hw_prims.specs.Table.{pin_names}
use Rattle.hw_prims.specs.Timed.{TimedEvent, TimedPort}
use Rattle.net_core.specs.Circuit.{settled}
use Rattle.net_core.specs.Guard.{source_value}
use Rattle.cal_ast.proofs.LocalLemmas.{drives_are_local}
use Rattle.cal_ast.specs.CalRun.{look}
use Rattle.cal_ast.specs.Laws.{local_values}
use Rattle.cal_ast.specs.Plain.{IsPlainPort}
use Rattle.cal_ast.specs.Ports.{cell_inputs}
use Rattle.cal_ast.specs.Sides.{IsDestination}
use Rattle.cal_ast.specs.Tree as calyx
use Rattle.cal_ast.specs.Tree.{PortName, own, port_of}
use Rattle.fil_ast.specs.Behaviours.{timed_port}
use Rattle.fil_ast.specs.Connections.{connected_at}
use Rattle.fil_ast.specs.Naming.{instance_names}
use Rattle.fil_ast.specs.Plain.{IsPlainComponent, IsPlainInstance}
use Rattle.fil_ast.specs.Scope.{Instance, Invocation, instance_named, instance_signature, signature_in}
use Rattle.fil_ast.specs.Signature.{SigPort, Signature}
use Rattle.fil_ast.specs.Tree.{Design, Statement, New, Call, Both, Connect, ValueTree}
use Rattle.fil_ast.specs.Wires.{whole_scope}
use Rattle.fil_share.proofs.ListLemmas.{Contains-at, Contains-here}
use Rattle.fil_lower.specs.inside.Lowering.{Lowering, connection_set, inputs_of_callee, invocation_sets, lowered_component, lowered_sets, lowered_value, lowering_with, register_sets, start_set, start_sets, start_sets_from, starting_bits}
use Rattle.fil_lower.specs.inside.PlanOf.{callee_of}
use Rattle.fil_lower.proofs.AvailableLemmas.{found_passes}
use Rattle.fil_lower.proofs.BitLemmas.{some_on}
use Rattle.fil_lower.proofs.CallLemmas.{found_among}
use Rattle.fil_lower.proofs.CellLemmas.{DrivesCell, argument_cells, connection_cells, elsewhere_by, elsewhere_pin, other_cell, registers_elsewhere, start_cells}
use Rattle.fil_lower.proofs.ChainLemmas.{no_register}
use Rattle.fil_lower.proofs.DistinctLemmas.{other_connection, same_instance}
use Rattle.fil_lower.proofs.FeedLemmas.{no_argument}
use Rattle.fil_lower.proofs.LoweredParts.{LoweredComp, StandingComp}
use Rattle.fil_lower.proofs.NameLemmas.{from_map, sig_names}
use Rattle.fil_lower.proofs.PartLemmas.{pins_here}
use Rattle.fil_lower.proofs.PinLemmas.{HasPins}
use Rattle.fil_lower.proofs.StartLemmas.{no_start, one_start, start_value}
use Rattle.fil_lower.proofs.TimedAsLemmas.{IsTimedAs, contains_map, place_of}
use Rattle.fil_lower.proofs.ValueLemmas.{IsElsewhere, first_value, flat_none, flat_only, flat_values, four_values, later_values, no_values}
use Rattle.fil_lower.proofs.WellLemmas.{instance_timed}

module _ (comp : LoweredComp) where
  open comp use {pair, pair.{comps, rules, plain, design, lowered}, n, c, here, registers, enough, new}

  abbrev earlier : Design
  earlier = take n comps

  abbrev l : Lowering
  l = lowering_with (take n comps) c registers

  abbrev instances : List Instance
  instances = (whole_scope earlier c).instances

  abbrev low : calyx.Component
  low = lowered_component l

  -- ---- an instance

  pub record IsInstance (inst : Text) : Type 0 where
    pub i : Instance
    pub found : instance_named instances inst ≡ Some i
    pub sig : Signature
    pub signed : instance_signature (whole_scope earlier c) inst ≡ Some sig

  module _ (inst : Text) (is : IsInstance inst) where
    pub has_signature : signature_in earlier is.i.made is.i.params ≡ Some is.sig
    has_signature = sym (ap (option_and_then (λ (i : Instance). signature_in earlier i.made i.params)) is.found) ∙ is.signed

    pub pins : HasPins (callee_of earlier c inst).sig is.sig (pin_names (cell_inputs design low inst))
    pins = pins_here comp inst is.i is.sig is.found has_signature

    -- when its ports are valid is what its signature says
    timed_here : IsTimedAs (callee_of earlier c inst).sig is.sig
    timed_here = instance_timed comps rules n c here inst is.i is.sig is.found has_signature

    among : Contains instances is.i
    among = found_among (λ (i : Instance). bytes_eq i.name inst) instances is.i is.found

    is_name : is.i.name ≡ inst
    is_name = (bytes_eq-Decides is.i.name inst).0 (found_passes (λ (i : Instance). bytes_eq i.name inst) instances is.i is.found)

    name_there : Contains (instance_names instances) inst
    name_there = subst (λ (name : Text). Contains (instance_names instances) name) is_name (contains_map (λ (i : Instance). i.name) instances is.i among)

    pub plain_name : IsPlain inst
    plain_name =
        let p : IsPlainComponent c = All-contains IsPlainComponent comps c plain (Contains-at comps n c here) in
        subst IsPlain is_name (All-contains IsPlainInstance instances is.i p.instances among)

    module _ (see : PortName → ℕ) (name : Text) where
      abbrev port : PortName
      port = port_of inst name

      of_registers : local_values see port (register_sets l c.events) ≡ []
      of_registers = registers_elsewhere see port l (λ register has. other_cell register inst (no_register comp inst register name_there has)) c.events

      of_connections : local_values see port (flat_map (connection_set l) c.body) ≡ []
      of_connections =
          flat_values see port (connection_set l) c.body
          ∙ flat_none (λ s. local_values see port (connection_set l s)) c.body (λ k s at.
          no_values see port (connection_set l s) (All-weaker (DrivesCell None) (IsElsewhere see port) (elsewhere_by see port None refl) (connection_set l s) (connection_cells l s)))

      -- of starts those of the instance
      of_starts : local_values see port (flat_map (start_sets l) instances) ≡ local_values see port (start_sets_from l inst 0 is.sig.events)
      of_starts =
          let place = place_of instances is.i among in
          flat_values see port (start_sets l) instances
          ∙ flat_only (λ i. local_values see port (start_sets l i)) instances place.0 is.i place.1 (λ k i at apart.
          no_values see port (start_sets l i)
          (All-weaker (DrivesCell (Some i.name)) (IsElsewhere see port)
          (elsewhere_by see port (Some i.name) (other_cell i.name inst (λ same. apart (same_instance comps rules n c here k place.0 i is.i at place.1 (same ∙ sym is_name)))))
          (start_sets l i) (start_cells l i)))
          ∙ ap (λ (x : Text). local_values see port (option_map_or (λ (sig : Signature). start_sets_from l x 0 sig.events) (instance_signature l.scope x) [])) is_name
          ∙ ap (λ (o : Option Signature). local_values see port (option_map_or (λ (sig : Signature). start_sets_from l inst 0 sig.events) o [])) is.signed

      only_arguments : (values : List ℕ) → ([] ++ values ++ [] ++ []) ≡ values
      only_arguments values = append-nil (values ++ []) ∙ append-nil values

    -- a data input has its arguments
    pub data_values : (see : PortName → ℕ) (p : TimedPort) → Contains (callee_of earlier c inst).sig.ins p →
        local_values see (port_of inst p.name) (lowered_sets l) ≡ local_values see (port_of inst p.name) (flat_map (invocation_sets l) l.scope.invocations)
    data_values see p has =
        let pt = port_of inst p.name in
        four_values see pt (register_sets l c.events) (flat_map (invocation_sets l) l.scope.invocations) (flat_map (start_sets l) instances) (flat_map (connection_set l) c.body)
        ∙ ap₂ ◌++◌ (ap₂ ◌++◌ (ap (λ (first : List ℕ). first ++ local_values see pt (flat_map (invocation_sets l) l.scope.invocations)) (of_registers see p.name))
        (of_starts see p.name ∙ no_start see inst l p.name 0 is.sig.events (λ j e go at is_go same.
        let event = timed_here.go_is j e go at is_go in pins.apart p has j event.0 go event.1 event.2 (sym same)))) (of_connections see p.name)
        ∙ only_arguments see p.name (local_values see pt (flat_map (invocation_sets l) l.scope.invocations))

    -- no argument drives an interface port
    no_arguments : (see : PortName → ℕ) (k : ℕ) (event : TimedEvent) (go : Text) → slice_get (callee_of earlier c inst).sig.events k ≡ Some event → event.go ≡ Some go →
        local_values see (port_of inst go) (flat_map (invocation_sets l) l.scope.invocations) ≡ []
    no_arguments see k event go at is_go =
        flat_values see (port_of inst go) (invocation_sets l) l.scope.invocations
        ∙ flat_none (λ v. local_values see (port_of inst go) (invocation_sets l v)) l.scope.invocations (λ j v at_v. by v (bytes_eq v.inst inst) refl)
      where
        absent : (v : Invocation) → v.inst ≡ inst → Contains (sig_names (inputs_of_callee l v.inst)) go → ⊥
        absent v same has =
            let ins : inputs_of_callee l v.inst ≡ is.sig.ins =
            ap (λ (name : Text). inputs_of_callee l name) same ∙ ap (λ (o : Option Signature). option_map_or (λ (x : Signature). x.ins) o []) is.signed in
            let q = from_map (λ (x : SigPort). x.name) is.sig.ins go (subst (λ (ps : List SigPort). Contains (sig_names ps) go) ins has) in
            let p : Contains (callee_of earlier c inst).sig.ins (timed_port q.0) =
            subst (λ (ps : List TimedPort). Contains ps (timed_port q.0)) (sym timed_here.ins_are) (contains_map timed_port is.sig.ins q.0 q.1) in
            pins.apart (timed_port q.0) p k event go at is_go q.2

        by : (v : Invocation) (b : Bool) → bytes_eq v.inst inst ≡ b → local_values see (port_of inst go) (invocation_sets l v) ≡ []
        by v true same =
            let is_inst : v.inst ≡ inst = (bytes_eq-Decides v.inst inst).0 same in
            ap (λ (x : Text). local_values see (port_of x go) (invocation_sets l v)) (sym is_inst) ∙ no_argument see l v go (inputs_of_callee l v.inst) v.gives.args (absent v is_inst)
        by v false other =
            no_values see (port_of inst go) (invocation_sets l v)
            (All-weaker (DrivesCell (Some v.inst)) (IsElsewhere see (port_of inst go)) (elsewhere_by see (port_of inst go) (Some v.inst) other) (invocation_sets l v) (argument_cells l v (inputs_of_callee l v.inst) v.gives.args))

    -- an interface port has its event's start
    pub go_values : (see : PortName → ℕ) (k : ℕ) (event : TimedEvent) (go : Text) → slice_get (callee_of earlier c inst).sig.events k ≡ Some event → event.go ≡ Some go →
        local_values see (port_of inst go) (lowered_sets l) ≡ (if some_on see (starting_bits l inst k) then 1 ∷ [] else [])
    go_values see k event go at is_go =
        let pt = port_of inst go in
        let e = timed_here.event_is k event at in
        let is_e : e.0.go ≡ Some go = e.2 ∙ is_go in
        let zero_plus : 0 + k ≡ k = omega arith in
        four_values see pt (register_sets l c.events) (flat_map (invocation_sets l) l.scope.invocations) (flat_map (start_sets l) instances) (flat_map (connection_set l) c.body)
        ∙ ap₂ ◌++◌ (ap₂ ◌++◌ (ap₂ ◌++◌ (of_registers see go) (no_arguments see k event go at is_go))
        (of_starts see go ∙ one_start see inst l 0 k is.sig.events e.0 go e.1 is_e (λ j f at_f is_f. pins.one_go j k f e.0 go at_f is_f e.1 is_e)
        ∙ ap (λ (m : ℕ). local_values see pt (start_set inst go (starting_bits l inst m))) zero_plus ∙ start_value see inst go (starting_bits l inst k))) (of_connections see go)
        ∙ append-nil (if some_on see (starting_bits l inst k) then 1 ∷ [] else [])

  -- ---- the component's own outputs

  -- a connection of the output
  connection_value : (see : PortName → ℕ) (output : Text) (value : ValueTree) → local_values see (own output) (connection_set l (Connect output value)) ≡ source_value see (lowered_value l value) ∷ []
  connection_value see output value = first_value see (own output) (record { dst = own output; guard = None; src = lowered_value l value }) [] refl

  other_value : (see : PortName → ℕ) (output : Text) (s : Statement) → (Contains (connected_at s) output → ⊥) → local_values see (own output) (connection_set l s) ≡ []
  other_value see output (New name made params) absent = refl
  other_value see output (Call name inst gives) absent = refl
  other_value see output (Both name made params gives) absent = refl
  other_value see output (Connect name value) absent =
      later_values see (own output) (record { dst = own name; guard = None; src = lowered_value l value }) []
      (elsewhere_pin see (own output) (record { dst = own name; guard = None; src = lowered_value l value }) (λ same. absent (0, omega arith, same)))

  -- no cell's port is the component's own
  own_of_cells : (see : PortName → ℕ) (output : Text) → local_values see (own output) (lowered_sets l) ≡ local_values see (own output) (flat_map (connection_set l) c.body)
  own_of_cells see output =
      let pt = own output in
      four_values see pt (register_sets l c.events) (flat_map (invocation_sets l) l.scope.invocations) (flat_map (start_sets l) instances) (flat_map (connection_set l) c.body)
      ∙ ap (λ (first : List ℕ). first ++ local_values see pt (flat_map (connection_set l) c.body))
      (ap₂ ◌++◌ (ap₂ ◌++◌ (registers_elsewhere see pt l (λ register has. refl) c.events)
      (flat_values see pt (invocation_sets l) l.scope.invocations
      ∙ flat_none (λ v. local_values see pt (invocation_sets l v)) l.scope.invocations (λ k v at.
      no_values see pt (invocation_sets l v) (All-weaker (DrivesCell (Some v.inst)) (IsElsewhere see pt) (elsewhere_by see pt (Some v.inst) refl) (invocation_sets l v) (argument_cells l v (inputs_of_callee l v.inst) v.gives.args)))))
      (flat_values see pt (start_sets l) instances
      ∙ flat_none (λ i. local_values see pt (start_sets l i)) instances (λ k i at.
      no_values see pt (start_sets l i) (All-weaker (DrivesCell (Some i.name)) (IsElsewhere see pt) (elsewhere_by see pt (Some i.name) refl) (start_sets l i) (start_cells l i)))))

  pub own_values : (see : PortName → ℕ) (output : Text) (value : ValueTree) (k : ℕ) → slice_get c.body k ≡ Some (Connect output value) → local_values see (own output) (lowered_sets l) ≡ source_value see (lowered_value l value) ∷ []
  own_values see output value k at =
      own_of_cells see output
      ∙ flat_values see (own output) (connection_set l) c.body
      ∙ flat_only (λ s. local_values see (own output) (connection_set l s)) c.body k (Connect output value) at
      (λ j s at_s apart. other_value see output s (λ has. other_connection comps rules n c here j k s (Connect output value) at_s at apart output has (Contains-here output [])))
      ∙ connection_value see output value

  -- ---- in a run

  module _ (standing : StandingComp comp) where
    open standing use {below_top, below_top.{top, asked, inputs, loads, height, trace, run}, path, at, plain_sets}

    -- a port has the value that its assignments give
    pub port_has : (cell : Option Text) (pin : Text) → IsDestination design low (record { cell = cell; pin = pin }) → IsPlainPort (record { cell = cell; pin = pin }) → (r : ℕ) → r < height →
        trace r (port_at path cell pin) ≡ settled (local_values (look path (trace r)) (record { cell = cell; pin = pin }) (lowered_sets l))
    port_has cell pin sink plain_port r below =
        (run.rows r below).driven (port_at path cell pin) _ (inl (record { path = path; c = low; at = at; cell = cell; pin = pin; sink = sink; named = refl; drives = refl }))
        ∙ ap settled (drives_are_local path (trace r) (record { cell = cell; pin = pin }) (lowered_sets l) plain_port plain_sets)
