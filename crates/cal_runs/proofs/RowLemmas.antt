-- Rows of two runs from the same inputs and states, in which control lets the same act where the same is seen, agree at every port of the design.
use Rattle.std.proofs.Common.{◌≡◌, ◌≢◌, inl, inr, ℕ, ◌≤◌, List, [], ◌∷◌, ◌++◌, length, Bool, false, Option, Some, refl, sym, ap, ap₂, ◌∙◌, subst}
use Rattle.std.specs.Prelude.{Contains, codes, if◌then◌else◌}
use Rattle.std.proofs.lemmas.List.Elements.{All-contains}
use Rattle.hw_names.specs.Name.{Text, Path, dotted, full_name, port_at}
use Rattle.hw_prims.proofs.PrimLemmas.{output_agrees}
use Rattle.hw_prims.specs.Row.{Row}
use Rattle.hw_prims.specs.State.{State}
use Rattle.hw_prims.specs.Table.{Pin, pin_names, inputs_of, outputs_of}
use Rattle.hw_prims.specs.declared.prim.Primitive.{Primitive}
use Rattle.net_core.specs.Circuit.{Drive, settled, IsRow, IsComputed, HasConflict}
use Rattle.cal_ast.proofs.InstanceLemmas.{component_at-design}
use Rattle.cal_ast.proofs.LineLemmas.{line, done_line}
use Rattle.cal_ast.proofs.ListLemmas.{place_of, Contains-map}
use Rattle.cal_ast.proofs.LookupLemmas.{cell_inputs-primitive}
use Rattle.cal_ast.proofs.PathLoopLemmas.{no_loop_over_paths}
use Rattle.cal_ast.proofs.SideLemmas.{cell_input_destination}
use Rattle.cal_ast.specs.Actors.{Actor, ActorGroup, actor_groups, group_of}
use Rattle.cal_ast.specs.CalRun.{look, values_for, cal_circuit}
use Rattle.cal_ast.specs.FlatWires.{FlatReads, FlatReaches, FlatAtOnce, FlatOver}
use Rattle.cal_ast.specs.Instances.{component_at, port_name, IsPrimitiveCell}
use Rattle.cal_ast.specs.Naming.{Unreserved}
use Rattle.cal_ast.specs.Plain.{HasPlainTree}
use Rattle.cal_ast.specs.Ports.{is_bare}
use Rattle.cal_ast.specs.Rules.{CalRules}
use Rattle.cal_ast.specs.Schedule.{IsPortOf, is_group_done, scheduled}
use Rattle.cal_ast.specs.Sides.{IsSource, IsDestination}
use Rattle.cal_ast.specs.Tree.{PortName, own, port_of, Assignment, Component, Design}
use Rattle.cal_ast.specs.Wires.{ByAssignment, ByDone, ByGo, ByPrimitive, IsAssignmentOf, IsGroupOf, set_ports, done_ports}
use Rattle.cal_runs.proofs.ActorLemmas.{group_of-itself}
use Rattle.cal_runs.proofs.InductionLemmas.{by_reach}
use Rattle.cal_runs.proofs.PortListLemmas.{lists_ports}
use Rattle.cal_runs.proofs.RoleLemmas.{Role, Given, Driven, Controlled, Computed, go_source, source_known, destination_known, role_of}
use Rattle.cal_runs.proofs.ValueLemmas.{IsDriven, dones_agree, values_agree, values-append, actors_agree}

-- one read after others
reach_on : (design : Design) (top : Component) (x y z : Text) → FlatReaches design top x y → FlatReaches design top y z → FlatReaches design top x z
reach_on design top x y z (FlatAtOnce p q reads) more = FlatOver p q z reads more
reach_on design top x y z (FlatOver p between q reads rest) more = FlatOver p between z reads (reach_on design top between q z rest more)

-- what an actor does at an instance that isn't bare is told by the go of the instance and by whether the actor is done
pub record SeesAlike (design : Design) (path : Path) (c : Component) (actor : Actor) (row row' : Row) : Type 0 where
  pub go : row (full_name path (codes "go")) ≡ row' (full_name path (codes "go"))
  pub done : is_group_done path row (group_of design c actor) ≡ is_group_done path row' (group_of design c actor)

-- control gives one done in two runs, and lets the same act where it sees the same
pub record IsTold (design : Design) (path : Path) (c : Component) (t : ℕ) (acts acts' : Path → Actor → ℕ → Bool) (is_done is_done' : Path → ℕ → Bool) (row row' : Row) : Type 0 where
  pub done : is_done path t ≡ is_done' path t
  pub acting : (actor : Actor) → (is_bare c ≡ false → SeesAlike design path c actor row row') → acts path actor t ≡ acts' path actor t

module _ (design : Design) (top : Component) (rules : CalRules design) (in_design : Contains design top) where
  -- the port of an instance that is read
  pub source_port : (path : Path) (c : Component) (p : PortName) → component_at design top path ≡ Some c → IsSource design c p → IsPortOf design top (port_name path p)
  source_port path c p at is = record { path = path; c = c; at = at; p = p; known = source_known design c p is; named = refl }

  -- an input of a primitive's cell
  pub input_port : (cell : Text) (prim : Primitive) (input : Text) → IsPrimitiveCell design top cell prim → Contains (pin_names (inputs_of prim)) input → IsPortOf design top (dotted cell input)
  input_port cell prim input is has =
      let there = subst (λ (pins : List Pin). Contains (pin_names pins) input) (sym (cell_inputs-primitive design is.c is.cell prim is.made)) has in
      record {
        path = is.path;
        c = is.c;
        at = is.at;
        p = port_of is.cell input;
        known = destination_known design is.c (port_of is.cell input) (cell_input_destination design is.c is.cell input there);
        named = ap (λ (name : Text). dotted name input) is.named;
      }

  module _ (row row' : Row) where
    -- the rows agree at each port that the name reads
    abbrev AgreesOn : Text → Type 0
    AgreesOn name = (other : Text) → IsPortOf design top other → FlatReads design top name other → row other ≡ row' other

    module _ (path : Path) (c : Component) (at : component_at design top path ≡ Some c) where
      here : Contains design c
      here = component_at-design design top path c in_design at

      -- an assignment's ports
      set_agrees : (name : Text) → AgreesOn name → (a : Assignment) → IsAssignmentOf design c a → port_name path a.dst ≡ name → (p : PortName) → Contains (set_ports a) p → look path row p ≡ look path row' p
      set_agrees name agrees a is named p has =
          let n = place_of design c here in
          let source = All-contains (IsSource design c) (set_ports a) p (line Unreserved design rules.keeps n.0 c n.1 a is).reads has in
          agrees (port_name path p) (source_port path c p at source) (record {
            path = path;
            c = c;
            at = at;
            from = a.dst;
            to = p;
            reads = ByAssignment c a.dst p (record { a = a; is = is; drives = refl; reads = has });
            is_port = named;
            is_other = refl;
          })

      -- the go, and the done of an actor whose group drives the port
      sees_alike : (name : Text) → AgreesOn name → is_bare c ≡ false → (a : ActorGroup) → Contains (actor_groups design c) a → IsDriven path row row' name a.group.sets → SeesAlike design path c a.actor row row'
      sees_alike name agrees control a has driven =
          let n = place_of design c here in
          let is_group : IsGroupOf design c a.group = Contains-map (λ (x : ActorGroup). x.group) (actor_groups design c) a has in
          let go = go_source design c control in
          let same_go = agrees (full_name path (codes "go")) (source_port path c (own (codes "go")) at go) (record {
            path = path;
            c = c;
            at = at;
            from = driven.a.dst;
            to = own (codes "go");
            reads = ByGo c driven.a.dst (own (codes "go")) (record { g = a.group; assigned = record { is = is_group; a = driven.a; has = driven.has; drives = refl }; is_go = refl; is_input = go });
            is_port = driven.is;
            is_other = refl;
          }) in
          let same_done = dones_agree path row row' a.group.dones (λ d has_done p reads.
          let source = All-contains (IsSource design c) (done_ports d) p (done_line Unreserved design rules.keeps n.0 c n.1 a.group d is_group has_done) reads in
          agrees (port_name path p) (source_port path c p at source) (record {
            path = path;
            c = c;
            at = at;
            from = driven.a.dst;
            to = p;
            reads = ByDone c driven.a.dst p (record { g = a.group; assigned = record { is = is_group; a = driven.a; has = driven.has; drives = refl }; d = d; has = has_done; reads = reads });
            is_port = driven.is;
            is_other = refl;
          })) in
          let found = group_of-itself Unreserved design rules.keeps n.0 c n.1 a has in
          record {
            go = same_go;
            done = ap (is_group_done path row) found ∙ same_done ∙ sym (ap (is_group_done path row') found);
          }

      module _ (t : ℕ) (acts acts' : Path → Actor → ℕ → Bool) (is_done is_done' : Path → ℕ → Bool) (told : IsTold design path c t acts acts' is_done is_done' row row') where
        -- a port is driven alike in two rows that agree at all that it reads
        pub values_same : (name : Text) → AgreesOn name
            → values_for path name row ((scheduled design acts is_done).sets path c t row) ≡ values_for path name row' ((scheduled design acts' is_done').sets path c t row')
        values_same name agrees =
            values-append path row row' name row c.sets _
            ∙ ap₂ ◌++◌
            (values_agree path row row' name c.sets (λ a has named. set_agrees name agrees a (inl has) named))
            (actors_agree path row row' name (λ actor. acts path actor t) (λ actor. acts' path actor t) (actor_groups design c)
            (λ a has driven. told.acting a.actor (λ control. sees_alike name agrees control a has driven))
            (λ a has. values_agree path row row' name a.group.sets (λ x has_set named.
            set_agrees name agrees x (inr (a.group, Contains-map (λ (y : ActorGroup). y.group) (actor_groups design c) a has, has_set)) named)))
            ∙ sym (values-append path row row' name row' c.sets _)

  module _ (plain : HasPlainTree design) (t : ℕ) (inputs : Row) (states states' : Text → Primitive → State) (acts acts' : Path → Actor → ℕ → Bool) (is_done is_done' : Path → ℕ → Bool) (row row' : Row)
      (r : IsRow (cal_circuit design top (scheduled design acts is_done)) t inputs states row) (r' : IsRow (cal_circuit design top (scheduled design acts' is_done')) t inputs states' row')
      (same_states : (cell : Text) (prim : Primitive) → IsPrimitiveCell design top cell prim → states cell prim ≡ states' cell prim)
      (told : (path : Path) (c : Component) → component_at design top path ≡ Some c → IsTold design path c t acts acts' is_done is_done' row row') where
    -- a port reaches another, which is one of the design
    abbrev Reach : Text → Text → Type 0
    Reach x y = FlatReaches design top x y × IsPortOf design top y

    abbrev Agrees : Text → Type 0
    Agrees name = IsPortOf design top name → row name ≡ row' name

    module _ (name : Text) (agrees : AgreesOn row row' name) where
      driven_alike : (path : Path) (c : Component) (cell : Option Text) (pin : Text) → component_at design top path ≡ Some c → IsDestination design c (record { cell = cell; pin = pin }) → port_at path cell pin ≡ name → row name ≡ row' name
      driven_alike path c cell pin at sink named =
          let drive : Drive = λ u x. values_for path name x ((scheduled design acts is_done).sets path c u x) in
          let drive' : Drive = λ u x. values_for path name x ((scheduled design acts' is_done').sets path c u x) in
          r.driven name drive (inl (record { path = path; c = c; at = at; cell = cell; pin = pin; sink = sink; named = named; drives = refl }))
          ∙ ap settled (values_same row row' path c at t acts acts' is_done is_done' (told path c at) name agrees)
          ∙ sym (r'.driven name drive' (inl (record { path = path; c = c; at = at; cell = cell; pin = pin; sink = sink; named = named; drives = refl })))

      controlled_alike : (path : Path) (c : Component) → component_at design top path ≡ Some c → is_bare c ≡ false → full_name path (codes "done") ≡ name → row name ≡ row' name
      controlled_alike path c at control named =
          let drive : Drive = λ u x. (if is_done path u then 1 else 0) ∷ [] in
          let drive' : Drive = λ u x. (if is_done' path u then 1 else 0) ∷ [] in
          r.driven name drive (inr (record { path = path; c = c; at = at; control = control; named = named; drives = refl }))
          ∙ ap (λ (b : Bool). if b then 1 else 0) (told path c at).done
          ∙ sym (r'.driven name drive' (inr (record { path = path; c = c; at = at; control = control; named = named; drives = refl })))

      computed_alike : (cell : Text) (prim : Primitive) (output : Text) → IsPrimitiveCell design top cell prim → Contains (pin_names (outputs_of prim)) output → dotted cell output ≡ name → row name ≡ row' name
      computed_alike cell prim output is has named =
          let first = subst (λ (s : State). IsComputed row cell prim s) (same_states cell prim is) (r.computed cell prim is) in
          let alike = output_agrees prim (states' cell prim) row row' (dotted cell) first (r'.computed cell prim is) output has (λ input of through.
          agrees (dotted cell input) (input_port cell prim input is of) (record {
            path = is.path;
            c = is.c;
            at = is.at;
            from = port_of is.cell output;
            to = port_of is.cell input;
            reads = ByPrimitive is.c (port_of is.cell output) (port_of is.cell input) (record {
              cell = is.cell;
              prim = prim;
              made = is.made;
              output = output;
              input = input;
              depends = record { is_output = has; is_input = of; through = through };
              is_output = refl;
              is_input = refl;
            });
            is_port = ap (λ (x : Text). dotted x output) is.named ∙ named;
            is_other = ap (λ (x : Text). dotted x input) is.named;
          })) in
          subst (λ (x : Text). row x ≡ row' x) named alike

      by_role : Role design top name → row name ≡ row' name
      by_role (Given has) = r.given name has ∙ sym (r'.given name has)
      by_role (Driven path c cell pin at sink named) = driven_alike path c cell pin at sink named
      by_role (Controlled path c at control named) = controlled_alike path c at control named
      by_role (Computed cell prim output is has named) = computed_alike cell prim output is has named

    step : (name : Text) → ((y : Text) → Reach name y → Agrees y) → Agrees name
    step name before port = by_role name (λ other is reads. before other (FlatAtOnce name other reads, is) is) (role_of Unreserved design top rules.keeps in_design name port)

    apart : (x y : Text) → Reach x y → x ≢ y
    apart x y reach same = no_loop_over_paths Unreserved design top plain rules.keeps rules.no_loop in_design y (subst (λ (z : Text). FlatReaches design top z y) same reach.0)

    -- the rows agree
    pub row_agrees : (name : Text) → Agrees name
    row_agrees name port =
        let ports = lists_ports Unreserved design rules.keeps top in_design in
        let listed : (x : Text) → IsPortOf design top x → Contains ports.0 x = λ x is. subst (λ (z : Text). Contains ports.0 z) is.named (ports.1 is.path is.c is.p is.at is.known) in
        by_reach (λ (x : Text). x) Reach (λ x y z first more. (reach_on design top x y z first.0 more.0, more.1)) apart Agrees step ports.0 name (λ y reach. listed y reach.1) port

    -- a Conflict of the one is one of the other
    pub conflict_too : (port : Text) → HasConflict (cal_circuit design top (scheduled design acts is_done)) t row port → HasConflict (cal_circuit design top (scheduled design acts' is_done')) t row' port
    conflict_too port conflict = elim conflict.sink [
      | inl s ↦
          let values = values_same row row' s.path s.c s.at t acts acts' is_done is_done' (told s.path s.c s.at) port (λ other is reads. row_agrees other is) in
          let of_drive : conflict.drive t row ≡ values_for s.path port row ((scheduled design acts is_done).sets s.path s.c t row) = ap (λ (d : Drive). d t row) s.drives in
          record {
            drive = λ u x. values_for s.path port x ((scheduled design acts' is_done').sets s.path s.c u x);
            sink = inl (record { path = s.path; c = s.c; at = s.at; cell = s.cell; pin = s.pin; sink = s.sink; named = s.named; drives = refl });
            clash = subst (λ (vs : List ℕ). 2 ≤ length vs) (of_drive ∙ values) conflict.clash;
          }
      | inr s ↦
          let of_drive : conflict.drive t row ≡ (if is_done s.path t then 1 else 0) ∷ [] = ap (λ (d : Drive). d t row) s.drives in
          record {
            drive = λ u x. (if is_done' s.path u then 1 else 0) ∷ [];
            sink = inr (record { path = s.path; c = s.c; at = s.at; control = s.control; named = s.named; drives = refl });
            clash = subst (λ (vs : List ℕ). 2 ≤ length vs) (of_drive ∙ ap (λ (b : Bool). (if b then 1 else 0) ∷ []) (told s.path s.c s.at).done) conflict.clash;
          }
    ]
