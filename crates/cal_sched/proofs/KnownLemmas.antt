-- By the rules each port that a line of the component names is a port of the netlist.
use Rattle.std.proofs.Common.{◌≡◌, ℕ, ◌<◌, Bool, true, false, ◌||◌, List, [], ◌∷◌, ◌++◌, length, map, get_or, All, Option, Some, None, inl, inr, refl, sym, ap, ◌∙◌, subst, arith}
use Rattle.std.specs.Prelude.{Contains, bytes_eq, codes, if◌then◌else◌, is_some, slice_get}
use Rattle.std.proofs.lemmas.List.Elements.{All-append, All-cons, All-contains, All-nil, All-weaker, Contains-append_left, Contains-append_right, Contains-get_or}
use Rattle.std.proofs.lemmas.Slice.Eq.{bytes_eq-Decides}
use Rattle.hw_names.specs.Name.{Text}
use Rattle.hw_prims.specs.Table.{Pin, pin, pin_names}
use Rattle.net_core.specs.Graph.{guard_ports, guards_ports, option_ports, source_ports}
use Rattle.net_core.specs.Guard.{guard_option, guard_tree, guard_trees, source_tree}
use Rattle.net_core.specs.Numbers.{IsNumberOf}
use Rattle.net_core.specs.declared.net.Guard.{Guard, Row_of-Guard, end_of-Guard, more_of-Guard}
use Rattle.net_core.specs.declared.net.Guard as code
use Rattle.net_core.specs.declared.net.Src.{Src}
use Rattle.net_core.specs.declared.net.Src.TheVariants.{Port, Lit}
use Rattle.cal_ast.proofs.ItemLemmas.{statement_item, statement_names_known}
use Rattle.cal_ast.proofs.LineLemmas.{done_line}
use Rattle.cal_ast.proofs.ListLemmas.{place_of, Contains-at, Contains-cases_first, Contains-from_flat_map, Contains-here, Contains-map, Contains-none, Contains-there}
use Rattle.cal_ast.proofs.SideLemmas.{input_first, some_found}
use Rattle.cal_ast.specs.Instances.{port_name}
use Rattle.cal_ast.specs.Invoking.{InvokeDef, invoke_done, invoke_group, invokes_in}
use Rattle.cal_ast.specs.Items.{control_statements}
use Rattle.cal_ast.specs.Naming.{IsKnownPort, Unreserved}
use Rattle.cal_ast.specs.Numbers.{DoneHasNumbers, GroupHasNumbers}
use Rattle.cal_ast.specs.Ports.{Input, Side, SidedPin, has_pin, inputs_in, outputs_in, port_in, side_in, with_pin}
use Rattle.cal_ast.specs.Sides.{IsSource, read_side}
use Rattle.cal_ast.specs.Statement.{IfCondition}
use Rattle.cal_ast.specs.Tree.{PortName, DoneLine, GroupDef, Statement, If, While, Component, Design, done_tree, group_tree, own, port_of, port_tree}
use Rattle.cal_ast.specs.Wires.{IsGroupOf, done_ports}
use Rattle.cal_ast.specs.declared.tree.DoneSet.{DoneSet}
use Rattle.cal_ast.specs.declared.tree.Group.{Group}
use Rattle.cal_walk.proofs.OverLemmas.{at_index}
use Rattle.cal_walk.proofs.PlanLemmas.{all_left, all_right}
use Rattle.cal_walk.specs.Planning.{IsInvoke, IsTestedIn, invoke_tree, tested_ports}
use Rattle.cal_walk.specs.declared.planning.Controlled.{Controlled}
use Rattle.cal_walk.specs.declared.planning.Invoke.{Invoke}
use Rattle.cal_sched.proofs.ActorLemmas.{groups_are}
use Rattle.cal_sched.proofs.PlaceLemmas.{all_places, place_map}
use Rattle.cal_sched.specs.Walking.{CanWalk}
use Rattle.cal_sched.specs.Watching.{HasPorts, done_reads, invoke_port, source_reads, top_port, when_reads}

-- ---- the ports that lines read, known in two ways

module _ {P Q R : Type 0} (f : P → Q) (h : P → R) (A : Q → Type 0) (B : R → Type 0) (weaker : (p : P) → A (f p) → B (h p)) where
  source_weaker : (s : Src P) → All A (source_ports (source_tree f s)) → All B (source_ports (source_tree h s))
  source_weaker (Port p) all = All-cons B (h p) [] (weaker p (all 0 (f p) (omega arith))) (All-nil B)
  source_weaker (Lit width value) all = All-nil B

  mutual
    guard_weaker : (g : Guard P) → All A (guard_ports (guard_tree f g)) → All B (guard_ports (guard_tree h g))
    guard_weaker (code.Read s) all = source_weaker s.value all
    guard_weaker (code.Test op a b) all =
        let left = source_ports (source_tree f a.value) in
        let right = source_ports (source_tree f b.value) in
        All-append B (source_ports (source_tree h a.value)) (source_ports (source_tree h b.value))
        (source_weaker a.value (all_left A left right all)) (source_weaker b.value (all_right A left right all))
    guard_weaker (code.Not' p g) all = guard_weaker g all
    guard_weaker (code.All' shape gs) all = guards_weaker gs all
    guard_weaker (code.Any' shape gs) all = guards_weaker gs all

    guards_weaker : {m : _} (gs : Row_of-Guard P m) → All A (guards_ports (guard_trees f gs)) → All B (guards_ports (guard_trees h gs))
    guards_weaker end_of-Guard all = All-nil B
    guards_weaker (more_of-Guard g gs) all =
        let first = guard_ports (guard_tree f g) in
        let rest = guards_ports (guard_trees f gs) in
        All-append B (guard_ports (guard_tree h g)) (guards_ports (guard_trees h gs)) (guard_weaker g (all_left A first rest all)) (guards_weaker gs (all_right A first rest all))

  when_weaker : (g : Option (Guard P)) → All A (option_ports (guard_option f g)) → All B (option_ports (guard_option h g))
  when_weaker None all = All-nil B
  when_weaker (Some g) all = guard_weaker g all

-- ---- pins with an implied one have it

abbrev HasNamed : Text → List Pin → Type 0
HasNamed name pins = Contains (pin_names pins) name

among : (name : Text) (pins : List Pin) → has_pin pins name ≡ true → HasNamed name pins
among name [] e = absurd (cc)
among name (p ∷ pins) e = by (bytes_eq p.name name) refl e (among name pins)
  where
    by : (b : Bool) → bytes_eq p.name name ≡ b → has_pin (p ∷ pins) name ≡ true → (has_pin pins name ≡ true → HasNamed name pins) → HasNamed name (p ∷ pins)
    by true same e later =
        let H : Text → Type 0 = λ x. Contains (x ∷ pin_names pins) name in
        subst H (sym ((bytes_eq-Decides p.name name).0 same)) (Contains-here name (pin_names pins))
    by false other e later =
        let rest : has_pin pins name ≡ true = sym (ap (λ b. b || has_pin pins name) other) ∙ e in
        Contains-there p.name (pin_names pins) name (later rest)

names_push : (pins : List Pin) (p : Pin) → pin_names (pins ++ p ∷ []) ≡ pin_names pins ++ p.name ∷ []
names_push [] p = refl
names_push (q ∷ pins) p = ap (λ names. q.name ∷ names) (names_push pins p)

with_pin_has : (name : Text) (pins : List Pin) → HasNamed name (with_pin name pins)
with_pin_has name pins = by (has_pin pins name) refl
  where
    by : (b : Bool) → has_pin pins name ≡ b → HasNamed name (if b then pins else pins ++ pin name 1 ∷ [])
    by true e = among name pins e
    by false e =
        let H : List Text → Type 0 = λ names. Contains names name in
        subst H (sym (names_push pins (pin name 1))) (Contains-append_right (pin_names pins) (name ∷ []) name (Contains-here name []))

-- ---- the parts of what a done line reads

module _ (names ports : List Text) (d : DoneSet) (there : HasPorts ports (done_reads names d)) where
  pub guard_there : HasPorts ports (when_reads names d.guard)
  guard_there = all_left (Contains ports) (when_reads names d.guard) (source_reads names d.src) there

  pub source_there : HasPorts ports (source_reads names d.src)
  source_there = all_right (Contains ports) (when_reads names d.guard) (source_reads names d.src) there

-- ---- conditions

tested_known : (design : Design) (c : Component) (s : Statement) (p : PortName) → IfCondition s (λ port by. IsKnownPort design c port) → Contains (tested_ports s) p → IsKnownPort design c p
tested_known design c (If port by s t) p known has = elim (Contains-cases_first port [] p has) [
  | inl same ↦ subst (IsKnownPort design c) same known
  | inr none ↦ absurd (Contains-none p none)
]
tested_known design c (While port by s) p known has = elim (Contains-cases_first port [] p has) [
  | inl same ↦ subst (IsKnownPort design c) same known
  | inr none ↦ absurd (Contains-none p none)
]
tested_known design c s p known has = absurd (Contains-none p has)

-- ---- what the component that can be walked names

module _ (design : Design) (c : Component) (names ports : List Text) (control : Controlled) (can : CanWalk design c names ports control) where
  abbrev IsThere : PortName → Type 0
  IsThere p = Contains ports (port_name [] p)

  place : (n : ℕ) × (slice_get design n ≡ Some c)
  place = place_of design c can.in_design

  side_there : (p : PortName) (side : Side) → side_in design c p ≡ Some side → IsThere p
  side_there p side is =
      let q = some_found (λ (x : SidedPin). x.side) (port_in design c p) side is in
      let known : IsKnownPort design c p = ap is_some q.1 in
      can.has_ports p known

  pub go_there : Contains ports (codes "go")
  go_there =
      let H : Bool → Type 0 = λ b. HasNamed (codes "go") (if b then c.ins else with_pin (codes "go") c.ins) in
      let has : HasNamed (codes "go") (inputs_in c) = subst H (sym can.started) (with_pin_has (codes "go") c.ins) in
      side_there (own (codes "go")) Input (input_first (inputs_in c) (outputs_in c) (codes "go") has)

  pub conditions_there : All (λ p. Contains ports (top_port names p)) control.conditions.items
  conditions_there = All-weaker (λ p. IsTestedIn c (port_tree names p)) (λ p. Contains ports (top_port names p)) (λ p tested. can.has_ports (port_tree names p) (known (port_tree names p) tested)) control.conditions.items can.control_is.are_tested
    where
      known : (p : PortName) → IsTestedIn c p → IsKnownPort design c p
      known p tested =
          let s = Contains-from_flat_map tested_ports (control_statements c.control) p tested in
          tested_known design c s.0 p (statement_names_known Unreserved design can.rules.keeps place.0 c place.1 s.0 (statement_item c s.0 s.1)).condition s.2

  line_there : (g : GroupDef) (d : DoneLine) → IsGroupOf design c g → Contains g.dones d → All IsThere (done_ports d)
  line_there g d is has = All-weaker (IsSource design c) IsThere (λ p source. side_there p (read_side p.cell) source) (done_ports d) (done_line Unreserved design can.rules.keeps place.0 c place.1 g d is has)

  -- ---- a group of the component

  module _ (g : Group) (has : Contains control.comp.now.groups.items g) where
    in_groups : Contains c.groups (group_tree names g)
    in_groups =
        let H : Component → Type 0 = λ x. Contains x.groups (group_tree names g) in
        subst H can.comp (Contains-map (group_tree names) control.comp.now.groups.items g has)

    among_groups : IsGroupOf design c (group_tree names g)
    among_groups =
        let H : List GroupDef → Type 0 = λ gs. Contains gs (group_tree names g) in
        subst H (sym (groups_are design c)) (Contains-append_left c.groups (map (invoke_group design c []) (invokes_in c)) (group_tree names g) in_groups)

    done_there : (k : ℕ) (d : DoneSet) → slice_get g.dones.items k ≡ Some d → HasPorts ports (done_reads names d)
    done_there k d at =
        let line = done_tree names d in
        let all = line_there (group_tree names g) line among_groups (Contains-at (map (done_tree names) g.dones.items) k line (place_map (done_tree names) g.dones.items k d at)) in
        let guard = option_ports line.guard in
        let src = source_ports line.src in
        All-append (Contains ports) (when_reads names d.guard) (source_reads names d.src)
        (when_weaker (port_tree names) (top_port names) IsThere (Contains ports) (λ p there. there) d.guard (all_left IsThere guard src all))
        (source_weaker (port_tree names) (top_port names) IsThere (Contains ports) (λ p there. there) d.src (all_right IsThere guard src all))

    pub dones_there : All (λ d. HasPorts ports (done_reads names d)) g.dones.items
    dones_there = all_places (λ d. HasPorts ports (done_reads names d)) g.dones.items done_there

    pub done_numbers : All (DoneHasNumbers names) g.dones.items
    done_numbers = (All-contains (GroupHasNumbers names) control.comp.now.groups.items g can.numbers.groups has).dones

  -- ---- an invoke

  module _ (i : Invoke) (has : Contains control.invokes.items i) where
    abbrev tree : InvokeDef
    tree = invoke_tree names i

    in_invokes : Contains (invokes_in c) tree
    in_invokes =
        let H : List InvokeDef → Type 0 = λ is. Contains is tree in
        subst H can.control_is.invokes_are (Contains-map (invoke_tree names) control.invokes.items i has)

    among_invokes : IsGroupOf design c (invoke_group design c [] tree)
    among_invokes =
        let group = invoke_group design c [] in
        let H : List GroupDef → Type 0 = λ gs. Contains gs (group tree) in
        subst H (sym (groups_are design c)) (Contains-append_right c.groups (map group (invokes_in c)) (group tree) (Contains-map group (invokes_in c) tree in_invokes))

    pub invoke_there : Contains ports (invoke_port names i)
    invoke_there =
        let line = invoke_done [] tree.cell in
        let all : All IsThere (port_of tree.cell (codes "done") ∷ []) = line_there (invoke_group design c [] tree) line among_invokes (Contains-here line []) in
        all 0 (port_of tree.cell (codes "done")) (omega arith)

    pub invoke_number : IsNumberOf names i.cell
    invoke_number = (All-contains (IsInvoke names c) control.invokes.items i can.control_is.are_invokes has).numbers.number

  -- the group, or the invoke, that a loop has
  pub group_in : (items : List Group) (k : ℕ) (g : Group) → items ≡ control.comp.now.groups.items → k < length items → g ≡ get_or items k g → Contains control.comp.now.groups.items g
  group_in items k g same within is =
      let H : List Group → Type 0 = λ gs. Contains gs g in
      subst H same (Contains-at items k g (at_index items k g within is))

  pub invoke_in : (items : List Invoke) (k : ℕ) (d : Invoke) → items ≡ control.invokes.items → k < length items → Contains control.invokes.items (get_or items k d)
  invoke_in items k d same within =
      let H : List Invoke → Type 0 = λ is. Contains is (get_or items k d) in
      subst H same (Contains-get_or items k d within)
