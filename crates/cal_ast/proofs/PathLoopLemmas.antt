-- No loop runs over instances: one would be a walk that comes back.
use Rattle.std.proofs.Common.{◌≡◌, Option, Some, None, refl, sym, ap₂, ◌∙◌, subst, subst₂}
use Rattle.std.specs.Prelude.{Contains, IfSome}
use Rattle.std.proofs.lemmas.List.Elements.{All-cons, All-contains, All-weaker}
use Rattle.std.proofs.lemmas.Option.{none-some}
use Rattle.hw_names.proofs.NameLemmas.{same_full_name, full_name-append, plain_append}
use Rattle.hw_names.specs.Name.{Text, Path, full_name, IsPlain, IsPlainPath}
use Rattle.hw_prims.specs.Table.{pin_names}
use Rattle.cal_ast.proofs.ClimbLemmas.{Place, place, IsTaken, IsGiven}
use Rattle.cal_ast.proofs.InstanceLemmas.{component_at-design, plain_path}
use Rattle.cal_ast.proofs.LineLemmas.{line, group_line, done_line}
use Rattle.cal_ast.proofs.ListLemmas.{place_of}
use Rattle.cal_ast.proofs.LookupLemmas.{cell_inputs-primitive, cell_inputs-part, cell_outputs-primitive, cell_outputs-part}
use Rattle.cal_ast.proofs.PlainLemmas.{plain_writable, plain_readable}
use Rattle.cal_ast.proofs.SideLemmas.{destination_pin, source_pin}
use Rattle.cal_ast.proofs.WalkLemmas.{Step, Walk, Stay, Go, no_round}
use Rattle.cal_ast.specs.FlatWires.{FlatReads, FlatReaches, FlatAtOnce, FlatOver}
use Rattle.cal_ast.specs.Instances.{port_name}
use Rattle.cal_ast.specs.Laws.{AssignmentsArePlain, HasNoLoopOverPaths}
use Rattle.cal_ast.specs.Naming.{GroupNaming}
use Rattle.cal_ast.specs.Plain.{IsPlainPort, HasPlainTree}
use Rattle.cal_ast.specs.Ports.{inputs_in, outputs_in, cell_inputs, cell_outputs}
use Rattle.cal_ast.specs.Rules.{KeepsRulesUnder}
use Rattle.cal_ast.specs.Sides.{IsDestination, IsSource}
use Rattle.cal_ast.specs.Tree.{PortName, port_of, Component, Design}
use Rattle.cal_ast.specs.Wires.{ReadsPort, ByAssignment, ByDone, ByGo, ByPrimitive, ByComponent, set_ports, done_ports, HasNoLoop}

-- ---- ports of an edge

-- both ports of an edge have plain names; the one that reads is an output where it is the component's own, and the other an input
record IsEdge (c : Component) (port other : PortName) : Type 0 where
  given : IsGiven c port
  taken : IsTaken c other
  plain : IsPlainPort port
  plain_other : IsPlainPort other

module _ (design : Design) (c : Component) (plain : HasPlainTree design) (in_design : Contains design c) where
  plain_destination : (p : PortName) → IsDestination design c p → IsPlainPort p
  plain_destination p is = plain_writable design c plain in_design p.cell p.pin (destination_pin design c p.cell p.pin is)

  plain_source : (p : PortName) → IsSource design c p → IsPlainPort p
  plain_source p is = plain_readable design c plain in_design p.cell p.pin (source_pin design c p.cell p.pin is)

  own_output : (cell : Option Text) (pin : Text) → IsDestination design c (record { cell = cell; pin = pin }) → cell ≡ None → Contains (pin_names (outputs_in c)) pin
  own_output None pin is none = destination_pin design c None pin is
  own_output (Some cell) pin is none = absurd (none-some cell (sym none))

  own_input : (cell : Option Text) (pin : Text) → IsSource design c (record { cell = cell; pin = pin }) → cell ≡ None → Contains (pin_names (inputs_in c)) pin
  own_input None pin is none = source_pin design c None pin is
  own_input (Some cell) pin is none = absurd (none-some cell (sym none))

  -- an edge from what is driven to what is read
  drives_and_reads : (port other : PortName) → IsDestination design c port → IsSource design c other → IsEdge c port other
  drives_and_reads port other drives reads = record {
    given = own_output port.cell port.pin drives;
    taken = own_input other.cell other.pin reads;
    plain = plain_destination port drives;
    plain_other = plain_source other reads;
  }

  -- an edge across a cell, from an output of it to an input
  across : (cell output input : Text) → Contains (pin_names (cell_outputs design c cell)) output → Contains (pin_names (cell_inputs design c cell)) input → IsEdge c (port_of cell output) (port_of cell input)
  across cell output input has_output has_input = record {
    given = λ none. absurd (none-some cell (sym none));
    taken = λ none. absurd (none-some cell (sym none));
    plain = plain_readable design c plain in_design (Some cell) output has_output;
    plain_other = plain_writable design c plain in_design (Some cell) input has_input;
  }

  across_ports : (port other : PortName) (cell output input : Text) → port ≡ port_of cell output → other ≡ port_of cell input → IsEdge c (port_of cell output) (port_of cell input) → IsEdge c port other
  across_ports port other cell output input is_output is_input edge = subst₂ (IsEdge c) (sym is_output) (sym is_input) edge

edge : (naming : GroupNaming) (design : Design) → HasPlainTree design → KeepsRulesUnder naming design → (c : Component) (port other : PortName) → ReadsPort design c port other → Contains design c → IsEdge c port other
edge naming design plain keeps c port other (ByAssignment d p q r) has =
    let at = place_of design d has in
    let l = line naming design keeps at.0 d at.1 r.a r.is in
    drives_and_reads design d plain has p q (subst (IsDestination design d) r.drives l.drives) (All-contains (IsSource design d) (set_ports r.a) q l.reads r.reads)
edge naming design plain keeps c port other (ByDone d p q r) has =
    let at = place_of design d has in
    let l = group_line naming design keeps at.0 d at.1 r.g r.assigned.a r.assigned.is r.assigned.has in
    let reads = done_line naming design keeps at.0 d at.1 r.g r.d r.assigned.is r.has in
    drives_and_reads design d plain has p q (subst (IsDestination design d) r.assigned.drives l.drives) (All-contains (IsSource design d) (done_ports r.d) q reads r.reads)
edge naming design plain keeps c port other (ByGo d p q r) has =
    let at = place_of design d has in
    let l = group_line naming design keeps at.0 d at.1 r.g r.assigned.a r.assigned.is r.assigned.has in
    drives_and_reads design d plain has p q (subst (IsDestination design d) r.assigned.drives l.drives) (subst (IsSource design d) (sym r.is_go) r.is_input)
edge naming design plain keeps c port other (ByPrimitive d p q r) has =
    across_ports design d plain has p q r.cell r.output r.input r.is_output r.is_input
    (across design d plain has r.cell r.output r.input
    (subst (λ pins. Contains (pin_names pins) r.output) (sym (cell_outputs-primitive design d r.cell r.prim r.made)) r.depends.is_output)
    (subst (λ pins. Contains (pin_names pins) r.input) (sym (cell_inputs-primitive design d r.cell r.prim r.made)) r.depends.is_input))
edge naming design plain keeps c port other (ByComponent d part p q output input r reaches) has =
    across_ports design d plain has p q r.cell output input r.is_output r.is_input
    (across design d plain has r.cell output input
    (subst (λ pins. Contains (pin_names pins) output) (sym (cell_outputs-part design d r.cell part r.made)) r.has_output)
    (subst (λ pins. Contains (pin_names pins) input) (sym (cell_inputs-part design d r.cell part r.made)) r.has_input))

-- by C1 to C11 the ports of each assignment have plain names
pub assignments_are_plain : AssignmentsArePlain
assignments_are_plain naming design c a plain keeps has is =
    let at = place_of design c has in
    let l = line naming design keeps at.0 c at.1 a is in
    All-cons IsPlainPort a.dst (set_ports a) (plain_destination design c plain has a.dst l.drives)
    (All-weaker (IsSource design c) IsPlainPort (plain_source design c plain has) (set_ports a) l.reads)

-- ---- full names

-- the place has the full name, of plain names
record Named (p : Place) (text : Text) : Type 0 where
  path : IsPlainPath p.0
  pin : IsPlain p.1
  is : full_name p.0 p.1 ≡ text

-- a full name is one place's
named_once : (p q : Place) (text : Text) → Named p text → Named q text → p ≡ q
named_once p q text here there =
    let same = same_full_name p.0 q.0 p.1 q.1 here.path there.path here.pin there.pin (here.is ∙ sym there.is) in
    ap₂ (λ (path : Path) (pin : Text). (path, pin)) same.0 same.1

-- a port at a plain path has its full name at its place
named_by : (path : Path) (cell : Option Text) (pin : Text) → IsPlainPath path → IfSome cell IsPlain → IsPlain pin → Named (place path (record { cell = cell; pin = pin })) (port_name path (record { cell = cell; pin = pin }))
named_by path None pin path_is cell_is pin_is = record { path = path_is; pin = pin_is; is = refl }
named_by path (Some cell) pin path_is cell_is pin_is =
    record { path = plain_append path cell path_is cell_is; pin = pin_is; is = full_name-append path cell pin }

named_port : (path : Path) (port : PortName) → IsPlainPath path → IsPlainPort port → Named (place path port) (port_name path port)
named_port path port path_is port_is = named_by path port.cell port.pin path_is port_is.0 port_is.1

-- a step between places of these names
record NamedStep (design : Design) (top : Component) (port other : Text) : Type 0 where
  from : Place
  to : Place
  step : Step design top from to
  starts : Named from port
  ends : Named to other

module _ (naming : GroupNaming) (design : Design) (top : Component) (plain : HasPlainTree design) (keeps : KeepsRulesUnder naming design) (in_design : Contains design top) where
  -- a read of full names is a step
  step_of : (port other : Text) → FlatReads design top port other → NamedStep design top port other
  step_of port other r =
      let has = component_at-design design top r.path r.c in_design r.at in
      let e = edge naming design plain keeps r.c r.from r.to r.reads has in
      let path_is = plain_path design top r.path r.c plain in_design r.at in
      record {
        from = place r.path r.from;
        to = place r.path r.to;
        step = record { path = r.path; inner = r.c; at = r.at; port = r.from; other = r.to; reads = r.reads; given = e.given; taken = e.taken; starts = refl; ends = refl };
        starts = subst (Named (place r.path r.from)) r.is_port (named_port r.path r.from path_is e.plain);
        ends = subst (Named (place r.path r.to)) r.is_other (named_port r.path r.to path_is e.plain_other);
      }

  -- a walk of a step or more
  record Round (first : Text) (last : Text) : Type 0 where
    from : Place
    next : Place
    end : Place
    named : Named from first
    step : Step design top from next
    rest : Walk design top next end
    ends : Named end last

  walk_of : (port other : Text) → FlatReaches design top port other → Round port other
  walk_of port other (FlatAtOnce p q r) =
      let s = step_of p q r in
      record { from = s.from; next = s.to; end = s.to; named = s.starts; step = s.step; rest = Stay s.to s.to refl; ends = s.ends }
  walk_of port other (FlatOver p between q r more) =
      let s = step_of p between r in
      let w = walk_of between q more in
      record {
        from = s.from;
        next = s.to;
        end = w.end;
        named = s.starts;
        step = s.step;
        rest = subst (λ x. Walk design top x w.end) (named_once w.from s.to between w.named s.ends) (Go w.from w.next w.end w.step w.rest);
        ends = w.ends;
      }

pub no_loop_over_paths : HasNoLoopOverPaths
no_loop_over_paths naming design top plain keeps no_loop in_design port reaches =
    let w = walk_of naming design top plain keeps in_design port port reaches in
    let clear : (c : Component) → Contains design c → HasNoLoop design c = λ c has. (let at = place_of design c has in no_loop at.0 c at.1) in
    no_round design clear w.step.path top in_design w.from w.next w.step refl
    (subst (Walk design top w.next) (named_once w.end w.from port w.ends w.named) w.rest)
