-- Each port of a design is a port of the netlist that lists the wires which keep its shape.
use Rattle.std.proofs.Common.{◌≡◌, true, List, Contains, Option, Some, None, IsSome, is_some, refl, sym, ap, ap₂, subst, ◌∙◌}
use Rattle.std.specs.Prelude.{option_and_then, option_map}
use Rattle.std.proofs.lemmas.Bool.{false≢true}
use Rattle.hw_graph.proofs.MemberLemmas.{in_of}
use Rattle.hw_names.specs.Name.{Text}
use Rattle.hw_prims.specs.declared.prim.Primitive.{Primitive}
use Rattle.net_core.specs.Netlist.{Netlist}
use Rattle.net_core.specs.Rules as net
use Rattle.net_core.specs.Rules.{PortLine, port_width, ports_of, width_or_none}
use Rattle.cal_ast.proofs.InstanceLemmas.{component_at-design}
use Rattle.cal_ast.proofs.ListLemmas.{Contains-at}
use Rattle.cal_ast.proofs.LookupLemmas.{bare_inputs, bare_outputs, component_named-Some, part_of-Some}
use Rattle.cal_ast.specs.Instances.{port_name}
use Rattle.cal_ast.specs.Keeping.{KeepsComponentShape, KeepsShape}
use Rattle.cal_ast.specs.Naming.{IsKnownPort}
use Rattle.cal_ast.specs.Plain.{HasPlainTree}
use Rattle.cal_ast.specs.Ports.{SidedPin, both_sides, cell_named, inputs_in, made_inputs, made_outputs, outputs_in, part_of, port_in, port_named, ports_at, primitive_of, width_in}
use Rattle.cal_ast.specs.Schedule.{IsPortOf}
use Rattle.cal_ast.specs.Tree.{CellDef, Component, Design, PortName}
use Rattle.cal_ast.specs.Wired.{IsWired}
use Rattle.net_flat.proofs.ListedLemmas.{IsWiredListing, found_instance}
use Rattle.net_flat.proofs.SideLemmas.{known_port_exists, known_port_is_wide}
use Rattle.net_flat.specs.Listing.{IsListing}
use Rattle.net_sim.proofs.ValidLemmas.{found}
use Rattle.cal_net.proofs.ShapeLemmas.{AreFound, cell_named-front, instance_kept, parts_found}
use Rattle.cal_net.specs.Refining.{HasPort}

-- the ports of what a cell that may be there is made of
abbrev cell_ports : Design → Option CellDef → List SidedPin
cell_ports design found =
    both_sides
    (made_inputs (option_and_then primitive_of found) (option_and_then (part_of design) found))
    (made_outputs (option_and_then primitive_of found) (option_and_then (part_of design) found))

abbrev IsAmong : Text → List SidedPin → Type 0
IsAmong pin ports = IsSome (port_named ports pin)

-- a port that is found is among the netlist's
some_port : (ports : List PortLine) (name : Text) → is_some (net.port_named ports name) ≡ true → (line : PortLine) × (net.port_named ports name ≡ Some line) × (Contains ports line × (line.name ≡ name))
some_port ports name exists = by (net.port_named ports name) refl exists
  where
    by : (o : Option PortLine) → net.port_named ports name ≡ o → is_some o ≡ true → (line : PortLine) × (net.port_named ports name ≡ Some line) × (Contains ports line × (line.name ≡ name))
    by None is exists = absurd (false≢true exists)
    by (Some line) is exists = let there = found ports name line is in (line, is, (Contains-at ports there.place line there.at, there.named))

module _ (source wires : Design) (shape : KeepsShape source wires) (wired : IsWired wires) where
  -- ---- the ports of a component, and of what a cell is made of

  module _ (c d : Component) (is : KeepsComponentShape c d) (among : Contains wires d) where
    inputs_kept : inputs_in d ≡ inputs_in c
    inputs_kept = bare_inputs d (wired.bare d among) ∙ is.ins

    outputs_kept : outputs_in d ≡ outputs_in c
    outputs_kept = bare_outputs d (wired.bare d among) ∙ is.outs

  made_inputs_kept : (prim : Option Primitive) (o p : Option Component) → AreFound o p → ((d : Component) → p ≡ Some d → Contains wires d) → made_inputs prim p ≡ made_inputs prim o
  made_inputs_kept (Some prim) o p are among = refl
  made_inputs_kept None None None are among = refl
  made_inputs_kept None None (Some d) are among = absurd are
  made_inputs_kept None (Some c) None are among = absurd are
  made_inputs_kept None (Some c) (Some d) are among = inputs_kept c d are (among d refl)

  made_outputs_kept : (prim : Option Primitive) (o p : Option Component) → AreFound o p → ((d : Component) → p ≡ Some d → Contains wires d) → made_outputs prim p ≡ made_outputs prim o
  made_outputs_kept (Some prim) o p are among = refl
  made_outputs_kept None None None are among = refl
  made_outputs_kept None None (Some d) are among = absurd are
  made_outputs_kept None (Some c) None are among = absurd are
  made_outputs_kept None (Some c) (Some d) are among = outputs_kept c d are (among d refl)

  cell_ports_kept : (cell : CellDef) → cell_ports wires (Some cell) ≡ cell_ports source (Some cell)
  cell_ports_kept cell =
      let are = parts_found source wires shape cell in
      let among : (d : Component) → part_of wires cell ≡ Some d → Contains wires d
      = λ d made. (component_named-Some wires cell.made d (part_of-Some wires cell d made).1).0 in
      ap₂ both_sides
      (made_inputs_kept (primitive_of cell) (part_of source cell) (part_of wires cell) are among)
      (made_outputs_kept (primitive_of cell) (part_of source cell) (part_of wires cell) are among)

  -- ---- what a component of the source names, that of the wires names: the same port

  port_kept : (c d : Component) → KeepsComponentShape c d → Contains wires d → (p : PortName) → IsKnownPort source c p → port_in wires d p ≡ port_in source c p
  port_kept c d is among p known = ap (λ (ports : List SidedPin). port_named ports p.pin) (by p.cell known)
    where
      in_cell : (cell : Text) (found : Option CellDef) → cell_named c.cells cell ≡ found → IsAmong p.pin (cell_ports source found) → cell_ports wires (cell_named d.cells cell) ≡ cell_ports source found
      in_cell cell None at known = absurd (false≢true known)
      in_cell cell (Some x) at known =
          let there : cell_named d.cells cell ≡ Some x
          = ap (λ (cells : List CellDef). cell_named cells cell) is.cells ∙ cell_named-front c.cells is.added cell x at in
          ap (cell_ports wires) there ∙ cell_ports_kept x

      by : (cell : Option Text) → IsKnownPort source c (record { cell = cell; pin = p.pin }) → ports_at wires d cell ≡ ports_at source c cell
      by None known = ap₂ both_sides (inputs_kept c d is among) (outputs_kept c d is among)
      by (Some cell) known = in_cell cell (cell_named c.cells cell) refl known

  -- ---- the netlist

  pub ports_listed : HasPlainTree wires → (c d : Component) → KeepsComponentShape c d → Contains wires d → (n : Netlist) → IsListing wires d n → (name : Text) (port : IsPortOf source c name) → HasPort source c n name port
  ports_listed plain c d is among n listing name port =
      let there = instance_kept source wires shape port.path c d port.c is port.at in
      let same = port_kept port.c there.0 there.2 (component_at-design wires d port.path there.0 among there.1) port.p port.known in
      let known : IsKnownPort wires there.0 port.p = subst (λ (found : Option SidedPin). IsSome found) (sym same) port.known in
      let listed : IsWiredListing wires d n = record { plain = plain; wired = wired; top_there = in_of wires d among; listing = listing } in
      let instance = found_instance wires d n listed port.path there.0 there.1 in
      let ports = ports_of n in
      let line = some_port ports (port_name port.path port.p) (known_port_exists wires d n listed (port.path, there.0) instance port.p known) in
      let wide : width_in source port.c port.p ≡ Some (port_width ports (port_name port.path port.p))
      = ap (option_map (λ (q : SidedPin). q.pin.width)) (sym same) ∙ known_port_is_wide wires d n listed (port.path, there.0) instance port.p known in
      record { line = line.0; among = line.2.0; named = line.2.1 ∙ port.named; wide = wide ∙ ap (λ (found : Option PortLine). Some (width_or_none found)) line.1 }
