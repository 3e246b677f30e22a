-- Ports that assignments of a component name, and what its cells are made of, have names of Calyx's grammar where the design's own names are such.
use Rattle.std.proofs.Common.{◌≡◌, List, Option, Some, None, All, Contains, subst, inl, inr}
use Rattle.std.proofs.lemmas.List.Elements.{All-contains, All-weaker}
use Rattle.hw_names.specs.Name.{Text}
use Rattle.hw_prims.specs.Table.{Pin, pin_names}
use Rattle.cal_ast.proofs.ItemLemmas.{known_cell}
use Rattle.cal_ast.proofs.LineLemmas.{line}
use Rattle.cal_ast.proofs.ListLemmas.{place_of}
use Rattle.cal_ast.proofs.LookupLemmas.{bare_inputs, bare_outputs, cell_input_cases, cell_named-Some, cell_output_cases, component_named-Some, part_in-Some, part_in-design, part_of-Some, primitive_in-Some}
use Rattle.cal_ast.proofs.SideLemmas.{destination_pin, readable_in, source_pin, writable_in}
use Rattle.cal_ast.specs.Naming.{Unreserved}
use Rattle.cal_ast.specs.Ports.{cell_named, inputs_in, outputs_in}
use Rattle.cal_ast.specs.Sides.{IsSource}
use Rattle.cal_ast.specs.Tree.{Assignment, CellDef, Component, Design, PortName}
use Rattle.cal_ast.specs.Wired.{IsWired}
use Rattle.cal_ast.specs.Wires.{set_ports}
use Rattle.cal_ast.specs.Written.{IsCalName, NameIsWritten, PortIsWritten}
use Rattle.fil_cal.proofs.NameLemmas.{input_name, output_name, primitive_name}

-- the component, its ports and its cells have names of the grammar
pub record HasNamesOfCalyx (c : Component) : Type 0 where
  pub name : IsCalName c.name
  pub ins : All IsCalName (pin_names c.ins)
  pub outs : All IsCalName (pin_names c.outs)
  pub cells : All (λ (cell : CellDef). IsCalName cell.name) c.cells

module _ (design : Design) (wired : IsWired design) (named : (c : Component) → Contains design c → HasNamesOfCalyx c) where
  input_of_part : (c : Component) (name : Text) → Contains design c → Contains (pin_names (inputs_in c)) name → IsCalName name
  input_of_part c name among has = All-contains IsCalName (pin_names c.ins) name (named c among).ins (subst (λ (pins : List Pin). Contains (pin_names pins) name) (bare_inputs c (wired.bare c among)) has)

  output_of_part : (c : Component) (name : Text) → Contains design c → Contains (pin_names (outputs_in c)) name → IsCalName name
  output_of_part c name among has = All-contains IsCalName (pin_names c.outs) name (named c among).outs (subst (λ (pins : List Pin). Contains (pin_names pins) name) (bare_outputs c (wired.bare c among)) has)

  cell_name : (c : Component) (name : Text) (cell : CellDef) → Contains design c → cell_named c.cells name ≡ Some cell → IsCalName name
  cell_name c name cell among found =
      let r = cell_named-Some c.cells name cell found in
      subst IsCalName r.1 (All-contains (λ (d : CellDef). IsCalName d.name) c.cells cell (named c among).cells r.0)

  writable_name : (c : Component) → Contains design c → (cell : Option Text) (pin : Text) → Contains (pin_names (writable_in design c cell)) pin → NameIsWritten cell × IsCalName pin
  writable_name c among None pin has = (tt, output_of_part c pin among has)
  writable_name c among (Some cell) pin has =
      elim (cell_input_cases design c cell pin has) [
        | inl (prim, is, there) ↦ let found = primitive_in-Some c cell prim is in (cell_name c cell found.0 among found.1, input_name prim pin there)
        | inr (part, is, there) ↦ let found = part_in-Some design c cell part is in (cell_name c cell found.0 among found.1, input_of_part part pin (part_in-design design c cell part is) there)
      ]

  readable_name : (c : Component) → Contains design c → (cell : Option Text) (pin : Text) → Contains (pin_names (readable_in design c cell)) pin → NameIsWritten cell × IsCalName pin
  readable_name c among None pin has = (tt, input_of_part c pin among has)
  readable_name c among (Some cell) pin has =
      elim (cell_output_cases design c cell pin has) [
        | inl (prim, is, there) ↦ let found = primitive_in-Some c cell prim is in (cell_name c cell found.0 among found.1, output_name prim pin there)
        | inr (part, is, there) ↦ let found = part_in-Some design c cell part is in (cell_name c cell found.0 among found.1, output_of_part part pin (part_in-design design c cell part is) there)
      ]

  -- what an assignment drives, and what it reads
  pub ports_written : (c : Component) (a : Assignment) → Contains design c → Contains c.sets a → PortIsWritten a.dst × All PortIsWritten (set_ports a)
  ports_written c a among has =
      let at = place_of design c among in
      let l = line Unreserved design wired.rules.keeps at.0 c at.1 a (inl has) in (
        writable_name c among a.dst.cell a.dst.pin (destination_pin design c a.dst.cell a.dst.pin l.drives),
        All-weaker (IsSource design c) PortIsWritten (λ (p : PortName) is. readable_name c among p.cell p.pin (source_pin design c p.cell p.pin is)) (set_ports a) l.reads,
      )

  -- by C2 a cell is made of a primitive, or of a component of the design
  pub made_name : (c : Component) (cell : CellDef) → Contains design c → Contains c.cells cell → IsCalName cell.made
  made_name c cell among has =
      let at = place_of design c among in
      let there = place_of c.cells cell has in
      elim (known_cell Unreserved design wired.rules.keeps at.0 c at.1 there.0 cell there.1) [
        | inl primitive ↦ primitive_name cell.made primitive
        | inr (part, is, apart) ↦ let found = component_named-Some design cell.made part (part_of-Some design cell part is).1 in subst IsCalName found.1 (named part found.0).name
      ]
