-- Ports that assignments of lowered components name have names of netlists.
use Rattle.std.proofs.Common.{◌≡◌, true, List, Option, Some, None, refl, subst, inl, inr, All}
use Rattle.std.specs.Prelude.{Contains, IfSome}
use Rattle.std.specs.List.{list_all}
use Rattle.std.proofs.lemmas.List.Elements.{All-contains, All-map, All-weaker}
use Rattle.std.proofs.lemmas.List.Sums.{AllPass-from_list_all}
use Rattle.hw_names.specs.Name.{Text}
use Rattle.hw_prims.specs.Table.{Pin, inputs_of, outputs_of, pin_names}
use Rattle.hw_prims.specs.declared.prim.Primitive.{Primitive}
use Rattle.hw_prims.specs.declared.prim.Primitive.TheVariants.{StdConst}
use Rattle.net_text.specs.Names.{is_segment}
use Rattle.cal_ast.proofs.LineLemmas.{line}
use Rattle.cal_ast.proofs.ListLemmas.{place_of}
use Rattle.cal_ast.proofs.LookupLemmas.{bare_inputs, bare_outputs, cell_input_cases, cell_named-Some, cell_output_cases, part_in-Some, part_in-design, primitive_in-Some}
use Rattle.cal_ast.proofs.SideLemmas.{destination_pin, readable_in, source_pin, writable_in}
use Rattle.cal_ast.specs.Naming.{Unreserved}
use Rattle.cal_ast.specs.Ports.{cell_named, inputs_in, outputs_in}
use Rattle.cal_ast.specs.Sides.{IsSource}
use Rattle.cal_ast.specs.Tree.{Assignment, CellDef, Component, Design}
use Rattle.cal_ast.specs.Wired.{IsWired}
use Rattle.cal_ast.specs.Wires.{set_ports}
use Rattle.fil_net.proofs.SegmentLemmas.{IsSegment, IsSegmentPort}
use Rattle.fil_net.proofs.WrittenLemmas.{IsWrittenCell, IsWrittenLow, IsWrittenPin}

-- ---- primitives

inputs_tested : (prim : Primitive) → list_all is_segment (pin_names (inputs_of prim)) ≡ true
unfolding inputs_of
inputs_tested (StdConst w v) = refl
inputs_tested prim = refl

outputs_tested : (prim : Primitive) → list_all is_segment (pin_names (outputs_of prim)) ≡ true
unfolding outputs_of
outputs_tested (StdConst w v) = refl
outputs_tested prim = refl

input_segment : (prim : Primitive) (name : Text) → Contains (pin_names (inputs_of prim)) name → IsSegment name
input_segment prim name has = All-contains IsSegment (pin_names (inputs_of prim)) name (AllPass-from_list_all is_segment (pin_names (inputs_of prim)) (inputs_tested prim)) has

output_segment : (prim : Primitive) (name : Text) → Contains (pin_names (outputs_of prim)) name → IsSegment name
output_segment prim name has = All-contains IsSegment (pin_names (outputs_of prim)) name (AllPass-from_list_all is_segment (pin_names (outputs_of prim)) (outputs_tested prim)) has

-- ---- components

pin_segment : (pins : List Pin) (name : Text) → All IsWrittenPin pins → Contains (pin_names pins) name → IsSegment name
pin_segment pins name written has =
    All-contains IsSegment (pin_names pins) name (All-map IsSegment (λ (p : Pin). p.name) pins (All-weaker IsWrittenPin (λ (p : Pin). IsSegment p.name) (λ p is. is.0) pins written)) has

module _ (design : Design) (wired : IsWired design) (written : (c : Component) → Contains design c → IsWrittenLow c) where
  input_of_low : (c : Component) (name : Text) → Contains design c → Contains (pin_names (inputs_in c)) name → IsSegment name
  input_of_low c name among has = pin_segment c.ins name (written c among).ins (subst (λ (pins : List Pin). Contains (pin_names pins) name) (bare_inputs c (wired.bare c among)) has)

  output_of_low : (c : Component) (name : Text) → Contains design c → Contains (pin_names (outputs_in c)) name → IsSegment name
  output_of_low c name among has = pin_segment c.outs name (written c among).outs (subst (λ (pins : List Pin). Contains (pin_names pins) name) (bare_outputs c (wired.bare c among)) has)

  pub cell_segment : (c : Component) (name : Text) (cell : CellDef) → Contains design c → cell_named c.cells name ≡ Some cell → IsSegment name
  cell_segment c name cell among found =
      let r = cell_named-Some c.cells name cell found in
      subst IsSegment r.1 (All-contains IsWrittenCell c.cells cell (written c among).cells r.0).0

  writable_segment : (c : Component) → Contains design c → (cell : Option Text) (pin : Text) → Contains (pin_names (writable_in design c cell)) pin → IfSome cell IsSegment × IsSegment pin
  writable_segment c among None pin has = (tt, output_of_low c pin among has)
  writable_segment c among (Some cell) pin has =
      elim (cell_input_cases design c cell pin has) [
        | inl (prim, is, there) ↦ let found = primitive_in-Some c cell prim is in (cell_segment c cell found.0 among found.1, input_segment prim pin there)
        | inr (part, is, there) ↦ let found = part_in-Some design c cell part is in (cell_segment c cell found.0 among found.1, input_of_low part pin (part_in-design design c cell part is) there)
      ]

  readable_segment : (c : Component) → Contains design c → (cell : Option Text) (pin : Text) → Contains (pin_names (readable_in design c cell)) pin → IfSome cell IsSegment × IsSegment pin
  readable_segment c among None pin has = (tt, input_of_low c pin among has)
  readable_segment c among (Some cell) pin has =
      elim (cell_output_cases design c cell pin has) [
        | inl (prim, is, there) ↦ let found = primitive_in-Some c cell prim is in (cell_segment c cell found.0 among found.1, output_segment prim pin there)
        | inr (part, is, there) ↦ let found = part_in-Some design c cell part is in (cell_segment c cell found.0 among found.1, output_of_low part pin (part_in-design design c cell part is) there)
      ]

  -- what an assignment drives, and what it reads
  pub set_segments : (c : Component) (a : Assignment) → Contains design c → Contains c.sets a → IsSegmentPort a.dst × All IsSegmentPort (set_ports a)
  set_segments c a among has =
      let at = place_of design c among in
      let l = line Unreserved design wired.rules.keeps at.0 c at.1 a (inl has) in (
        writable_segment c among a.dst.cell a.dst.pin (destination_pin design c a.dst.cell a.dst.pin l.drives),
        All-weaker (IsSource design c) IsSegmentPort (λ p is. readable_segment c among p.cell p.pin (source_pin design c p.cell p.pin is)) (set_ports a) l.reads,
      )
