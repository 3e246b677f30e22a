-- The lines of a netlist, and what each is of.
use Rattle.std.proofs.Common.{List, ◌++◌, map, subst, inl, inr}
use Rattle.hw_graph.proofs.MemberLemmas.{In, in_left, in_right, in_append, in_map, from_map}
use Rattle.hw_prims.specs.Table.{Pin}
use Rattle.net_core.specs.Netlist.{Netlist, Line, InLine, OutLine, WireLine, CellOf, SetOf, CellLine, lines_of}

abbrev own_lines : Netlist → List Line
own_lines n = map InLine n.ins ++ map OutLine n.outs ++ map WireLine n.wires

-- a line stands among the lines where what it is of stands in its list
own_line : (n : Netlist) (line : Line) → In (own_lines n) line → In (lines_of n) line
own_line n line h = in_left (own_lines n ++ map CellOf n.cells) (map SetOf n.sets) line (in_left (own_lines n) (map CellOf n.cells) line h)

pub in_line : (n : Netlist) (p : Pin) → In n.ins p → In (lines_of n) (InLine p)
in_line n p h =
    own_line n (InLine p) (in_left (map InLine n.ins ++ map OutLine n.outs) (map WireLine n.wires) (InLine p) (in_left (map InLine n.ins) (map OutLine n.outs) (InLine p) (in_map InLine n.ins p h)))

pub out_line : (n : Netlist) (p : Pin) → In n.outs p → In (lines_of n) (OutLine p)
out_line n p h =
    own_line n (OutLine p) (in_left (map InLine n.ins ++ map OutLine n.outs) (map WireLine n.wires) (OutLine p) (in_right (map InLine n.ins) (map OutLine n.outs) (OutLine p) (in_map OutLine n.outs p h)))

pub wire_line : (n : Netlist) (p : Pin) → In n.wires p → In (lines_of n) (WireLine p)
wire_line n p h = own_line n (WireLine p) (in_right (map InLine n.ins ++ map OutLine n.outs) (map WireLine n.wires) (WireLine p) (in_map WireLine n.wires p h))

pub cell_line : (n : Netlist) (c : CellLine) → In n.cells c → In (lines_of n) (CellOf c)
cell_line n c h = in_left (own_lines n ++ map CellOf n.cells) (map SetOf n.sets) (CellOf c) (in_right (own_lines n) (map CellOf n.cells) (CellOf c) (in_map CellOf n.cells c h))

-- where a line stands, what it is of stands in its list
abbrev pub IsOf : Netlist → Line → Type 0
IsOf n (InLine p) = In n.ins p
IsOf n (OutLine p) = In n.outs p
IsOf n (WireLine p) = In n.wires p
IsOf n (CellOf c) = In n.cells c
IsOf n (SetOf a) = In n.sets a

pub of_line : (n : Netlist) (line : Line) → In (lines_of n) line → IsOf n line
of_line n line h =
    let P : Line → Type 0 = IsOf n in
    elim (in_append (own_lines n ++ map CellOf n.cells) (map SetOf n.sets) line h) [
      | inr set ↦ let r = from_map SetOf n.sets line set in subst P r.2 r.1
      | inl most ↦ elim (in_append (own_lines n) (map CellOf n.cells) line most) [
        | inr cell ↦ let r = from_map CellOf n.cells line cell in subst P r.2 r.1
        | inl own ↦ elim (in_append (map InLine n.ins ++ map OutLine n.outs) (map WireLine n.wires) line own) [
          | inr wire ↦ let r = from_map WireLine n.wires line wire in subst P r.2 r.1
          | inl two ↦ elim (in_append (map InLine n.ins) (map OutLine n.outs) line two) [
            | inl input ↦ let r = from_map InLine n.ins line input in subst P r.2 r.1
            | inr out ↦ let r = from_map OutLine n.outs line out in subst P r.2 r.1
          ]
        ]
      ]
    ]
