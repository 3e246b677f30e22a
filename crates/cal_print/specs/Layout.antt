-- The canonical text of a Calyx design: one item a line, two spaces for each block round it, no blank line, a line feed after each line, literals in
-- decimal digits, and no attribute but `@external`. The language is that of Calyx, ASPLOS 2021; the layout is this project's.
use Rattle.std.specs.Prelude.{Bool, true, false, if◌then◌else◌, List, [], ◌∷◌, ◌++◌, flat_map, codes, decimal, Option, Some, None}
use Rattle.hw_names.specs.Name.{Text}
use Rattle.hw_prims.specs.Table.{Pin}
use Rattle.net_core.specs.declared.net.Src.{Src}
use Rattle.net_core.specs.declared.net.Src.TheVariants.{Port, Lit}
use Rattle.net_core.specs.declared.net.Cmp.{Cmp}
use Rattle.net_core.specs.declared.net.Cmp.TheVariants.{Eq, Neq, Lt, Gt, Le, Ge}
use Rattle.net_core.specs.Guard.{GuardTree, Reads, Compares, Negates, AllOf, AnyOf, GuardTrees, NoGuards, MoreGuards}
use Rattle.cal_ast.specs.Tree.{PortName, CellDef, Assignment, DoneLine, GroupDef, InBinding, OutBinding, Statement, Enable, Seq, Par, If, While, Invoke}
use Rattle.cal_ast.specs.Tree.{Statements, NoStatements, MoreStatements, ControlSection, Absent, Empty, Body, Component, Design}

-- ---- lists, lines and blocks

-- the texts of items, with a comma and a space between each two
abbrev pub joined : {A : Type 0} → (A → Text) → List A → Text
joined text [] = []
joined text (x ∷ xs) = text x ++ flat_map (λ y. codes ", " ++ text y) xs

-- a line, within these blanks
abbrev pub line_text : (margin : Text) → Text → Text
line_text margin text = margin ++ text ++ codes "\n"

-- the blanks before each line of a block whose own lines begin with these
abbrev pub deeper : (margin : Text) → Text
deeper margin = margin ++ codes "  "

-- a block: what it is and an opening brace, the lines in it, and a closing brace
abbrev pub block_text : (margin head inner : Text) → Text
block_text margin head inner = line_text margin (head ++ codes " {") ++ inner ++ line_text margin (codes "}")

-- ---- ports, sources and guards

-- the cell of a port and a dot, and nothing where the port is the component's own
abbrev pub cell_part : Option Text → Text
cell_part None = []
cell_part (Some cell) = cell ++ codes "."

-- v, or x.out
abbrev pub port_text : PortName → Text
port_text p = cell_part p.cell ++ p.pin

-- a port, or 8'd255
abbrev pub source_text : Src PortName → Text
source_text (Port port) = port_text port
source_text (Lit width value) = decimal width ++ codes "'d" ++ decimal value

abbrev pub operator_text : Cmp → Text
operator_text Eq = codes "=="
operator_text Neq = codes "!="
operator_text Lt = codes "<"
operator_text Gt = codes ">"
operator_text Le = codes "<="
operator_text Ge = codes ">="

-- the guard is a list of guards
abbrev pub is_list : GuardTree PortName → Bool
is_list (AllOf gs) = true
is_list (AnyOf gs) = true
is_list _ = false

-- the guard is a list of guards or a comparison
abbrev pub is_compound : GuardTree PortName → Bool
is_compound (Compares op a b) = true
is_compound g = is_list g

-- a text, in parentheses where it is to have them
abbrev pub enclosed : Bool → Text → Text
enclosed wanted text = if wanted then codes "(" ++ text ++ codes ")" else text

-- s, s == s, !g, g & g or g | g. A list in a list stands in parentheses, and so does a list or a comparison behind `!`
abbrev mutual
  pub guard_text : GuardTree PortName → Text
  guard_text (Reads s) = source_text s
  guard_text (Compares op a b) = source_text a ++ codes " " ++ operator_text op ++ codes " " ++ source_text b
  guard_text (Negates g) = codes "!" ++ enclosed (is_compound g) (guard_text g)
  guard_text (AllOf gs) = guards_text (codes " & ") gs
  guard_text (AnyOf gs) = guards_text (codes " | ") gs

  -- guards with this between each two
  pub guards_text : (between : Text) → GuardTrees PortName → Text
  guards_text between NoGuards = []
  guards_text between (MoreGuards g gs) = enclosed (is_list g) (guard_text g) ++ more_text between gs

  -- guards with this before each
  pub more_text : (between : Text) → GuardTrees PortName → Text
  more_text between NoGuards = []
  more_text between (MoreGuards g gs) = between ++ enclosed (is_list g) (guard_text g) ++ more_text between gs

-- ---- cells, assignments and groups

-- v: 8
abbrev pub pin_text : Pin → Text
pin_text p = p.name ++ codes ": " ++ decimal p.width

-- x = std_reg(8);
abbrev pub cell_text : CellDef → Text
cell_text c =
    (if c.external then codes "@external " else []) ++ c.name ++ codes " = " ++ c.made ++ codes "(" ++ joined decimal c.params ++ codes ");"

-- a guard and a question mark, and nothing where there is no guard
abbrev pub when_text : Option (GuardTree PortName) → Text
when_text None = []
when_text (Some g) = guard_text g ++ codes " ? "

-- x.in = a.out;
abbrev pub assignment_text : Assignment → Text
assignment_text a = port_text a.dst ++ codes " = " ++ when_text a.guard ++ source_text a.src ++ codes ";"

-- one[done] = x.done;
abbrev pub done_text : DoneLine → Text
done_text d = d.group ++ codes "[done] = " ++ when_text d.guard ++ source_text d.src ++ codes ";"

-- assignments, each on a line
abbrev pub assignments_text : (margin : Text) → List Assignment → Text
assignments_text margin sets = flat_map (λ a. line_text margin (assignment_text a)) sets

-- done lines
abbrev pub dones_text : (margin : Text) → List DoneLine → Text
dones_text margin dones = flat_map (λ d. line_text margin (done_text d)) dones

-- group one, or comb group cond
abbrev pub group_head : GroupDef → Text
group_head g = (if g.comb then codes "comb " else []) ++ codes "group " ++ g.name

-- the assignments of a group, and then its done lines
abbrev pub group_text : (margin : Text) → GroupDef → Text
group_text margin g = block_text margin (group_head g) (assignments_text (deeper margin) g.sets ++ dones_text (deeper margin) g.dones)

-- ---- control

-- x = 8'd4
abbrev pub in_text : InBinding → Text
in_text b = b.pin ++ codes " = " ++ source_text b.src

-- z = r
abbrev pub out_text : OutBinding → Text
out_text b = b.pin ++ codes " = " ++ port_text b.dst

-- with cond, and nothing where no group is named
abbrev pub with_text : Option Text → Text
with_text None = []
with_text (Some group) = codes " with " ++ group

-- invoke c(p = x, q = y)(r = z);
abbrev pub invoke_text : Text → List InBinding → List OutBinding → Text
invoke_text cell ins outs = codes "invoke " ++ cell ++ codes "(" ++ joined in_text ins ++ codes ")(" ++ joined out_text outs ++ codes ");"

-- the statement is a `seq` with nothing in it
abbrev pub is_empty_seq : Statement → Bool
is_empty_seq (Seq NoStatements) = true
is_empty_seq _ = false

-- the block of an `if` or a `while` has its one statement in it, and nothing where that is an empty `seq`; an `else` with nothing is left out
abbrev mutual
  pub statement_text : (margin : Text) → Statement → Text
  statement_text margin (Enable group) = line_text margin (group ++ codes ";")
  statement_text margin (Seq ss) = block_text margin (codes "seq") (statements_text (deeper margin) ss)
  statement_text margin (Par ss) = block_text margin (codes "par") (statements_text (deeper margin) ss)
  statement_text margin (If port by s t) =
      line_text margin (codes "if " ++ port_text port ++ with_text by ++ codes " {")
      ++ (if is_empty_seq s then [] else statement_text (deeper margin) s)
      ++ (if is_empty_seq t then [] else line_text margin (codes "} else {") ++ statement_text (deeper margin) t)
      ++ line_text margin (codes "}")
  statement_text margin (While port by s) =
      block_text margin (codes "while " ++ port_text port ++ with_text by) (if is_empty_seq s then [] else statement_text (deeper margin) s)
  statement_text margin (Invoke cell ins outs) = line_text margin (invoke_text cell ins outs)

  pub statements_text : (margin : Text) → Statements → Text
  statements_text margin NoStatements = []
  statements_text margin (MoreStatements s ss) = statement_text margin s ++ statements_text margin ss

-- a section with nothing in it is two lines, and one that is absent is none
abbrev pub control_text : ControlSection → Text
control_text Absent = []
control_text Empty = block_text (codes "  ") (codes "control") []
control_text (Body s) = block_text (codes "  ") (codes "control") (statement_text (codes "    ") s)

-- ---- components and designs

-- component main(a: 8) -> (v: 8)
abbrev pub component_head : Component → Text
component_head c = codes "component " ++ c.name ++ codes "(" ++ joined pin_text c.ins ++ codes ") -> (" ++ joined pin_text c.outs ++ codes ")"

abbrev pub cells_text : List CellDef → Text
cells_text cells = block_text (codes "  ") (codes "cells") (flat_map (λ c. line_text (codes "    ") (cell_text c)) cells)

-- groups first, and then the assignments that always act
abbrev pub wires_text : List GroupDef → List Assignment → Text
wires_text groups sets =
    block_text (codes "  ") (codes "wires") (flat_map (group_text (codes "    ")) groups ++ assignments_text (codes "    ") sets)

abbrev pub component_text : Component → Text
component_text c = block_text [] (component_head c) (cells_text c.cells ++ wires_text c.groups c.sets ++ control_text c.control)

abbrev pub design_text : Design → Text
design_text design = flat_map component_text design
