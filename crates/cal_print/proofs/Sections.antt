-- Groups, invokes and components put part by part.
use Rattle.std.proofs.Common.{◌≡◌, List, [], ◌++◌, map, codes, sym, ap, ◌∙◌, append_assoc}
use Rattle.std.specs.List.{flat_map}
use Rattle.hw_names.specs.Name.{Text, text_of}
use Rattle.hw_names.specs.declared.names.NameId.{NameId}
use Rattle.cal_ast.specs.declared.tree.Assign.{Assign}
use Rattle.cal_ast.specs.declared.tree.DoneSet.{DoneSet}
use Rattle.cal_ast.specs.declared.tree.Group.{Group}
use Rattle.cal_ast.specs.declared.tree.CalCell.{CalCell}
use Rattle.cal_ast.specs.declared.tree.CalPin.{CalPin}
use Rattle.cal_ast.specs.declared.tree.InBind.{InBind}
use Rattle.cal_ast.specs.declared.tree.OutBind.{OutBind}
use Rattle.cal_ast.specs.declared.tree.CalComp.{CalComp}
use Rattle.cal_ast.specs.declared.tree.CalDesign.{CalDesign}
use Rattle.cal_ast.specs.Tree.{pin_tree, cell_tree, assignment_tree, done_tree, group_tree, in_tree, out_tree, component_tree, design_of}
use Rattle.cal_print.specs.Layout.{joined, line_text, block_text, pin_text, cell_text, assignment_text, done_text, assignments_text, group_head, group_text, in_text, out_text, invoke_text, cells_text, wires_text, component_head, component_text, design_text}
use Rattle.cal_print.proofs.PrintLemmas.{flat_map-map, joined-map}

-- the texts of what the code has, as it puts them
abbrev pub pins_put : List Text → List CalPin → Text
pins_put names pins = joined (λ p. pin_text (pin_tree names p)) pins

abbrev pub cells_put : List Text → List CalCell → Text
cells_put names cells = flat_map (λ c. line_text (codes "    ") (cell_text (cell_tree names c))) cells

abbrev pub sets_put : List Text → Text → List Assign → Text
sets_put names margin sets = flat_map (λ a. line_text margin (assignment_text (assignment_tree names a))) sets

abbrev pub dones_put : List Text → List DoneSet → Text
dones_put names dones = flat_map (λ d. line_text (codes "      ") (done_text (done_tree names d))) dones

abbrev pub groups_put : List Text → List Group → Text
groups_put names groups = flat_map (λ g. group_text (codes "    ") (group_tree names g)) groups

abbrev pub ins_put : List Text → List InBind → Text
ins_put names ins = joined (λ b. in_text (in_tree names b)) ins

abbrev pub outs_put : List Text → List OutBind → Text
outs_put names outs = joined (λ b. out_text (out_tree names b)) outs

five : (a b c d e f p q r s t u : Text) → b ≡ a ++ p → c ≡ b ++ q → d ≡ c ++ r → e ≡ d ++ s → f ≡ e ++ t → f ++ u ≡ a ++ (p ++ q ++ r ++ s ++ t ++ u)
five a b c d e f p q r s t u h1 h2 h3 h4 h5 = rw (h5, h4, h3, h2, h1) (simp append_assoc)

six : (a b c d e f g p q r s t u v : Text) → b ≡ a ++ p → c ≡ b ++ q → d ≡ c ++ r → e ≡ d ++ s → f ≡ e ++ t → g ≡ f ++ u → g ++ v ≡ a ++ (p ++ q ++ r ++ s ++ t ++ u ++ v)
six a b c d e f g p q r s t u v h1 h2 h3 h4 h5 h6 = rw (h6, h5, h4, h3, h2, h1) (simp append_assoc)

-- ---- groups

group_parts : (head sets dones : Text) → codes "    " ++ head ++ codes " {\n" ++ sets ++ dones ++ codes "    }\n" ≡ block_text (codes "    ") head (sets ++ dones)
group_parts head sets dones = simp append_assoc

pub group_put : (names : List Text) (g : Group) (a b c d e f : Text) → b ≡ a ++ codes "    " → c ≡ b ++ group_head (group_tree names g) → d ≡ c ++ codes " {\n" → e ≡ d ++ sets_put names (codes "      ") g.sets.items → f ≡ e ++ dones_put names g.dones.items
    → f ++ codes "    }\n" ≡ a ++ group_text (codes "    ") (group_tree names g)
group_put names g a b c d e f h1 h2 h3 h4 h5 =
    let head : Text = group_head (group_tree names g) in
    let sets : Text = sets_put names (codes "      ") g.sets.items in
    let dones : Text = dones_put names g.dones.items in
    five a b c d e f (codes "    ") head (codes " {\n") sets dones (codes "    }\n") h1 h2 h3 h4 h5
    ∙ ap (λ (t : Text). a ++ t) (group_parts head sets dones)
    ∙ ap (λ (t : Text). a ++ block_text (codes "    ") head (t ++ dones)) (sym (flat_map-map (λ x. line_text (codes "      ") (assignment_text x)) (assignment_tree names) g.sets.items))
    ∙ ap (λ (t : Text). a ++ block_text (codes "    ") head (assignments_text (codes "      ") (map (assignment_tree names) g.sets.items) ++ t)) (sym (flat_map-map (λ x. line_text (codes "      ") (done_text x)) (done_tree names) g.dones.items))

-- ---- invokes

pub invoke_put : (names : List Text) (cell : NameId) (ins : List InBind) (outs : List OutBind) (a b c d e f g : Text) → b ≡ a ++ codes "invoke " → c ≡ b ++ text_of names cell → d ≡ c ++ codes "(" → e ≡ d ++ ins_put names ins → f ≡ e ++ codes ")(" → g ≡ f ++ outs_put names outs
    → g ++ codes ");" ≡ a ++ invoke_text (text_of names cell) (map (in_tree names) ins) (map (out_tree names) outs)
invoke_put names cell ins outs a b c d e f g h1 h2 h3 h4 h5 h6 =
    let name : Text = text_of names cell in
    six a b c d e f g (codes "invoke ") name (codes "(") (ins_put names ins) (codes ")(") (outs_put names outs) (codes ");") h1 h2 h3 h4 h5 h6
    ∙ ap (λ (t : Text). a ++ (codes "invoke " ++ name ++ codes "(" ++ t ++ codes ")(" ++ outs_put names outs ++ codes ");")) (sym (joined-map in_text (in_tree names) ins))
    ∙ ap (λ (t : Text). a ++ (codes "invoke " ++ name ++ codes "(" ++ joined in_text (map (in_tree names) ins) ++ codes ")(" ++ t ++ codes ");")) (sym (joined-map out_text (out_tree names) outs))

-- ---- components

pub head_put : (names : List Text) (comp : CalComp) (a b c d e f g : Text) → b ≡ a ++ codes "component " → c ≡ b ++ text_of names comp.name → d ≡ c ++ codes "(" → e ≡ d ++ pins_put names comp.ins.items → f ≡ e ++ codes ") -> (" → g ≡ f ++ pins_put names comp.outs.items
    → g ++ codes ")" ≡ a ++ component_head (component_tree names comp)
head_put names comp a b c d e f g h1 h2 h3 h4 h5 h6 =
    let name : Text = text_of names comp.name in
    six a b c d e f g (codes "component ") name (codes "(") (pins_put names comp.ins.items) (codes ") -> (") (pins_put names comp.outs.items) (codes ")") h1 h2 h3 h4 h5 h6
    ∙ ap (λ (t : Text). a ++ (codes "component " ++ name ++ codes "(" ++ t ++ codes ") -> (" ++ pins_put names comp.outs.items ++ codes ")")) (sym (joined-map pin_text (pin_tree names) comp.ins.items))
    ∙ ap (λ (t : Text). a ++ (codes "component " ++ name ++ codes "(" ++ joined pin_text (map (pin_tree names) comp.ins.items) ++ codes ") -> (" ++ t ++ codes ")")) (sym (joined-map pin_text (pin_tree names) comp.outs.items))

two_blocks : (m h w o c n cells groups sets : Text) → (((((m ++ (h ++ o)) ++ n) ++ cells) ++ (((m ++ c) ++ n) ++ ((m ++ (w ++ o)) ++ n))) ++ groups ++ sets) ++ ((m ++ c) ++ n)
    ≡ ((((m ++ (h ++ o)) ++ n) ++ cells) ++ ((m ++ c) ++ n)) ++ ((((m ++ (w ++ o)) ++ n) ++ (groups ++ sets)) ++ ((m ++ c) ++ n))
two_blocks m h w o c n cells groups sets = simp append_assoc

section_parts : (cells groups sets : Text) → codes "  cells {\n" ++ cells ++ codes "  }\n  wires {\n" ++ groups ++ sets ++ codes "  }\n"
    ≡ block_text (codes "  ") (codes "cells") cells ++ block_text (codes "  ") (codes "wires") (groups ++ sets)
section_parts cells groups sets = two_blocks (codes "  ") (codes "cells") (codes "wires") (codes " {") (codes "}") (codes "\n") cells groups sets

pub sections_put : (names : List Text) (comp : CalComp) (a b c d e f : Text) → b ≡ a ++ codes "  cells {\n" → c ≡ b ++ cells_put names comp.cells.items → d ≡ c ++ codes "  }\n  wires {\n" → e ≡ d ++ groups_put names comp.groups.items → f ≡ e ++ sets_put names (codes "    ") comp.sets.items
    → f ++ codes "  }\n" ≡ a ++ (cells_text (map (cell_tree names) comp.cells.items) ++ wires_text (map (group_tree names) comp.groups.items) (map (assignment_tree names) comp.sets.items))
sections_put names comp a b c d e f h1 h2 h3 h4 h5 =
    let cells : Text = cells_put names comp.cells.items in
    let groups : Text = groups_put names comp.groups.items in
    let sets : Text = sets_put names (codes "    ") comp.sets.items in
    let Wires : Text → Text → Text = λ g s. block_text (codes "  ") (codes "wires") (g ++ s) in
    five a b c d e f (codes "  cells {\n") cells (codes "  }\n  wires {\n") groups sets (codes "  }\n") h1 h2 h3 h4 h5
    ∙ ap (λ (t : Text). a ++ t) (section_parts cells groups sets)
    ∙ ap (λ (t : Text). a ++ (block_text (codes "  ") (codes "cells") t ++ Wires groups sets)) (sym (flat_map-map (λ x. line_text (codes "    ") (cell_text x)) (cell_tree names) comp.cells.items))
    ∙ ap (λ (t : Text). a ++ (cells_text (map (cell_tree names) comp.cells.items) ++ Wires t sets)) (sym (flat_map-map (group_text (codes "    ")) (group_tree names) comp.groups.items))
    ∙ ap (λ (t : Text). a ++ (cells_text (map (cell_tree names) comp.cells.items) ++ Wires (flat_map (group_text (codes "    ")) (map (group_tree names) comp.groups.items)) t)) (sym (flat_map-map (λ x. line_text (codes "    ") (assignment_text x)) (assignment_tree names) comp.sets.items))

component_parts : (a head sections control : Text) → (((a ++ head) ++ codes " {\n") ++ sections) ++ control ++ codes "}\n" ≡ a ++ block_text [] head (sections ++ control)
component_parts a head sections control = simp append_assoc

pub component_put : (a b c d e head sections control : Text) → b ≡ a ++ head → c ≡ b ++ codes " {\n" → d ≡ c ++ sections → e ≡ d ++ control → e ++ codes "}\n" ≡ a ++ block_text [] head (sections ++ control)
component_put a b c d e head sections control h1 h2 h3 h4 = rw (h4, h3, h2, h1) (component_parts a head sections control)

pub design_put : (d : CalDesign) → flat_map (λ c. component_text (component_tree d.names c)) d.comps.items ≡ design_text (design_of d)
design_put d = sym (flat_map-map component_text (component_tree d.names) d.comps.items)

-- ---- statements

-- a block whose own lines have this margin
pub block_put : (a b c d new margin head inner : Text) → b ≡ a ++ margin → c ≡ b ++ (head ++ codes " {\n") → d ≡ c ++ inner → new ≡ d ++ line_text margin (codes "}") → new ≡ a ++ block_text margin head inner
block_put a b c d new margin head inner h1 h2 h3 h4 = rw (h4, h3, h2, h1) (simp append_assoc)

pub while_put : (a b c d e new margin port by inner : Text) → b ≡ a ++ margin → c ≡ b ++ codes "while " → d ≡ c ++ (port ++ by ++ codes " {\n") → e ≡ d ++ inner → new ≡ e ++ line_text margin (codes "}")
    → new ≡ a ++ block_text margin (codes "while " ++ port ++ by) inner
while_put a b c d e new margin port by inner h1 h2 h3 h4 h5 = rw (h5, h4, h3, h2, h1) (simp append_assoc)

pub if_put : (a b c d e f new margin port by first second : Text) → b ≡ a ++ margin → c ≡ b ++ codes "if " → d ≡ c ++ (port ++ by ++ codes " {\n") → e ≡ d ++ first → f ≡ e ++ second → new ≡ f ++ line_text margin (codes "}")
    → new ≡ a ++ (line_text margin (codes "if " ++ port ++ by ++ codes " {") ++ first ++ second ++ line_text margin (codes "}"))
if_put a b c d e f new margin port by first second h1 h2 h3 h4 h5 h6 = rw (h6, h5, h4, h3, h2, h1) (simp append_assoc)

-- a control section
pub body_put : (a b c inner : Text) → b ≡ a ++ codes "  control {\n" → c ≡ b ++ inner → c ++ codes "  }\n" ≡ a ++ block_text (codes "  ") (codes "control") inner
body_put a b c inner h1 h2 = rw (h2, h1) (simp append_assoc)
