use Rattle.std.proofs.Common.{◌≡◌, ◌<◌, Option, Some, None, length, slice_get, sym, ap, subst, ◌∙◌, arith, List}
use Rattle.std.specs.Prelude.{OnOk}
use Rattle.std.proofs.lemmas.Result.{on_ok_weaker}
use Rattle.net_core.specs.Numbers.{IsNumberOf}
use Rattle.hw_names.specs.Name.{Text, text_of}
use Rattle.cal_ast.proofs.ListLemmas.{Contains-at}
use Rattle.cal_ast.specs.Numbers.{CellHasNumbers}
use Rattle.cal_ast.specs.Tree.{CellDef}
use Rattle.cal_ast.specs.declared.tree.CalCell.{CalCell}
use Rattle.cal_place.specs.Around.{comp_at, design_at, names_at}
use Rattle.cal_place.specs.Prototypes.{IsMadeOf}
use Rattle.cal_wires.specs.Readings.{ReadsInPrimitive}
use Rattle.cal_wires.specs.WireGraphs.{Grows}
use Rattle.cal_place.specs.declared.prototype.Prototype.{Prototype}
use Rattle.cal_place.specs.declared.prototype.Prototype.TheVariants as made
use Rattle.cal_wires.proofs.DependLemmas.{got_at, no_primitive, primitive_alone}
use Rattle.cal_wires.proofs.WiredCellLemmas.{cell_is, cells_counted}
use Rattle.cal_wires.proofs.readings.add_primitive_cell.Goals.{After-made}
use Rattle.cal_wires.proofs.readings.add_primitive_cell.Goals as goal

pub index-requires : goal.index-requires
index-requires c =
    let comp = c.comp.result.now in
    omega (arith, cells_counted c.args.place.now comp c.comp.ensures.comp, c.requires.number, comp.cells.ok.0)

-- the cell's name is a number
cell_number : (c : After-made) → IsNumberOf (names_at c.args.place.now) c.index.result.now.name
cell_number c =
    let comp = c.comp.result.now in
    let H : CalCell → Type 0 = CellHasNumbers (names_at c.args.place.now) in
    let within : c.args.number < length comp.cells.items = omega (arith, cells_counted c.args.place.now comp c.comp.ensures.comp, c.requires.number) in
    (subst H (sym c.index.ensures) (c.comp.ensures.numbers.cells c.args.number c.index.result.now within)).0

-- the name of the cell, as the tree has it
named : (c : After-made) (cell : CellDef) → slice_get (comp_at c.args.place.now).cells c.args.number ≡ Some cell → text_of (names_at c.args.place.now) c.index.result.now.name ≡ cell.name
named c cell at =
    let p = c.args.place.now in
    let comp = c.comp.result.now in
    let within : c.args.number < length comp.cells.items = omega (arith, cells_counted p comp c.comp.ensures.comp, c.requires.number) in
    ap (λ (x : CellDef). x.name) (cell_is p comp c.comp.ensures.comp c.args.number c.index.result.now cell within c.index.ensures at)

is_made : (c : After-made) (o : Option Prototype) → c.made.result ≡ o → (cell : CellDef) → slice_get (comp_at c.args.place.now).cells c.args.number ≡ Some cell → IsMadeOf (design_at c.args.place.now) cell o
is_made c o is cell at = subst (λ (m : Option Prototype). IsMadeOf (design_at c.args.place.now) cell m) is (c.made.ensures cell at)

pub add_primitive-requires : goal.add_primitive-requires
add_primitive-requires c =
    let r : After-made = (goal.at.add_primitive-requires c).After-made in
    let cell = got_at (comp_at r.args.place.now).cells r.args.number r.requires.number in
    let is = is_made r (Some (made.Primitive c.in-Some-Primitive.prim)) (c.in-Some-Primitive.is ∙ ap Some c.in-Some-Primitive.field-0-is) cell.0 cell.1 in
    record { cell = subst (λ (names : List Text). IsNumberOf names r.index.result.now.name) (sym r.requires.names) (cell_number r); made = is.in_range }

pub returns-in-Some-Primitive : goal.returns-in-Some-Primitive
returns-in-Some-Primitive c cell at =
    let r : After-made = (goal.at.returns-in-Some-Primitive c).After-made in
    let p = r.args.place.now in
    let prim = c.in-Some-Primitive.prim in
    let is = is_made r (Some (made.Primitive prim)) (c.in-Some-Primitive.is ∙ ap Some c.in-Some-Primitive.field-0-is) cell at in
    let grows = subst (λ (t : Text). OnOk c.add_primitive.result (Grows (ReadsInPrimitive t prim) r.args.graph.now c.add_primitive.new.graph)) (named r cell at) (c.add_primitive.ensures (names_at p) r.requires.names) in
    on_ok_weaker c.add_primitive.result (λ g. primitive_alone (design_at p) r.requires.kept p.number (comp_at p) r.comp.ensures.at cell (Contains-at (comp_at p).cells r.args.number cell at) prim r.args.graph.now c.add_primitive.new.graph is g) grows

pub returns-in-Some-Component : goal.returns-in-Some-Component
returns-in-Some-Component c cell at =
    let r : After-made = (goal.at.returns-in-Some-Component c).After-made in
    let p = r.args.place.now in
    let is = is_made r (Some (made.Component c.in-Some-Component._part)) (c.in-Some-Component.is ∙ ap Some c.in-Some-Component.field-0-is) cell at in
    no_primitive (design_at p) r.requires.kept p.number (comp_at p) r.comp.ensures.at cell (Contains-at (comp_at p).cells r.args.number cell at) r.args.graph.now is.primitive

pub returns-in-None : goal.returns-in-None
returns-in-None c cell at =
    let r : After-made = (goal.at.returns-in-None c).After-made in
    let p = r.args.place.now in
    no_primitive (design_at p) r.requires.kept p.number (comp_at p) r.comp.ensures.at cell (Contains-at (comp_at p).cells r.args.number cell at) r.args.graph.now (is_made r None c.in-None.is cell at).primitive
