-- Cells, components and pins by their names.
use Rattle.std.proofs.Common.{◌≡◌, ℕ, ◌<◌, List, take, Bool, true, false, Option, Some, None, refl, sym, ap, ◌∙◌, subst, inl, inr, ◌⊎◌, arith}
use Rattle.std.specs.Prelude.{Contains, slice_get, bytes_eq, is_some, option_and_then, if◌then◌else◌}
use Rattle.std.proofs.lemmas.List.{length-take, get_or-take}
use Rattle.std.proofs.lemmas.Option.{slice_get_within, get_or_from_slice_get}
use Rattle.std.proofs.lemmas.Slice.Eq.{bytes_eq-Decides}
use Rattle.hw_names.specs.Name.{Text}
use Rattle.hw_prims.proofs.PortNameLemmas.{unknown_makes_none}
use Rattle.hw_prims.specs.Table.{is_primitive, pin_names, inputs_of, outputs_of}
use Rattle.hw_prims.specs.declared.prim.Primitive.{Primitive}
use Rattle.cal_ast.proofs.ItemLemmas.{new_cell}
use Rattle.cal_ast.proofs.ListLemmas.{find-Some, find-at, place_of, Contains-map}
use Rattle.cal_ast.specs.Naming.{GroupNaming, cell_names}
use Rattle.cal_ast.specs.Ports.{cell_named, component_named, primitive_of, part_of, primitive_in, part_in, is_bare, inputs_in, outputs_in, made_inputs, made_outputs, cell_inputs, cell_outputs}
use Rattle.cal_ast.specs.Rules.{KeepsRulesUnder}
use Rattle.cal_ast.specs.Tree.{CellDef, Component, Design}

-- a cell that is found by a name has the name
pub cell_named-Some : (cells : List CellDef) (name : Text) (cell : CellDef) → cell_named cells name ≡ Some cell → Contains cells cell × (cell.name ≡ name)
cell_named-Some cells name cell found =
    let r = find-Some (λ (c : CellDef). bytes_eq c.name name) cells cell found in
    (r.0, (bytes_eq-Decides cell.name name).0 r.1)

pub component_named-Some : (design : Design) (name : Text) (c : Component) → component_named design name ≡ Some c → Contains design c × (c.name ≡ name)
component_named-Some design name c found =
    let r = find-Some (λ (d : Component). bytes_eq d.name name) design c found in
    (r.0, (bytes_eq-Decides c.name name).0 r.1)

some_of : {X : Type 0} (o : Option X) → is_some o ≡ true → (x : X) × (o ≡ Some x)
some_of None e = absurd (cc)
some_of (Some x) e = (x, refl)

if-Some : {X : Type 0} (b : Bool) (o : Option X) (x : X) → (if b then None else o) ≡ Some x → (b ≡ false) × (o ≡ Some x)
if-Some true o x e = absurd (cc)
if-Some false o x e = (refl, e)

-- a cell of a component
pub part_of-Some : (design : Design) (cell : CellDef) (part : Component) → part_of design cell ≡ Some part → (is_primitive cell.made ≡ false) × (component_named design cell.made ≡ Some part)
part_of-Some design cell part is = if-Some (is_primitive cell.made) (component_named design cell.made) part is

-- a cell of a primitive has a primitive's name
pub primitive_of-Some : (cell : CellDef) (prim : Primitive) → primitive_of cell ≡ Some prim → is_primitive cell.made ≡ true
primitive_of-Some cell prim is = by (is_primitive cell.made) refl
  where
    by : (b : Bool) → is_primitive cell.made ≡ b → is_primitive cell.made ≡ true
    by true e = e
    by false e = let none = unknown_makes_none cell.made cell.params e in absurd (cc)

pub and_then-Some : {X Y : Type 0} (f : X → Option Y) (o : Option X) (y : Y) → option_and_then f o ≡ Some y → (x : X) × (o ≡ Some x) × (f x ≡ Some y)
and_then-Some f None y e = absurd (cc)
and_then-Some f (Some x) y e = (x, refl, e)

-- the cell that a name of a primitive's cell finds
pub primitive_in-Some : (c : Component) (name : Text) (prim : Primitive) → primitive_in c name ≡ Some prim → (cell : CellDef) × (cell_named c.cells name ≡ Some cell) × (primitive_of cell ≡ Some prim)
primitive_in-Some c name prim is = and_then-Some primitive_of (cell_named c.cells name) prim is

pub part_in-Some : (design : Design) (c : Component) (name : Text) (part : Component) → part_in design c name ≡ Some part → (cell : CellDef) × (cell_named c.cells name ≡ Some cell) × (part_of design cell ≡ Some part)
part_in-Some design c name part is = and_then-Some (part_of design) (cell_named c.cells name) part is

-- a component that a cell is made of is one of the design
pub part_in-design : (design : Design) (c : Component) (name : Text) (part : Component) → part_in design c name ≡ Some part → Contains design part
part_in-design design c name part is =
    let cell = part_in-Some design c name part is in
    (component_named-Some design cell.0.made part (part_of-Some design cell.0 part cell.2).1).0

-- a cell is of a primitive or of a component, not of both
pub primitive_or_part : (design : Design) (c : Component) (name : Text) (prim : Primitive) (part : Component) → primitive_in c name ≡ Some prim → part_in design c name ≡ Some part → ⊥
primitive_or_part design c name prim part is_primitive_cell is_part =
    let p = primitive_in-Some c name prim is_primitive_cell in
    let q = part_in-Some design c name part is_part in
    let same : p.0 ≡ q.0 = cc in
    let yes' = primitive_of-Some p.0 prim p.2 in
    let no' = (part_of-Some design q.0 part q.2).0 in
    let both : is_primitive q.0.made ≡ true = ap (λ (x : CellDef). is_primitive x.made) (sym same) ∙ yes' in
    cc

-- a component without control has its written ports
pub bare_inputs : (c : Component) → is_bare c ≡ true → inputs_in c ≡ c.ins
bare_inputs c bare = rw bare refl

pub bare_outputs : (c : Component) → is_bare c ≡ true → outputs_in c ≡ c.outs
bare_outputs c bare = rw bare refl

-- an input of a cell is one of the primitive, or of the component, that the cell is made of
pub cell_input_cases : (design : Design) (c : Component) (cell pin : Text) → Contains (pin_names (cell_inputs design c cell)) pin → ((prim : Primitive) × (primitive_in c cell ≡ Some prim) × Contains (pin_names (inputs_of prim)) pin) ⊎ ((part : Component) × (part_in design c cell ≡ Some part) × Contains (pin_names (inputs_in part)) pin)
cell_input_cases design c cell pin has = by (primitive_in c cell) (part_in design c cell) refl refl has
  where
    by : (o : Option Primitive) (q : Option Component) → primitive_in c cell ≡ o → part_in design c cell ≡ q → Contains (pin_names (made_inputs o q)) pin → ((prim : Primitive) × (primitive_in c cell ≡ Some prim) × Contains (pin_names (inputs_of prim)) pin) ⊎ ((part : Component) × (part_in design c cell ≡ Some part) × Contains (pin_names (inputs_in part)) pin)
    by (Some prim) q e f there = inl (prim, e, there)
    by None (Some part) e f there = inr (part, f, there)
    by None None e f there = absurd (omega (arith, there.1))

-- an output of a cell is one of the primitive, or of the component, that the cell is made of
pub cell_output_cases : (design : Design) (c : Component) (cell pin : Text) → Contains (pin_names (cell_outputs design c cell)) pin → ((prim : Primitive) × (primitive_in c cell ≡ Some prim) × Contains (pin_names (outputs_of prim)) pin) ⊎ ((part : Component) × (part_in design c cell ≡ Some part) × Contains (pin_names (outputs_in part)) pin)
cell_output_cases design c cell pin has = by (primitive_in c cell) (part_in design c cell) refl refl has
  where
    by : (o : Option Primitive) (q : Option Component) → primitive_in c cell ≡ o → part_in design c cell ≡ q → Contains (pin_names (made_outputs o q)) pin → ((prim : Primitive) × (primitive_in c cell ≡ Some prim) × Contains (pin_names (outputs_of prim)) pin) ⊎ ((part : Component) × (part_in design c cell ≡ Some part) × Contains (pin_names (outputs_in part)) pin)
    by (Some prim) q e f there = inl (prim, e, there)
    by None (Some part) e f there = inr (part, f, there)
    by None None e f there = absurd (omega (arith, there.1))

pub cell_inputs-primitive : (design : Design) (c : Component) (cell : Text) (prim : Primitive) → primitive_in c cell ≡ Some prim → cell_inputs design c cell ≡ inputs_of prim
cell_inputs-primitive design c cell prim is = ap (λ o. made_inputs o (part_in design c cell)) is

pub cell_inputs-part : (design : Design) (c : Component) (cell : Text) (part : Component) → part_in design c cell ≡ Some part → cell_inputs design c cell ≡ inputs_in part
cell_inputs-part design c cell part is = by (primitive_in c cell) refl
  where
    by : (o : Option Primitive) → primitive_in c cell ≡ o → made_inputs o (part_in design c cell) ≡ inputs_in part
    by None e = ap (made_inputs None) is
    by (Some prim) e = absurd (primitive_or_part design c cell prim part e is)

pub cell_outputs-primitive : (design : Design) (c : Component) (cell : Text) (prim : Primitive) → primitive_in c cell ≡ Some prim → cell_outputs design c cell ≡ outputs_of prim
cell_outputs-primitive design c cell prim is = ap (λ o. made_outputs o (part_in design c cell)) is

pub cell_outputs-part : (design : Design) (c : Component) (cell : Text) (part : Component) → part_in design c cell ≡ Some part → cell_outputs design c cell ≡ outputs_in part
cell_outputs-part design c cell part is = by (primitive_in c cell) refl
  where
    by : (o : Option Primitive) → primitive_in c cell ≡ o → made_outputs o (part_in design c cell) ≡ outputs_in part
    by None e = ap (made_outputs None) is
    by (Some prim) e = absurd (primitive_or_part design c cell prim part e is)

-- by C1 a cell's name finds the cell itself
pub cell_named-itself : (naming : GroupNaming) (design : Design) → KeepsRulesUnder naming design → (c : Component) → Contains design c → (cell : CellDef) → Contains c.cells cell → cell_named c.cells cell.name ≡ Some cell
cell_named-itself naming design keeps c in_design cell has =
    let n = place_of design c in_design in
    let k = place_of c.cells cell has in
    find-at (λ (x : CellDef). bytes_eq x.name cell.name) c.cells k.0 cell k.1 ((bytes_eq-Decides cell.name cell.name).1 refl) (λ j other less at.
    differs (bytes_eq other.name cell.name) other refl (λ same. (new_cell naming design keeps n.0 c n.1 k.0 cell k.1).0 (subst (λ x. Contains (cell_names (take k.0 c.cells)) x) same (Contains-map (λ (x : CellDef). x.name) (take k.0 c.cells) other (Contains-before c.cells j k.0 other less at)))))
  where
    differs : (b : Bool) (other : CellDef) → bytes_eq other.name cell.name ≡ b → (other.name ≡ cell.name → ⊥) → b ≡ false
    differs true other e apart = absurd (apart ((bytes_eq-Decides other.name cell.name).0 e))
    differs false other e apart = refl

    Contains-before : (xs : List CellDef) (j k : ℕ) (x : CellDef) → j < k → slice_get xs j ≡ Some x → Contains (take k xs) x
    Contains-before xs j k x less at =
        let within = slice_get_within xs j x at in
        (j, omega (arith, less, within, length-take k xs), get_or-take k xs j x less ∙ get_or_from_slice_get xs j x x at)
