use Rattle.std.proofs.Common.{◌≡◌, [], ◌∷◌, ◌++◌, List, map, false, Some, None, All, sym, subst, ap, ap₂, ◌∙◌, append_assoc}
use Rattle.std.proofs.lemmas.List.{map-append}
use Rattle.std.proofs.lemmas.List.Elements.{All-push}
use Rattle.std.proofs.lemmas.Option.{slice_get_within}
use Rattle.hw_names.proofs.NameLemmas.{text_of-slice_get}
use Rattle.hw_names.specs.Name.{Text, text_of}
use Rattle.hw_names.specs.declared.names.NameId.{NameId}
use Rattle.net_core.specs.Numbers.{IsNumberOf}
use Rattle.cal_ast.specs.Numbers.{CellHasNumbers, PortHasNumbers, SetHasNumbers}
use Rattle.cal_ast.specs.declared.tree.Assign.{Assign}
use Rattle.cal_ast.specs.declared.tree.CalCell.{CalCell}
use Rattle.net_core.specs.declared.net.Src.TheVariants.{Port, Lit}
use Rattle.cal_ast.specs.Tree.{port_of, cell_tree, assignment_tree, port_tree}
use Rattle.cal_ast.specs.declared.tree.CalPort.{CalPort}
use Rattle.fil_fsm.proofs.register.add_register.Goals as goal

-- a port that was made of numbers has their texts
named : (names : List Text) (made : CalPort) (cell port : NameId) (pin : Text) → made ≡ record { cell = Some cell; port = port } → text_of names port ≡ pin → port_tree names made ≡ port_of (text_of names cell) pin
named names made cell port pin is text = rw is (ap (port_of (text_of names cell)) text)

pub returns-clause-cell : goal.returns-clause-cell
returns-clause-cell c = λ names are.
    ap (map (cell_tree names)) c.in_ok-push.ensures.items ∙ map-append (cell_tree names) c.args.parts.now.cells.items _
    ∙ ap₂ (λ made params. map (cell_tree names) c.args.parts.now.cells.items ++ record { name = text_of names c.args.name; made = made; params = params; external = false } ∷ [])
    (text_of-slice_get names c.args.texts.made _ are.made) c.in_ok-from_slice.ensures.items

pub returns-clause-sets : goal.returns-clause-sets
returns-clause-sets c = λ names are.
    let before = map (assignment_tree names) c.args.parts.now.sets.items in
    let input = named names c.port_of.result c.args.name c.args.texts.input _ c.port_of.ensures (text_of-slice_get names c.args.texts.input _ are.input) in
    let enable = named names c.port_of-2.result c.args.name c.args.texts.enable _ c.port_of-2.ensures (text_of-slice_get names c.args.texts.enable _ are.enable) in
    ap (map (assignment_tree names)) c.in_ok-push-3.ensures.items ∙ map-append (assignment_tree names) c.push-2.new.self.items _
    ∙ ap (λ front. front ++ record { dst = port_tree names c.port_of-2.result; guard = None; src = Lit 1 1 } ∷ [])
    (ap (map (assignment_tree names)) c.in_ok-push-2.ensures.items ∙ map-append (assignment_tree names) c.args.parts.now.sets.items _)
    ∙ append_assoc before _ _
    ∙ ap₂ (λ p q. before ++ record { dst = p; guard = None; src = Port (port_tree names c.args.bit) } ∷ record { dst = q; guard = None; src = Lit 1 1 } ∷ []) input enable

pub returns-clause-bits : goal.returns-clause-bits
returns-clause-bits c = λ names are.
    ap (map (port_tree names)) c.in_ok-push-4.ensures.items ∙ map-append (port_tree names) c.args.parts.now.bits.items _
    ∙ ap (λ p. map (port_tree names) c.args.parts.now.bits.items ++ p ∷ [])
    (named names c.port_of-next.result c.args.name c.args.texts.output _ c.port_of-next.ensures (text_of-slice_get names c.args.texts.output _ are.output))

pub returns-clause-bit : goal.returns-clause-bit
returns-clause-bit c = λ names are. named names c.port_of-next.result c.args.name c.args.texts.output _ c.port_of-next.ensures (text_of-slice_get names c.args.texts.output _ are.output)

-- a port that was made of numbers has them
numbered : (names : List Text) (made : CalPort) (cell port : NameId) → made ≡ record { cell = Some cell; port = port } → IsNumberOf names cell → IsNumberOf names port → PortHasNumbers names made
numbered names made cell port is first second = let P : CalPort → Type 0 = PortHasNumbers names in subst P (sym is) (first, second)

pub returns-clause-numbers : goal.returns-clause-numbers
returns-clause-numbers c = λ names are name bit before.
    let parts = c.args.parts.now in
    let C : List CalCell → Type 0 = All (CellHasNumbers names) in
    let S : List Assign → Type 0 = All (SetHasNumbers names) in
    let B : List CalPort → Type 0 = All (PortHasNumbers names) in
    let input = numbered names c.port_of.result c.args.name c.args.texts.input c.port_of.ensures name (slice_get_within names _ _ are.input) in
    let enable = numbered names c.port_of-2.result c.args.name c.args.texts.enable c.port_of-2.ensures name (slice_get_within names _ _ are.enable) in
    let output = numbered names c.port_of-next.result c.args.name c.args.texts.output c.port_of-next.ensures name (slice_get_within names _ _ are.output) in
    let first = subst S (sym c.in_ok-push-2.ensures.items) (All-push (SetHasNumbers names) parts.sets.items _ before.sets (input, tt, bit)) in
    record {
      cells = subst C (sym c.in_ok-push.ensures.items) (All-push (CellHasNumbers names) parts.cells.items _ before.cells (name, slice_get_within names _ _ are.made));
      sets = subst S (sym c.in_ok-push-3.ensures.items) (All-push (SetHasNumbers names) c.push-2.new.self.items _ first (enable, tt, tt));
      bits = subst B (sym c.in_ok-push-4.ensures.items) (All-push (PortHasNumbers names) parts.bits.items _ before.bits output);
    }

pub returns-clause-bit_numbers : goal.returns-clause-bit_numbers
returns-clause-bit_numbers c = λ names are name.
    numbered names c.port_of-next.result c.args.name c.args.texts.output c.port_of-next.ensures name (slice_get_within names _ _ are.output)
