-- The shift register of an event, or nothing where the event has no interface port.
use Rattle.std.proofs.Common.{◌≡◌, ℕ, ◌+◌, List, [], length, map, All, Some, None, sym, ap, subst, ◌∙◌, arith}
use Rattle.std.specs.Option.{option_map_or}
use Rattle.std.specs.Prelude.{flat_map}
use Rattle.std.proofs.lemmas.List.Elements.{All-nil}
use Rattle.hw_names.specs.Name.{Text}
use Rattle.cal_ast.specs.Numbers.{CellHasNumbers, PortHasNumbers, SetHasNumbers}
use Rattle.cal_ast.specs.Tree.{assignment_tree, cell_tree, own, port_tree}
use Rattle.cal_ast.specs.declared.tree.Assign.{Assign}
use Rattle.cal_ast.specs.declared.tree.CalCell.{CalCell}
use Rattle.cal_ast.specs.declared.tree.CalPort.{CalPort}
use Rattle.fil_ast.specs.Scope.{Scope}
use Rattle.fil_ast.specs.Signature.{interface_of}
use Rattle.fil_fsm.specs.Chain.{IsShiftRegister, chain_bits, chain_sets}
use Rattle.fil_fsm.specs.Registers.{PartsHaveNumbers}
use Rattle.fil_fsm.specs.declared.shift.FsmParts.{FsmParts}
use Rattle.fil_lower.specs.inside.Lowering.{wanted_by}
use Rattle.fil_lower.specs.inside.Place.{ShowsEvent, greatest, unregistered}

module _ (old new : List Text) (scope : Scope) (event : Text) (parts : FsmParts) where
  pub with_register : (go : CalPort) (name : Text) (last : ℕ) → interface_of scope.comp.interfaces event ≡ Some name → port_tree new go ≡ own name
      → last ≡ greatest (flat_map (wanted_by (unregistered scope) event) scope.invocations) → IsShiftRegister old new go (last + 1) parts → PartsHaveNumbers new parts → ShowsEvent old new scope event parts
  with_register go name last there is_go is_last chain numbers = record {
    registers = chain.registers;
    count =
        (let same : length chain.registers ≡ last = omega (arith, chain.count) in same)
        ∙ is_last ∙ sym (ap (λ o. option_map_or (λ go. greatest (flat_map (wanted_by (unregistered scope) event) scope.invocations)) o 0) there);
    cells = chain.cells;
    sets = chain.sets ∙ ap (λ bit. chain_sets bit chain.registers) is_go ∙ sym (ap (λ o. option_map_or (λ go. chain_sets (own go) chain.registers) o []) there);
    bits = chain.bits ∙ ap (λ bit. chain_bits bit chain.registers) is_go ∙ sym (ap (λ o. option_map_or (λ go. chain_bits (own go) chain.registers) o []) there);
    new_names = record { generated = chain.generated; fresh = chain.fresh; distinct = chain.distinct };
    numbers = numbers;
  }

  pub without_register : interface_of scope.comp.interfaces event ≡ None → parts.cells.items ≡ [] → parts.sets.items ≡ [] → parts.bits.items ≡ [] → ShowsEvent old new scope event parts
  without_register none cells sets bits =
      let C : List CalCell → Type 0 = All (CellHasNumbers new) in
      let S : List Assign → Type 0 = All (SetHasNumbers new) in
      let B : List CalPort → Type 0 = All (PortHasNumbers new) in
      record {
        registers = [];
        count = sym (ap (λ o. option_map_or (λ go. greatest (flat_map (wanted_by (unregistered scope) event) scope.invocations)) o 0) none);
        cells = ap (map (cell_tree new)) cells;
        sets = ap (map (assignment_tree new)) sets ∙ sym (ap (λ o. option_map_or (λ go. chain_sets (own go) []) o []) none);
        bits = ap (map (port_tree new)) bits ∙ sym (ap (λ o. option_map_or (λ go. chain_bits (own go) []) o []) none);
        new_names = record { generated = All-nil _; fresh = All-nil _; distinct = λ i j d less below. absurd (omega arith) };
        numbers = record { cells = subst C (sym cells) (All-nil (CellHasNumbers new)); sets = subst S (sym sets) (All-nil (SetHasNumbers new)); bits = subst B (sym bits) (All-nil (PortHasNumbers new)) };
      }
