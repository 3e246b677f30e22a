-- The parts of a chain have numbers of the names, which grow.
use Rattle.std.proofs.Common.{◌≡◌, ◌<◌, List, [], ◌∷◌, length, Option, Some, None, IfSome, All, sym, subst, arith}
use Rattle.std.proofs.lemmas.List.Elements.{All-nil, All-cons}
use Rattle.hw_names.proofs.NameLemmas.{length-KeepsTexts}
use Rattle.hw_names.specs.Name.{Text, KeepsTexts}
use Rattle.hw_names.specs.declared.names.NameId.{NameId}
use Rattle.net_core.specs.Numbers.{IsNumberOf}
use Rattle.cal_ast.specs.Numbers.{CellHasNumbers, PortHasNumbers, SetHasNumbers}
use Rattle.cal_ast.specs.declared.tree.Assign.{Assign}
use Rattle.cal_ast.specs.declared.tree.CalCell.{CalCell}
use Rattle.cal_ast.specs.declared.tree.CalPort.{CalPort}
use Rattle.fil_fsm.specs.Registers.{PartsHaveNumbers}
use Rattle.fil_fsm.specs.declared.shift.FsmParts.{FsmParts}

pub PortHasNumbers-KeepsTexts : (old new : List Text) (p : CalPort) → KeepsTexts old new → PortHasNumbers old p → PortHasNumbers new p
PortHasNumbers-KeepsTexts old new p kept known = (cell p.cell known.0, omega (arith, length-KeepsTexts old new kept, known.1))
  where
    cell : (c : Option NameId) → IfSome c (IsNumberOf old) → IfSome c (IsNumberOf new)
    cell None known = tt
    cell (Some id) known = omega (arith, length-KeepsTexts old new kept, known)

-- of a chain that is its source alone
pub source_numbers : (names : List Text) (go : CalPort) (parts : FsmParts) → parts.cells.items ≡ [] → parts.sets.items ≡ [] → parts.bits.items ≡ go ∷ []
    → PortHasNumbers names go → PartsHaveNumbers names parts
source_numbers names go parts cells sets bits known =
    let C : List CalCell → Type 0 = All (CellHasNumbers names) in
    let S : List Assign → Type 0 = All (SetHasNumbers names) in
    let B : List CalPort → Type 0 = All (PortHasNumbers names) in
    record {
      cells = subst C (sym cells) (All-nil (CellHasNumbers names));
      sets = subst S (sym sets) (All-nil (SetHasNumbers names));
      bits = subst B (sym bits) (All-cons (PortHasNumbers names) go [] known (All-nil (PortHasNumbers names)));
    }
