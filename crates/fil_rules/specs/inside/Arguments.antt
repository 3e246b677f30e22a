-- The widths of an invocation's arguments. This project's.
use Rattle.std.specs.Prelude.{◌≡◌, ℕ, List, slice_get, Some}
use Rattle.hw_names.specs.Name.{Text}
use Rattle.fil_ast.specs.Scope.{Scope}
use Rattle.fil_ast.specs.Tree.{value_tree}
use Rattle.fil_ast.specs.Typing.{value_width}
use Rattle.fil_ast.specs.declared.tree.Value.{Value}
use Rattle.fil_sig.specs.declared.time_sig.SigPort.{SigPort}

-- each argument that has a port has its width
abbrev pub AreWide : Scope → List Text → List SigPort → List Value → Type 0
AreWide scope names ports args =
    (k : ℕ) (arg : Value) (port : SigPort) → slice_get args k ≡ Some arg → slice_get ports k ≡ Some port →
    value_width scope (value_tree names arg) ≡ Some port.width
