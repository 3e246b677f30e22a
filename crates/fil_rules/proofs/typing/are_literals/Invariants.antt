use Rattle.std.proofs.Common.{List, All, take}
use Rattle.hw_names.specs.Name.{Text}
use Rattle.fil_ast.specs.Tree.{value_tree}
use Rattle.fil_ast.specs.Typing.{LiteralFits}
use Rattle.fil_ast.specs.declared.tree.Value.{Value}
use Rattle.fil_rules.proofs.typing.are_literals.Given as goal

-- the literals so far fit
abbrev pub invariant-loop-arg : goal.invariant-loop-arg
invariant-loop-arg l = (names : List Text) → All (λ (arg : Value). LiteralFits (value_tree names arg)) (take l.arg-index l.args)
