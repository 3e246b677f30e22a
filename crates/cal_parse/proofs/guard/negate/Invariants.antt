use Rattle.std.proofs.Common.{◌≡◌, List}
use Rattle.hw_names.specs.Name.{Text}
use Rattle.net_core.specs.Guard.{guard_tree}
use Rattle.cal_ast.specs.Tree.{port_tree}
use Rattle.cal_parse.specs.inside.Reading.{negated}
use Rattle.cal_parse.proofs.guard.negate.Given as goal

abbrev pub invariant-loop : goal.invariant-loop
invariant-loop l = (names : List Text) → guard_tree (port_tree names) l.negated ≡ negated l.counter (guard_tree (port_tree names) l.fn.guard)
