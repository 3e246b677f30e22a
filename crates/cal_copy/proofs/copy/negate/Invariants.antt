use Rattle.std.proofs.Common.{◌≡◌, List}
use Rattle.hw_names.specs.Name.{Text}
use Rattle.cal_ast.specs.Numbers.{GuardHasNumbers}
use Rattle.cal_copy.specs.inside.Copies.{port_guard}
use Rattle.cal_copy.specs.inside.Negations.{negations}
use Rattle.cal_copy.proofs.copy.negate.Given as goal

abbrev pub invariant-loop : goal.invariant-loop
invariant-loop l = record {
  numbers : (names : List Text) → GuardHasNumbers names l.fn.guard → GuardHasNumbers names l.negated;
  tree : (names : List Text) → port_guard names l.negated ≡ negations l.counter (port_guard names l.fn.guard);
}
