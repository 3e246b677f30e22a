use Rattle.std.proofs.Common.{◌≡◌, ◌+◌, ◌*◌, ◌-◌, List, length, [], ◌∷◌, map}
use Rattle.hw_names.specs.Name.{Text}
use Rattle.hw_grammar.specs.Reading.{with_front, times, after, many}
use Rattle.hw_grammar.specs.declared.sort.Sort.TheVariants.{And, Or}
use Rattle.net_core.specs.Guard.{guard_tree}
use Rattle.cal_ast.specs.Tree.{port_tree}
use Rattle.cal_parse.specs.inside.Reading.{unit_by, conjunction_by, guard_to}
use Rattle.cal_parse.proofs.guard.+guards.Given as goal

abbrev pub decreases-read_guard : goal.decreases-read_guard
decreases-read_guard l = 8 * l.depth

abbrev pub decreases-read_parentheses : goal.decreases-read_parentheses
decreases-read_parentheses l = 8 * l.depth + 1

abbrev pub decreases-read_operand : goal.decreases-read_operand
decreases-read_operand l = 8 * l.depth + 2

abbrev pub decreases-read_negated : goal.decreases-read_negated
decreases-read_negated l = 8 * l.depth + 3

abbrev pub decreases-read_unit : goal.decreases-read_unit
decreases-read_unit l = 8 * l.depth + 4

abbrev pub decreases-more_units : goal.decreases-more_units
decreases-more_units l = 8 * l.depth + 5

abbrev pub decreases-read_conjunction : goal.decreases-read_conjunction
decreases-read_conjunction l = 8 * l.depth + 6

abbrev pub decreases-more_conjunctions : goal.decreases-more_conjunctions
decreases-more_conjunctions l = 8 * l.depth + 7

abbrev pub invariant-more_units-loop : goal.invariant-more_units-loop
invariant-more_units-loop l = (names : List Text) →
    with_front (map (guard_tree (port_tree names)) l.all.items) (times (And ∷ []) (after And (unit_by names (guard_to names l.depth))) (length l.ts - l.counter) l.rest)
    ≡ with_front (map (guard_tree (port_tree names)) l.fn.front.items) (many (And ∷ []) (after And (unit_by names (guard_to names l.depth))) l.ts)

abbrev pub invariant-more_conjunctions-loop : goal.invariant-more_conjunctions-loop
invariant-more_conjunctions-loop l = (names : List Text) →
    with_front (map (guard_tree (port_tree names)) l.all.items) (times (Or ∷ []) (after Or (conjunction_by names (guard_to names l.depth))) (length l.ts - l.counter) l.rest)
    ≡ with_front (map (guard_tree (port_tree names)) l.fn.front.items) (many (Or ∷ []) (after Or (conjunction_by names (guard_to names l.depth))) l.ts)
