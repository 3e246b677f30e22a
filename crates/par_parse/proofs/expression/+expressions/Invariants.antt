use Rattle.std.proofs.Common.{◌≡◌, ◌+◌, ◌*◌, ◌-◌, List, length, [], ◌∷◌, map}
use Rattle.hw_names.specs.Name.{Text}
use Rattle.hw_grammar.specs.Reading.{with_front, times, after, many}
use Rattle.hw_grammar.specs.declared.sort.Sort.TheVariants.{Star}
use Rattle.par_parse.specs.Tree.{expression_tree}
use Rattle.par_parse.specs.inside.Reading.{atom_by, next_term_by, signs, expression_to}
use Rattle.par_parse.proofs.expression.+expressions.Given as goal

abbrev pub decreases-read_nested : goal.decreases-read_nested
decreases-read_nested l = 8 * l.depth

abbrev pub decreases-read_parentheses : goal.decreases-read_parentheses
decreases-read_parentheses l = 8 * l.depth + 1

abbrev pub decreases-read_nested_atom : goal.decreases-read_nested_atom
decreases-read_nested_atom l = 8 * l.depth + 2

abbrev pub decreases-more_factors : goal.decreases-more_factors
decreases-more_factors l = 8 * l.depth + 3

abbrev pub decreases-read_term : goal.decreases-read_term
decreases-read_term l = 8 * l.depth + 4

abbrev pub decreases-read_next_term : goal.decreases-read_next_term
decreases-read_next_term l = 8 * l.depth + 5

abbrev pub decreases-more_terms : goal.decreases-more_terms
decreases-more_terms l = 8 * l.depth + 6

abbrev pub invariant-more_factors-loop : goal.invariant-more_factors-loop
invariant-more_factors-loop l = (names : List Text) →
    with_front (map (expression_tree names) l.all.items) (times (Star ∷ []) (after Star (atom_by names (expression_to names l.depth))) (length l.ts - l.counter) l.rest)
    ≡ with_front (map (expression_tree names) l.fn.front.items) (many (Star ∷ []) (after Star (atom_by names (expression_to names l.depth))) l.ts)

abbrev pub invariant-more_terms-loop : goal.invariant-more_terms-loop
invariant-more_terms-loop l = (names : List Text) →
    with_front (map (expression_tree names) l.all.items) (times signs (next_term_by names (expression_to names l.depth)) (length l.ts - l.counter) l.rest)
    ≡ with_front (map (expression_tree names) l.fn.front.items) (many signs (next_term_by names (expression_to names l.depth)) l.ts)
