use Rattle.std.proofs.Common.{◌≡◌, ◌+◌, ◌*◌, ◌-◌, List, length, map}
use Rattle.hw_names.specs.Name.{Text}
use Rattle.hw_grammar.specs.Reading.{with_front, times, many}
use Rattle.par_parse.specs.Tree.{statement_tree}
use Rattle.par_parse.specs.inside.Reading.{statement_set, statement_to}
use Rattle.par_parse.proofs.block.+statements.Given as goal

abbrev pub decreases-read_statement : goal.decreases-read_statement
decreases-read_statement l = 8 * l.depth

abbrev pub decreases-read_statements : goal.decreases-read_statements
decreases-read_statements l = 8 * l.depth + 1

abbrev pub decreases-read_block : goal.decreases-read_block
decreases-read_block l = 8 * l.depth + 2

abbrev pub decreases-read_for : goal.decreases-read_for
decreases-read_for l = 8 * l.depth + 3

abbrev pub decreases-else_or_none : goal.decreases-else_or_none
decreases-else_or_none l = 8 * l.depth + 3

abbrev pub decreases-read_branches : goal.decreases-read_branches
decreases-read_branches l = 8 * l.depth + 4

abbrev pub decreases-read_if : goal.decreases-read_if
decreases-read_if l = 8 * l.depth + 5

abbrev pub invariant-read_statements-loop : goal.invariant-read_statements-loop
invariant-read_statements-loop l = (names : List Text) →
    with_front (map (statement_tree names) l.all.items) (times statement_set (statement_to names l.depth) (length l.ts - l.counter) l.rest) ≡ many statement_set (statement_to names l.depth) l.ts
