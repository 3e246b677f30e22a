use Rattle.std.proofs.Common.{◌≡◌, ◌-◌, length, [], ◌∷◌, map}
use Rattle.hw_grammar.specs.Reading.{with_front, times, many}
use Rattle.hw_grammar.specs.declared.sort.Sort.TheVariants.{Name}
use Rattle.fil_parse.specs.inside.Reading.{statement_at}
use Rattle.fil_ast.specs.Tree.{statement_tree}
use Rattle.fil_parse.proofs.statement.read_statements.Given as goal

abbrev pub invariant-loop : goal.invariant-loop
invariant-loop g l = with_front (map (statement_tree g.names) l.all.items) (times (Name ∷ []) (statement_at g.names) (length l.ts - l.counter) l.rest) ≡ many (Name ∷ []) (statement_at g.names) l.ts

abbrev pub ghost-read_statement : goal.ghost-read_statement
ghost-read_statement g a = g.names
