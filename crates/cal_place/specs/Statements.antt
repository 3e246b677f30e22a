-- Control statements in a list. This project's.
use Rattle.std.specs.Prelude.{List, [], ◌∷◌}
use Rattle.cal_ast.specs.Tree.{Statement, Statements, NoStatements, MoreStatements}

-- statements in a list
abbrev pub statements_from : List Statement → Statements
statements_from [] = NoStatements
statements_from (s ∷ ss) = MoreStatements s (statements_from ss)
