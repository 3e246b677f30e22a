use Rattle.std.proofs.Common.{ap}
use Rattle.fil_ast.specs.Scope.{Instance, instances_at}
use Rattle.fil_ast.specs.Tree.{statement_tree}
use Rattle.fil_ast.specs.declared.tree.Stmt.{Stmt}
use Rattle.hw_names.proofs.NameLemmas.{text_of-slice_get}
use Rattle.hw_names.specs.Name.{text_of}
use Rattle.fil_loops.proofs.levels.made_by.Goals as goal

pub returns-in-New-clause-some : goal.returns-in-New-clause-some
returns-in-New-clause-some c =
    let names = c.args.names.now in
    let i : Instance = record { name = text_of names c.in-New.name; made = text_of names c.in-New.comp; params = c.in-New.params.items } in
    (i, ap (λ (s : Stmt). instances_at (statement_tree names s)) c.in-New.is, text_of-slice_get names c.in-New.comp c.text.result.now c.text.ensures)

pub returns-in-Both-clause-some : goal.returns-in-Both-clause-some
returns-in-Both-clause-some c =
    let names = c.args.names.now in
    let i : Instance = record { name = text_of names c.in-Both.name; made = text_of names c.in-Both.comp; params = c.in-Both.params.items } in
    (i, ap (λ (s : Stmt). instances_at (statement_tree names s)) c.in-Both.is, text_of-slice_get names c.in-Both.comp c.text-in-Both.result.now c.text-in-Both.ensures)
