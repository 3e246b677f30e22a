use Rattle.std.proofs.Common.{subst}
use Rattle.cal_ast.specs.Controlling.{EnablesGroup}
use Rattle.cal_ast.specs.Numbers.{StatementHasNumbers}
use Rattle.cal_ast.specs.declared.tree.Control.{Control}
use Rattle.cal_place.specs.Around.{comp_at, names_at}
use Rattle.cal_rules.proofs.KindLemmas.{tested_kind}
use Rattle.cal_rules.proofs.controlling.enables_group.Goals as goal

pub is_group-requires : goal.is_group-requires
is_group-requires c =
    let N : Control → Type 0 = StatementHasNumbers (names_at c.args.place.now) in
    subst N c.in-Enable.is c.requires

pub returns-in-Enable : goal.returns-in-Enable
returns-in-Enable c =
    let p = c.args.place.now in
    tested_kind (names_at p) (EnablesGroup (comp_at p)) c.args.statement.now _ c.is_group.result c.in-Enable.is c.is_group.ensures
