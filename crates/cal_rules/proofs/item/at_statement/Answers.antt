use Rattle.std.proofs.lemmas.Bool.Decides.{not_from_Decides}
use Rattle.cal_ast.specs.Items.{TheStatement}
use Rattle.cal_ast.specs.Tree.{statement_tree}
use Rattle.cal_place.specs.Around.{KeepsAt, names_at}
use Rattle.cal_rules.proofs.LeastLemmas.{all_kept, is_C10, is_C11, is_C2, is_C4, is_C5, is_C6, is_C9}
use Rattle.cal_rules.proofs.item.at_statement.Goals as goal

pub returns-then-not-statement_names_known : goal.returns-then-not-statement_names_known
returns-then-not-statement_names_known c =
    is_C2 (KeepsAt c.args.place.now (TheStatement (statement_tree (names_at c.args.place.now) c.args.statement.now))) tt (not_from_Decides c.statement_names_known.result c.statement_names_known.ensures c.if-not-statement_names_known.true)

pub returns-then-not-statement_agrees : goal.returns-then-not-statement_agrees
returns-then-not-statement_agrees c =
    is_C4 (KeepsAt c.args.place.now (TheStatement (statement_tree (names_at c.args.place.now) c.args.statement.now))) tt (c.statement_names_known.ensures.0 c.if-not-statement_names_known.false) tt (not_from_Decides c.statement_agrees.result c.statement_agrees.ensures c.if-not-statement_agrees.true)

pub returns-then-not-statement_drives : goal.returns-then-not-statement_drives
returns-then-not-statement_drives c =
    is_C5 (KeepsAt c.args.place.now (TheStatement (statement_tree (names_at c.args.place.now) c.args.statement.now))) tt (c.statement_names_known.ensures.0 c.if-not-statement_names_known.false) tt (c.statement_agrees.ensures.0 c.if-not-statement_agrees.false) (not_from_Decides c.statement_drives.result c.statement_drives.ensures c.if-not-statement_drives.true)

pub returns-then-not-statement_reads : goal.returns-then-not-statement_reads
returns-then-not-statement_reads c =
    is_C6 (KeepsAt c.args.place.now (TheStatement (statement_tree (names_at c.args.place.now) c.args.statement.now))) tt (c.statement_names_known.ensures.0 c.if-not-statement_names_known.false) tt (c.statement_agrees.ensures.0 c.if-not-statement_agrees.false) (c.statement_drives.ensures.0 c.if-not-statement_drives.false) (not_from_Decides c.statement_reads.result c.statement_reads.ensures c.if-not-statement_reads.true)

pub returns-then-not-enables_group : goal.returns-then-not-enables_group
returns-then-not-enables_group c =
    is_C9 (KeepsAt c.args.place.now (TheStatement (statement_tree (names_at c.args.place.now) c.args.statement.now))) tt (c.statement_names_known.ensures.0 c.if-not-statement_names_known.false) tt (c.statement_agrees.ensures.0 c.if-not-statement_agrees.false) (c.statement_drives.ensures.0 c.if-not-statement_drives.false) (c.statement_reads.ensures.0 c.if-not-statement_reads.false) tt tt (not_from_Decides c.enables_group.result c.enables_group.ensures c.if-not-enables_group.true)

pub returns-then-not-has_condition : goal.returns-then-not-has_condition
returns-then-not-has_condition c =
    is_C10 (KeepsAt c.args.place.now (TheStatement (statement_tree (names_at c.args.place.now) c.args.statement.now))) tt (c.statement_names_known.ensures.0 c.if-not-statement_names_known.false) tt (c.statement_agrees.ensures.0 c.if-not-statement_agrees.false) (c.statement_drives.ensures.0 c.if-not-statement_drives.false) (c.statement_reads.ensures.0 c.if-not-statement_reads.false) tt tt (c.enables_group.ensures.0 c.if-not-enables_group.false) (not_from_Decides c.has_condition.result c.has_condition.ensures c.if-not-has_condition.true)

pub returns-then-not-branch : goal.returns-then-not-branch
returns-then-not-branch c =
    is_C11 (KeepsAt c.args.place.now (TheStatement (statement_tree (names_at c.args.place.now) c.args.statement.now))) tt (c.statement_names_known.ensures.0 c.if-not-statement_names_known.false) tt (c.statement_agrees.ensures.0 c.if-not-statement_agrees.false) (c.statement_drives.ensures.0 c.if-not-statement_drives.false) (c.statement_reads.ensures.0 c.if-not-statement_reads.false) tt tt (c.enables_group.ensures.0 c.if-not-enables_group.false) (c.has_condition.ensures.0 c.if-not-has_condition.false) (not_from_Decides c.in_ok-invokes.field-0 c.in_ok-invokes.ensures c.if-not-branch.true)

pub returns : goal.returns
returns c =
    all_kept (KeepsAt c.args.place.now (TheStatement (statement_tree (names_at c.args.place.now) c.args.statement.now))) tt (c.statement_names_known.ensures.0 c.if-not-statement_names_known.false) tt (c.statement_agrees.ensures.0 c.if-not-statement_agrees.false) (c.statement_drives.ensures.0 c.if-not-statement_drives.false) (c.statement_reads.ensures.0 c.if-not-statement_reads.false) tt tt (c.enables_group.ensures.0 c.if-not-enables_group.false) (c.has_condition.ensures.0 c.if-not-has_condition.false) (c.in_ok-invokes.ensures.0 c.if-not-branch.false)
