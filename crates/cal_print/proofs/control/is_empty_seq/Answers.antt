use Rattle.std.proofs.Common.{ap}
use Rattle.cal_ast.specs.Tree.{statement_tree}
use Rattle.cal_ast.specs.declared.tree.Control.{Control}
use Rattle.cal_print.specs.Layout.{is_empty_seq}
use Rattle.cal_print.proofs.Rows.{seq_empty}
use Rattle.cal_print.proofs.control.is_empty_seq.Goals as goal

pub returns-in-Seq : goal.returns-in-Seq
returns-in-Seq c = λ names.
    let of_list = seq_empty names c.in-Seq.statements in
    let same = ap (λ (s : Control). is_empty_seq (statement_tree names s)) c.in-Seq.is in
    cc
