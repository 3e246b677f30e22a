use Rattle.std.proofs.Common.{◌++◌, codes, ap, ◌∙◌}
use Rattle.hw_names.specs.Name.{Text}
use Rattle.ver_print.specs.Cells.{shows, operation}
use Rattle.ver_print.specs.Words.{inner_line, part}
use Rattle.ver_print.proofs.LineLemmas.{four_pieces, one_line}
use Rattle.ver_print.proofs.PutLemmas.{OnOk-is}
use Rattle.ver_print.proofs.cells.put_operation.Goals as goal

pub returns : goal.returns
returns c =
    let cell = c.args.cell.now in
    let out = c.args.out.now.items in
    OnOk-is c.put_line.result c.put_line.new.out.items _ _ c.put_line.ensures
    (ap (λ (t : Text). out ++ inner_line t) (four_pieces (part cell (codes "out")) (part cell (codes "left")) c.args.operator.now (codes " ") (part cell (codes "right"))) ∙ one_line out (shows cell (codes "out") (operation cell c.args.operator.now)))
