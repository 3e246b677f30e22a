use Rattle.std.proofs.Common.{codes, ◌∙◌}
use Rattle.ver_print.specs.Cells.{shows}
use Rattle.ver_print.specs.Words.{padded, part}
use Rattle.ver_print.proofs.LineLemmas.{assigned_put, one_line}
use Rattle.ver_print.proofs.PutLemmas.{OnOk-is}
use Rattle.ver_print.proofs.cells.put_wider.Goals as goal

pub returns : goal.returns
returns c =
    let cell = c.args.cell.now in
    let out = c.args.out.now.items in
    let value = padded c.args.zeros (part cell (codes "in")) in
    OnOk-is c.put.result c.put.new.out.items _ _ c.put.ensures
    (assigned_put out c.put_pieces.new.out.items c.put_padded.new.out.items (part cell (codes "out")) value c.in_ok-put_pieces.ensures c.in_ok-put_padded.ensures
    ∙ one_line out (shows cell (codes "out") value))
