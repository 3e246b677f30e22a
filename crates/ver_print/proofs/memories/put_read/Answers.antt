use Rattle.std.proofs.Common.{codes}
use Rattle.ver_print.specs.Cells.{read_value, word_text}
use Rattle.ver_print.specs.inside.Shapes.{place_text, within}
use Rattle.ver_print.specs.Words.{part}
use Rattle.ver_print.proofs.LineLemmas.{assigned_put}
use Rattle.ver_print.proofs.PutLemmas.{OnOk-is}
use Rattle.ver_print.proofs.memories.put_read.Goals as goal

pub returns : goal.returns
returns c =
    let cell = c.args.cell.now in
    OnOk-is c.put.result c.put.new.out.items _ _ c.put.ensures
    (assigned_put c.args.out.now.items c.put_pieces.new.out.items c.put_read_value.new.out.items (part cell (codes "read_data"))
    (read_value (within cell c.args.shape) (word_text cell (place_text cell c.args.shape)) c.args.w) c.in_ok-put_pieces.ensures c.in_ok-put_read_value.ensures)
