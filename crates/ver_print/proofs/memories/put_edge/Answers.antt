use Rattle.std.proofs.Common.{codes}
use Rattle.ver_print.specs.Cells.{word_text, write_test}
use Rattle.ver_print.specs.inside.Shapes.{place_text, within}
use Rattle.ver_print.specs.Words.{part}
use Rattle.ver_print.proofs.LineLemmas.{edge_put}
use Rattle.ver_print.proofs.PutLemmas.{OnOk-is}
use Rattle.ver_print.proofs.memories.put_edge.Goals as goal

pub returns : goal.returns
returns c =
    let cell = c.args.cell.now in
    let write_en = part cell (codes "write_en") in
    OnOk-is c.put_pieces-2.result c.put_pieces-2.new.out.items _ _ c.put_pieces-2.ensures
    (edge_put c.args.out.now.items c.put_pieces.new.out.items c.put_write_test.new.out.items c.put.new.out.items c.put_word.new.out.items
    (part cell (codes "$1")) write_en (write_test (within cell c.args.shape) write_en) (word_text cell (place_text cell c.args.shape)) (part cell (codes "write_data"))
    c.in_ok-put_pieces.ensures c.in_ok-put_write_test.ensures c.in_ok-put.ensures c.in_ok-put_word.ensures)
