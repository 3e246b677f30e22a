use Rattle.std.proofs.Common.{codes}
use Rattle.ver_print.specs.inside.Shapes.{place_text}
use Rattle.ver_print.specs.Words.{part}
use Rattle.ver_print.proofs.LineLemmas.{word_put}
use Rattle.ver_print.proofs.PutLemmas.{OnOk-is}
use Rattle.ver_print.proofs.memories.put_word.Goals as goal

pub returns : goal.returns
returns c =
    let cell = c.args.cell.now in
    OnOk-is c.put.result c.put.new.out.items _ _ c.put.ensures
    (word_put c.args.out.now.items c.put_pieces.new.out.items c.put_place.new.out.items (part cell (codes "$0")) (place_text cell c.args.shape) c.in_ok-put_pieces.ensures c.in_ok-put_place.ensures)
