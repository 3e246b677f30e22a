use Rattle.std.proofs.Common.{◌++◌, codes}
use Rattle.ver_print.specs.Cells.{keeps, memory_edge, memory_read, memory_start, memory_words, shows}
use Rattle.ver_print.specs.inside.Shapes.{count_of, place_text, within}
use Rattle.ver_print.specs.Words.{counter, part}
use Rattle.ver_print.proofs.LineLemmas.{seven_lines}
use Rattle.ver_print.proofs.PutLemmas.{OnOk-is}
use Rattle.ver_print.proofs.memories.put_memory.Goals as goal

pub returns : goal.returns
returns c =
    let cell = c.args.cell.now in
    let w = c.args.w in
    let count = count_of c.args.shape in
    let test = within cell c.args.shape in
    let place = place_text cell c.args.shape in
    OnOk-is c.put_edge.result c.put_edge.new.out.items _ _ c.put_edge.ensures
    (seven_lines c.args.out.now.items c.put_words.new.out.items c.put_kept.new.out.items c.put_line.new.out.items c.put_start.new.out.items c.put_read.new.out.items c.put_shown.new.out.items
    (memory_words cell w count) (keeps cell (codes "$1") 1) (codes "integer " ++ counter cell ++ codes ";") (memory_start cell w count) (memory_read cell w test place)
    (shows cell (codes "done") (part cell (codes "$1"))) (memory_edge cell test place)
    c.in_ok-put_words.ensures c.in_ok-put_kept.ensures c.in_ok-put_line.ensures c.in_ok-put_start.ensures c.in_ok-put_read.ensures c.in_ok-put_shown.ensures)
