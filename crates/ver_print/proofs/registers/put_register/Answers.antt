use Rattle.std.proofs.Common.{codes}
use Rattle.ver_print.specs.Cells.{keeps, shows}
use Rattle.ver_print.specs.Words.{part}
use Rattle.ver_print.proofs.LineLemmas.{five_lines, register_edge}
use Rattle.ver_print.proofs.PutLemmas.{OnOk-is}
use Rattle.ver_print.proofs.registers.put_register.Goals as goal

pub returns : goal.returns
returns c =
    let cell = c.args.cell.now in
    let out = c.args.out.now.items in
    OnOk-is c.put_line.result c.put_line.new.out.items _ _ c.put_line.ensures
    (five_lines out c.put_kept.new.out.items c.put_kept-2.new.out.items c.put_shown.new.out.items c.put_shown-2.new.out.items
    (keeps cell (codes "$0") c.args.w) (keeps cell (codes "$1") 1) (shows cell (codes "out") (part cell (codes "$0"))) (shows cell (codes "done") (part cell (codes "$1"))) (register_edge cell)
    c.in_ok-put_kept.ensures c.in_ok-put_kept-2.ensures c.in_ok-put_shown.ensures c.in_ok-put_shown-2.ensures)
