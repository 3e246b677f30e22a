use Rattle.std.proofs.Common.{◌++◌, codes, ap, ◌∙◌}
use Rattle.hw_names.specs.Name.{Text}
use Rattle.ver_print.specs.Cells.{keeps, mult_pipe_edge, shows}
use Rattle.ver_print.specs.Words.{inner_line, part}
use Rattle.ver_print.proofs.LineLemmas.{six_lines, three_pieces}
use Rattle.ver_print.proofs.PutLemmas.{OnOk-is}
use Rattle.ver_print.proofs.registers.put_mult_pipe.Goals as goal

pub returns : goal.returns
returns c =
    let cell = c.args.cell.now in
    let out = c.args.out.now.items in
    let phase = part cell (codes "$0") in
    let before = c.put_shown.new.out.items in
    let done = c.in_ok-put_line.ensures ∙ ap (λ (t : Text). before ++ inner_line t) (three_pieces (part cell (codes "done")) (codes "(") phase (codes "== 2'd3)")) in
    OnOk-is c.put_mult_pipe_edge.result c.put_mult_pipe_edge.new.out.items _ _ c.put_mult_pipe_edge.ensures
    (six_lines out c.put_kept.new.out.items c.put_kept-2.new.out.items c.put_kept-3.new.out.items before c.put_line.new.out.items
    (keeps cell (codes "$0") 2) (keeps cell (codes "$1") c.args.w) (keeps cell (codes "$2") c.args.w) (shows cell (codes "out") (part cell (codes "$2")))
    (shows cell (codes "done") (codes "(" ++ phase ++ codes "== 2'd3)")) (mult_pipe_edge cell)
    c.in_ok-put_kept.ensures c.in_ok-put_kept-2.ensures c.in_ok-put_kept-3.ensures c.in_ok-put_shown.ensures done)
