use Rattle.std.proofs.Common.{◌++◌, codes, ap, ◌∙◌}
use Rattle.hw_names.specs.Name.{Text}
use Rattle.ver_print.specs.Cells.{clocked, keeps, operation, shows}
use Rattle.ver_print.specs.Words.{inner_line, part}
use Rattle.ver_print.proofs.LineLemmas.{fast_mult_edge, four_lines}
use Rattle.ver_print.proofs.PutLemmas.{OnOk-is}
use Rattle.ver_print.proofs.registers.put_fast_mult.Goals as goal

pub returns : goal.returns
returns c =
    let cell = c.args.cell.now in
    let out = c.args.out.now.items in
    let first = part cell (codes "$0") in
    let second = part cell (codes "$1") in
    let before = c.put_shown.new.out.items in
    OnOk-is c.put_line.result c.put_line.new.out.items _ _ c.put_line.ensures
    (ap (λ (t : Text). before ++ inner_line t) (fast_mult_edge first second (part cell (codes "left")) (part cell (codes "right")))
    ∙ four_lines out c.put_kept.new.out.items c.put_kept-2.new.out.items before
    (keeps cell (codes "$0") c.args.w) (keeps cell (codes "$1") c.args.w) (shows cell (codes "out") second)
    (clocked (codes "begin " ++ second ++ codes "<= " ++ first ++ codes "; " ++ first ++ codes "<= " ++ operation cell (codes "*") ++ codes "; end"))
    c.in_ok-put_kept.ensures c.in_ok-put_kept-2.ensures c.in_ok-put_shown.ensures)
