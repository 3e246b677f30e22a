use Rattle.std.proofs.Common.{◌++◌, codes, ap, ◌∙◌}
use Rattle.hw_names.specs.Name.{Text}
use Rattle.ver_print.specs.Cells.{clocked, keeps, shows}
use Rattle.ver_print.specs.Words.{inner_line, part}
use Rattle.ver_print.proofs.LineLemmas.{delay_edge, three_lines}
use Rattle.ver_print.proofs.PutLemmas.{OnOk-is}
use Rattle.ver_print.proofs.registers.put_delay.Goals as goal

pub returns : goal.returns
returns c =
    let cell = c.args.cell.now in
    let out = c.args.out.now.items in
    let kept = part cell (codes "$0") in
    let input = part cell (codes "in") in
    let before = c.put_shown.new.out.items in
    OnOk-is c.put_line.result c.put_line.new.out.items _ _ c.put_line.ensures
    (ap (λ (t : Text). before ++ inner_line t) (delay_edge kept input)
    ∙ three_lines out c.put_kept.new.out.items before (keeps cell (codes "$0") c.args.w) (shows cell (codes "out") kept) (clocked (kept ++ codes "<= " ++ input ++ codes ";"))
    c.in_ok-put_kept.ensures c.in_ok-put_shown.ensures)
