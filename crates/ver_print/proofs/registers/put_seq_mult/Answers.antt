use Rattle.std.proofs.Common.{◌++◌, codes, decimal, ap, ◌∙◌}
use Rattle.hw_names.specs.Name.{Text}
use Rattle.ver_print.specs.Cells.{keeps, seq_mult_edge, shows}
use Rattle.ver_print.specs.Words.{inner_line, part, zeros}
use Rattle.ver_print.proofs.LineLemmas.{four_lines, seq_mult_value}
use Rattle.ver_print.proofs.PutLemmas.{OnOk-is}
use Rattle.ver_print.proofs.registers.put_seq_mult.Goals as goal

pub returns : goal.returns
returns c =
    let cell = c.args.cell.now in
    let out = c.args.out.now.items in
    let phase = part cell (codes "$0") in
    let product = part cell (codes "$1") in
    let before = c.put_kept-2.new.out.items in
    let shown = c.in_ok-put_line.ensures ∙ ap (λ (t : Text). before ++ inner_line t) (seq_mult_value (part cell (codes "out")) phase product (decimal c.args.w)) in
    OnOk-is c.put_seq_mult_edge.result c.put_seq_mult_edge.new.out.items _ _ c.put_seq_mult_edge.ensures
    (four_lines out c.put_kept.new.out.items before c.put_line.new.out.items
    (keeps cell (codes "$0") 2) (keeps cell (codes "$1") c.args.w) (shows cell (codes "out") (codes "(" ++ phase ++ codes "== 2'd2) ? " ++ product ++ codes ": " ++ zeros c.args.w)) (seq_mult_edge cell)
    c.in_ok-put_kept.ensures c.in_ok-put_kept-2.ensures shown)
