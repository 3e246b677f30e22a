use Rattle.std.proofs.Common.{ℕ, ◌++◌, codes, decimal, ap, ◌∙◌}
use Rattle.hw_names.specs.Name.{Text}
use Rattle.ver_print.specs.inside.Shapes.{count_of}
use Rattle.ver_print.specs.Words.{counter, inner_line, part}
use Rattle.ver_print.proofs.LineLemmas.{start_text}
use Rattle.ver_print.proofs.PutLemmas.{OnOk-is}
use Rattle.ver_print.proofs.memories.put_start.Goals as goal

pub returns : goal.returns
returns c =
    let out = c.args.out.now.items in
    let i = counter c.args.cell.now in
    let words = part c.args.cell.now (codes "$0") in
    let width = decimal c.args.w in
    OnOk-is c.put_line.result c.put_line.new.out.items _ _ c.put_line.ensures
    (ap
    (λ (count : ℕ).
    out ++ inner_line (codes "initial for (" ++ (i ++ (codes "= 0; " ++ (i ++ (codes "< " ++ (decimal count ++ (codes "; " ++ (i ++ (codes "= " ++ (i ++ (codes "+ 1) "
    ++ (words ++ (codes "[" ++ (i ++ (codes "] = " ++ (width ++ codes "'d0;")))))))))))))))))
    c.word_count.ensures
    ∙ ap (λ (t : Text). out ++ inner_line t) (start_text i (decimal (count_of c.args.shape)) words width))
