use Rattle.std.proofs.Common.{◌++◌, codes, ap}
use Rattle.hw_names.specs.Name.{Text}
use Rattle.ver_print.specs.Words.{inner_line, part}
use Rattle.ver_print.proofs.LineLemmas.{seq_mult_put}
use Rattle.ver_print.proofs.PutLemmas.{OnOk-is}
use Rattle.ver_print.proofs.registers.put_seq_mult_edge.Goals as goal

pub returns : goal.returns
returns c =
    let cell = c.args.cell.now in
    let out = c.args.out.now.items in
    OnOk-is c.put_line.result c.put_line.new.out.items _ _ c.put_line.ensures
    (ap (λ (t : Text). out ++ inner_line t)
    (seq_mult_put (part cell (codes "$0")) (part cell (codes "$1")) (part cell (codes "go")) (part cell (codes "left")) (part cell (codes "right"))))
