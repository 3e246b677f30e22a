use Rattle.std.proofs.Common.{◌++◌, codes, ap}
use Rattle.hw_names.specs.Name.{Text}
use Rattle.ver_print.specs.Words.{inner_line, part}
use Rattle.ver_print.proofs.LineLemmas.{mult_pipe_put}
use Rattle.ver_print.proofs.PutLemmas.{OnOk-is}
use Rattle.ver_print.proofs.registers.put_mult_pipe_edge.Goals as goal

pub returns : goal.returns
returns c =
    let cell = c.args.cell.now in
    let out = c.args.out.now.items in
    OnOk-is c.put_line.result c.put_line.new.out.items _ _ c.put_line.ensures
    (ap (λ (t : Text). out ++ inner_line t)
    (mult_pipe_put (part cell (codes "$0")) (part cell (codes "$1")) (part cell (codes "$2")) (part cell (codes "go")) (part cell (codes "left")) (part cell (codes "right"))))
