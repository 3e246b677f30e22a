use Rattle.std.proofs.Common.{◌++◌, ap}
use Rattle.hw_names.specs.Name.{Text}
use Rattle.ver_print.specs.Words.{inner_line, part}
use Rattle.ver_print.proofs.LineLemmas.{one_piece}
use Rattle.ver_print.proofs.PutLemmas.{OnOk-is}
use Rattle.ver_print.proofs.registers.put_shown.Goals as goal

pub returns : goal.returns
returns c =
    let cell = c.args.cell.now in
    let out = c.args.out.now.items in
    OnOk-is c.put_line.result c.put_line.new.out.items _ _ c.put_line.ensures
    (ap (λ (t : Text). out ++ inner_line t) (one_piece (part cell c.args.output.now) (part cell c.args.register.now)))
