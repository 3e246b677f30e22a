use Rattle.filc_load.specs.Built.{IsUnbuilt}
use Rattle.filc_stop.specs.declared.language.Language.TheVariants.{Netlists}
use Rattle.filc_load.proofs.LoadLemmas.{passed_on}
use Rattle.filc_load.proofs.net_file.build.Goals as goal

pub returns-in_err-table-clause-refused : goal.returns-in_err-table-clause-refused
returns-in_err-table-clause-refused c =
    passed_on (IsUnbuilt Netlists c.args.text.now) c.from_residual-in_err-table.result c.in_err-table.field-0.0 c.from_residual-in_err-table.ensures.1
    (c.in_err-table.ensures.refused c.args.text.now c.in_ok-net.ensures.read.text_of)

pub returns-in_err-order-clause-refused : goal.returns-in_err-order-clause-refused
returns-in_err-order-clause-refused c =
    passed_on (IsUnbuilt Netlists c.args.text.now) c.from_residual-in_err-order.result c.in_err-order.field-0.0 c.from_residual-in_err-order.ensures.1
    (c.in_err-order.ensures.refused c.args.text.now c.in_ok-net.ensures.read.text_of)
