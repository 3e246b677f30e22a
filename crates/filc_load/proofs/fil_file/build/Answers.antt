use Rattle.filc_load.specs.Built.{IsUnbuilt}
use Rattle.filc_stop.specs.declared.language.Language.TheVariants.{Filament}
use Rattle.filc_load.proofs.LoadLemmas.{passed_on}
use Rattle.filc_load.proofs.fil_file.build.Goals as goal

pub returns-in_err-top-clause-refused : goal.returns-in_err-top-clause-refused
returns-in_err-top-clause-refused c =
    passed_on (IsUnbuilt Filament c.args.text.now) c.from_residual-in_err-top.result c.in_err-top.field-0.0 c.from_residual-in_err-top.ensures.1
    (c.in_err-top.ensures.refused c.args.text.now c.in_ok-design.ensures.read.text_of)
