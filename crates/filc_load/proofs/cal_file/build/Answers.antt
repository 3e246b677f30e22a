use Rattle.filc_load.specs.Built.{IsUnbuilt}
use Rattle.filc_stop.specs.declared.language.Language.TheVariants.{Calyx}
use Rattle.filc_load.proofs.LoadLemmas.{passed_on}
use Rattle.filc_load.proofs.cal_file.build.Goals as goal

pub returns-in_err-judge-clause-refused : goal.returns-in_err-judge-clause-refused
returns-in_err-judge-clause-refused c =
    passed_on (IsUnbuilt Calyx c.args.text.now) c.from_residual-in_err-judge.result c.in_err-judge.field-0.0 c.from_residual-in_err-judge.ensures.1
    (c.in_err-judge.ensures.refused c.args.text.now c.in_ok-design.ensures.read.text_of)
