use Rattle.filc_load.proofs.CalLemmas.{some_comps, unfit_where_overweight}
use Rattle.filc_load.proofs.cal_file.judge.Goals as goal

pub check_calyx-requires-clause-component : goal.check_calyx-requires-clause-component
check_calyx-requires-clause-component c = some_comps c.args.design.now c.requires.written

pub returns-in-Ok-clause-refused : goal.returns-in-Ok-clause-refused
returns-in-Ok-clause-refused c =
    unfit_where_overweight c.args.design.now c.in-Ok.ok c.weigh.result c.in-Ok.ensures.design c.in-Ok.ensures.kept c.weigh.ensures.refused
