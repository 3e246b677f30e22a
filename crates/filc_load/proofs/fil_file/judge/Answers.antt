use Rattle.filc_load.proofs.FilLemmas.{unfit_where_heavy}
use Rattle.filc_load.proofs.fil_file.judge.Goals as goal

pub returns-in-Ok-clause-refused : goal.returns-in-Ok-clause-refused
returns-in-Ok-clause-refused c = unfit_where_heavy c.args.design.now c.in-Ok.ok c.weigh.result c.in-Ok.ensures.design c.in-Ok.ensures.kept c.weigh.ensures.refused
