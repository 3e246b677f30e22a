use Rattle.filc_load.proofs.fil_file.read.Goals as goal

pub returns-in-Err-clause-refused : goal.returns-in-Err-clause-refused
returns-in-Err-clause-refused c = c.stop_of.ensures c.args.text.now c.in-Err.ensures.refused
