use Rattle.fil_parse.proofs.statement.read_new.Given as goal

abbrev pub ghost-read_call : goal.ghost-read_call
ghost-read_call g a = g.names
