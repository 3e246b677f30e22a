use Rattle.fil_parse.proofs.statement.read_body.Given as goal

abbrev pub ghost-read_statements : goal.ghost-read_statements
ghost-read_statements g a = g.names
