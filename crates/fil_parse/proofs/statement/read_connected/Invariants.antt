use Rattle.fil_parse.proofs.statement.read_connected.Given as goal

abbrev pub ghost-read_value : goal.ghost-read_value
ghost-read_value g a = g.names
