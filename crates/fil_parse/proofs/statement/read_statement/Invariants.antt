use Rattle.fil_parse.proofs.statement.read_statement.Given as goal

abbrev pub ghost-read_new : goal.ghost-read_new
ghost-read_new g a = g.names

abbrev pub ghost-read_called : goal.ghost-read_called
ghost-read_called g a = g.names

abbrev pub ghost-read_connected : goal.ghost-read_connected
ghost-read_connected g a = g.names
