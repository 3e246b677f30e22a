use Rattle.fil_parse.proofs.port.read_port.Given as goal

abbrev pub ghost-read_placed : goal.ghost-read_placed
ghost-read_placed g a = g.names
