use Rattle.fil_parse.proofs.port.read_placed.Given as goal

abbrev pub ghost-read_time : goal.ghost-read_time
ghost-read_time g a = g.names
