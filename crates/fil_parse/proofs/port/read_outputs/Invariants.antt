use Rattle.fil_parse.proofs.port.read_outputs.Given as goal

abbrev pub ghost-listed_ports : goal.ghost-listed_ports
ghost-listed_ports g a = g.names
