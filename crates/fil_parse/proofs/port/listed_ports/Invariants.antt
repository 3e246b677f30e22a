use Rattle.fil_parse.proofs.port.listed_ports.Given as goal

abbrev pub ghost-read_port : goal.ghost-read_port
ghost-read_port g a = g.names

abbrev pub ghost-more_ports : goal.ghost-more_ports
ghost-more_ports g a = g.names
