use Rattle.fil_parse.proofs.port.read_input.Given as goal

abbrev pub ghost-read_interface : goal.ghost-read_interface
ghost-read_interface g a = g.names

abbrev pub ghost-read_placed : goal.ghost-read_placed
ghost-read_placed g a = g.names
