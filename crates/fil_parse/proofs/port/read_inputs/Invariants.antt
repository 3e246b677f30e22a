use Rattle.fil_parse.proofs.port.read_inputs.Given as goal

abbrev pub ghost-listed_inputs : goal.ghost-listed_inputs
ghost-listed_inputs g a = g.names
