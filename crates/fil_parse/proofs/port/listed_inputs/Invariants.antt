use Rattle.fil_parse.proofs.port.listed_inputs.Given as goal

abbrev pub ghost-read_input : goal.ghost-read_input
ghost-read_input g a = g.names

abbrev pub ghost-more_inputs : goal.ghost-more_inputs
ghost-more_inputs g a = g.names
