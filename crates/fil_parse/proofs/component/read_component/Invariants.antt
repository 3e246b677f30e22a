use Rattle.fil_parse.proofs.component.read_component.Given as goal

abbrev pub ghost-read_events : goal.ghost-read_events
ghost-read_events g a = g.names

abbrev pub ghost-read_inputs : goal.ghost-read_inputs
ghost-read_inputs g a = g.names

abbrev pub ghost-read_outputs : goal.ghost-read_outputs
ghost-read_outputs g a = g.names

abbrev pub ghost-read_body : goal.ghost-read_body
ghost-read_body g a = g.names

abbrev pub ghost-interfaces_of : goal.ghost-interfaces_of
ghost-interfaces_of g a = g.names

abbrev pub ghost-data_of : goal.ghost-data_of
ghost-data_of g a = g.names
