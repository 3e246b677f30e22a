use Rattle.fil_parse.proofs.port.read_more_event.Given as goal

abbrev pub ghost-read_event : goal.ghost-read_event
ghost-read_event g a = g.names
