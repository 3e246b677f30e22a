use Rattle.fil_parse.proofs.port.separated_events.Given as goal

abbrev pub ghost-read_event : goal.ghost-read_event
ghost-read_event g a = g.names

abbrev pub ghost-more_events : goal.ghost-more_events
ghost-more_events g a = g.names
