use Rattle.fil_parse.proofs.port.read_events.Given as goal

abbrev pub ghost-separated_events : goal.ghost-separated_events
ghost-separated_events g a = g.names
