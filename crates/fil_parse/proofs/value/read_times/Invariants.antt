use Rattle.fil_parse.proofs.value.read_times.Given as goal

abbrev pub ghost-separated_times : goal.ghost-separated_times
ghost-separated_times g a = g.names
