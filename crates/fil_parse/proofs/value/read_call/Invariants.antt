use Rattle.fil_parse.proofs.value.read_call.Given as goal

abbrev pub ghost-read_times : goal.ghost-read_times
ghost-read_times g a = g.names

abbrev pub ghost-read_values : goal.ghost-read_values
ghost-read_values g a = g.names
