use Rattle.fil_parse.proofs.value.separated_times.Given as goal

abbrev pub ghost-read_time : goal.ghost-read_time
ghost-read_time g a = g.names

abbrev pub ghost-more_times : goal.ghost-more_times
ghost-more_times g a = g.names
