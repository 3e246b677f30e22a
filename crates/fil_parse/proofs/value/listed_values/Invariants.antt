use Rattle.fil_parse.proofs.value.listed_values.Given as goal

abbrev pub ghost-read_value : goal.ghost-read_value
ghost-read_value g a = g.names

abbrev pub ghost-more_values : goal.ghost-more_values
ghost-more_values g a = g.names
