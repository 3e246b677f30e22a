use Rattle.fil_parse.proofs.value.read_values.Given as goal

abbrev pub ghost-listed_values : goal.ghost-listed_values
ghost-listed_values g a = g.names
