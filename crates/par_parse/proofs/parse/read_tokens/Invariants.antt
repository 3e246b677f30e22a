use Rattle.par_parse.proofs.parse.read_tokens.Given as goal

abbrev pub ghost-file_of : goal.ghost-file_of
ghost-file_of a = a.names
