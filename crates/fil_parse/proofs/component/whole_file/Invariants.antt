use Rattle.fil_parse.proofs.component.whole_file.Given as goal

abbrev pub ghost-read_file : goal.ghost-read_file
ghost-read_file g a = g.names
