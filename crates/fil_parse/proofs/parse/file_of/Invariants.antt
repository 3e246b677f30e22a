use Rattle.fil_parse.proofs.parse.file_of.Given as goal

abbrev pub ghost-whole_file : goal.ghost-whole_file
ghost-whole_file g a = g.known
