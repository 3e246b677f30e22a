use Rattle.fil_parse.proofs.component.read_file.Given as goal

abbrev pub ghost-read_component : goal.ghost-read_component
ghost-read_component g a = g.names

abbrev pub ghost-more_components : goal.ghost-more_components
ghost-more_components g a = g.names
