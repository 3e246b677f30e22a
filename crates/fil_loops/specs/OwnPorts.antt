-- The names of a component's own ports. This project's.
use Rattle.std.specs.Prelude.{List, ◌++◌, map}
use Rattle.hw_names.specs.Name.{Text}
use Rattle.fil_ast.specs.Tree.{Component, DataPort}

abbrev pub input_names : Component → List Text
input_names c = map (λ (p : DataPort). p.name) c.ins

abbrev pub output_names : Component → List Text
output_names c = map (λ (p : DataPort). p.name) c.outs

-- the names of the component's own ports, inputs first
abbrev pub own_port_names : Component → List Text
own_port_names c = input_names c ++ output_names c
