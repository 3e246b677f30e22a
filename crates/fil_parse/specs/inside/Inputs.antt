-- What stands in a list of inputs, with names as texts. This project's.
use Rattle.std.specs.Prelude.{List}
use Rattle.hw_names.specs.Name.{Text}
use Rattle.fil_ast.specs.Tree.{interface_tree, port_tree}
use Rattle.fil_parse.specs.declared.input.InputPort.{InputPort}
use Rattle.fil_parse.specs.declared.input.InputPort.TheVariants as inputs
use Rattle.fil_parse.specs.Grammar.{Input, InterfacePort, DataInput}

abbrev pub input_tree : List Text → InputPort → Input
input_tree names (inputs.Interface port) = InterfacePort (interface_tree names port)
input_tree names (inputs.Data port) = DataInput (port_tree names port)
