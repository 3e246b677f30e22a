-- What stands in a list of inputs, with names as texts. This project's.
use Rattle.std.specs.Prelude.{List}
use Rattle.hw_names.specs.Name.{Text}
use Rattle.par_parse.specs.declared.port.ParamInput.{ParamInput}
use Rattle.par_parse.specs.declared.port.ParamInput.TheVariants as inputs
use Rattle.par_parse.specs.Tree.{interface_tree, port_tree}
use Rattle.par_parse.specs.Grammar.{InputTree, InterfacePort, DataInput}

abbrev pub input_tree : List Text → ParamInput → InputTree
input_tree names (inputs.Interface port) = InterfacePort (interface_tree names port)
input_tree names (inputs.Data port) = DataInput (port_tree names port)
