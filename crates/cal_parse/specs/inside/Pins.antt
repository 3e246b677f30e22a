-- Ports of signatures with what their names mean, with names as texts. This project's.
use Rattle.std.specs.Prelude.{List}
use Rattle.hw_names.specs.Name.{Text}
use Rattle.cal_ast.specs.Tree.{pin_tree}
use Rattle.cal_parse.specs.declared.pin.MeantPin as code
use Rattle.cal_parse.specs.Grammar.{MeantPin}

abbrev pub meant_tree : List Text → code.MeantPin → MeantPin
meant_tree names x = (x.special, pin_tree names x.pin)
