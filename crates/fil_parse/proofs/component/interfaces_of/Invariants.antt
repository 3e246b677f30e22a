use Rattle.std.proofs.Common.{◌≡◌, map, take}
use Rattle.fil_ast.specs.Tree.{interface_tree}
use Rattle.fil_parse.specs.Grammar.{interfaces_of}
use Rattle.fil_parse.specs.inside.Inputs.{input_tree}
use Rattle.fil_parse.proofs.component.interfaces_of.Given as goal

abbrev pub invariant-loop-input : goal.invariant-loop-input
invariant-loop-input g l = map (interface_tree g.names) l.ports.items ≡ interfaces_of (map (input_tree g.names) (take l.input-index l.inputs))
