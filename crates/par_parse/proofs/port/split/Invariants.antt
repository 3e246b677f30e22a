use Rattle.std.proofs.Common.{◌≡◌, ◌++◌, List, length, map}
use Rattle.std.specs.Vec.Iter.{into_iter_items, into_iter_len}
use Rattle.hw_names.specs.Name.{Text}
use Rattle.par_parse.specs.Tree.{interface_tree, port_tree}
use Rattle.par_parse.specs.Grammar.{interfaces_of, data_of}
use Rattle.par_parse.specs.inside.Inputs.{input_tree}
use Rattle.par_parse.proofs.port.split.Given as goal

abbrev pub invariant-loop-input : goal.invariant-loop-input
invariant-loop-input l = (l.yielded ++ into_iter_items l.input-iterator ≡ into_iter_items l.initial.input-iterator)
    × (into_iter_len l.input-iterator ≡ length (into_iter_items l.input-iterator))
    × ((names : List Text) → (map (interface_tree names) l.parts.gos.items ≡ interfaces_of (map (input_tree names) l.yielded)) × (map (port_tree names) l.parts.ins.items ≡ data_of (map (input_tree names) l.yielded)))
