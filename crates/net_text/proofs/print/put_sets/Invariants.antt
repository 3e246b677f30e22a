use Rattle.std.proofs.Common.{◌≡◌, ◌++◌, take}
use Rattle.std.specs.List.{flat_map}
use Rattle.net_core.specs.Netlist.{set_of, SetOf}
use Rattle.net_text.specs.Layout.{line_text, ended}
use Rattle.net_text.proofs.print.put_sets.Given as goal

abbrev pub invariant-loop-assign : goal.invariant-loop-assign
invariant-loop-assign l = l.out.items ≡ l.initial.out.items ++ flat_map (λ a. ended (line_text (SetOf (set_of l.names a)))) (take l.assign-index l.sets)
