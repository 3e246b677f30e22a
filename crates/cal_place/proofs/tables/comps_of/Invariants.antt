use Rattle.std.proofs.Common.{take}
use Rattle.cal_ast.specs.Naming.{component_names}
use Rattle.cal_ast.specs.Tree.{design_of}
use Rattle.cal_place.specs.FirstPlaces.{ShowsFirsts}
use Rattle.cal_place.proofs.tables.comps_of.Given as goal

abbrev pub invariant-loop-number : goal.invariant-loop-number
invariant-loop-number l = ShowsFirsts l.comps (take l.number (component_names (design_of l.design)))
