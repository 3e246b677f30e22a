use Rattle.std.proofs.Common.{take}
use Rattle.cal_ast.specs.Tree.{design_of}
use Rattle.cal_place.specs.Tables.{AreSignatures}
use Rattle.cal_place.proofs.tables.signatures_of.Given as goal

abbrev pub invariant-loop-comp : goal.invariant-loop-comp
invariant-loop-comp l = AreSignatures (take l.comp-index (design_of l.design)) l.signatures.items
