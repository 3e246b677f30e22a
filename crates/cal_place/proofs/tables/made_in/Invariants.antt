use Rattle.cal_ast.specs.Tree.{design_of}
use Rattle.cal_place.proofs.TableLemmas.{AreMadeSoFar}
use Rattle.cal_place.proofs.tables.made_in.Given as goal

abbrev pub invariant-loop-comp : goal.invariant-loop-comp
invariant-loop-comp l = AreMadeSoFar (design_of l.design) l.comp-index l.made.items
