use Rattle.std.proofs.Common.{take}
use Rattle.hw_names.specs.Name.{KeepsTexts}
use Rattle.cal_ast.specs.Tree.{design_of}
use Rattle.cal_group.specs.inside.Expansion.{HoldsCells}
use Rattle.cal_group.proofs.ComponentLemmas.{AreMade}
use Rattle.cal_group.proofs.expand.expanded_components.Given as goal

-- the components so far are made
abbrev pub invariant-loop-comp : goal.invariant-loop-comp
invariant-loop-comp l = record {
  kept : KeepsTexts l.initial.made.names l.made.names;
  holds : HoldsCells l.source.names l.table;
  comps : AreMade l.source.names l.made.names (design_of l.source) (take l.comp-index l.comp-items) l.comps.items;
}
