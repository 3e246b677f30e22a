use Rattle.std.proofs.Common.{◌++◌, List, All, map, take}
use Rattle.hw_names.specs.Name.{KeepsTexts, Text}
use Rattle.cal_ast.specs.Numbers.{DoneHasNumbers}
use Rattle.cal_ast.specs.Tree.{done_tree}
use Rattle.cal_lower.specs.inside.Labels.{AreTexts, KeepsLabels}
use Rattle.cal_lower.specs.inside.Lowered.{done_wire}
use Rattle.cal_lower.specs.inside.Pieces.{Piece}
use Rattle.cal_lower.specs.inside.Shown.{ShowsPieces}
use Rattle.cal_lower.proofs.groups.push_dones.Given as goal

-- the wires of the done lines so far
abbrev pub invariant-loop-done : goal.invariant-loop-done
invariant-loop-done l = record {
  kept : KeepsLabels l.initial.labels l.labels;
  texts : AreTexts l.labels.names l.labels.texts;
  pushed : (source : List Text) (list : List Piece) → KeepsTexts source l.initial.labels.names → All (DoneHasNumbers source) l.dones
      → ShowsPieces l.initial.labels.names list l.initial.pieces
      → ShowsPieces l.labels.names (list ++ map done_wire (map (done_tree source) (take l.done-index l.dones))) l.pieces;
}
