use Rattle.std.proofs.Common.{◌++◌, List, All, map, flat_map, take}
use Rattle.hw_names.specs.Name.{Text}
use Rattle.cal_ast.specs.Plan.{Plan}
use Rattle.cal_ast.specs.Tree.{group_tree}
use Rattle.cal_lower.specs.inside.Labels.{AreTexts, KeepsLabels}
use Rattle.cal_lower.specs.inside.Lowered.{group_pieces}
use Rattle.cal_lower.specs.inside.Making.{CanLowerGroup}
use Rattle.cal_lower.specs.inside.Pieces.{Piece}
use Rattle.cal_lower.specs.inside.Shown.{ShowsPieces}
use Rattle.cal_lower.proofs.groups.push_groups.Given as goal

-- the wires of the groups so far
abbrev pub invariant-loop-group : goal.invariant-loop-group
invariant-loop-group l = record {
  kept : KeepsLabels l.initial.labels l.labels;
  texts : AreTexts l.labels.names l.labels.texts;
  pushed : (source : List Text) (plan : Plan) (list : List Piece) → All (CanLowerGroup source l.initial.labels.names plan l.acts) l.groups
      → ShowsPieces l.initial.labels.names list l.initial.pieces
      → ShowsPieces l.labels.names (list ++ flat_map (group_pieces plan) (map (group_tree source) (take l.group-index l.groups))) l.pieces;
}
