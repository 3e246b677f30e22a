use Rattle.std.proofs.Common.{◌≡◌, length, map, take}
use Rattle.std.specs.Prelude.{All}
use Rattle.cal_ast.specs.Numbers.{ComponentHasNumbers}
use Rattle.cal_ast.specs.Tree.{component_tree, design_of}
use Rattle.cal_group.specs.inside.Removed.{removed}
use Rattle.cal_ast.specs.Holes.{rule_trees}
use Rattle.cal_group.proofs.remove.removed_components.Given as goal

abbrev pub invariant-loop-number : goal.invariant-loop-number
invariant-loop-number l = record {
  len : length l.table.items ≡ length l.holes.design.names;
  trees : map (component_tree l.holes.design.names) l.comps.items
      ≡ map (removed (design_of l.holes.design) (rule_trees l.holes.design.names l.holes.acts.items)) (map (component_tree l.holes.design.names) (take l.number l.comp-items));
  numbers : All (ComponentHasNumbers l.holes.design.names) l.comps.items;
}
