use Rattle.std.proofs.Common.{List, ap, map, subst, sym, ◌∙◌}
use Rattle.std.specs.Prelude.{All}
use Rattle.hw_names.specs.Name.{Text}
use Rattle.cal_ast.specs.Holes.{rule_trees}
use Rattle.cal_ast.specs.Numbers.{ComponentHasNumbers}
use Rattle.cal_ast.specs.Tree.{component_tree, design_of}
use Rattle.cal_group.proofs.ExpandsLemmas.{removes_groups}
use Rattle.cal_group.proofs.remove.remove_groups.Goals as goal

pub returns : goal.returns
returns c =
    let holes = c.args.holes.now in
    record {
      removes =
          removes_groups (design_of holes.design) (rule_trees holes.design.names holes.acts.items) _ c.requires.hole
          (ap (λ (names : List Text). map (component_tree names) c.in_ok-comps.comps.items) c.in_ok-names.ensures ∙ c.in_ok-comps.ensures.trees);
      numbers = subst (λ (names : List Text). All (ComponentHasNumbers names) c.in_ok-comps.comps.items) (sym c.in_ok-names.ensures) c.in_ok-comps.ensures.numbers;
    }
