-- What a design with rules is where its groups are gone: each group's assignments are continuous, under its rule. Calyx, ASPLOS 2021.
use Rattle.std.specs.Prelude.{List, [], ◌++◌, map, flat_map}
use Rattle.cal_ast.specs.Holes.{ActivityRule, guarded_group}
use Rattle.cal_ast.specs.Tree.{Assignment, GroupDef, Component, Design}

-- the assignments of a group, each under the group's rule
abbrev pub ruled_sets : Design → List ActivityRule → Component → GroupDef → List Assignment
ruled_sets design rules c g = (guarded_group design rules c g).sets

abbrev pub removed : Design → List ActivityRule → Component → Component
removed design rules c = record c { groups = []; sets = c.sets ++ flat_map (ruled_sets design rules c) c.groups }

abbrev pub removed_design : Design → List ActivityRule → Design
removed_design design rules = map (removed design rules) design
