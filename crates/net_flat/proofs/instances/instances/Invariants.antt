use Rattle.cal_ast.specs.Tree.{component_tree, design_of}
use Rattle.net_flat.specs.inside.Levels.{level, levels}
use Rattle.net_flat.specs.inside.Placed.{AreInstances}
use Rattle.net_flat.proofs.instances.instances.Given as goal

-- the levels so far are found, and the next one is at hand
abbrev pub invariant-loop : goal.invariant-loop
invariant-loop l =
    record {
      before : AreInstances l.design.names (levels (design_of l.design) (component_tree l.design.names l.fn.top) l.counter) l.found.items;
      next : AreInstances l.design.names (level (design_of l.design) (component_tree l.design.names l.fn.top) l.counter) l.level.items;
    }
