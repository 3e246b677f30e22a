use Rattle.std.proofs.Common.{All, Contains, take}
use Rattle.hw_names.specs.Name.{text_of}
use Rattle.cal_ast.specs.declared.tree.Group.{Group as GroupOf}
use Rattle.cal_lower.proofs.acts.group_names.Given as goal

-- the names of the groups so far are known
abbrev pub invariant-loop-group : goal.invariant-loop-group
invariant-loop-group l = All (λ (group : GroupOf). Contains l.known (text_of l.names group.name)) (take l.group-index l.groups)
