use Rattle.std.proofs.Common.{List, ◌++◌}
use Rattle.hw_names.specs.Name.{Text}
use Rattle.cal_ast.specs.Plan.{Plan}
use Rattle.cal_ast.specs.Tree.{Assignment}
use Rattle.cal_state.specs.inside.Making.{ShowsEncoding}
use Rattle.cal_state.proofs.EncodingLoopLemmas.{GroupsSoFar, groups_sets}
use Rattle.cal_state.proofs.component.Sets.push_groups.Given as goal

abbrev pub invariant-loop-group : goal.invariant-loop-group
invariant-loop-group l = (names source : List Text) (plan : Plan) (left wires states : List Assignment)
    → ShowsEncoding names (record { left = groups_sets source plan l.groups ++ left; wires = wires; states = states }) l.initial.self
    → GroupsSoFar source plan names l.groups left wires states l.group-index l.self
