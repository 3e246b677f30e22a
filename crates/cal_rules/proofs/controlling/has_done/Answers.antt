use Rattle.std.proofs.Common.{◌≡◌, true, false, sym, ◌∙◌}
use Rattle.cal_ast.specs.Tree.{done_tree}
use Rattle.cal_rules.proofs.GroupLemmas.{some_done}
use Rattle.cal_rules.proofs.controlling.has_done.Goals as goal

pub returns-then-group : goal.returns-then-group
returns-then-group c names =
    let is = c.if-group.true in
    (λ t other. let bad : true ≡ false = sym is ∙ other in absurd (cc), λ has. (cc))

pub returns-else-group : goal.returns-else-group
returns-else-group c names = some_done (done_tree names) c.args.group.now.dones c.args.group.now.comb c.is_empty.result c.if-group.false c.is_empty.ensures
