use Rattle.std.proofs.Common.{List, IfOk, map, subst, ◌∙◌}
use Rattle.cal_ast.specs.Tree.{assignment_tree}
use Rattle.cal_ast.specs.declared.tree.Assign.{Assign}
use Rattle.net_flat.specs.Listing.{flat_set}
use Rattle.net_flat.specs.inside.StandFor.{AreSets}
use Rattle.net_flat.proofs.listing.sets_of.Goals as goal

pub returns-clause-sets : goal.returns-clause-sets
returns-clause-sets c = λ path at.
    let source = c.args.source.now in
    subst (λ (cs : List Assign). IfOk c.sets_at.result (λ found. AreSets c.sets_at.new.names (map (flat_set path) (map (assignment_tree source) cs)) found.items)) c.deref-2.ensures.value
    (c.sets_at.ensures.sets path (c.deref.ensures.value ∙ at))
