use Rattle.std.proofs.Common.{◌++◌, ◌∷◌, [], List, sym, subst}
use Rattle.cal_ast.specs.Tree.{assignment_tree}
use Rattle.net_core.specs.Netlist.{SetLine, set_of}
use Rattle.net_core.specs.Numbers.{SetHasNumbers}
use Rattle.net_flat.specs.Listing.{flat_set}
use Rattle.net_flat.specs.inside.StandFor.{AreSets}
use Rattle.net_flat.proofs.StandLemmas.{Keeps-then, stable_set, stand_push}
use Rattle.net_flat.proofs.TakeLemmas.{map_map_one}
use Rattle.net_flat.proofs.lines.sets_at.Goals as goal

pub loop-set-preserved : goal.loop-set-preserved
loop-set-preserved c =
    let sets = c.args.sets.now in
    let i = c.loop-set.set-index in
    let names = c.set_at.new.names in (
      Keeps-then c.args.names.now c.loop-set.names names c.loop-set.invariant.0 c.set_at.ensures.kept,
      λ path at.
          let more = map_map_one (assignment_tree c.args.source.now) sets i c.set-item.result c.loop-set-test.true c.set-item.is (flat_set path) in
          rw c.in_ok-push.ensures.items
          (subst (λ (ls : List SetLine). AreSets names ls (c.loop-set.found.items ++ c.in_ok-set_at.field-0 ∷ [])) (sym more)
          (stand_push SetHasNumbers set_of stable_set c.loop-set.names names _ c.loop-set.found.items _ c.in_ok-set_at.field-0 c.set_at.ensures.kept (c.loop-set.invariant.1 path at) (c.in_ok-set_at.ensures.set path at))),
    )
