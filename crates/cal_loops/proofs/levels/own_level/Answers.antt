use Rattle.std.proofs.Common.{rules, ◌<◌, length, Some, refl, ap, arith}
use Rattle.std.specs.Prelude.{slice_index}
use Rattle.std.proofs.lemmas.Option.{none-some, same_Some, slice_get_within}
use Rattle.cal_loops.proofs.levels.own_level.Goals as goal

pub returns-in_err-node : goal.returns-in_err-node
returns-in_err-node c = λ node at. absurd (none-some node ((c.in_err-node.ensures node).1 at))

pub offset_bounds-levels-node : goal.offset_bounds-levels-node
offset_bounds-levels-node c =
    let found = (c.in_ok-node.ensures c.in_ok-node.node).0 refl in
    let less : c.in_ok-node.node < length c.args.levels.now = omega (arith, slice_get_within c.args.ports.now.keys c.in_ok-node.node _ found, c.requires.levels) in
    search (rules, less)

pub bounds-levels-node : goal.bounds-levels-node
bounds-levels-node c =
    let found = (c.in_ok-node.ensures c.in_ok-node.node).0 refl in
    omega (arith, slice_get_within c.args.ports.now.keys c.in_ok-node.node _ found, c.requires.levels)

pub returns : goal.returns
returns c = λ node at.
    ap (λ n. Some (slice_index c.args.levels.now n)) (same_Some c.in_ok-node.node node ((c.in_ok-node.ensures node).1 at))
