use Rattle.std.proofs.Common.{ℕ, ◌+◌, subst}
use Rattle.cal_lower.specs.inside.Parts.{ended_guards}
use Rattle.cal_lower.specs.inside.Pieces.{all_of}
use Rattle.cal_lower.specs.inside.Shown.{ShowsGuards, one_when}
use Rattle.cal_lower.proofs.GrownLemmas.{pieces_kept}
use Rattle.cal_lower.proofs.SizeLemmas.{plans}
use Rattle.cal_lower.proofs.ends.push_all_end.Goals as goal

pub returns-clause-pushed : goal.returns-clause-pushed
returns-clause-pushed c = λ source item start list are.
    let old = c.args.labels.now.names in
    let mid = c.all_ended.new.labels.names in
    let guards = c.in_ok-guards.guards.items in
    let ps = plans source item c.args.statements.now in
    let trees = ended_guards (c.args.number + 1) ps in
    let P : ℕ → Type 0 = λ n. ShowsGuards mid (ended_guards n ps) guards in
    let all = c.in_ok-all_of.ensures mid trees (subst P c.in_ok-after.ensures (c.in_ok-guards.ensures.guards source item)) in
    c.push.ensures.pushed list (one_when (all_of trees)) (pieces_kept old mid list c.args.pieces.now c.all_ended.ensures.kept.names are) (c.one_when.ensures mid (all_of trees) all)
