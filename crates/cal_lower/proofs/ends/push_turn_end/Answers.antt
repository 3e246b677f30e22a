use Rattle.std.proofs.Common.{◌≡◌, ℕ, ◌+◌, ◌++◌, ◌∷◌, [], OnOk, ap, subst, ◌∙◌}
use Rattle.cal_lower.specs.inside.Parts.{last_part, part_ends}
use Rattle.cal_lower.specs.inside.Pieces.{Wire, ends_name, piece}
use Rattle.cal_lower.specs.inside.Shown.{ShowsPieces, one_when}
use Rattle.cal_lower.proofs.GrownLemmas.{pieces_kept}
use Rattle.cal_lower.proofs.SizeLemmas.{plans}
use Rattle.cal_lower.proofs.ends.push_turn_end.Goals as goal

pub returns-clause-pushed : goal.returns-clause-pushed
returns-clause-pushed c = λ source item start list are.
    let old = c.args.labels.now.names in
    let mid = c.part_ends.new.labels.names in
    let new = c.push.new.labels.names in
    let k = c.args.number in
    let last = c.in_ok-last.last in
    let ps = plans source item c.args.statements.now in
    let is : last ≡ last_part (k + 1) ps = c.in_ok-last.ensures source item ∙ ap (λ n. last_part n ps) c.in_ok-after.ensures in
    let P : ℕ → Type 0 = λ n. OnOk c.push.result (ShowsPieces new (list ++ piece Wire (ends_name k) (part_ends n) ∷ []) c.push.new.self) in
    let before = pieces_kept old mid list c.args.pieces.now c.part_ends.ensures.kept.names are in
    subst P is (c.push.ensures.pushed list (one_when (part_ends last)) before (c.one_when-ends.ensures mid (part_ends last) c.in_ok-part_ends.ensures.guard))
