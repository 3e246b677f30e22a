use Rattle.cal_lower.specs.inside.Parts.{ended_guard, part_ends}
use Rattle.cal_lower.specs.inside.Pieces.{ends_name, shown}
use Rattle.cal_lower.specs.inside.Shown.{one_when}
use Rattle.cal_lower.proofs.EndLemmas.{has_ended}
use Rattle.cal_lower.proofs.GatherLemmas.{guard_later}
use Rattle.cal_lower.proofs.GrownLemmas.{pieces_kept}
use Rattle.cal_lower.proofs.StableLemmas.{KeepsTexts-trans}
use Rattle.cal_lower.proofs.ends.push_ended.Goals as goal

pub returns-clause-pushed : goal.returns-clause-pushed
returns-clause-pushed c = λ list are.
    let old = c.args.labels.now.names in
    let mid = c.ended.new.labels.names in
    let new = c.port.new.self.names in
    let k = c.args.number in
    let goes_on = ended_guard k (part_ends c.args.all) in
    let ended = guard_later mid new c.port.ensures.kept.names (has_ended k) c.in_ok-has_ended.has_ended c.in_ok-has_ended.ensures.guard in
    let guard = c.in_ok-unless.ensures new (has_ended k) (shown (ends_name c.args.all)) ended c.in_ok-all_end.ensures.port in
    let before = pieces_kept old new list c.args.pieces.now (KeepsTexts-trans old mid new c.ended.ensures.kept.names c.port.ensures.kept.names) are in
    c.push.ensures.pushed list (one_when goes_on) before (c.one_when-still_ended.ensures new goes_on guard)
