use Rattle.std.proofs.Common.{Option, [], ◌∷◌, ◌++◌, subst}
use Rattle.std.proofs.lemmas.Result.{on_ok_weaker}
use Rattle.cal_ast.specs.Actors.{Actor}
use Rattle.cal_lower.specs.inside.Making.{by_group, choice_plan, tests_group}
use Rattle.cal_lower.specs.inside.Parts.{ends_guard, ends_wire}
use Rattle.cal_lower.specs.inside.Pieces.{reads}
use Rattle.cal_lower.specs.inside.Shown.{ShowsActs, one_when}
use Rattle.cal_lower.proofs.GatherLemmas.{own_shown, port_later}
use Rattle.cal_lower.proofs.GrownLemmas.{acts_kept, pieces_kept}
use Rattle.cal_lower.proofs.StableLemmas.{KeepsTexts-trans, by_kept, by_numbers}
use Rattle.cal_lower.proofs.ends.push_choice.Goals as goal

pub push_test-requires : goal.push_test-requires
push_test-requires c =
    let old = c.args.labels.now.names in
    let mid = c.choice_ends.new.labels.names in
    let new = c.push.new.labels.names in
    by_numbers old new (KeepsTexts-trans old mid new c.choice_ends.ensures.kept.names c.push.ensures.kept.names) c.args.choice.now.test.by c.requires.by

pub returns-clause-made : goal.returns-clause-made
returns-clause-made c = λ source item other begin tested made begin_is tested_is is are.
    let old = c.args.labels.now.names in
    let mid = c.choice_ends.new.labels.names in
    let new = c.push.new.labels.names in
    let kept = KeepsTexts-trans old mid new c.choice_ends.ensures.kept.names c.push.ensures.kept.names in
    let k = c.args.at.number in
    let choice = c.args.choice.now in
    let start = reads begin in
    let p = choice_plan source item other tested old choice in
    let parts = c.args.parts.now in
    let pieces = c.push.new.self in
    let acts = c.push_test.new.acts in
    let ends = c.one_when-ends.ensures mid (ends_guard k p start) (c.in_ok-choice_ends.ensures.guard source item other k begin tested is begin_is tested_is) in
    let pieces_are = c.in_ok-push.ensures.pushed made.pieces (one_when (ends_guard k p start)) (pieces_kept old mid made.pieces parts.pieces c.choice_ends.ensures.kept.names are.pieces) ends in
    let before = acts_kept old new made.enabled made.tested parts.acts kept are.acts in
    let guard = c.in_ok-reads.ensures new begin (port_later old new kept begin c.args.at.start begin_is) in
    let B : Option Actor → Type 0 = λ by. ShowsActs new made.enabled (λ group. made.tested group ++ tests_group by start group) acts in
    let more = λ (m : B (by_group new choice.test.by)).
    own_shown new made pieces acts (ends_wire k p start ∷ []) (by_group old choice.test.by) start pieces_are (subst B (by_kept old new kept choice.test.by c.requires.by) m) in
    on_ok_weaker c.push_test.result more (c.push_test.ensures.tested made.enabled made.tested start before guard)
