use Rattle.std.proofs.Common.{Option, [], ◌∷◌, ◌++◌, subst}
use Rattle.std.proofs.lemmas.Result.{on_ok_weaker}
use Rattle.cal_ast.specs.Actors.{Actor}
use Rattle.cal_ast.specs.Plan.{Repeats}
use Rattle.cal_lower.specs.inside.Making.{by_group, tests_group}
use Rattle.cal_lower.specs.inside.Parts.{again_guard, ends_guard, ends_wire, tested_guard}
use Rattle.cal_lower.specs.inside.Pieces.{reads}
use Rattle.cal_lower.specs.inside.Shown.{ShowsActs, one_when}
use Rattle.cal_lower.proofs.GatherLemmas.{loop_shown, port_later}
use Rattle.cal_lower.proofs.GrownLemmas.{acts_kept, pieces_kept}
use Rattle.cal_lower.proofs.SizeLemmas.{plan}
use Rattle.cal_lower.proofs.StableLemmas.{KeepsTexts-trans, by_kept, by_numbers}
use Rattle.cal_lower.proofs.ends.push_loop.Goals as goal

pub push_test-requires : goal.push_test-requires
push_test-requires c =
    let n0 = c.args.labels.now.names in
    let n1 = c.tested.new.labels.names in
    let n2 = c.push.new.labels.names in
    let n3 = c.again.new.labels.names in
    let n4 = c.push-2.new.labels.names in
    let n5 = c.tested-2.new.labels.names in
    let k02 = KeepsTexts-trans n0 n1 n2 c.tested.ensures.kept.names c.push.ensures.kept.names in
    let k04 = KeepsTexts-trans n0 n3 n4 (KeepsTexts-trans n0 n2 n3 k02 c.again.ensures.kept.names) c.push-2.ensures.kept.names in
    by_numbers n0 n5 (KeepsTexts-trans n0 n4 n5 k04 c.tested-2.ensures.kept.names) c.args.repeat.now.test.by c.requires.by

pub returns-clause-made : goal.returns-clause-made
returns-clause-made c = λ source item begin bit made number begin_is bit_is are.
    let n0 = c.args.labels.now.names in
    let n1 = c.tested.new.labels.names in
    let n2 = c.push.new.labels.names in
    let n3 = c.again.new.labels.names in
    let n4 = c.push-2.new.labels.names in
    let n5 = c.tested-2.new.labels.names in
    let k01 = c.tested.ensures.kept.names in
    let k02 = KeepsTexts-trans n0 n1 n2 k01 c.push.ensures.kept.names in
    let k04 = KeepsTexts-trans n0 n3 n4 (KeepsTexts-trans n0 n2 n3 k02 c.again.ensures.kept.names) c.push-2.ensures.kept.names in
    let k05 = KeepsTexts-trans n0 n4 n5 k04 c.tested-2.ensures.kept.names in
    let k = c.args.at.number in
    let repeat = c.args.repeat.now in
    let start = reads begin in
    let by = by_group n0 repeat.test.by in
    let body = plan source item repeat.body.control.now in
    let p = Repeats bit by body in
    let parts = c.args.parts.now in
    let acts = c.push_test.new.acts in
    let ends_wire_is = ends_wire k p start in
    let begin_at = c.args.at.start in
    let port = repeat.test.port in
    let ends = c.in_ok-unless.ensures n1 (tested_guard k start) bit (c.in_ok-test.ensures.guard begin begin_is) (port_later n0 n1 k01 bit port bit_is) in
    let first = c.in_ok-push.ensures.pushed made.pieces (one_when (ends_guard k p start)) (pieces_kept n0 n1 made.pieces parts.pieces k01 are.pieces) (c.one_when-ends.ensures n1 (ends_guard k p start) ends) in
    let turn = c.in_ok-again.ensures.guard source item begin bit number (port_later n0 n2 k02 begin begin_at begin_is) (port_later n0 n2 k02 bit port bit_is) in
    let list = made.pieces ++ ends_wire_is ∷ [] in
    let second = c.in_ok-push-2.ensures.pushed list (one_when (again_guard k bit body start)) (pieces_kept n2 n3 list c.push.new.self c.again.ensures.kept.names first) (c.one_when-turn.ensures n3 (again_guard k bit body start) turn) in
    let before = acts_kept n0 n5 made.enabled made.tested parts.acts k05 are.acts in
    let guard = c.in_ok-test-2.ensures.guard begin (port_later n0 n4 k04 begin begin_at begin_is) in
    let last = pieces_kept n4 n5 _ c.push-2.new.self c.tested-2.ensures.kept.names second in
    let B : Option Actor → Type 0 = λ b. ShowsActs n5 made.enabled (λ group. made.tested group ++ tests_group b (tested_guard k start) group) acts in
    let more = λ (m : B (by_group n5 repeat.test.by)). loop_shown n5 made c.push-2.new.self acts k bit by body start last (subst B (by_kept n0 n5 k05 repeat.test.by c.requires.by) m) in
    on_ok_weaker c.push_test.result more (c.push_test.ensures.tested made.enabled made.tested (tested_guard k start) before guard)
