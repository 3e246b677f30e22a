use Rattle.std.proofs.Common.{IfOk, [], ◌∷◌, ◌++◌, subst}
use Rattle.net_core.specs.Guard.{GuardTree}
use Rattle.cal_ast.specs.Tree.{PortName}
use Rattle.cal_lower.specs.inside.Making.{by_group, off_plan, on_plan}
use Rattle.cal_lower.specs.inside.Parts.{chooses_nothing, none_if_over, part_ends}
use Rattle.cal_lower.specs.inside.Pieces.{reads}
use Rattle.cal_lower.specs.inside.Shown.{ShowsGuard}
use Rattle.cal_lower.proofs.GatherLemmas.{choice_guard}
use Rattle.cal_lower.proofs.ends.choice_ends.Goals as goal

pub returns-clause-guard : goal.returns-clause-guard
returns-clause-guard c = λ source item other k begin tested is begin_is tested_is.
    let names = c.args.labels.now.names in
    let new = c.push_part_ends-2.new.labels.names in
    let choice = c.args.choice.now in
    let on = on_plan source item choice in
    let off = off_plan source other choice in
    let on_over = c.is_over-on_over.result in
    let off_over = c.is_over-off_over.result in
    let none = chooses_nothing (reads begin) tested on_over off_over in
    let first = none ++ none_if_over on (part_ends choice.on.number ∷ []) in
    let second = first ++ none_if_over off (part_ends choice.off.number ∷ []) in
    let first_is = c.in_ok-push_part_ends.ensures.pushed source item none (c.in_ok-guards.ensures names begin tested begin_is tested_is) in
    let second_is = c.in_ok-push_part_ends-2.ensures.pushed source other first first_is in
    let G : GuardTree PortName → Type 0 = λ t. IfOk c.any_of.result (ShowsGuard new t) in
    subst G
    (choice_guard k tested (by_group names choice.test.by) on off (reads begin) on_over off_over choice.on.number choice.off.number (c.is_over-on_over.ensures source item) (c.is_over-off_over.ensures source other) is.on is.off)
    (c.any_of.ensures new second second_is)
