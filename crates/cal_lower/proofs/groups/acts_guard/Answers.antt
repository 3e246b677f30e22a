use Rattle.std.proofs.Common.{List, IfOk, sym, subst}
use Rattle.net_core.specs.Guard.{GuardTree}
use Rattle.net_core.specs.declared.net.Guard.{Guard}
use Rattle.hw_names.specs.Name.{text_of}
use Rattle.cal_ast.specs.Numbers.{GuardHasNumbers}
use Rattle.cal_ast.specs.Tree.{PortName}
use Rattle.cal_ast.specs.declared.tree.CalPort.{CalPort}
use Rattle.cal_lower.specs.inside.Making.{plan_made}
use Rattle.cal_lower.specs.inside.Pieces.{any_of, done_name, shown}
use Rattle.cal_lower.specs.inside.Shown.{ShowsGuard, ShowsGuards, seen_guard}
use Rattle.cal_lower.proofs.CopiedLemmas.{copies_shown}
use Rattle.cal_lower.proofs.GrownLemmas.{shows_kept}
use Rattle.cal_lower.proofs.GroupPieceLemmas.{acts_in_tests, acts_unless_done, group_known, group_number}
use Rattle.cal_lower.proofs.groups.acts_guard.Goals as goal

pub wanted-wanted-requires-clause-group : goal.wanted-wanted-requires-clause-group
wanted-wanted-requires-clause-group c =
    let (source, plan, can) = c.requires.group in
    group_known source c.args.labels.now.names plan c.args.acts.now c.args.group.now can c.text.result.now c.text.ensures

pub returns-then-group-clause-guard : goal.returns-then-group-clause-guard
returns-then-group-clause-guard c = λ source plan can.
    let names = c.args.labels.now.names in
    let acts = c.args.acts.now in
    let group = c.args.group.now in
    let text = c.text.result.now in
    let trees = (plan_made plan).tested text in
    let wanted = c.wanted-wanted.ensures names (plan_made plan).enabled (plan_made plan).tested can.shown in
    let P : List (Guard CalPort) → Type 0 = ShowsGuards names trees in
    let source_shown = subst P (sym c.deref.ensures.value) wanted.tested in
    let copied = copies_shown GuardHasNumbers seen_guard names trees c.deref.result.now c.in_ok-copy_guards.field-0.items c.in_ok-copy_guards.ensures source_shown in
    let G : GuardTree PortName → Type 0 = λ t. IfOk c.any_of.result (ShowsGuard names t) in
    subst G (acts_in_tests source names plan acts group can text c.text.ensures c.if-group.true) (c.any_of.ensures names trees copied)

pub port-requires-clause-number : goal.port-requires-clause-number
port-requires-clause-number c =
    let (source, plan, can) = c.requires.group in
    group_number source c.args.labels.now.names plan c.args.acts.now c.args.group.now can

pub returns-clause-guard : goal.returns-clause-guard
returns-clause-guard c = λ source plan can.
    let old = c.args.labels.now.names in
    let names = c.port.new.self.names in
    let acts = c.args.acts.now in
    let group = c.args.group.now in
    let text = c.text.result.now in
    let trees = (plan_made plan).enabled text in
    let wanted = c.wanted-wanted.ensures old (plan_made plan).enabled (plan_made plan).tested can.shown in
    let P : List (Guard CalPort) → Type 0 = ShowsGuards old trees in
    let source_shown = subst P (sym c.deref-2.ensures.value) wanted.enabled in
    let copied = copies_shown GuardHasNumbers seen_guard old trees c.deref-2.result.now c.in_ok-copy_guards-2.field-0.items c.in_ok-copy_guards-2.ensures source_shown in
    let enabled = shows_kept GuardHasNumbers seen_guard old names (any_of trees) c.in_ok-enabled.enabled c.port.ensures.kept.names (c.in_ok-enabled.ensures old trees copied) in
    let G : GuardTree PortName → Type 0 = λ t. IfOk c.unless.result (ShowsGuard names t) in
    subst G (acts_unless_done source old plan acts group can text c.text.ensures c.if-group.false)
    (c.unless.ensures names (any_of trees) (shown (done_name (text_of old group.name))) enabled c.in_ok-done.ensures.port)
