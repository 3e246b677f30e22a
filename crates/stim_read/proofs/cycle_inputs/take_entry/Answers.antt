use Rattle.std.proofs.Common.{◌≡◌, ◌++◌, Ok, map, sym, ap, subst, ◌∙◌}
use Rattle.std.specs.List.{list_all}
use Rattle.stim_read.specs.CycleText.{entry_seen}
use Rattle.stim_read.specs.CycleRules.{input_targets, has_known_name, given_fits}
use Rattle.stim_read.specs.CycleRun.{setting_of, setting_seen}
use Rattle.stim_read.specs.Rules.{refused}
use Rattle.stim_read.specs.inside.Walk.{Tells}
use Rattle.stim_read.proofs.FaultLemmas.{told_of, entry_unknown, entry_wide, entry_order, passes_memory, on_ok}
use Rattle.stim_read.proofs.cycle_inputs.take_entry.Goals as goal

pub returns-then-not-are_known-clause-told : goal.returns-then-not-are_known-clause-told
returns-then-not-are_known-clause-told c =
    let t = input_targets c.args.ins.now in
    let e = entry_seen c.args.entry.now in
    let same : list_all (has_known_name c.args.names.now) c.deref.result.now ≡ list_all (has_known_name t.names) e.given = λ i. list_all (has_known_name (c.requires.names i)) (c.deref.ensures.value i) in
    let unknown = sym same ∙ sym c.are_known.ensures ∙ c.if-not-are_known.true in
    told_of c.refused.result (refused 3 c.args.number) _ c.refused.ensures (entry_unknown t c.args.before c.args.number e unknown)

pub push_settings-requires-clause-known : goal.push_settings-requires-clause-known
push_settings-requires-clause-known c =
    ap (list_all (has_known_name c.args.names.now)) (c.deref-2.ensures.value ∙ sym c.deref.ensures.value) ∙ sym c.are_known.ensures ∙ c.if-not-are_known.false

pub returns-in_err-push_settings-clause-told : goal.returns-in_err-push_settings-clause-told
returns-in_err-push_settings-clause-told c = passes_memory c.from_residual.result _ c.from_residual.ensures.1

pub returns-then-not-branch-clause-told : goal.returns-then-not-branch-clause-told
returns-then-not-branch-clause-told c =
    let t = input_targets c.args.ins.now in
    let e = entry_seen c.args.entry.now in
    let same : list_all (has_known_name c.args.names.now) c.deref.result.now ≡ list_all (has_known_name t.names) e.given = λ i. list_all (has_known_name (c.requires.names i)) (c.deref.ensures.value i) in
    let known = sym same ∙ sym c.are_known.ensures ∙ c.if-not-are_known.false in
    let wide = ap (list_all (given_fits t)) (sym c.deref-2.ensures.value) ∙ sym c.in_ok-push_settings.ensures.fit ∙ c.if-not-branch.true in
    told_of c.refused-then-not-branch.result (refused 4 c.args.number) _ c.refused-then-not-branch.ensures (entry_wide t c.args.before c.args.number e known wide)

pub returns-clause-told : goal.returns-clause-told
returns-clause-told c =
    let t = input_targets c.args.ins.now in
    let e = entry_seen c.args.entry.now in
    let same : list_all (has_known_name c.args.names.now) c.deref.result.now ≡ list_all (has_known_name t.names) e.given = λ i. list_all (has_known_name (c.requires.names i)) (c.deref.ensures.value i) in
    let known = sym same ∙ sym c.are_known.ensures ∙ c.if-not-are_known.false in
    let fit = ap (list_all (given_fits t)) (sym c.deref-2.ensures.value) ∙ sym c.in_ok-push_settings.ensures.fit ∙ c.if-not-branch.false in
    subst (λ fault. Tells c.check_order.result fault) (sym (entry_order t c.args.before c.args.number e known fit)) c.check_order.ensures

pub returns-clause-pushed : goal.returns-clause-pushed
returns-clause-pushed c =
    let t = input_targets c.args.ins.now in
    on_ok c.check_order.result _
    (c.in_ok-push_settings.ensures.pushed (ap Ok c.if-not-branch.false)
    ∙ ap (λ gs. map setting_seen c.args.sets.now.items ++ map (setting_of t c.args.entry.now.from) gs) c.deref-2.ensures.value)
