use Rattle.std.proofs.Common.{◌+◌, List, [], drop, refl, sym, subst}
use Rattle.std.proofs.lemmas.List.{drop_all}
use Rattle.net_core.specs.declared.net.Guard.{Guard}
use Rattle.cal_ast.specs.Numbers.{GuardHasNumbers}
use Rattle.cal_ast.specs.declared.tree.CalPort.{CalPort}
use Rattle.cal_lower.specs.inside.Parts.{ended_guards}
use Rattle.cal_lower.specs.inside.Shown.{ShowsGuards, seen_guard}
use Rattle.cal_lower.proofs.EndLemmas.{ended_end, ended_next, ended_start}
use Rattle.cal_lower.proofs.NextLemmas.{at_index, drop_next}
use Rattle.cal_lower.proofs.GrownLemmas.{labels_refl, labels_texts, labels_trans, show_none}
use Rattle.cal_lower.proofs.SizeLemmas.{plans}
use Rattle.cal_lower.proofs.ends.all_ended.Goals as goal

pub loop-control-init : goal.loop-control-init
loop-control-init c =
    let labels = c.args.labels.now in
    record {
      kept = labels_refl labels;
      texts = c.requires;
      guards = λ source item.
          let P : List (Guard CalPort) → Type 0 = ShowsGuards labels.names [] in
          let none = subst P (sym c.new-guards.ensures.items) (show_none GuardHasNumbers seen_guard labels.names) in
          ended_start source labels.names c.new-guards.result.items item c.args.number c.args.statements.now (drop 0 c.args.statements.now) refl none;
    }

pub loop-control-preserved : goal.loop-control-preserved
loop-control-preserved c =
    let before = c.loop-control.labels in
    let after = c.push_has_ended.new.labels in
    let ss = c.args.statements.now in
    let i = c.loop-control.control-index in
    let s = c.control-item.result in
    let next = drop_next ss i s (at_index ss i s c.loop-control-test.true c.control-item.is) in
    let inv = c.loop-control.invariant in
    let kept = c.push_has_ended.ensures.kept in
    record {
      kept = labels_trans c.args.labels.now before after inv.kept kept;
      texts = labels_texts before after kept inv.texts;
      guards = λ source item.
          ended_next source (ended_guards c.args.number (plans source item ss)) before.names after.names c.loop-control.guards.items c.push_has_ended.new.guards.items c.loop-control.number c.in_ok-number.number
          (drop i ss) (drop (i + 1) ss) s next (λ at. c.in_ok-number.ensures source at) (λ trees at shown. c.in_ok-push_has_ended.ensures.pushed source at trees shown) (inv.guards source item);
    }

pub returns-clause-guards : goal.returns-clause-guards
returns-clause-guards c = λ source item.
    let ss = c.args.statements.now in
    let i = c.loop-control.control-index in
    ended_end source (ended_guards c.args.number (plans source item ss)) c.loop-control.labels.names c.loop-control.guards.items c.loop-control.number (drop i ss) (drop_all i ss c.loop-control-test.false)
    (c.loop-control.invariant.guards source item)
