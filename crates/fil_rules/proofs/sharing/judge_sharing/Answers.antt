use Rattle.std.proofs.Common.{refl, sym, subst}
use Rattle.fil_ast.specs.Signature.{Signature}
use Rattle.fil_sig.specs.Seen.{seen}
use Rattle.fil_rules.specs.inside.Shared.{IsInvoked, TellsSharing, Meets, Overruns, Unmarked}
use Rattle.fil_place.specs.Tables.{calls_at}
use Rattle.fil_place.proofs.GeneralLemmas.{clash}
use Rattle.fil_rules.proofs.SharingLemmas.{meeting_breaks}
use Rattle.fil_rules.proofs.SpanLemmas.{gap_breaks}
use Rattle.fil_rules.proofs.sharing.judge_sharing.Goals as goal

pub returns-in-Some-clause-broken : goal.returns-in-Some-clause-broken
returns-in-Some-clause-broken c with v is lists =
    let names = c.args.place.now.names.now in
    let comp = c.args.place.now.comp.now in
    let tables = c.args.place.now.tables.now in
    let calls = calls_at c.args.place.now.tables.now c.args.instance in
    let at = c.args.at.now in
    let sig = seen c.sig-sig.result.now in
    let as_seen = subst (λ (s : Signature). IsInvoked names comp tables calls s at with v) (sym c.sig-sig.ensures.same) is in
    let told = c.in-Some.ensures names comp with v as_seen lists in
    Meets (meeting_breaks names comp tables calls sig at with v as_seen c.in-Some.cycle told) c.in-Some.cycle told refl refl

pub returns-in-Some-first_gap-clause-broken : goal.returns-in-Some-first_gap-clause-broken
returns-in-Some-first_gap-clause-broken c with v is lists =
    let names = c.args.place.now.names.now in
    let comp = c.args.place.now.comp.now in
    let tables = c.args.place.now.tables.now in
    let calls = calls_at c.args.place.now.tables.now c.args.instance in
    let at = c.args.at.now in
    let sig = seen c.sig-sig.result.now in
    let as_seen = subst (λ (s : Signature). IsInvoked names comp tables calls s at with v) (sym c.sig-sig.ensures.same) is in
    let kept = c.in_default.ensures names comp with v as_seen lists in
    let meet = c.in-Some-first_gap.meet in
    let told = c.in-Some-first_gap.ensures with v as_seen lists kept in
    Overruns kept (gap_breaks names comp tables calls sig at with v as_seen c.sig-sig.ensures.times kept meet.gap meet.cycle told) meet.gap meet.cycle told refl refl

pub returns-then-not-triggers_with_interface-clause-broken :
    goal.returns-then-not-triggers_with_interface-clause-broken
returns-then-not-triggers_with_interface-clause-broken c with v is lists =
    let names = c.args.place.now.names.now in
    let comp = c.args.place.now.comp.now in
    let as_seen = subst (λ (s : Signature). IsInvoked names comp c.args.place.now.tables.now (calls_at c.args.place.now.tables.now c.args.instance) s c.args.at.now with v) (sym c.sig-sig.ensures.same) is in
    let kept = c.in_default.ensures names comp with v as_seen lists in
    let ends = c.in_default-first_gap.ensures with v as_seen lists kept in
    subst (TellsSharing with v) (sym c.breaks.ensures)
    (Unmarked kept ends (λ triggers. clash c.triggers_with_interface.result ((c.triggers_with_interface.ensures with v as_seen lists kept).1 triggers) c.if-not-triggers_with_interface.true) refl refl)

pub returns-clause-kept : goal.returns-clause-kept
returns-clause-kept c with v is lists =
    let names = c.args.place.now.names.now in
    let comp = c.args.place.now.comp.now in
    let as_seen = subst (λ (s : Signature). IsInvoked names comp c.args.place.now.tables.now (calls_at c.args.place.now.tables.now c.args.instance) s c.args.at.now with v) (sym c.sig-sig.ensures.same) is in
    let kept = c.in_default.ensures names comp with v as_seen lists in
    record {
      apart = kept;
      in_time = c.in_default-first_gap.ensures with v as_seen lists kept;
      triggers = (c.triggers_with_interface.ensures with v as_seen lists kept).0 c.if-not-triggers_with_interface.false;
    }
