use Rattle.std.proofs.Common.{◌≡◌, List, All, Contains, Option, Some, map, slice_get, sym, subst}
use Rattle.std.specs.Option.{IfSome}
use Rattle.std.proofs.lemmas.List.Elements.{All-weaker}
use Rattle.hw_names.proofs.NameLemmas.{Contains-slice_get}
use Rattle.hw_names.specs.Name.{KeepsTexts, Text}
use Rattle.fil_ast.specs.Signature.{SigEvent}
use Rattle.fil_fsm.proofs.FreshLemmas.{KeepsTexts-trans}
use Rattle.fil_sig.specs.Seen.{seen_event}
use Rattle.fil_share.proofs.Lookup.{at_mapped}
use Rattle.fil_lower.specs.inside.Parts.{IsNamedEvent}
use Rattle.fil_lower.proofs.PortNameLemmas.{still_named}
use Rattle.fil_lower.proofs.StepLemmas.{All-next, whole_taken}
use Rattle.fil_lower.proofs.names.add_interfaces.Goals.{in-Some+in_ok-_number, in_default}
use Rattle.fil_lower.proofs.names.add_interfaces.Goals as goal

pub returns-in_err-_number-clause-kept : goal.returns-in_err-_number-clause-kept
returns-in_err-_number-clause-kept c = KeepsTexts-trans c.args.names.now c.loop-event.names c.intern.new.names c.loop-event.invariant.kept c.intern.ensures.kept

pub loop-event-preserved : goal.loop-event-preserved
loop-event-preserved c =
    let before = c.loop-event.names in
    let events = c.args.sig.now.events.items in
    let i = c.loop-event.event-index in
    let e = seen_event c.event-item.result in
    let at : slice_get (map seen_event events) i ≡ Some e = at_mapped seen_event events c.deref-event-items.result.now i c.event-item.result c.deref-event-items.ensures.value c.loop-event-test.true c.event-item.is in
    elim c.match-event.branch [
      | in-Some+in_ok-_number w ↦
          let after = w.intern.new.names in
          let keeps : KeepsTexts before after = w.intern.ensures.kept in
          let C : Text → Type 0 = Contains after in
          let N : Option Text → Type 0 = λ go. IfSome go (Contains after) in
          let go_in = subst C w.bytes.ensures (Contains-slice_get after _ _ w.in_ok-_number.ensures.text) in
          rw w.names-is (record {
            kept = KeepsTexts-trans c.args.names.now before after c.loop-event.invariant.kept keeps;
            named = All-next (IsNamedEvent after) (map seen_event events) i e at (All-weaker (IsNamedEvent before) (IsNamedEvent after) (still_named before after keeps) _ c.loop-event.invariant.named)
                (subst N (sym w.in-Some.is) go_in);
          })
      | in_default w ↦
          let N : Option Text → Type 0 = λ go. IfSome go (Contains before) in
          rw w.names-is (record {
            kept = c.loop-event.invariant.kept;
            named = All-next (IsNamedEvent before) (map seen_event events) i e at c.loop-event.invariant.named (subst N (sym w.in_default.is) tt);
          })
    ]

pub returns-clause-named : goal.returns-clause-named
returns-clause-named c =
    let A : List SigEvent → Type 0 = All (IsNamedEvent c.loop-event.names) in
    subst A (whole_taken seen_event c.args.sig.now.events.items c.deref-event-items.result.now c.loop-event.event-index c.deref-event-items.ensures.value c.loop-event-test.false) c.loop-event.invariant.named
