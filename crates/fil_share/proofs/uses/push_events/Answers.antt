use Rattle.std.proofs.Common.{◌≡◌, ◌+◌, ◌<◌, ◌++◌, List, All, length, map, get_or, option_map, refl, sym, ap, subst, ◌∙◌, arith}
use Rattle.std.proofs.lemmas.List.{get_or-map, length-map}
use Rattle.std.proofs.lemmas.List.Elements.{All-push}
use Rattle.hw_names.specs.Name.{text_of}
use Rattle.fil_ast.specs.Holds.{uses_from}
use Rattle.fil_ast.specs.Timeline.{use_of}
use Rattle.fil_ast.specs.Tree.{time_tree}
use Rattle.fil_sig.specs.Seen.{seen_event}
use Rattle.fil_share.specs.Uses.{IsGoodUse, held, shown_use}
use Rattle.fil_share.specs.declared.uses.Use.{Use}
use Rattle.fil_share.proofs.UseLemmas.{use_pushed, use_skipped}
use Rattle.fil_share.proofs.uses.push_events.Goals.{in-Some+in_ok-push, in_default}
use Rattle.fil_share.proofs.uses.push_events.Goals as goal

pub returns-in_err-push-clause-good : goal.returns-in_err-push-clause-good
returns-in_err-push-clause-good c names call inst numbers good =
    let G : List Use → Type 0 = All (IsGoodUse names) in
    subst G (sym c.in_err-push.ensures.items) (c.loop-event.invariant.good names call inst numbers good)

pub loop-event-preserved : goal.loop-event-preserved
loop-event-preserved c =
    let at = c.args.at.now in
    let events = c.args.events.now in
    let i = c.loop-event.event-index in
    let x = c.event-item.result in
    let e = seen_event x in
    let within : i < length events = c.loop-event-test.true in
    let inside : i < length (map seen_event events) = omega (arith, length-map events seen_event) in
    let is : get_or (map seen_event events) i e ≡ e = get_or-map seen_event events i x e within ∙ ap seen_event (sym c.event-item.is) in
    let count = c.loop-event.invariant.counted in
    elim c.match-use_of.branch [
      | in-Some+in_ok-push w ↦
          rw (w.uses-is, w.in_ok-push.ensures.items) (record {
            counted = ap (λ k. k + 1) count;
            shown = λ names.
                use_pushed names (text_of names c.args.call) (text_of names c.args.inst) (map (time_tree names) at) (map seen_event events) i e inside is c.loop-event.uses.items w.in-Some.used
                (map (shown_use names) c.args.uses.now.items ++ map (held (text_of names c.args.call)) (uses_from 0 (map seen_event events) (text_of names c.args.inst) (map (time_tree names) at)))
                (w.in-Some.ensures.meaning names e refl
                ∙ ap (λ k. option_map (held (text_of names c.args.call)) (use_of k e (text_of names c.args.inst) (map (time_tree names) at))) count)
                (c.loop-event.invariant.shown names);
            good = λ names call inst numbers good.
                All-push (IsGoodUse names) c.loop-event.uses.items w.in-Some.used (c.loop-event.invariant.good names call inst numbers good) (w.in-Some.ensures.good names call inst numbers);
          })
      | in_default w ↦
          rw w.uses-is (record {
            counted = ap (λ k. k + 1) count;
            shown = λ names.
                use_skipped names (text_of names c.args.call) (text_of names c.args.inst) (map (time_tree names) at) (map seen_event events) i e inside is c.loop-event.uses.items
                (map (shown_use names) c.args.uses.now.items ++ map (held (text_of names c.args.call)) (uses_from 0 (map seen_event events) (text_of names c.args.inst) (map (time_tree names) at)))
                (w.in_default.ensures.meaning names e refl
                ∙ ap (λ k. option_map (held (text_of names c.args.call)) (use_of k e (text_of names c.args.inst) (map (time_tree names) at))) count)
                (c.loop-event.invariant.shown names);
            good = c.loop-event.invariant.good;
          })
    ]
