use Rattle.std.proofs.Common.{rules, [], arith, ap, subst, ◌∙◌}
use Rattle.std.specs.Io.KnownBytes.{Appends}
use Rattle.hw_io.specs.Writing.{AppendsPrefix}
use Rattle.hw_names.specs.Name.{Text}
use Rattle.fil_ast.specs.Tree.{design_of}
use Rattle.fil_share.specs.declared.hold.Hold.{Hold}
use Rattle.filc_report.proofs.HoldLemmas.{lines_of, next_line, end_of_lines, all_events, lines_are}
use Rattle.filc_report.proofs.PassingLemmas.{passed_up_to_written, passed_up_to_unwritten}
use Rattle.filc_stop.proofs.SinkLemmas.{passed_up_to_more, passed_up_to_prefix}
use Rattle.filc_load.proofs.TopLemmas.{has_top}
use Rattle.filc_report.proofs.holds.write_holds.Goals as goal

no_hold : Hold
no_hold = record { inst = record { 0 = 0 }; event = 0; from = 0; to = 0; call = record { 0 = 0 }; tx = 0 }

pub holds-requires-clause-events : goal.holds-requires-clause-events
holds-requires-clause-events g c = all_events c.args.built.now.design c.new.result c.args.built.now.top c.args.txs.now c.new.ensures c.requires.fits

pub holds-requires-clause-rows : goal.holds-requires-clause-rows
holds-requires-clause-rows g c k tx within =
    let top = has_top (design_of c.args.built.now.design) c.args.built.now.top c.requires.ready.top in
    (c.requires.fits top.0 top.1.at k tx within).start

pub returns-in_err-push_hold-clause-part : goal.returns-in_err-push_hold-clause-part
unfolding no_hold
returns-in_err-push_hold-clause-part g c other at =
    let told = g.O.Sink.written in
    let b = c.args.built.now in
    let items = c.deref-hold-items.result.now in
    let i = c.loop-hold.hold-index in
    let step = next_line b.design.names items i no_hold c.loop-hold-test.true in
    let part = passed_up_to_prefix (told c.args.out.now) (told c.loop-hold.out) (told c.push_hold.new.out) [] c.loop-hold.held _ _ _ (lines_of b.design.names items) step c.loop-hold.invariant.passed c.in_err-push_hold.ensures.prefix in
    let all = ap (lines_of b.design.names) c.deref-hold-items.ensures.value ∙ lines_are b.design c.new.result b.top other c.args.txs.now c.in_ok-found.found.items c.new.ensures at (c.requires.fits other at) c.in_ok-found.ensures.shown in
    let prefix = subst (λ (text : Text). AppendsPrefix (told c.args.out.now) (told c.push_hold.new.out) text) all part in
    search (rules, prefix)

pub loop-hold-preserved : goal.loop-hold-preserved
unfolding no_hold
loop-hold-preserved g c =
    let told = g.O.Sink.written in
    let names = c.args.built.now.design.names in
    let items = c.deref-hold-items.result.now in
    let i = c.loop-hold.hold-index in
    let step = next_line names items i no_hold c.loop-hold-test.true in
    record {
      passed = passed_up_to_more (told c.args.out.now) (told c.loop-hold.out) (told c.push_hold.new.out) [] c.loop-hold.held c.push_hold.new.held _ _ _ (lines_of names items) step c.loop-hold.invariant.passed c.in_ok-push_hold.ensures.passed;
      never_falls = omega (arith, c.loop-hold.invariant.never_falls, c.in_ok-push_hold.ensures.never_falls);
    }

pub returns-in_err-flush-clause-part : goal.returns-in_err-flush-clause-part
returns-in_err-flush-clause-part g c other at =
    let told = g.O.Sink.written in
    let b = c.args.built.now in
    let items = c.deref-hold-items.result.now in
    let last = end_of_lines b.design.names items c.loop-hold.hold-index c.loop-hold-test.false in
    let part = passed_up_to_unwritten (told c.args.out.now) (told c.loop-hold.out) (told c.flush.new.sink) c.loop-hold.held _ _ last c.loop-hold.invariant.passed c.in_err-flush.ensures.prefix in
    let all = ap (lines_of b.design.names) c.deref-hold-items.ensures.value ∙ lines_are b.design c.new.result b.top other c.args.txs.now c.in_ok-found.found.items c.new.ensures at (c.requires.fits other at) c.in_ok-found.ensures.shown in
    let prefix = subst (λ (text : Text). AppendsPrefix (told c.args.out.now) (told c.flush.new.sink) text) all part in
    search (rules, prefix)

pub returns-clause-written : goal.returns-clause-written
returns-clause-written g c other at =
    let told = g.O.Sink.written in
    let b = c.args.built.now in
    let items = c.deref-hold-items.result.now in
    let last = end_of_lines b.design.names items c.loop-hold.hold-index c.loop-hold-test.false in
    let whole = passed_up_to_written (told c.args.out.now) (told c.loop-hold.out) (told c.flush.new.sink) c.loop-hold.held _ _ last c.loop-hold.invariant.passed c.in_ok-flush.ensures.appended in
    let all = ap (lines_of b.design.names) c.deref-hold-items.ensures.value ∙ lines_are b.design c.new.result b.top other c.args.txs.now c.in_ok-found.found.items c.new.ensures at (c.requires.fits other at) c.in_ok-found.ensures.shown in
    subst (λ (text : Text). Appends (told c.args.out.now) (told c.flush.new.sink) text) all whole
