use Rattle.std.proofs.Common.{rules, ℕ, subst, ◌≡◌, ◌+◌, ◌<◌, [], ◌∷◌, ◌++◌, ◌∙◌, decimal, length, slice_range, get_or, sym, ap, arith}
use Rattle.std.proofs.lemmas.Result.{on_ok_weaker, on_err_weaker}
use Rattle.hw_io.specs.Writing.{AppendsPrefix, Passes}
use Rattle.hw_names.specs.Name.{Text}
use Rattle.filc_report.specs.Views.{line_at, ports_seen}
use Rattle.filc_report.proofs.LineLemmas.{line_begins, line_ends, line_breaks}
use Rattle.filc_report.proofs.RowLemmas.{rest_of_line, next_of_line, end_of_line, line_from, range_at, range_length}
use Rattle.filc_stop.proofs.SinkLemmas.{PassedUpTo, passed_up_to_more, passed_up_to_prefix}
use Rattle.filc_report.proofs.report.push_row.Goals as goal

pub loop-at-init : goal.loop-at-init
loop-at-init g c =
    let told = g.O.Sink.written c.args.out.now in
    let v = c.args.view.now in
    let names = ports_seen c.args.table.now.names v in let values = slice_range c.args.sim.now.values v.ports.start v.ports.end in
    let all = line_at c.args.cycle c.args.table.now.names c.args.sim.now.values v in
    let first : c.put_number.new.self ≡ decimal c.args.cycle = c.put_number.ensures.put ∙ ap (λ (line : Text). line ++ decimal c.args.cycle) c.clear.ensures in
    record {
      passed = subst (λ (line : Text). PassedUpTo told c.args.held.now told (c.args.held.now ++ line) (rest_of_line names values v.shown.items 0) all) (sym first)
          (line_begins told c.args.held.now (decimal c.args.cycle) (rest_of_line names values v.shown.items 0) all (line_from c.args.cycle names values v.shown.items));
      room = omega (arith, c.put_number.ensures.few, ap length c.clear.ensures);
      never_falls = omega arith;
    }

pub returns-in_err-pass_port-clause-prefix : goal.returns-in_err-pass_port-clause-prefix
returns-in_err-pass_port-clause-prefix g c =
    let told = g.O.Sink.written in
    let v = c.args.view.now in let at = c.loop-at.at in
    let names = ports_seen c.args.table.now.names v in let values = slice_range c.args.sim.now.values v.ports.start v.ports.end in
    let within : v.ports.start + at < v.ports.end = omega (arith, c.requires.marks, c.loop-at-test.true, c.len-at-end.ensures) in
    let value_is : c.value-in-loop-at.result ≡ get_or values at c.value-in-loop-at.result =
    subst (λ (x : ℕ). x ≡ get_or values at x) (sym c.value-in-loop-at.ensures) (range_at c.args.sim.now.values v.ports.start v.ports.end at c.value.result.value within c.value.ensures.value) in
    let parts = next_of_line names values v.shown.items at c.name_of-name.result.now c.value-in-loop-at.result c.index.result.now
    (omega (arith, within, range_length c.args.table.now.names v.ports.start v.ports.end c.requires.named)) (omega (arith, within, range_length c.args.sim.now.values v.ports.start v.ports.end c.requires.evaluated)) (omega (arith, c.loop-at-test.true, c.len-at-end.ensures))
    (range_at c.args.table.now.names v.ports.start v.ports.end at c.name_of-name.result.now within c.name_of-name.ensures) value_is c.index.ensures in
    let prefix = passed_up_to_prefix (told c.args.out.now) (told c.loop-at.out) (told c.pass_port.new.out) c.args.held.now (c.loop-at.held ++ c.loop-at.line) _ _ _ _ parts c.loop-at.invariant.passed c.in_err-pass_port.ensures.prefix in
    search (rules, prefix)

pub loop-at-preserved : goal.loop-at-preserved
loop-at-preserved g c =
    let told = g.O.Sink.written in
    let v = c.args.view.now in let at = c.loop-at.at in
    let names = ports_seen c.args.table.now.names v in let values = slice_range c.args.sim.now.values v.ports.start v.ports.end in
    let within : v.ports.start + at < v.ports.end = omega (arith, c.requires.marks, c.loop-at-test.true, c.len-at-end.ensures) in
    let value_is : c.value-in-loop-at.result ≡ get_or values at c.value-in-loop-at.result =
    subst (λ (x : ℕ). x ≡ get_or values at x) (sym c.value-in-loop-at.ensures) (range_at c.args.sim.now.values v.ports.start v.ports.end at c.value.result.value within c.value.ensures.value) in
    let parts = next_of_line names values v.shown.items at c.name_of-name.result.now c.value-in-loop-at.result c.index.result.now
    (omega (arith, within, range_length c.args.table.now.names v.ports.start v.ports.end c.requires.named)) (omega (arith, within, range_length c.args.sim.now.values v.ports.start v.ports.end c.requires.evaluated)) (omega (arith, c.loop-at-test.true, c.len-at-end.ensures))
    (range_at c.args.table.now.names v.ports.start v.ports.end at c.name_of-name.result.now within c.name_of-name.ensures) value_is c.index.ensures in
    record {
      passed = passed_up_to_more (told c.args.out.now) (told c.loop-at.out) (told c.pass_port.new.out) c.args.held.now (c.loop-at.held ++ c.loop-at.line) (c.pass_port.new.held ++ c.pass_port.new.line) _ _ _ _ parts c.loop-at.invariant.passed c.in_ok-pass_port.ensures.passed;
      room = c.in_ok-pass_port.ensures.room;
      never_falls = omega (arith, c.in_ok-pass_port.ensures.never_falls);
    }

pub returns-clause-passed : goal.returns-clause-passed
returns-clause-passed g c =
    let told = g.O.Sink.written in
    let v = c.args.view.now in
    let all = line_at c.args.cycle c.args.table.now.names c.args.sim.now.values v in
    let last = end_of_line (ports_seen c.args.table.now.names v) (slice_range c.args.sim.now.values v.ports.start v.ports.end) v.shown.items c.loop-at.at (omega arith) in
    let so_far = subst (λ (rest : Text). PassedUpTo (told c.args.out.now) c.args.held.now (told c.loop-at.out) (c.loop-at.held ++ c.loop-at.line) rest all) last c.loop-at.invariant.passed in
    on_ok_weaker c.push.result
    (λ passed. line_ends (told c.args.out.now) (told c.loop-at.out) (told c.push.new.sink) c.args.held.now c.loop-at.held c.loop-at.line c.push.new.self (10 ∷ []) all so_far
    (subst (λ (text : Text). Passes (told c.loop-at.out) c.loop-at.held (told c.push.new.sink) c.push.new.self text) (c.bytes.ensures ∙ c.put_byte.ensures) passed))
    c.push.ensures.passed

pub returns-clause-prefix : goal.returns-clause-prefix
returns-clause-prefix g c =
    let told = g.O.Sink.written in
    let v = c.args.view.now in
    let all = line_at c.args.cycle c.args.table.now.names c.args.sim.now.values v in
    let last = end_of_line (ports_seen c.args.table.now.names v) (slice_range c.args.sim.now.values v.ports.start v.ports.end) v.shown.items c.loop-at.at (omega arith) in
    let so_far = subst (λ (rest : Text). PassedUpTo (told c.args.out.now) c.args.held.now (told c.loop-at.out) (c.loop-at.held ++ c.loop-at.line) rest all) last c.loop-at.invariant.passed in
    on_err_weaker c.push.result
    (λ prefix. line_breaks (told c.args.out.now) (told c.loop-at.out) (told c.push.new.sink) c.args.held.now c.loop-at.held c.loop-at.line (10 ∷ []) all so_far
    (subst (λ (text : Text). AppendsPrefix (told c.loop-at.out) (told c.push.new.sink) (c.loop-at.held ++ text)) (c.bytes.ensures ∙ c.put_byte.ensures) prefix))
    c.push.ensures.prefix
