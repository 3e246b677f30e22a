use Rattle.std.proofs.Common.{◌<◌, ◌≤◌, ◌+◌, ◌++◌, length, drop, map, sym, ap, ◌∙◌, arith}
use Rattle.stim_read.specs.CycleRules.{has_known_name, given_fits, input_targets}
use Rattle.stim_read.specs.CycleRun.{setting_of, setting_seen}
use Rattle.stim_read.proofs.WalkLemmas.{all_here, all_goes, all_stops, all_ends, mapped, mapped_ends}
use Rattle.stim_read.proofs.cycle_inputs.push_settings.Goals as goal

pub setting-requires-clause-known : goal.setting-requires-clause-known
setting-requires-clause-known c =
    let within : c.loop-g.g-index < length c.args.given.now = omega arith in
    (all_here (has_known_name c.args.names.now) c.args.given.now c.loop-g.g-index c.g-item.result within c.g-item.is c.loop-g.invariant.known).0

pub returns-in_default-clause-fit : goal.returns-in_default-clause-fit
returns-in_default-clause-fit c =
    let within : c.loop-g.g-index < length c.args.given.now = omega arith in
    sym (all_stops (given_fits (input_targets c.args.ins.now)) c.args.given.now c.loop-g.g-index c.g-item.result within c.g-item.is c.in_default.ensures) ∙ c.loop-g.invariant.fit

pub loop-g-preserved : goal.loop-g-preserved
loop-g-preserved c =
    let given = c.args.given.now in
    let i = c.loop-g.g-index in
    let x = c.g-item.result in
    let t = input_targets c.args.ins.now in
    let f = setting_of t c.args.from in
    let within : i < length given = omega arith in
    record {
      known = (all_here (has_known_name c.args.names.now) given i x within c.g-item.is c.loop-g.invariant.known).1;
      fit = sym (all_goes (given_fits t) given i x within c.g-item.is c.in-Some.ensures.0) ∙ c.loop-g.invariant.fit;
      pushed = ap (λ ys. map setting_seen ys ++ map f (drop (i + 1) given)) c.in_ok-push.ensures.items
          ∙ sym (mapped f setting_seen c.loop-g.sets.items given i x c.in-Some.set within c.g-item.is c.in-Some.ensures.1) ∙ c.loop-g.invariant.pushed;
    }

pub returns-clause-fit : goal.returns-clause-fit
returns-clause-fit c =
    let past : length c.args.given.now ≤ c.loop-g.g-index = omega arith in
    sym (all_ends (given_fits (input_targets c.args.ins.now)) c.args.given.now c.loop-g.g-index past) ∙ c.loop-g.invariant.fit

pub returns-clause-pushed : goal.returns-clause-pushed
returns-clause-pushed c all =
    let past : length c.args.given.now ≤ c.loop-g.g-index = omega arith in
    sym (mapped_ends (setting_of (input_targets c.args.ins.now) c.args.from) (map setting_seen c.loop-g.sets.items) c.args.given.now c.loop-g.g-index past) ∙ c.loop-g.invariant.pushed
