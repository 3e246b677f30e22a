use Rattle.std.proofs.Common.{◌<◌, ◌≤◌, ◌+◌, ◌++◌, Some, length, drop, map, flat_map, append_assoc, refl, sym, ap, ◌∙◌, arith}
use Rattle.std.proofs.lemmas.List.{drop_all}
use Rattle.stim_read.specs.CycleText.{entry_seen}
use Rattle.stim_read.specs.CycleRules.{input_targets}
use Rattle.stim_read.specs.CycleRun.{settings_of, setting_seen}
use Rattle.stim_read.specs.inside.CycleWalk.{input_fault, inputs_fault}
use Rattle.stim_read.specs.inside.Walk.{first_fault}
use Rattle.stim_read.proofs.FaultLemmas.{passes, told_first, told_by, inputs_cut}
use Rattle.stim_read.proofs.WalkLemmas.{flat_cut, flat_ends}
use Rattle.stim_read.proofs.cycle_inputs.settings.Goals as goal

pub loop-number-init : goal.loop-number-init
loop-number-init c = record { fault = refl; settings = rw c.new-sets.ensures.items refl }

pub returns-in_err-take_entry-clause-told : goal.returns-in_err-take_entry-clause-told
returns-in_err-take_entry-clause-told c =
    let e = c.in_err-take_entry.field-0.0 in
    let t = input_targets c.args.ins.now in
    let xs = c.args.entries.now in
    let n = c.loop-number.number in
    let x = c.index-entries-number.result in
    let within : n < length xs = omega arith in
    let cut = inputs_cut t c.loop-number.before n xs n x within c.index-entries-number.is in
    passes c.from_residual-in_err-take_entry.result e _ c.from_residual-in_err-take_entry.ensures.1
    (told_by e _ _ (sym cut ∙ c.loop-number.invariant.fault) (told_first e (input_fault t c.loop-number.before n (entry_seen x)) _ c.in_err-take_entry.ensures.told))

pub loop-number-preserved : goal.loop-number-preserved
loop-number-preserved c =
    let t = input_targets c.args.ins.now in
    let xs = c.args.entries.now in
    let n = c.loop-number.number in
    let x = c.index-entries-number.result in
    let within : n < length xs = omega arith in
    let rest = flat_map (settings_of t) (map entry_seen (drop (n + 1) xs)) in
    let cut = inputs_cut t c.loop-number.before n xs n x within c.index-entries-number.is in
    record {
      fault = sym (cut ∙ ap (λ f. first_fault f (inputs_fault t (Some x.from) (n + 1) (map entry_seen (drop (n + 1) xs)))) c.in_ok-take_entry.ensures.told) ∙ c.loop-number.invariant.fault;
      settings = ap (λ ys. ys ++ rest) c.in_ok-take_entry.ensures.pushed
          ∙ append_assoc (map setting_seen c.loop-number.sets.items) (settings_of t (entry_seen x)) rest
          ∙ ap (λ ys. map setting_seen c.loop-number.sets.items ++ ys) (sym (flat_cut entry_seen (settings_of t) xs n x within c.index-entries-number.is)) ∙ c.loop-number.invariant.settings;
    }

pub returns-clause-told : goal.returns-clause-told
returns-clause-told c =
    let xs = c.args.entries.now in
    let n = c.loop-number.number in
    let past : length xs ≤ n = omega arith in
    sym c.loop-number.invariant.fault ∙ ap (λ ys. inputs_fault (input_targets c.args.ins.now) c.loop-number.before n (map entry_seen ys)) (drop_all n xs past)

pub returns-clause-settings : goal.returns-clause-settings
returns-clause-settings c =
    let xs = c.args.entries.now in
    let n = c.loop-number.number in
    let past : length xs ≤ n = omega arith in
    sym (flat_ends entry_seen (settings_of (input_targets c.args.ins.now)) (map setting_seen c.loop-number.sets.items) xs n past) ∙ c.loop-number.invariant.settings
