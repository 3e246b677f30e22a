use Rattle.std.proofs.Common.{◌≡◌, ◌++◌, drop, map, None, flat_map}
use Rattle.stim_read.specs.CycleText.{entry_seen}
use Rattle.stim_read.specs.CycleRules.{input_targets}
use Rattle.stim_read.specs.CycleRun.{settings_of, setting_seen}
use Rattle.stim_read.specs.inside.CycleWalk.{inputs_fault}
use Rattle.stim_read.proofs.cycle_inputs.settings.Given as goal

abbrev pub invariant-loop-number : goal.invariant-loop-number
invariant-loop-number l = record {
  fault : inputs_fault (input_targets l.ins) l.before l.number (map entry_seen (drop l.number l.entries)) ≡ inputs_fault (input_targets l.ins) None 0 (map entry_seen l.entries);
  settings : map setting_seen l.sets.items ++ flat_map (settings_of (input_targets l.ins)) (map entry_seen (drop l.number l.entries))
      ≡ flat_map (settings_of (input_targets l.ins)) (map entry_seen l.entries);
}
