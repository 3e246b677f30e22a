use Rattle.std.proofs.Common.{◌≡◌, ◌++◌, true, drop, map}
use Rattle.std.specs.List.{list_all}
use Rattle.stim_read.specs.CycleRules.{has_known_name, given_fits, input_targets}
use Rattle.stim_read.specs.CycleRun.{setting_of, setting_seen}
use Rattle.stim_read.proofs.cycle_inputs.push_settings.Given as goal

abbrev pub invariant-loop-g : goal.invariant-loop-g
invariant-loop-g l = record {
  known : list_all (has_known_name l.names) (drop l.g-index l.given) ≡ true;
  fit : list_all (given_fits (input_targets l.ins)) (drop l.g-index l.given) ≡ list_all (given_fits (input_targets l.ins)) l.given;
  pushed : map setting_seen l.sets.items ++ map (setting_of (input_targets l.ins) l.from) (drop l.g-index l.given)
      ≡ map setting_seen l.initial.sets.items ++ map (setting_of (input_targets l.ins) l.from) l.given;
}
