use Rattle.std.proofs.Common.{◌≡◌, ◌≤◌, length}
use Rattle.cal_walk.proofs.ControlsLemmas.{AreControlsUpTo}
use Rattle.cal_walk.proofs.planning.controls.Given as goal

-- the controls of the components so far
abbrev pub invariant-loop-comp : goal.invariant-loop-comp
invariant-loop-comp l = record {
  within : l.comp-index ≤ length l.comp-items;
  groups : length l.numbers.groups.items ≡ length l.design.names;
  made : length l.numbers.made.items ≡ length l.design.names;
  controls : AreControlsUpTo l.design l.comp-index l.all.items;
}
