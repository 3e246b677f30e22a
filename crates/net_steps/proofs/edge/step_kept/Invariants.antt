use Rattle.std.proofs.Common.{◌≡◌, length, map, take}
use Rattle.std.specs.Prelude.{slice_index}
use Rattle.net_steps.proofs.edge.step_kept.Given as goal

abbrev pub invariant-loop-number : goal.invariant-loop-number
invariant-loop-number l = record {
  count : length l.kept ≡ length l.fn.kept;
  made : take l.number l.kept ≡ map (slice_index l.slots) (take l.number l.places);
}
