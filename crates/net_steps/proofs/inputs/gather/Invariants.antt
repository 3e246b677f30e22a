use Rattle.std.proofs.Common.{◌≡◌, length}
use Rattle.net_steps.proofs.GatherLemmas.{AreGathered}
use Rattle.net_steps.proofs.inputs.gather.Given as goal

abbrev pub invariant-loop-number : goal.invariant-loop-number
invariant-loop-number l = record {
  count : length l.inputs ≡ 4;
  made : AreGathered l.slots l.places l.widths l.number l.inputs;
}
