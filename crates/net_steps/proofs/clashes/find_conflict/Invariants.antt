use Rattle.std.proofs.Common.{◌<◌, length}
use Rattle.std.specs.Prelude.{IfSome}
use Rattle.net_steps.proofs.ClashLemmas.{IsLeastUpto}
use Rattle.net_steps.proofs.clashes.find_conflict.Given as goal

abbrev pub invariant-loop-clash : goal.invariant-loop-clash
invariant-loop-clash l = record {
  within : IfSome l.found (λ port. port < length l.names);
  least : IsLeastUpto l.names l.clashes l.slots l.clash-index l.found;
}
