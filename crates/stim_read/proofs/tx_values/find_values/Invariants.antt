use Rattle.std.proofs.Common.{◌≡◌, drop}
use Rattle.std.specs.List.{list_all}
use Rattle.stim_read.specs.CycleRules.{has_known_name}
use Rattle.stim_read.proofs.TxValueLemmas.{AreFound}
use Rattle.stim_read.proofs.tx_values.find_values.Given as goal

abbrev pub invariant-loop-g : goal.invariant-loop-g
invariant-loop-g l = record {
  known : list_all (has_known_name l.names) (drop l.g-index l.given) ≡ list_all (has_known_name l.names) l.given;
  found : AreFound l.names l.given (drop l.g-index l.given) l.found.items;
}
