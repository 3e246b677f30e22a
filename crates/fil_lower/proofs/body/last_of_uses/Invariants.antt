use Rattle.std.proofs.Common.{◌≡◌, ◌<◌, map, take}
use Rattle.fil_share.specs.Uses.{shown_use}
use Rattle.hw_limits.specs.declared.limits.TheConstants.{MOST_ROWS}
use Rattle.fil_lower.specs.inside.Place.{greatest, wanted_by_uses}
use Rattle.fil_lower.proofs.body.last_of_uses.Given as goal

abbrev pub invariant-loop-used : goal.invariant-loop-used
invariant-loop-used l = record {
  value : l.last ≡ greatest (wanted_by_uses l.event (take l.used-index (map (shown_use l.names) l.uses)));
  small : l.last < MOST_ROWS;
}
