use Rattle.std.proofs.Common.{◌≡◌, ◌++◌, All, take, map, filter}
use Rattle.fil_share.specs.Uses.{HoldHasNumbers, is_on, moved, shown_hold, shown_use}
use Rattle.fil_share.proofs.transactions.push_holds.Given as goal

-- the holds of the uses so far, which have numbers where those before them have
abbrev pub invariant-loop-used : goal.invariant-loop-used
invariant-loop-used l = record {
  shown :
      map (shown_hold l.names) l.holds.items
      ≡ map (shown_hold l.names) l.fn.holds.items ++ map (moved l.tx l.row) (filter (is_on l.event) (map (shown_use l.names) (take l.used-index l.uses)));
  numbered : All (HoldHasNumbers l.names) l.fn.holds.items → All (HoldHasNumbers l.names) l.holds.items;
}
