use Rattle.hw_prims.specs.Table.{Pin, pins_of}
use Rattle.net_lanes.specs.Narrow.{is_wide}
use Rattle.net_lanes.proofs.NarrowLemmas.{NoneUpto}
use Rattle.net_lanes.proofs.narrow.has_wide_pin.Given as goal

-- none of the pins so far is too wide
abbrev pub invariant-loop-number : goal.invariant-loop-number
invariant-loop-number l = NoneUpto (λ (p : Pin). is_wide p.width) l.number (pins_of l.prim)
