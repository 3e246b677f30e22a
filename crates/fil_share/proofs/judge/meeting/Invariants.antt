use Rattle.std.proofs.Common.{take}
use Rattle.fil_share.specs.Sharing.{CanShare}
use Rattle.fil_share.proofs.judge.meeting.Given as goal

-- the uses before this one keep the rules
abbrev pub invariant-loop-number : goal.invariant-loop-number
invariant-loop-number l = CanShare l.delay (take l.number l.uses)
