-- What holds of each callee: its delays and the offsets of its ports are small, and no delay is 0. This project's.
use Rattle.std.specs.Prelude.{◌≤◌, All}
use Rattle.fil_ast.specs.Signature.{Delay, Fixed, Gap, End, SigEvent, SigPort, Signature}
use Rattle.hw_limits.specs.declared.limits.TheConstants.{MOST_OFFSET}

abbrev pub IsGoodDelay : Delay → Type 0
IsGoodDelay (Fixed rows) = (1 ≤ rows) × (rows ≤ MOST_OFFSET)
IsGoodDelay Gap = Unit {0}
IsGoodDelay End = Unit {0}

abbrev pub HasGoodDelay : SigEvent → Type 0
HasGoodDelay e = IsGoodDelay e.delay

abbrev pub HasSmallInterval : SigPort → Type 0
HasSmallInterval p = (p.from.plus ≤ MOST_OFFSET) × (p.to.plus ≤ MOST_OFFSET)

pub record HasGoodTimes (sig : Signature) : Type 0 where
  pub delays : All HasGoodDelay sig.events
  pub ins : All HasSmallInterval sig.ins
  pub outs : All HasSmallInterval sig.outs
