use Rattle.std.proofs.Common.{◌≡◌, drop, map, List, ℕ}
use Rattle.std.specs.Borrow.{Bor}
use Rattle.stim_read.specs.Parts.{is_one_of}
use Rattle.stim_read.proofs.given.is_one_of.Given as goal

abbrev pub invariant-loop-other : goal.invariant-loop-other
invariant-loop-other l =
    is_one_of (map (λ (k : Bor (List ℕ)). k.now) (drop l.other-index l.keys)) l.key ≡ is_one_of (map (λ (k : Bor (List ℕ)). k.now) l.keys) l.key
