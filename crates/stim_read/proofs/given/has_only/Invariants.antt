use Rattle.std.proofs.Common.{◌≡◌, map, List, ℕ}
use Rattle.std.specs.Borrow.{Bor}
use Rattle.stim_read.specs.Parts.{has_only, member_seen}
use Rattle.stim_read.proofs.given.has_only.Given as goal

abbrev pub invariant-loop-key : goal.invariant-loop-key
invariant-loop-key l =
    has_only (map (λ (k : Bor (List ℕ)). k.now) l.keys) (map member_seen l.key-iterator) ≡ has_only (map (λ (k : Bor (List ℕ)). k.now) l.keys) (map member_seen l.members.entries)
