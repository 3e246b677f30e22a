-- Counts of faults, this project's. What reads or writes keeps a count that rises at each fault and never falls, up to 2 ^ 64 - 1, where it stays.
-- So whoever is told of a fault can see in the count that there was one.
use Rattle.std.specs.Prelude.{◌≡◌, ℕ, ◌-◌, ◌^◌, ◌<◌, ◌⊎◌}

-- the count rose in a call: it is greater after the call than before it, or it stands at its greatest value
abbrev pub Rose : ℕ → ℕ → Type 0
Rose before after = (before < after) ⊎ (after ≡ 2 ^ 64 - 1)
