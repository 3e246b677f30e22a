-- What the files of a disk give, this project's. A disk has a content for each name, where it is told.
use Rattle.std.specs.Prelude.{◌≡◌, ℕ, List, drop, Option, Some, IfSome}

-- An open file stands at a place of its content, where that is told: what reads give from here on is what the content has from that place on.
abbrev pub StandsAt : Option (List ℕ) → ℕ → Option (List ℕ) → Type 0
StandsAt content at left = IfSome content (λ bytes. left ≡ Some (drop at bytes))
