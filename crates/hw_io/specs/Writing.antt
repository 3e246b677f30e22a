-- What a sink of bytes gains in a call, this project's. A sink is seen as the bytes that were written to it, where they are told, and a count of faults.
-- `Appends` and `Keeps` of std say what is done to bytes that are told.
use Rattle.std.specs.Prelude.{◌≡◌, ℕ, List, ◌++◌, Option}
use Rattle.std.specs.Io.KnownBytes.{Appends}

-- The sink gained a prefix of these bytes, and nothing else.
pub record AppendsPrefix (old new : Option (List ℕ)) (bytes : List ℕ) : Type 0 where
  pub gained : List ℕ
  pub left : List ℕ
  pub in_order : gained ++ left ≡ bytes
  pub appended : Appends old new gained

-- Bytes passed through a buffer into a sink: what the sink gained, followed by what is held after it, is what was held before it, followed by the bytes.
pub record Passes (old_written : Option (List ℕ)) (old_held : List ℕ) (new_written : Option (List ℕ)) (new_held : List ℕ) (bytes : List ℕ) : Type 0 where
  pub gained : List ℕ
  pub in_order : gained ++ new_held ≡ old_held ++ bytes
  pub appended : Appends old_written new_written gained
