-- What a call on the files of a computer tells and keeps, this project's. Files are seen as the names that are known,
-- the content of each name, where it is told, and a count of faults for each name.
use Rattle.std.specs.Prelude.{◌≡◌, ◌≢◌, ℕ, ◌+◌, ◌<◌, ◌≤◌, ◌↔◌, ◌⊎◌, List, ◌++◌, length, take, drop, Option, Contains}
use Rattle.hw_io.specs.Faults.{Rose}

-- A call on one name keeps the names, the contents and the counts of the other names. The count of this name doesn't fall.
pub record KeepsFiles {F : Type 0} (names : F → List (List ℕ)) (content : F → List ℕ → Option (List ℕ)) (faults : F → List ℕ → ℕ) (name : List ℕ)
    (old new : F) : Type 0 where
  pub names_kept : names new ≡ names old
  pub contents_kept : (other : List ℕ) → content new other ≡ content old other
  pub others_kept : (other : List ℕ) → other ≢ name → faults new other ≡ faults old other
  pub never_falls : faults old name ≤ faults new name

-- Why a call on a name may fail: the name isn't known, or its count rose in the call.
abbrev pub IsReadFault : List (List ℕ) → List ℕ → ℕ → ℕ → Type 0
IsReadFault names name before after = (¬ Contains names name) ⊎ Rose before after

-- The first n bytes of a buffer are those of a content from a place on. Where the buffer has room, there are none exactly at the content's end or after it.
pub record IsPiece (content : List ℕ) (at : ℕ) (buffer : List ℕ) (n : ℕ) : Type 0 where
  pub bytes : drop at content ≡ take n buffer ++ drop (at + n) content
  pub none_at_end : 0 < length buffer → (n ≡ 0) ↔ (length content ≤ at)
