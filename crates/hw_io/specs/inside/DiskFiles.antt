-- Files of a disk, this project's: the names that are known, a count of faults for each, and its file once it was opened.
-- A name means the first entry that has it.
use Rattle.std.specs.Prelude.{ℕ, List, Bool, map, find, string_bytes, Option, IfSome, All}
use Rattle.std.specs.Option.{option_map_or}
use Rattle.std.specs.Str.{bytes_eq}
use Rattle.hw_io.specs.declared.disk_files.DiskFile.{DiskFile}
use Rattle.hw_io.specs.Disk.{StandsAt}

-- whether an entry has the name
abbrev pub has_name : {F : Type 0} → List ℕ → DiskFile F → Bool
has_name name file = bytes_eq (string_bytes file.name) name

abbrev pub names_in : {F : Type 0} → List (DiskFile F) → List (List ℕ)
names_in files = map (λ file. string_bytes file.name) files

abbrev pub faults_in : {F : Type 0} → List (DiskFile F) → List ℕ → ℕ
faults_in files name = option_map_or (λ file. file.faults) (find (has_name name) files) 0

-- Where an entry's file is open, it stands at the place up to which it was read, by what the disk tells of the name and by what is left to be read of the file.
abbrev pub IsRightlyOpen : {F : Type 0} → (List ℕ → Option (List ℕ)) → (F → Option (List ℕ)) → DiskFile F → Type 0
IsRightlyOpen content left file = IfSome file.opened (λ opened. StandsAt (content (string_bytes file.name)) opened.at (left opened.file))

abbrev pub AreRightlyOpen : {F : Type 0} → (List ℕ → Option (List ℕ)) → (F → Option (List ℕ)) → List (DiskFile F) → Type 0
AreRightlyOpen content left files = All (IsRightlyOpen content left) files
