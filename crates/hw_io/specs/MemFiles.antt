-- Files in memory, this project's: entries with a name, bytes and a count of faults. A name means the first entry that has it.
use Rattle.std.specs.Prelude.{ℕ, List, Bool, Option, map, find}
use Rattle.std.specs.Option.{option_map, option_map_or}
use Rattle.std.specs.Str.{bytes_eq}
use Rattle.hw_io.specs.declared.mem_files.MemFile.{MemFile}
use Rattle.hw_io.specs.declared.mem_files.MemFiles.{MemFiles}

-- whether an entry has the name
abbrev pub has_name : List ℕ → MemFile → Bool
has_name name file = bytes_eq file.name.items name

-- the first entry that has the name
abbrev pub entry_of : MemFiles → List ℕ → Option MemFile
entry_of files name = find (has_name name) files.held.items

abbrev pub names_of : MemFiles → List (List ℕ)
names_of files = map (λ file. file.name.items) files.held.items

abbrev pub content_of : MemFiles → List ℕ → Option (List ℕ)
content_of files name = option_map (λ file. file.bytes.items) (entry_of files name)

abbrev pub faults_of : MemFiles → List ℕ → ℕ
faults_of files name = option_map_or (λ file. file.faults) (entry_of files name) 0
