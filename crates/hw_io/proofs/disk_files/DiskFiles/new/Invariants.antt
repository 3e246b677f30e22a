use Rattle.std.proofs.Common.{◌≡◌, ℕ, ◌<◌, List, length, map, take, get_or, None}
use Rattle.hw_io.specs.inside.DiskFiles.{names_in, faults_in}
use Rattle.hw_io.proofs.disk_files.DiskFiles.new.Given as goal

-- the names so far are known, and no fault is counted
abbrev pub invariant-loop-name : goal.invariant-loop-name
invariant-loop-name g l = record {
  known : names_in l.held.items ≡ map (λ name. name.now) (take l.name-index l.names);
  no_fault : (name : List ℕ) → faults_in l.held.items name ≡ 0;
  none_opened : (k : ℕ) (d : _) → k < length l.held.items → (get_or l.held.items k d).opened ≡ None;
}
