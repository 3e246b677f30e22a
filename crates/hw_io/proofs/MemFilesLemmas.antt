-- Files in memory, where a call raises a count or reads.
use Rattle.std.proofs.Common.{◌≡◌, ℕ, ◌+◌, ◌-◌, ◌^◌, ◌≤◌, min, List, ◌++◌, length, take, drop, get_or, position, Option, Some, refl, sym, ap, subst, ◌∙◌, arith, length-append}
use Rattle.std.specs.Option.{option_map}
use Rattle.std.specs.Vec.{with_item}
use Rattle.std.proofs.lemmas.List.{take-append-drop}
use Rattle.std.proofs.Math.Seq.{take-append_seam}
use Rattle.std.proofs.lemmas.Grind.{common_steps}
use Rattle.hw_io.specs.declared.mem_files.MemFile.{MemFile}
use Rattle.hw_io.specs.declared.mem_files.MemFiles.{MemFiles}
use Rattle.hw_io.specs.Faults.{Rose}
use Rattle.hw_io.specs.Reading.{KeepsFiles, IsPiece}
use Rattle.hw_io.specs.MemFiles.{has_name, names_of, content_of, faults_of}
use Rattle.hw_io.proofs.EntryLemmas.{find_alike, find_at_place, names_raised, others_raised, count_raised, count_at_place}

-- the files after a fault of the entry x at place i
abbrev pub after_fault : MemFiles → ℕ → MemFile → ℕ → ℕ → MemFiles
after_fault files i x count calls = record { held = with_item files.held i (record { name = x.name; bytes = x.bytes; faults = count }); fails = files.fails; calls = calls }

pub fault_keeps : (files : MemFiles) (name : List ℕ) (i : ℕ) (x : MemFile) (count calls : ℕ) → position (has_name name) files.held.items ≡ Some i → x ≡ get_or files.held.items i x → x.faults ≤ count → KeepsFiles names_of content_of faults_of name files (after_fault files i x count calls)
fault_keeps files name i x count calls at here more =
    let name_in : MemFile → List ℕ = λ file. file.name.items in
    let count_in : MemFile → ℕ = λ file. file.faults in
    let y : MemFile = record { name = x.name; bytes = x.bytes; faults = count } in
    let after = count_raised name_in count_in files.held.items name i x y at here refl in
    let before = count_at_place name_in count_in files.held.items name i x at here in
    record {
      names_kept = names_raised name_in files.held.items i x y here refl;
      contents_kept = λ other. find_alike (has_name other) (λ file. file.bytes.items) files.held.items i y x (ap (has_name other) here) (ap (λ file. file.bytes.items) here);
      others_kept = λ other apart. others_raised name_in count_in files.held.items name other i x y at here refl apart;
      never_falls = rw (after, before) more;
    }

pub fault_rose : (files : MemFiles) (name : List ℕ) (i : ℕ) (x : MemFile) (count calls : ℕ) → position (has_name name) files.held.items ≡ Some i → x ≡ get_or files.held.items i x → Rose x.faults count → Rose (faults_of files name) (faults_of (after_fault files i x count calls) name)
fault_rose files name i x count calls at here rose =
    let name_in : MemFile → List ℕ = λ file. file.name.items in
    let count_in : MemFile → ℕ = λ file. file.faults in
    let y : MemFile = record { name = x.name; bytes = x.bytes; faults = count } in
    let after = count_raised name_in count_in files.held.items name i x y at here refl in
    let before = count_at_place name_in count_in files.held.items name i x at here in
    rw (after, before) rose

pub fault_counted : (files : MemFiles) (name : List ℕ) (i : ℕ) (x : MemFile) (count calls : ℕ) → position (has_name name) files.held.items ≡ Some i → x ≡ get_or files.held.items i x → count ≡ min (x.faults + 1) (2 ^ 64 - 1) → faults_of (after_fault files i x count calls) name ≡ min (faults_of files name + 1) (2 ^ 64 - 1)
fault_counted files name i x count calls at here more =
    let name_in : MemFile → List ℕ = λ file. file.name.items in
    let count_in : MemFile → ℕ = λ file. file.faults in
    let y : MemFile = record { name = x.name; bytes = x.bytes; faults = count } in
    let after = count_raised name_in count_in files.held.items name i x y at here refl in
    let before = count_at_place name_in count_in files.held.items name i x at here in
    after ∙ more ∙ ap (λ n. min (n + 1) (2 ^ 64 - 1)) (sym before)

-- where a name was looked for through references
pub looked_up : {xs ys : List MemFile} {name other : List ℕ} {r place : Option ℕ} → ys ≡ xs → other ≡ name → r ≡ position (has_name other) ys → r ≡ place → position (has_name name) xs ≡ place
looked_up {xs = xs} {ys = ys} {name = name} items same found is = ap (λ zs. position (has_name name) zs) (sym items) ∙ ap (λ n. position (has_name n) ys) (sym same) ∙ sym found ∙ is

pub content_at_place : (files : MemFiles) (name : List ℕ) (i : ℕ) (x : MemFile) → position (has_name name) files.held.items ≡ Some i → x ≡ get_or files.held.items i x → content_of files name ≡ Some x.bytes.items
content_at_place files name i x at here = ap (λ found. option_map (λ (file : MemFile). file.bytes.items) found) (find_at_place (has_name name) files.held.items i x at) ∙ ap (λ (file : MemFile). Some file.bytes.items) (sym here)

-- the bytes that are there and fit are a piece
pub copied_is_piece : (bytes buffer after : List ℕ) (at n : ℕ) → n ≡ min (length buffer) (length bytes - at) → after ≡ take n (drop at bytes) ++ drop n buffer → IsPiece bytes at after n
copied_is_piece bytes buffer after at n count copied =
    let front : List ℕ = take n (drop at bytes) in
    let long : length front ≡ n = grind (arith, common_steps) in
    let same : take n after ≡ front = rw copied (subst (λ k. take k (front ++ drop n buffer) ≡ front) long (take-append_seam front (drop n buffer))) in
    let room_kept : length after ≡ length buffer = rw (copied, length-append, long) (grind (arith, common_steps)) in
    record {
      bytes = rw same (sym (take-append-drop n (drop at bytes)) ∙ ap (λ rest. front ++ rest) (grind (arith, common_steps)));
      none_at_end = λ room. (λ none. omega arith, λ past. omega arith);
    }
