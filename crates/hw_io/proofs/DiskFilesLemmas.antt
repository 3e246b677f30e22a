-- Names of a disk's files with their counts, and files that are open.
use Rattle.std.proofs.Common.{◌≡◌, ℕ, Bool, true, false, cond, List, [], ◌∷◌, ◌++◌, ◌+◌, ◌<◌, ◌≤◌, length, take, drop, get_or, map, find, position, Option, None, Some, IfSome, refl, sym, ap, ◌∙◌, string_bytes, Bor, arith}
use Rattle.std.proofs.lemmas.Grind.{common_steps}
use Rattle.std.proofs.lemmas.List.{take_more}
use Rattle.std.proofs.lemmas.List.Elements.{All-push}
use Rattle.std.proofs.Math.Seq.{drop-append_seam}
use Rattle.std.specs.Io.KnownBytes.{Consumes, IsAtEnd}
use Rattle.std.specs.Option.{option_map_or}
use Rattle.hw_io.specs.declared.disk_files.DiskFile.{DiskFile}
use Rattle.hw_io.specs.Disk.{StandsAt}
use Rattle.hw_io.specs.Reading.{IsPiece}
use Rattle.hw_io.specs.inside.DiskFiles.{has_name, names_in, faults_in, IsRightlyOpen}

abbrev pub name_in : {F : Type 0} → DiskFile F → List ℕ
name_in file = string_bytes file.name

abbrev pub count_in : {F : Type 0} → DiskFile F → ℕ
count_in file = file.faults

-- where a name was looked for through references
pub looked_up : {F : Type 0} {xs ys : List (DiskFile F)} {name other : List ℕ} {r place : Option ℕ} → ys ≡ xs → other ≡ name → r ≡ position (has_name other) ys → r ≡ place → position (has_name name) xs ≡ place
looked_up {xs = xs} {ys = ys} {name = name} items same found is = ap (λ zs. position (has_name name) zs) (sym items) ∙ ap (λ n. position (has_name n) ys) (sym same) ∙ sym found ∙ is

no_fault_last : {F : Type 0} (b : Bool) (y : DiskFile F) → y.faults ≡ 0 → option_map_or (λ (file : DiskFile F). file.faults) (cond b (Some y) None) 0 ≡ 0
no_fault_last true y none = none
no_fault_last false y none = refl

no_fault_rest : {F : Type 0} (b : Bool) (x : DiskFile F) (rest more : Option (DiskFile F)) → option_map_or (λ (file : DiskFile F). file.faults) (cond b (Some x) rest) 0 ≡ 0 → (option_map_or (λ (file : DiskFile F). file.faults) rest 0 ≡ 0 → option_map_or (λ (file : DiskFile F). file.faults) more 0 ≡ 0) → option_map_or (λ (file : DiskFile F). file.faults) (cond b (Some x) more) 0 ≡ 0
no_fault_rest true x rest more here kept = here
no_fault_rest false x rest more here kept = kept here

-- a name that no fault is counted for is added
pub no_fault_added : {F : Type 0} (xs : List (DiskFile F)) (y : DiskFile F) (name : List ℕ) → y.faults ≡ 0 → faults_in xs name ≡ 0 → faults_in (xs ++ y ∷ []) name ≡ 0
no_fault_added [] y name none here = no_fault_last (has_name name y) y none
no_fault_added (x ∷ xs) y name none here = no_fault_rest (has_name name x) x (find (has_name name) xs) (find (has_name name) (xs ++ y ∷ [])) here (no_fault_added xs y name none)

-- one more name is known
pub names_added : {F : Type 0} (held more : List (DiskFile F)) (names : List (Bor (List ℕ))) (i : ℕ) (y : DiskFile F) (d : Bor (List ℕ)) → i < length names → more ≡ held ++ y ∷ [] → names_in held ≡ map (λ (name : Bor (List ℕ)). name.now) (take i names) → string_bytes y.name ≡ (get_or names i d).now → names_in more ≡ map (λ (name : Bor (List ℕ)). name.now) (take (i + 1) names)
names_added held more names i y d within items known named = rw (items, take_more names i d within) (grind (arith, common_steps, known, named))

-- what was left is what was read, and what is left
left_after : (content gave left : List ℕ) (at n : ℕ) → length gave ≡ n → drop at content ≡ gave ++ left → left ≡ drop (at + n) content
left_after content gave left at n long read = sym (drop-append_seam gave left) ∙ ap (λ k. drop k (gave ++ left)) long ∙ ap (λ xs. drop n xs) (sym read) ∙ grind (arith, common_steps)

-- a file stands where a read ended
stands_after : (content : List ℕ) (at n : ℕ) (old new : Option (List ℕ)) (gave : List ℕ) → length gave ≡ n → old ≡ Some (drop at content) → Consumes old new gave → new ≡ Some (drop (at + n) content)
stands_after content at n None new gave long stood read = absurd (cc)
stands_after content at n (Some was) None gave long stood read = absurd read
stands_after content at n (Some was) (Some left) gave long stood read =
    let all : was ≡ drop at content = cc in
    ap Some (left_after content gave left at n long (sym all ∙ read))

pub stands_on : (told same : Option (List ℕ)) (at here n : ℕ) (old new : Option (List ℕ)) (buffer : List ℕ) → same ≡ told → here ≡ at → n ≤ length buffer → StandsAt told at old → Consumes old new (take n buffer) → StandsAt same (here + n) new
stands_on None None at here n old new buffer alike place fits stood read = tt
stands_on None (Some other) at here n old new buffer alike place fits stood read = absurd (cc)
stands_on (Some content) None at here n old new buffer alike place fits stood read = absurd (cc)
stands_on (Some content) (Some other) at here n old new buffer alike place fits stood read =
    let long : length (take n buffer) ≡ n = grind (arith, common_steps) in
    let content_is : other ≡ content = cc in
    rw (content_is, place) (stands_after content at n old new (take n buffer) long stood read)

-- what a read of a file gives, where it stands at a place, is a piece of its content
piece_of_content : (content buffer left : List ℕ) (at n : ℕ) → n ≤ length buffer → drop at content ≡ take n buffer ++ left → (n ≡ 0 → 0 < length buffer → left ≡ []) → IsPiece content at buffer n
piece_of_content content buffer left at n fits read end =
    let long : length (take n buffer) ≡ n = grind (arith, common_steps) in
    let rest : left ≡ drop (at + n) content = left_after content (take n buffer) left at n long read in
    let sizes : length (drop at content) ≡ length (take n buffer ++ left) = ap length read in
    record {
      bytes = read ∙ ap (λ xs. take n buffer ++ xs) rest;
      none_at_end = λ room. (λ none. let empty : left ≡ [] = end none room in let short : length left ≡ 0 = ap length empty in grind (arith, common_steps, sizes), λ past. grind (arith, common_steps, sizes));
    }

piece_where_told : (content buffer : List ℕ) (at n : ℕ) (old new : Option (List ℕ)) → n ≤ length buffer → old ≡ Some (drop at content) → Consumes old new (take n buffer) → (n ≡ 0 → 0 < length buffer → IsAtEnd new) → IsPiece content at buffer n
piece_where_told content buffer at n None new fits stood read end = absurd (cc)
piece_where_told content buffer at n (Some was) None fits stood read end = absurd read
piece_where_told content buffer at n (Some was) (Some left) fits stood read end =
    let all : was ≡ drop at content = cc in
    piece_of_content content buffer left at n fits (sym all ∙ read) end

pub read_is_piece : (told : Option (List ℕ)) (buffer : List ℕ) (at n : ℕ) (old new : Option (List ℕ)) → n ≤ length buffer → StandsAt told at old → Consumes old new (take n buffer) → (n ≡ 0 → 0 < length buffer → IsAtEnd new) → IfSome told (λ content. IsPiece content at buffer n)
read_is_piece None buffer at n old new fits stood read end = tt
read_is_piece (Some content) buffer at n old new fits stood read end = piece_where_told content buffer at n old new fits stood read end

-- a file that isn't open stands nowhere
pub not_open : {F : Type 0} (content : List ℕ → Option (List ℕ)) (left : F → Option (List ℕ)) (file : DiskFile F) → file.opened ≡ None → IsRightlyOpen content left file
not_open content left file none = rw none tt

-- a file that isn't open is added
pub none_opened_added : {F : Type 0} (xs : List (DiskFile F)) (y : DiskFile F) → y.opened ≡ None → ((k : ℕ) (d : DiskFile F) → k < length xs → (get_or xs k d).opened ≡ None) → (k : ℕ) (d : DiskFile F) → k < length (xs ++ y ∷ []) → (get_or (xs ++ y ∷ []) k d).opened ≡ None
none_opened_added xs y none before k d within = All-push (λ file. file.opened ≡ None) xs y before none k d within
