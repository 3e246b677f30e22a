-- What the reads of one or two files keep of all files.
use Rattle.std.proofs.Common.{◌≡◌, ◌≢◌, ℕ, ◌≤◌, Bool, true, false, List, refl, sym, subst, ◌∙◌, arith, inl, inr, ⊎_elim}
use Rattle.std.specs.Prelude.{bytes_eq, Contains}
use Rattle.std.proofs.lemmas.Slice.Eq.{bytes_eq-Decides}
use Rattle.hw_io.specs.Faults.{Rose}
use Rattle.hw_io.specs.Reading.{KeepsFiles, IsReadFault}
use Rattle.hw_names.specs.Name.{Text}
use Rattle.filc_stop.specs.Outcome.{Contents}
use Rattle.filc_core.specs.Call.{Disk, disk_of}
use Rattle.filc_core.specs.Files.{KeepsFilesBut}

-- a name is the file's or another
by_name : (name file : Text) (claim : Type 0) (b : Bool) → bytes_eq name file ≡ b → (name ≡ file → claim) → (name ≢ file → claim) → claim
by_name name file claim true is same other = same ((bytes_eq-Decides name file).0 is)
by_name name file claim false is same other = other (λ e. let yes : bytes_eq name file ≡ true = (bytes_eq-Decides name file).1 e in absurd (cc))

rose_later : (before mid after : ℕ) → before ≤ mid → Rose mid after → Rose before after
rose_later before mid after more (inl rose) = inl (omega (arith, more, rose))
rose_later before mid after more (inr full) = inr full

module _ {F : Type 0} (names : F → List Text) (contents : F → Contents) (faults : F → Text → ℕ) where
  never_fall : (file : Text) (old new : F) → KeepsFiles names contents faults file old new → (name : Text) → faults old name ≤ faults new name
  never_fall file old new kept name =
      by_name name file (faults old name ≤ faults new name) (bytes_eq name file) refl
      (λ same. subst (λ n. faults old n ≤ faults new n) (sym same) kept.never_falls)
      (λ other. omega (arith, kept.others_kept name other))

  -- one file was read
  pub keeps_one : (is_read : Text → Type 0) (file : Text) (old new : F) → is_read file → KeepsFiles names contents faults file old new → KeepsFilesBut is_read (disk_of names contents faults old new)
  keeps_one is_read file old new read kept = record {
    names_kept = kept.names_kept;
    contents_kept = kept.contents_kept;
    others_kept = λ name unread. kept.others_kept name (λ same. unread (subst is_read (sym same) read));
    never_fall = never_fall file old new kept;
  }

  -- a file was read, and then a second
  pub keeps_both : (is_read : Text → Type 0) (file second : Text) (old mid new : F) → is_read file → is_read second → KeepsFiles names contents faults file old mid → KeepsFiles names contents faults second mid new → KeepsFilesBut is_read (disk_of names contents faults old new)
  keeps_both is_read file second old mid new read read' first late = record {
    names_kept = late.names_kept ∙ first.names_kept;
    contents_kept = λ name. late.contents_kept name ∙ first.contents_kept name;
    others_kept = λ name unread.
        late.others_kept name (λ same. unread (subst is_read (sym same) read')) ∙ first.others_kept name (λ same. unread (subst is_read (sym same) read));
    never_fall = λ name. let a = never_fall file old mid first name in let b = never_fall second mid new late name in omega (arith, a, b);
  }

  -- a name that is known after a read was known before it
  pub known_before : (file name : Text) (old mid : F) → KeepsFiles names contents faults file old mid → Contains (names mid) name → Contains (names old) name
  known_before file name old mid first known = subst (λ (ns : List Text). Contains ns name) first.names_kept known

  -- a fault of a second read is one of both reads
  pub later_fault : (file second : Text) (old mid new : F) → KeepsFiles names contents faults file old mid → IsReadFault (names mid) second (faults mid second) (faults new second) → IsReadFault (names old) second (faults old second) (faults new second)
  later_fault file second old mid new first fault =
      ⊎_elim (λ unknown. inl (λ known. unknown (subst (λ (ns : List Text). Contains ns second) (sym first.names_kept) known)))
      (λ rose. inr (rose_later (faults old second) (faults mid second) (faults new second) (never_fall file old mid first second) rose)) fault

-- more files may have been read
pub keeps_but_more : (is_read is_read' : Text → Type 0) (disk : Disk) → ((file : Text) → is_read file → is_read' file) → KeepsFilesBut is_read disk → KeepsFilesBut is_read' disk
keeps_but_more is_read is_read' disk more kept = record {
  names_kept = kept.names_kept;
  contents_kept = kept.contents_kept;
  others_kept = λ file unread. kept.others_kept file (λ read. unread (more file read));
  never_fall = kept.never_fall;
}
