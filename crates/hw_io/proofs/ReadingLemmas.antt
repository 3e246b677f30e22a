-- Calls on files, one after another.
use Rattle.std.proofs.Common.{◌≡◌, ℕ, ◌+◌, ◌<◌, ◌≤◌, List, [], ◌++◌, length, take, drop, Option, None, Some, IfSome, Contains, refl, sym, ap, subst, ◌∙◌, arith, append_assoc, inl, inr}
use Rattle.std.proofs.lemmas.Grind.{common_steps}
use Rattle.hw_io.specs.Reading.{KeepsFiles, IsReadFault, IsPiece}

pub keeps_all : {F : Type 0} (names : F → List (List ℕ)) (content : F → List ℕ → Option (List ℕ)) (faults : F → List ℕ → ℕ) (name : List ℕ) (files : F) → KeepsFiles names content faults name files files
keeps_all names content faults name files = record { names_kept = refl; contents_kept = λ _. refl; others_kept = λ _ _. refl; never_falls = omega arith }

pub keeps_both : {F : Type 0} {names : F → List (List ℕ)} {content : F → List ℕ → Option (List ℕ)} {faults : F → List ℕ → ℕ} {name : List ℕ} {first middle last : F} → KeepsFiles names content faults name first middle → KeepsFiles names content faults name middle last → KeepsFiles names content faults name first last
keeps_both early late = record {
  names_kept = late.names_kept ∙ early.names_kept;
  contents_kept = λ other. late.contents_kept other ∙ early.contents_kept other;
  others_kept = λ other apart. late.others_kept other apart ∙ early.others_kept other apart;
  never_falls = omega (arith, early.never_falls, late.never_falls);
}

-- a fault in the last call is one in the whole
pub fault_at_last : {F : Type 0} {names : F → List (List ℕ)} {content : F → List ℕ → Option (List ℕ)} {faults : F → List ℕ → ℕ} {name : List ℕ} {first middle : F} (after : ℕ) → KeepsFiles names content faults name first middle → IsReadFault (names middle) name (faults middle name) after → IsReadFault (names first) name (faults first name) after
fault_at_last {names = names} {faults = faults} {name = name} {first = first} {middle = middle} after early fault =
    elim fault [
      | inl unknown ↦ inl (λ known. unknown (subst (λ ns. Contains ns name) (sym early.names_kept) known))
      | inr rose ↦ elim rose [ inl more ↦ inr (inl (omega (arith, early.never_falls, more))) | inr greatest ↦ inr (inr greatest) ]
    ]

-- a content begins with these bytes
abbrev pub IsFront : List ℕ → List ℕ → Type 0
IsFront content bytes = content ≡ bytes ++ drop (length bytes) content

pub told_front_none : (told : Option (List ℕ)) (bytes : List ℕ) → bytes ≡ [] → IfSome told (λ content. IsFront content bytes)
told_front_none None bytes none = tt
told_front_none (Some content) bytes none = rw none refl

-- with the next piece
front_and_piece : (content bytes buffer : List ℕ) (n : ℕ) → n ≤ length buffer → IsFront content bytes → IsPiece content (length bytes) buffer n → IsFront content (bytes ++ take n buffer)
front_and_piece content bytes buffer n fits front piece =
    let long : length (bytes ++ take n buffer) ≡ length bytes + n = grind (arith, common_steps) in
    front ∙ ap (λ rest. bytes ++ rest) piece.bytes ∙ sym (append_assoc bytes (take n buffer) (drop (length bytes + n) content)) ∙ ap (λ k. (bytes ++ take n buffer) ++ drop k content) (sym long)

pub told_front_and_piece : (told : Option (List ℕ)) (bytes buffer : List ℕ) (at n : ℕ) → at ≡ length bytes → n ≤ length buffer → IfSome told (λ content. IsFront content bytes) → IfSome told (λ content. IsPiece content at buffer n) → IfSome told (λ content. IsFront content (bytes ++ take n buffer))
told_front_and_piece None bytes buffer at n here fits front piece = tt
told_front_and_piece (Some content) bytes buffer at n here fits front piece = front_and_piece content bytes buffer n fits front (subst (λ k. IsPiece content k buffer n) here piece)

-- the whole content was read where a piece with room is empty
front_is_whole : (content bytes buffer : List ℕ) (at : ℕ) → at ≡ length bytes → 0 < length buffer → IsFront content bytes → IsPiece content at buffer 0 → bytes ≡ content
front_is_whole content bytes buffer at here room front piece =
    let short : length content ≤ at = (piece.none_at_end room).0 refl in
    grind (arith, common_steps, front)

pub told_front_is_whole : (told : Option (List ℕ)) (bytes buffer : List ℕ) (at n : ℕ) → n ≡ 0 → at ≡ length bytes → 0 < length buffer → IfSome told (λ content. IsFront content bytes) → IfSome told (λ content. IsPiece content at buffer n) → IfSome told (λ content. bytes ≡ content)
told_front_is_whole None bytes buffer at n none here room front piece = tt
told_front_is_whole (Some content) bytes buffer at n none here room front piece = front_is_whole content bytes buffer at here room front (subst (λ k. IsPiece content at buffer k) none piece)

-- the n bytes of a piece are there
reaches : (content buffer : List ℕ) (at n : ℕ) → n ≤ length buffer → 0 < n → IsPiece content at buffer n → at + n ≤ length content
reaches content buffer at n fits some piece =
    let parts : length (drop at content) ≡ length (take n buffer ++ drop (at + n) content) = ap length piece.bytes in
    grind (arith, common_steps, parts)

pub told_reaches : (told : Option (List ℕ)) (buffer : List ℕ) (at n limit : ℕ) → n ≤ length buffer → 0 < n → limit < at + n → IfSome told (λ content. IsPiece content at buffer n) → IfSome told (λ content. limit < length content)
told_reaches None buffer at n limit fits some past piece = tt
told_reaches (Some content) buffer at n limit fits some past piece = omega (arith, reaches content buffer at n fits some piece)
