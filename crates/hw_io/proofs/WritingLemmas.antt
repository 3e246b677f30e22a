-- What a sink gains in puts, one after another.
use Rattle.std.proofs.Common.{◌≡◌, ℕ, ◌+◌, ◌≤◌, List, [], ◌++◌, take, drop, Option, None, Some, sym, ap, subst, ◌∙◌, arith, append_assoc, inl, inr}
use Rattle.std.proofs.lemmas.List.{append-nil, take-append-drop}
use Rattle.std.proofs.Math.Seq.{take-add}
use Rattle.std.specs.Io.KnownBytes.{Appends, Keeps}
use Rattle.hw_io.specs.Faults.{Rose}
use Rattle.hw_io.specs.Writing.{AppendsPrefix, Passes}

-- a rise in the last call is one in the whole
pub rose_at_last : (before between after : ℕ) → before ≤ between → Rose between after → Rose before after
rose_at_last before between after early rose = elim rose [ inl more ↦ inl (omega arith) | inr greatest ↦ inr greatest ]

pub appends_none : (told : Option (List ℕ)) → Appends told told []
appends_none None = tt
appends_none (Some xs) = sym (append-nil xs)

pub keeps_appends_none : (old new : Option (List ℕ)) → Keeps old new → Appends old new []
keeps_appends_none None new kept = tt
keeps_appends_none (Some xs) None kept = kept
keeps_appends_none (Some xs) (Some ys) kept = kept ∙ sym (append-nil xs)

pub appends_both : (first middle last : Option (List ℕ)) (xs ys : List ℕ) → Appends first middle xs → Appends middle last ys → Appends first last (xs ++ ys)
appends_both None middle last xs ys early late = tt
appends_both (Some a) None last xs ys early late = absurd early
appends_both (Some a) (Some b) None xs ys early late = late
appends_both (Some a) (Some b) (Some c) xs ys early late = late ∙ ap (λ front. front ++ ys) early ∙ append_assoc a xs ys

-- n bytes more of a list, from the place on to which it was taken
pub appends_more : (first middle last : Option (List ℕ)) (bytes rest : List ℕ) (taken n : ℕ) → rest ≡ drop taken bytes → Appends first middle (take taken bytes) → Appends middle last (take n rest) → Appends first last (take (taken + n) bytes)
appends_more first middle last bytes rest taken n at early late =
    let gained : take taken bytes ++ take n rest ≡ take (taken + n) bytes = ap (λ xs. take taken bytes ++ take n xs) at ∙ sym (take-add taken n bytes) in
    subst (λ xs. Appends first last xs) gained (appends_both first middle last (take taken bytes) (take n rest) early late)

-- a list that was taken up to a place, and nothing after it
pub prefix_taken : (first middle last : Option (List ℕ)) (bytes : List ℕ) (taken : ℕ) → Appends first middle (take taken bytes) → Keeps middle last → AppendsPrefix first last bytes
prefix_taken first middle last bytes taken early kept = record {
  gained = take taken bytes;
  left = drop taken bytes;
  in_order = take-append-drop taken bytes;
  appended = subst (λ gained. Appends first last gained) (append-nil (take taken bytes)) (appends_both first middle last (take taken bytes) [] early (keeps_appends_none middle last kept));
}

-- a prefix of more bytes, after all of the first
pub prefix_after : (first middle last : Option (List ℕ)) (xs ys : List ℕ) → Appends first middle xs → AppendsPrefix middle last ys → AppendsPrefix first last (xs ++ ys)
prefix_after first middle last xs ys early late = record {
  gained = xs ++ late.gained;
  left = late.left;
  in_order = append_assoc xs late.gained late.left ∙ ap (λ rest. xs ++ rest) late.in_order;
  appended = appends_both first middle last xs late.gained early late.appended;
}

-- what was held and the bytes went into the sink
pub passed_all : (first middle last : Option (List ℕ)) (held after bytes : List ℕ) → after ≡ [] → Appends first middle held → Appends middle last bytes → Passes first held last after bytes
passed_all first middle last held after bytes none early late = record {
  gained = held ++ bytes;
  in_order = ap (λ rest. (held ++ bytes) ++ rest) none ∙ append-nil (held ++ bytes);
  appended = appends_both first middle last held bytes early late;
}

-- Nothing passes where nothing is pushed, and pushes one after another pass their bytes one after another.
pub passed_none : (written : Option (List ℕ)) (held : List ℕ) → Passes written held written held []
passed_none written held = record { gained = []; in_order = sym (append-nil held); appended = appends_none written }

pub passed_both : {first middle last : Option (List ℕ)} {held between after xs ys : List ℕ} → Passes first held middle between xs → Passes middle between last after ys → Passes first held last after (xs ++ ys)
passed_both {first = first} {middle = middle} {last = last} {held = held} {between = between} {after = after} {xs = xs} {ys = ys} early late = record {
  gained = early.gained ++ late.gained;
  in_order = append_assoc early.gained late.gained after ∙ ap (λ rest. early.gained ++ rest) late.in_order ∙ sym (append_assoc early.gained between ys) ∙ ap (λ front. front ++ ys) early.in_order ∙ append_assoc held xs ys;
  appended = appends_both first middle last early.gained late.gained early.appended late.appended;
}

-- a push that failed, after others
pub passed_prefix : {first middle last : Option (List ℕ)} {held between xs : List ℕ} (ys : List ℕ) → Passes first held middle between xs → AppendsPrefix middle last (between ++ ys) → AppendsPrefix first last (held ++ (xs ++ ys))
passed_prefix {first = first} {middle = middle} {last = last} {held = held} {between = between} {xs = xs} ys early late = record {
  gained = early.gained ++ late.gained;
  left = late.left;
  in_order = append_assoc early.gained late.gained late.left ∙ ap (λ rest. early.gained ++ rest) late.in_order ∙ sym (append_assoc early.gained between ys) ∙ ap (λ front. front ++ ys) early.in_order ∙ append_assoc held xs ys;
  appended = appends_both first middle last early.gained late.gained early.appended late.appended;
}

-- a flush, after pushes
pub passed_flushed : {first middle : Option (List ℕ)} {held between xs : List ℕ} (last : Option (List ℕ)) → Passes first held middle between xs → Appends middle last between → Appends first last (held ++ xs)
passed_flushed {first = first} {middle = middle} {held = held} {between = between} {xs = xs} last early late =
    subst (λ gained. Appends first last gained) early.in_order (appends_both first middle last early.gained between early.appended late)

-- a prefix of the front is one of the whole
pub prefix_longer : (old new : Option (List ℕ)) (xs ys : List ℕ) → AppendsPrefix old new xs → AppendsPrefix old new (xs ++ ys)
prefix_longer old new xs ys front = record {
  gained = front.gained;
  left = front.left ++ ys;
  in_order = sym (append_assoc front.gained front.left ys) ∙ ap (λ whole. whole ++ ys) front.in_order;
  appended = front.appended;
}
