-- Guards put one after another, and behind `!`.
use Rattle.std.proofs.Common.{◌≡◌, ℕ, ◌+◌, ◌<◌, ◌≤◌, List, [], ◌∷◌, ◌++◌, length, get_or, drop, map, replicate, codes, Result, OnOk, sym, ap, ap₂, ◌∙◌, append_assoc, append-nil, add-one, arith}
use Rattle.std.proofs.lemmas.List.{drop_more, drop_all}
use Rattle.hw_names.specs.Name.{Text}
use Rattle.net_core.specs.Guard.{GuardTree, guards_of}
use Rattle.ver_print.specs.Values.{guard_gap, guard_text, guards_text, rest_text}
use Rattle.ver_print.proofs.PutLemmas.{OnOk-is}

-- ---- a list

module _ {X : Type 0} (f : X → GuardTree Text) (mark : Text) (xs : List X) where
  -- the guards from this one on
  abbrev pub guards_from : ℕ → Text
  guards_from i = guards_text mark (guards_of (map f (drop i xs)))

  -- a guard and those after it
  one_more : (out mid text rest : Text) → mid ≡ out ++ text → mid ++ rest ≡ out ++ (text ++ rest)
  one_more out mid text rest put = ap (λ (t : Text). t ++ rest) put ∙ append_assoc out text rest

  marked : (out mid gapped new text gap next rest : Text) → mid ≡ out ++ text → gapped ≡ mid ++ gap → new ≡ gapped ++ mark
      → new ++ (next ++ rest) ≡ out ++ (text ++ (gap ++ mark ++ next ++ rest))
  marked out mid gapped new text gap next rest h1 h2 h3 = rw (h3, h2, h1) (simp append_assoc)

  -- the last guard has no mark after it
  pub last_guard : (i : ℕ) (x : X) (out mid : Text) → i < length xs → length xs ≤ i + 1 → x ≡ get_or xs i x → mid ≡ out ++ guard_text (f x) → mid ++ guards_from (i + 1) ≡ out ++ guards_from i
  last_guard i x out mid lt last item put =
      let none : drop (i + 1) xs ≡ [] = drop_all (i + 1) xs last in
      let here : drop i xs ≡ x ∷ [] = drop_more xs i x lt ∙ ap₂ (λ (y : X) (ys : List X). y ∷ ys) (sym item) none in
      ap (λ (ys : List X). mid ++ guards_text mark (guards_of (map f ys))) none
      ∙ one_more out mid (guard_text (f x)) [] put
      ∙ ap (λ (ys : List X). out ++ guards_text mark (guards_of (map f ys))) (sym here)

  -- any other has one
  pub next_guard : (i : ℕ) (x : X) (out mid gapped new : Text) → i + 1 < length xs → x ≡ get_or xs i x → mid ≡ out ++ guard_text (f x)
      → gapped ≡ mid ++ guard_gap (f x) → new ≡ gapped ++ mark → new ++ guards_from (i + 1) ≡ out ++ guards_from i
  next_guard i x out mid gapped new lt item h1 h2 h3 =
      let y : X = get_or xs (i + 1) x in
      let ys : List X = drop (i + 1 + 1) xs in
      let later : drop (i + 1) xs ≡ y ∷ ys = drop_more xs (i + 1) x lt in
      let here : drop i xs ≡ x ∷ (y ∷ ys) = drop_more xs i x (omega (arith, lt)) ∙ ap₂ (λ (z : X) (zs : List X). z ∷ zs) (sym item) later in
      ap (λ (zs : List X). new ++ guards_text mark (guards_of (map f zs))) later
      ∙ marked out mid gapped new (guard_text (f x)) (guard_gap (f x)) (guard_text (f y)) (rest_text mark (f y) (guards_of (map f ys))) h1 h2 h3
      ∙ ap (λ (zs : List X). out ++ guards_text mark (guards_of (map f zs))) (sym here)

  pub no_guards : (i : ℕ) → length xs ≤ i → guards_from i ≡ []
  no_guards i past = ap (λ (ys : List X). guards_text mark (guards_of (map f ys))) (drop_all i xs past)

-- the bracket after the last guard
pub list_closed : {A E : Type 0} (r : Result A E) (start first out new left whole : Text) → OnOk r (new ≡ out ++ codes ")") → first ≡ start ++ codes "(" → left ≡ [] → out ++ left ≡ first ++ whole
    → OnOk r (new ≡ start ++ (codes "(" ++ whole ++ codes ")"))
list_closed r start first out new left whole closed put none all =
    let put_all : out ≡ start ++ codes "(" ++ whole = sym (append-nil out) ∙ ap (λ (t : Text). out ++ t) (sym none) ∙ all ∙ ap (λ (t : Text). t ++ whole) put in
    OnOk-is r new (out ++ codes ")") (start ++ (codes "(" ++ whole ++ codes ")")) closed (ap (λ (t : Text). t ++ codes ")") put_all ∙ list_parts start (codes "(") whole (codes ")"))
  where
    list_parts : (a b c d : Text) → a ++ b ++ c ++ d ≡ a ++ (b ++ c ++ d)
    list_parts a b c d = simp append_assoc

-- one more `!`: its bracket is open, and closes before those of the earlier ones
pub negation_inside : (out new inner : Text) (count : ℕ) → new ≡ out ++ codes "(!" → new ++ (inner ++ replicate (count + 1) 41) ≡ out ++ ((codes "(!" ++ inner ++ codes ")") ++ replicate count 41)
negation_inside out new inner count put = rw (put, add-one) (simp append_assoc)

-- the inmost guard, and the brackets that close after it
pub closed_put : {A E : Type 0} (r : Result A E) (start out mid new text whole : Text) (count : ℕ) → OnOk r (new ≡ mid ++ replicate count 41) → mid ≡ out ++ text → out ++ (text ++ replicate count 41) ≡ start ++ whole → OnOk r (new ≡ start ++ whole)
closed_put r start out mid new text whole count closed put all =
    OnOk-is r new (mid ++ replicate count 41) (start ++ whole) closed (ap (λ (t : Text). t ++ replicate count 41) put ∙ append_assoc out text (replicate count 41) ∙ all)
