-- A port of a netlist that reads itself, at once or through others, lies on a loop of distinct ports.
use Rattle.std.proofs.Common.{◌≡◌, ◌⊎◌, inl, inr, ℕ, zero, suc, ◌<◌, List, [], ◌∷◌, ◌++◌, length, length-append, Bool, true, false, Some, refl, sym, ap, ◌∙◌, arith, subst}
use Rattle.std.specs.Prelude.{bytes_eq}
use Rattle.std.proofs.lemmas.Slice.Eq.{bytes_eq-Decides}
use Rattle.hw_graph.proofs.MemberLemmas.{In, in_at}
use Rattle.hw_names.specs.Name.{Text}
use Rattle.net_core.specs.Graph.{ReadsPort, ReadsAlong, HasNoTwice, HasNoLoop}
use Rattle.net_core.specs.Netlist.{Netlist}
use Rattle.net_runs.proofs.SettlingLemmas.{Reaches, AtOnce, Over}

-- a text stands in a list, after some and before others, or not at all
splits : (x : Text) (xs : List Text) → ((before : List Text) × (after : List Text) × (xs ≡ before ++ x ∷ after)) ⊎ (In xs x → ⊥)
splits x [] = inr (λ none. none)
splits x (y ∷ xs) = by (bytes_eq y x) refl (splits x xs)
  where
    by : (b : Bool) → bytes_eq y x ≡ b → ((before : List Text) × (after : List Text) × (xs ≡ before ++ x ∷ after)) ⊎ (In xs x → ⊥)
        → ((before : List Text) × (after : List Text) × (y ∷ xs ≡ before ++ x ∷ after)) ⊎ (In (y ∷ xs) x → ⊥)
    by true e later = inl ([], xs, ap (λ (z : Text). z ∷ xs) ((bytes_eq-Decides y x).0 e))
    by false e (inl there) = inl (y ∷ there.0, there.1, ap (λ (l : List Text). y ∷ l) there.2)
    by false e (inr none) = inr (λ has. elim has [
      | inl same ↦ let is = (bytes_eq-Decides y x).1 same in let bad : true ≡ false = sym is ∙ e in cc
      | inr later ↦ none later
    ])

-- no text stands in a list twice, or one does
record HasTwice (xs : List Text) : Type 0 where
  before : List Text
  twice : Text
  between : List Text
  after : List Text
  are : xs ≡ before ++ twice ∷ (between ++ twice ∷ after)

once_more : (x : Text) (xs : List Text) → (In xs x → ⊥) → HasNoTwice xs → HasNoTwice (x ∷ xs)
once_more x xs new once zero zero p at at' = refl
once_more x xs new once zero (suc j) p at at' = absurd (new (in_at xs j x (let e : p ≡ x = cc in at' ∙ ap Some e)))
once_more x xs new once (suc i) zero p at at' = absurd (new (in_at xs i x (let e : p ≡ x = cc in at ∙ ap Some e)))
once_more x xs new once (suc i) (suc j) p at at' = ap suc (once i j p at at')

twice_or_not : (xs : List Text) → HasTwice xs ⊎ HasNoTwice xs
twice_or_not [] = inr (λ i j p at at'. cc)
twice_or_not (x ∷ xs) = elim (splits x xs) [
  | inl there ↦ inl (record { before = []; twice = x; between = there.0; after = there.1; are = ap (λ (l : List Text). x ∷ l) there.2 })
  | inr new ↦ elim (twice_or_not xs) [
    | inl t ↦ inl (record { before = x ∷ t.before; twice = t.twice; between = t.between; after = t.after; are = ap (λ (l : List Text). x ∷ l) t.are })
    | inr once ↦ inr (once_more x xs new once)
  ]
]

module _ (n : Netlist) (no_loop : HasNoLoop n) where
  -- reads along a list go on from each of its ports
  along_rest : (before : List Text) (x : Text) (after : List Text) (back : Text) → ReadsAlong n (before ++ x ∷ after) back → ReadsAlong n (x ∷ after) back
  along_rest [] x after back along = along
  along_rest (y ∷ []) x after back along = along.1
  along_rest (y ∷ z ∷ before) x after back along = along_rest (z ∷ before) x after back along.1

  -- and come to each of them
  along_to : (x : Text) (before : List Text) (y : Text) (after : List Text) (back : Text) → ReadsAlong n (x ∷ (before ++ y ∷ after)) back → ReadsAlong n (x ∷ before) y
  along_to x [] y after back along = along.0
  along_to x (z ∷ before) y after back along = (along.0, along_to z before y after back along.1)

  -- no list of reads comes back
  never_back : (size : ℕ) (first : Text) (others : List Text) → length others < size → ReadsAlong n (first ∷ others) first → ⊥
  never_back zero first others short along = absurd (omega (arith, short))
  never_back (suc size) first others short along = elim (twice_or_not (first ∷ others)) [
    | inr once ↦ no_loop first others (record { along = along; distinct = once })
    | inl t ↦
        let whole = subst (λ (l : List Text). ReadsAlong n l first) t.are along in
        let inner = along_to t.twice t.between t.twice t.after first (along_rest t.before t.twice (t.between ++ t.twice ∷ t.after) first whole) in
        never_back size t.twice t.between (omega (arith, short, ap length t.are, length-append t.before (t.twice ∷ (t.between ++ t.twice ∷ t.after)), length-append t.between (t.twice ∷ t.after))) inner
  ]

  -- what is reached is reached along a list
  path_of : (x y : Text) → Reaches (ReadsPort n) x y → (others : List Text) × ReadsAlong n (x ∷ others) y
  path_of x y (AtOnce p q reads) = ([], reads)
  path_of x y (Over p between q reads rest) = let r = path_of between q rest in (between ∷ r.0, (reads, r.1))

  pub never_reaches_itself : (x : Text) → Reaches (ReadsPort n) x x → ⊥
  never_reaches_itself x loop = let r = path_of x x loop in never_back (suc (length r.0)) x r.0 (omega arith) r.1
