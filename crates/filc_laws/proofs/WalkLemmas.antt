-- Where a netlist has no loop, what holds of a port wherever it holds of all that the port reads holds of each port: a walk along reads
-- never comes back, and there are no more ports than the netlist has.
use Rattle.std.proofs.Common.{◌≡◌, ℕ, zero, suc, ◌+◌, ◌≤◌, ◌⊎◌, inl, inr, List, [], ◌∷◌, ◌++◌, length, refl, sym, ap, ◌∙◌, subst, arith}
use Rattle.std.proofs.lemmas.List.{length-append}
use Rattle.hw_graph.proofs.MemberLemmas.{In, in_at, in_of, contains_of, in_append, in_map}
use Rattle.hw_names.proofs.NameLemmas.{Contains-cases}
use Rattle.hw_names.specs.Name.{Text}
use Rattle.net_core.specs.Graph.{ReadsPort, ReadsAlong, HasNoTwice, IsLoop, HasNoLoop}
use Rattle.net_core.specs.Netlist.{Netlist}
use Rattle.net_core.specs.Rules.{PortLine, ports_of, IsValid}
use Rattle.net_sim.proofs.NoLoopLemmas.{read_number}
use Rattle.net_sim.specs.Layout.{port_names}

-- ---- lists of distinct texts

-- no text occurs twice, by recursion
abbrev Distinct : List Text → Type 0
Distinct [] = Unit {0}
Distinct (x ∷ xs) = (In xs x → ⊥) × Distinct xs

distinct_push : (xs : List Text) (p : Text) → Distinct xs → (In xs p → ⊥) → Distinct (xs ++ p ∷ [])
distinct_push [] p d new = ((λ none. none), tt)
distinct_push (x ∷ xs) p d new =
    let other : In (xs ++ p ∷ []) x → ⊥ = λ has. elim (in_append xs (p ∷ []) x has) [ inl there ↦ d.0 there | inr last ↦ elim last [ inl same ↦ new (inl (sym same)) | inr none ↦ none ] ] in
    (other, distinct_push xs p d.1 (λ has. new (inr has)))

distinct_rest : (before rest : List Text) → Distinct (before ++ rest) → Distinct rest
distinct_rest [] rest d = d
distinct_rest (x ∷ before) rest d = distinct_rest before rest d.1

no_twice : (xs : List Text) → Distinct xs → HasNoTwice xs
no_twice [] d i j p at_i at_j = absurd cc
no_twice (x ∷ xs) d zero zero p at_i at_j = refl
no_twice (x ∷ xs) d zero (suc j) p at_i at_j = let same : x ≡ p = cc in absurd (d.0 (subst (In xs) (sym same) (in_at xs j p at_j)))
no_twice (x ∷ xs) d (suc i) zero p at_i at_j = let same : x ≡ p = cc in absurd (d.0 (subst (In xs) (sym same) (in_at xs i p at_i)))
no_twice (x ∷ xs) d (suc i) (suc j) p at_i at_j = ap suc (no_twice xs d.1 i j p at_i at_j)

-- the others, where one element is taken away
without : (xs : List Text) (x : Text) → In xs x → (rest : List Text) × (length xs ≡ suc (length rest)) × ((y : Text) → In xs y → (y ≡ x → ⊥) → In rest y)
without [] x has = absurd has
without (z ∷ xs) x (inl same) = (xs, refl, λ y has other. elim has [ inl here ↦ absurd (other (sym here ∙ same)) | inr there ↦ there ])
without (z ∷ xs) x (inr has) =
    let r = without xs x has in
    (z ∷ r.0, ap suc r.1, λ y has other. elim has [ inl here ↦ inl here | inr there ↦ inr (r.2 y there other) ])

-- distinct texts of a list are no more than it has
at_most : (xs ports : List Text) → Distinct xs → ((x : Text) → In xs x → In ports x) → length xs ≤ length ports
at_most [] ports d within = omega arith
at_most (x ∷ xs) ports d within =
    let r = without ports x (within x (inl refl)) in
    let few = at_most xs r.0 d.1 (λ y has. r.2 y (within y (inr has)) (λ same. d.0 (subst (In xs) same has))) in
    omega (arith, few, r.1)

is_in : (xs : List Text) (q : Text) → In xs q ⊎ (In xs q → ⊥)
is_in xs q = elim (Contains-cases xs q) [ inl has ↦ inl (in_of xs q has) | inr none ↦ inr (λ has. none (contains_of xs q has)) ]

split_at : (xs : List Text) (q : Text) → In xs q → (before : List Text) × (after : List Text) × (xs ≡ before ++ q ∷ after)
split_at [] q has = absurd has
split_at (x ∷ xs) q (inl same) = ([], xs, ap (λ (y : Text). y ∷ xs) same)
split_at (x ∷ xs) q (inr has) = let r = split_at xs q has in (x ∷ r.0, r.1, ap (λ (ys : List Text). x ∷ ys) r.2)

-- ---- walks

module _ (n : Netlist) where
  along_push : (path : List Text) (p q : Text) → ReadsAlong n path p → ReadsPort n p q → ReadsAlong n (path ++ p ∷ []) q
  along_push [] p q along reads = reads
  along_push (x ∷ []) p q along reads = (along, reads)
  along_push (x ∷ y ∷ path) p q along reads = (along.0, along_push (y ∷ path) p q along.1 reads)

  along_rest : (before : List Text) (q : Text) (after : List Text) (back : Text) → ReadsAlong n (before ++ q ∷ after) back → ReadsAlong n (q ∷ after) back
  along_rest [] q after back along = along
  along_rest (x ∷ []) q after back along = along.1
  along_rest (x ∷ y ∷ before) q after back along = along_rest (y ∷ before) q after back along.1

  -- a walk that comes back has a loop
  loop_of : (path : List Text) (q : Text) → ReadsAlong n path q → Distinct path → In path q → (others : List Text) × IsLoop n q others
  loop_of path q along distinct has =
      let parts = split_at path q has in
      let whole = subst (λ (x : List Text). ReadsAlong n x q) parts.2 along in
      let apart = subst Distinct parts.2 distinct in
      (parts.1, record { along = along_rest parts.0 q parts.1 q whole; distinct = no_twice (q ∷ parts.1) (distinct_rest parts.0 (q ∷ parts.1) apart) })

module _ (n : Netlist) (valid : IsValid n) (no_loop : HasNoLoop n) (P : Text → Type 0) (step : (p : Text) → In (port_names n) p → ((q : Text) → ReadsPort n p q → P q) → P p) where
  -- what is read is a port
  read_there : (p q : Text) → ReadsPort n p q → In (port_names n) q
  read_there p q reads =
      let number = read_number n valid p q reads in
      subst (In (port_names n)) number.1.2 (in_map (λ (line : PortLine). line.name) (ports_of n) number.1.0 (in_at (ports_of n) number.0 number.1.0 number.1.1))

  walk : (fuel : ℕ) (path : List Text) (p : Text) → In (port_names n) p → ReadsAlong n path p → Distinct path → (In path p → ⊥) → ((x : Text) → In path x → In (port_names n) x) → length (port_names n) ≤ fuel + length path → P p
  walk zero path p has along distinct new within enough =
      let longer = at_most (path ++ p ∷ []) (port_names n) (distinct_push path p distinct new)
      (λ x there. elim (in_append path (p ∷ []) x there) [ inl early ↦ within x early | inr last ↦ elim last [ inl same ↦ subst (In (port_names n)) same has | inr none ↦ absurd none ] ]) in
      absurd (omega (arith, longer, enough, length-append path (p ∷ [])))
  walk (suc fuel) path p has along distinct new within enough = step p has (λ q reads. elim (is_in (path ++ p ∷ []) q) [
    | inl back ↦ let loop = loop_of n (path ++ p ∷ []) q (along_push n path p q along reads) (distinct_push path p distinct new) back in absurd (no_loop q loop.0 loop.1)
    | inr fresh ↦ walk fuel (path ++ p ∷ []) q (read_there p q reads) (along_push n path p q along reads) (distinct_push path p distinct new) fresh
        (λ x there. elim (in_append path (p ∷ []) x there) [ inl early ↦ within x early | inr last ↦ elim last [ inl same ↦ subst (In (port_names n)) same has | inr none ↦ absurd none ] ])
        (omega (arith, enough, length-append path (p ∷ [])))
  ])

  pub along_reads : (p : Text) → In (port_names n) p → P p
  along_reads p has = walk (length (port_names n)) [] p has tt tt (λ none. none) (λ x none. absurd none) (omega arith)
