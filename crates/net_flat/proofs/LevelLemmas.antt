-- The levels of a design's instances hold each instance once.
use Rattle.std.proofs.Common.{◌≡◌, ◌≢◌, ℕ, zero, suc, ◌+◌, ◌<◌, List, [], ◌∷◌, ◌++◌, length, AllPairs, Contains, Option, Some, None, option_and_then, option_map, refl, sym, ap, ap₂, subst, ◌∙◌, inl, inr, ◌⊎◌, append_assoc, arith}
use Rattle.std.specs.List.{cons_option}
use Rattle.std.proofs.lemmas.List.{append-nil}
use Rattle.std.proofs.lemmas.List.Elements.{All-contains, All-nil, Contains-append_left, Contains-append_right, Contains-append_cases}
use Rattle.std.proofs.lemmas.List.Kept.{AllPairs-cons}
use Rattle.hw_names.specs.Name.{Text, Path}
use Rattle.cal_ast.proofs.ListLemmas.{Contains-here, Contains-there, Contains-map, Contains-none, Contains-cases_first, Contains-flat_map, Contains-from_flat_map, Contains-from_map}
use Rattle.cal_ast.proofs.InstanceLemmas.{component_at-below}
use Rattle.net_flat.proofs.KeptLemmas.{distinct_cells}
use Rattle.cal_ast.proofs.LookupLemmas.{cell_named-Some, cell_named-itself, part_in-Some, part_in-design}
use Rattle.cal_ast.specs.Instances.{component_at}
use Rattle.cal_ast.specs.Naming.{Unreserved}
use Rattle.cal_ast.specs.Ports.{part_in, part_of}
use Rattle.cal_ast.specs.Rules.{KeepsRules}
use Rattle.cal_ast.specs.Tree.{CellDef, Component, Design}
use Rattle.net_flat.specs.inside.Levels.{Part, below, children, level, levels, parts_in}
use Rattle.net_flat.specs.Listing.{Instance}
use Rattle.net_flat.proofs.ListFacts.{AllPairs-append, AllPairs-flat_map, AllPairs-head, AllPairs-tail, AllPairs-map, AllPairs-none, All-from_Contains, length_last, same_before_last}

abbrev Apart : Instance → Instance → Type 0
Apart i j = i.0 ≢ j.0

-- the paths of a level have its length
pub length_in_level : (design : Design) (top : Component) (n : ℕ) (i : Instance) → Contains (level design top n) i → length i.0 ≡ n
length_in_level design top zero i there = by (Contains-cases_first ([], top) [] i there)
  where
    by : (([], top) ≡ i) ⊎ Contains [] i → length i.0 ≡ 0
    by (inl e) = ap (λ (j : Instance). length j.0) (sym e)
    by (inr h) = absurd (Contains-none i h)
length_in_level design top (suc n) i there =
    let found = Contains-from_flat_map (children design) (level design top n) i there in
    let part = Contains-from_map (below found.0.0) (parts_in design found.0.1.cells) i found.2 in
    ap (λ (j : Instance). length j.0) (sym part.2) ∙ length_last found.0.0 part.0.0 ∙ ap suc (length_in_level design top n found.0 found.1)

-- those of the levels before one are shorter
pub length_in_levels : (design : Design) (top : Component) (n : ℕ) (i : Instance) → Contains (levels design top n) i → length i.0 < n
length_in_levels design top zero i there = absurd (Contains-none i there)
length_in_levels design top (suc n) i there = by (λ h. length_in_levels design top n i h) (Contains-append_cases (levels design top n) (level design top n) i there)
  where
    by : (Contains (levels design top n) i → length i.0 < n) → Contains (levels design top n) i ⊎ Contains (level design top n) i → length i.0 < suc n
    by before (inl h) = let short = before h in omega (arith, short)
    by before (inr h) = let same = length_in_level design top n i h in omega (arith, same)

last_or_before : (n m : ℕ) → n < suc m → (n ≡ m) ⊎ (n < m)
last_or_before zero zero h = inl refl
last_or_before zero (suc m) h = inr (omega arith)
last_or_before (suc n) zero h = absurd (omega (arith, h))
last_or_before (suc n) (suc m) h = lifted (last_or_before n m (omega (arith, h)))
  where
    lifted : (n ≡ m) ⊎ (n < m) → (suc n ≡ suc m) ⊎ (suc n < suc m)
    lifted (inl e) = inl (ap suc e)
    lifted (inr before) = inr (omega (arith, before))

-- a level is among the levels before a later one
pub level_in_levels : (design : Design) (top : Component) (n m : ℕ) (i : Instance) → n < m → Contains (level design top n) i → Contains (levels design top m) i
level_in_levels design top n zero i lt there = absurd (omega (arith, lt))
level_in_levels design top n (suc m) i lt there = by (λ before. level_in_levels design top n m i before there) (last_or_before n m lt)
  where
    by : (n < m → Contains (levels design top m) i) → (n ≡ m) ⊎ (n < m) → Contains (levels design top (suc m)) i
    by rest (inl e) = Contains-append_right (levels design top m) (level design top m) i (subst (λ (k : ℕ). Contains (level design top k) i) e there)
    by rest (inr before) = Contains-append_left (levels design top m) (level design top m) i (rest before)

-- the levels begin with the top
pub levels_begin : (design : Design) (top : Component) (n : ℕ) → (others : List Instance) × (levels design top (suc n) ≡ ([], top) ∷ others)
levels_begin design top zero = ([], refl)
levels_begin design top (suc n) =
    let rest = levels_begin design top n in
    (rest.0 ++ level design top (suc n), ap (λ (is : List Instance). is ++ level design top (suc n)) rest.1)

-- the cell behind a part that is found by its name
pub part_cell : (design : Design) (c : Component) (name : Text) (part : Component) → part_in design c name ≡ Some part
    → (cell : CellDef) × Contains c.cells cell × (cell.name ≡ name) × (part_of design cell ≡ Some part)
part_cell design c name part e =
    let found = part_in-Some design c name part e in
    let named = cell_named-Some c.cells name found.0 found.1 in
    (found.0, named.0, named.1, found.2)

-- a cell of a component is among the parts
part_listed : (design : Design) (cells : List CellDef) (cell : CellDef) (part : Component) → Contains cells cell → part_of design cell ≡ Some part → Contains (parts_in design cells) (cell.name, part)
part_listed design [] cell part there e = absurd (Contains-none cell there)
part_listed design (d ∷ cells) cell part there e = by (λ h. part_listed design cells cell part h e) (Contains-cases_first d cells cell there)
  where
    later : (found : Option Component) → Contains (parts_in design cells) (cell.name, part) → Contains (cons_option (option_map (λ (p : Component). (d.name, p)) found) (parts_in design cells)) (cell.name, part)
    later None h = h
    later (Some p) h = Contains-there (d.name, p) (parts_in design cells) (cell.name, part) h

    here : (found : Option Component) → found ≡ Some part → d ≡ cell → Contains (cons_option (option_map (λ (p : Component). (d.name, p)) found) (parts_in design cells)) (cell.name, part)
    here None is same = cc
    here (Some p) is same =
        let q : p ≡ part = cc in
        let pair : (d.name, p) ≡ (cell.name, part) = ap₂ (λ (x : CellDef) (y : Component). let z : Part = (x.name, y) in z) same q in
        subst (λ (z : Part). Contains ((d.name, p) ∷ parts_in design cells) z) pair (Contains-here (d.name, p) (parts_in design cells))

    by : (Contains cells cell → Contains (parts_in design cells) (cell.name, part)) → (d ≡ cell) ⊎ Contains cells cell → Contains (parts_in design (d ∷ cells)) (cell.name, part)
    by rest (inl same) = here (part_of design d) (ap (part_of design) same ∙ e) same
    by rest (inr h) = later (part_of design d) (rest h)

-- a cell that makes this part
abbrev Makes : Design → List CellDef → Part → Type 0
Makes design cells p = (cell : CellDef) × Contains cells cell × (cell.name ≡ p.0) × (part_of design cell ≡ Some p.1)

-- the cell behind a part
from_parts : (design : Design) (cells : List CellDef) (p : Part) → Contains (parts_in design cells) p → Makes design cells p
from_parts design [] p there = absurd (Contains-none p there)
from_parts design (d ∷ cells) p there = by (λ later. from_parts design cells p later) (part_of design d) refl there
  where
    lift : Makes design cells p → Makes design (d ∷ cells) p
    lift r = (r.0, Contains-there d cells r.0 r.1, r.2, r.3)

    at : (Contains (parts_in design cells) p → Makes design cells p) → (part : Component) → part_of design d ≡ Some part → ((d.name, part) ≡ p) ⊎ Contains (parts_in design cells) p → Makes design (d ∷ cells) p
    at rest part is (inl e) = (d, Contains-here d cells, ap (λ (q : Part). q.0) e, is ∙ ap (λ (q : Part). Some q.1) e)
    at rest part is (inr h) = lift (rest h)

    by : (Contains (parts_in design cells) p → Makes design cells p) → (found : Option Component) → part_of design d ≡ found → Contains (cons_option (option_map (λ (q : Component). (d.name, q)) found) (parts_in design cells)) p → Makes design (d ∷ cells) p
    by rest None is h = lift (rest h)
    by rest (Some part) is h = at rest part is (Contains-cases_first (d.name, part) (parts_in design cells) p h)

abbrev NamesDiffer : CellDef → CellDef → Type 0
NamesDiffer a b = a.name ≢ b.name

abbrev PartsDiffer : Part → Part → Type 0
PartsDiffer p q = p.0 ≢ q.0

-- parts have distinct names where cells have
parts_once : (design : Design) (cells : List CellDef) → AllPairs NamesDiffer cells → AllPairs PartsDiffer (parts_in design cells)
parts_once design [] distinct = AllPairs-none PartsDiffer
parts_once design (d ∷ cells) distinct = by (parts_once design cells (AllPairs-tail NamesDiffer d cells distinct)) (part_of design d)
  where
    differ : (p : Part) → Contains (parts_in design cells) p → d.name ≢ p.0
    differ p there =
        let found = from_parts design cells p there in
        λ same. All-contains (λ (b : CellDef). d.name ≢ b.name) cells found.0 (AllPairs-head NamesDiffer d cells distinct) found.1 (same ∙ sym found.2)

    by : AllPairs PartsDiffer (parts_in design cells) → (found : Option Component) → AllPairs PartsDiffer (cons_option (option_map (λ (q : Component). (d.name, q)) found) (parts_in design cells))
    by rest None = rest
    by rest (Some part) = AllPairs-cons PartsDiffer (d.name, part) (parts_in design cells) (All-from_Contains (λ (q : Part). d.name ≢ q.0) (parts_in design cells) differ) rest

-- the instance stands at its path, and its component is one of the design
pub record Stands (design : Design) (top : Component) (i : Instance) : Type 0 where
  pub at : component_at design top i.0 ≡ Some i.1
  pub there : Contains design i.1

module _ (design : Design) (top : Component) (keeps : KeepsRules design) (has_top : Contains design top) where
  -- each instance of a level stands
  pub stands_in_level : (n : ℕ) (i : Instance) → Contains (level design top n) i → Stands design top i
  stands_in_level zero i there = by (Contains-cases_first ([], top) [] i there)
    where
      by : (([], top) ≡ i) ⊎ Contains [] i → Stands design top i
      by (inl e) = subst (Stands design top) e (record { at = refl; there = has_top })
      by (inr h) = absurd (Contains-none i h)
  stands_in_level (suc n) i there =
      let found = Contains-from_flat_map (children design) (level design top n) i there in
      let j = found.0 in
      let part = Contains-from_map (below j.0) (parts_in design j.1.cells) i found.2 in
      let p = part.0 in
      let cell = from_parts design j.1.cells p part.1 in
      let above = stands_in_level n j found.1 in
      let by_name : part_in design j.1 p.0 ≡ Some p.1 =
      ap (λ (name : Text). part_in design j.1 name) (sym cell.2) ∙ ap (option_and_then (part_of design)) (cell_named-itself Unreserved design keeps j.1 above.there cell.0 cell.1) ∙ cell.3 in
      subst (Stands design top) part.2
      (record {
        at = component_at-below design top j.0 j.1 p.0 above.at ∙ by_name;
        there = part_in-design design j.1 p.0 p.1 by_name;
      })

  pub stands_in_levels : (n : ℕ) (i : Instance) → Contains (levels design top n) i → Stands design top i
  stands_in_levels zero i there = absurd (Contains-none i there)
  stands_in_levels (suc n) i there = by (λ h. stands_in_levels n i h) (Contains-append_cases (levels design top n) (level design top n) i there)
    where
      by : (Contains (levels design top n) i → Stands design top i) → Contains (levels design top n) i ⊎ Contains (level design top n) i → Stands design top i
      by before (inl h) = before h
      by before (inr h) = stands_in_level n i h

  -- what stands below an instance of a level is in the level that is as much deeper
  found_below : (path : Path) (n : ℕ) (i : Instance) (c : Component) → Contains (level design top n) i → component_at design i.1 path ≡ Some c → Contains (level design top (n + length path)) (i.0 ++ path, c)
  found_below [] n i c there e =
      let same : i.1 ≡ c = cc in
      let deep : n ≡ n + 0 = omega arith in
      let pair : i ≡ (i.0 ++ [], c) = ap₂ (λ (p : Path) (d : Component). let j : Instance = (p, d) in j) (sym (append-nil i.0)) same in
      subst (λ (k : ℕ). Contains (level design top k) (i.0 ++ [], c)) deep (subst (Contains (level design top n)) pair there)
  found_below (cell ∷ path) n i c there e = by (λ part. found_below path (suc n) (i.0 ++ cell ∷ [], part) c) (part_in design i.1 cell) refl e
    where
      child : (part : Component) → part_in design i.1 cell ≡ Some part → Contains (level design top (suc n)) (i.0 ++ cell ∷ [], part)
      child part is =
          let found = part_cell design i.1 cell part is in
          let listed : Contains (parts_in design i.1.cells) (cell, part) = subst (λ (name : Text). Contains (parts_in design i.1.cells) (name, part)) found.2 (part_listed design i.1.cells found.0 part found.1 found.3) in
          Contains-flat_map (children design) (level design top n) i (i.0 ++ cell ∷ [], part) there (Contains-map (below i.0) (parts_in design i.1.cells) (cell, part) listed)

      by : ((part : Component) → Contains (level design top (suc n)) (i.0 ++ cell ∷ [], part) → component_at design part path ≡ Some c → Contains (level design top (suc n + length path)) ((i.0 ++ cell ∷ []) ++ path, c))
          → (found : Option Component) → part_in design i.1 cell ≡ found → option_and_then (λ part. component_at design part path) found ≡ Some c → Contains (level design top (n + length (cell ∷ path))) (i.0 ++ cell ∷ path, c)
      by rest None is under = cc
      by rest (Some part) is under =
          let deeper = rest part (child part is) under in
          let deep : suc n + length path ≡ n + length (cell ∷ path) = omega arith in
          let along : (i.0 ++ cell ∷ []) ++ path ≡ i.0 ++ cell ∷ path = append_assoc i.0 (cell ∷ []) path in
          subst (λ (k : ℕ). Contains (level design top k) (i.0 ++ cell ∷ path, c)) deep (subst (λ (p : Path). Contains (level design top (suc n + length path)) (p, c)) along deeper)

  -- each instance is in the level of its path's length
  pub found_in_level : (path : Path) (c : Component) → component_at design top path ≡ Some c → Contains (level design top (length path)) (path, c)
  found_in_level path c e =
      let found = found_below path 0 ([], top) c (Contains-here ([], top) []) e in
      let same : 0 + length path ≡ length path = omega arith in
      subst (λ (k : ℕ). Contains (level design top k) (path, c)) same found

  -- a level has each path once
  level_once : (n : ℕ) → AllPairs Apart (level design top n)
  level_once zero = AllPairs-cons Apart ([], top) [] (All-nil (Apart ([], top))) (AllPairs-none Apart)
  level_once (suc n) = AllPairs-flat_map (children design) Apart Apart (level design top n) (level_once n) each across
    where
      each : (j : Instance) → Contains (level design top n) j → AllPairs Apart (children design j)
      each j there =
          AllPairs-map (below j.0) Apart (parts_in design j.1.cells)
          (λ a b d lt within. λ same. parts_once design j.1.cells (distinct_cells design keeps j.1 (stands_in_level n j there).there) a b d lt within (same_before_last j.0 j.0 _ _ same).1)

      across : (a b y z : Instance) → Apart a b → Contains (children design a) y → Contains (children design b) z → Apart y z
      across a b y z apart at_a at_b =
          let p = Contains-from_map (below a.0) (parts_in design a.1.cells) y at_a in
          let q = Contains-from_map (below b.0) (parts_in design b.1.cells) z at_b in
          λ same. apart (same_before_last a.0 b.0 p.0.0 q.0.0 (ap (λ (i : Instance). i.0) p.2 ∙ same ∙ sym (ap (λ (i : Instance). i.0) q.2))).0

  -- and so have the levels before one
  pub levels_once : (n : ℕ) → AllPairs Apart (levels design top n)
  levels_once zero = AllPairs-none Apart
  levels_once (suc n) =
      AllPairs-append Apart (levels design top n) (level design top n) (levels_once n) (level_once n)
      (λ x y before here. λ same. let short = length_in_levels design top n x before in let long = length_in_level design top n y here in let e = ap length same in omega (arith, short, long, e))
