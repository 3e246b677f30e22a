-- The graph of components, from the entries of their cells.
use Rattle.std.proofs.Common.{◌≡◌, ◌↔◌, inl, inr, ℕ, zero, suc, ◌+◌, ◌<◌, List, [], ◌∷◌, ◌++◌, length, map, take, filter, get_or, slice_get, All, Contains, Vec, Option, Some, None, option_and_then, option_to_list, refl, sym, ap, ap₂, subst, ◌∙◌, append_assoc, append-nil, arith}
use Rattle.std.specs.declared.alloc.Global.{Global}
use Rattle.std.proofs.lemmas.Bool.{cases_lt}
use Rattle.std.proofs.lemmas.Bool.Decides.{Decides-eqb}
use Rattle.std.proofs.lemmas.List.{get_or_past, map-append, take_more}
use Rattle.std.proofs.lemmas.List.Concat.{flat_map-append}
use Rattle.std.proofs.lemmas.List.Elements.{Contains-get_or}
use Rattle.std.proofs.lemmas.Option.{get_or_from_slice_get, same_Some, slice_get_within}
use Rattle.hw_graph.proofs.MemberLemmas.{In, in_of, contains_of, in_left, in_right, in_append, in_map, from_map, in_filter, from_filter}
use Rattle.hw_graph.specs.Graph.{HasRead}
use Rattle.hw_graph.specs.Groups.{IsGathered, has_key, with_key}
use Rattle.hw_graph.specs.declared.groups.Entry.{Entry}
use Rattle.cal_ast.proofs.ListLemmas.{Contains-at, place_of}
use Rattle.cal_ast.specs.Tree.{Design}
use Rattle.cal_place.specs.inside.Entries.{entries_from, holder_read, part_in, part_read, parts_in}
use Rattle.cal_place.specs.Prototypes.{made_component}
use Rattle.cal_place.specs.Nesting.{HasPart}
use Rattle.cal_place.specs.Tables.{AreMade}
use Rattle.cal_place.specs.declared.prototype.Prototype.{Prototype}
use Rattle.cal_place.specs.declared.prototype.Prototype.TheVariants as variant
use Rattle.cal_place.proofs.NestLemmas.{cell_from_part, part_from_cell}

-- what stands at a place within a list
pub exists_at : {X : Type 0} (xs : List X) (k : ℕ) → k < length xs → (x : X) × (slice_get xs k ≡ Some x)
exists_at [] k within = absurd (omega arith)
exists_at (x ∷ xs) zero within = (x, refl)
exists_at (x ∷ xs) (suc k) within = exists_at xs k (omega arith)

-- ---- the parts among what cells are made of

component_is : (o : Option Prototype) (m : ℕ) → option_and_then made_component o ≡ Some m → o ≡ Some (variant.Component m)
component_is None m e = absurd (cc)
component_is (Some (variant.Primitive prim)) m e = absurd (cc)
component_is (Some (variant.Component k)) m e = let same : k ≡ m = cc in ap (λ n. Some (variant.Component n)) same

listed : (o : Option Prototype) (m : ℕ) → In (option_to_list (option_and_then made_component o)) m → o ≡ Some (variant.Component m)
listed None m has = absurd has
listed (Some (variant.Primitive prim)) m has = absurd has
listed (Some (variant.Component k)) m (inl e) = ap (λ n. Some (variant.Component n)) e
listed (Some (variant.Component k)) m (inr none) = absurd none

part_of_cells : (cells : List (Option Prototype)) (m : ℕ) → In (parts_in cells) m → (j : ℕ) × (slice_get cells j ≡ Some (Some (variant.Component m)))
part_of_cells [] m has = absurd has
part_of_cells (c ∷ cells) m has =
    elim (in_append (option_to_list (option_and_then made_component c)) (parts_in cells) m has) [
      | inl here ↦ (0, ap Some (listed c m here))
      | inr later ↦ (let r = part_of_cells cells m later in (suc r.0, r.1))
    ]

cells_part : (cells : List (Option Prototype)) (j m : ℕ) → slice_get cells j ≡ Some (Some (variant.Component m)) → In (parts_in cells) m
cells_part [] j m at = absurd (cc)
cells_part (c ∷ cells) zero m at =
    let same : c ≡ Some (variant.Component m) = same_Some c (Some (variant.Component m)) at in
    let P : Option Prototype → Type 0 = λ o. In (option_to_list (option_and_then made_component o)) m in
    in_left (option_to_list (option_and_then made_component c)) (parts_in cells) m (subst P (sym same) (inl refl))
cells_part (c ∷ cells) (suc j) m at =
    in_right (option_to_list (option_and_then made_component c)) (parts_in cells) m (cells_part cells j m at)

-- ---- entries

module _ (entry : ℕ → ℕ → Entry) where
  pub entry_of : (n : ℕ) (made : List (Vec (Option Prototype) Global)) (e : Entry) → In (entries_from entry n made) e
      → (k : ℕ) × (cells : Vec (Option Prototype) Global) × (slice_get made k ≡ Some cells) × (part : ℕ) × In (parts_in cells.items) part × (e ≡ entry (n + k) part)
  entry_of n [] e has = absurd has
  entry_of n (cells ∷ made) e has =
      elim (in_append (map (entry n) (parts_in cells.items)) (entries_from entry (n + 1) made) e has) [
        | inl here ↦
            let m = from_map (entry n) (parts_in cells.items) e here in
            let on : n ≡ n + 0 = omega arith in
            (0, cells, refl, m.0, m.1, sym m.2 ∙ ap (λ i. entry i m.0) on)
        | inr later ↦
            let r = entry_of (n + 1) made e later in
            let on : n + 1 + r.0 ≡ n + suc r.0 = omega arith in
            (suc r.0, r.1, r.2, r.3, r.4, r.5 ∙ ap (λ i. entry i r.3) on)
      ]

  pub has_entry : (n : ℕ) (made : List (Vec (Option Prototype) Global)) (k part : ℕ) (cells : Vec (Option Prototype) Global) → slice_get made k ≡ Some cells → In (parts_in cells.items) part → In (entries_from entry n made) (entry (n + k) part)
  has_entry n [] k part cells at has = absurd (cc)
  has_entry n (c ∷ made) zero part cells at has =
      let same : c ≡ cells = same_Some c cells at in
      let on : n ≡ n + 0 = omega arith in
      let P : Vec (Option Prototype) Global → Type 0 = λ v. In (parts_in v.items) part in
      let here : In (map (entry n) (parts_in c.items)) (entry n part) = in_map (entry n) (parts_in c.items) part (subst P (sym same) has) in
      in_left (map (entry n) (parts_in c.items)) (entries_from entry (n + 1) made) (entry (n + 0) part)
      (subst (λ i. In (map (entry n) (parts_in c.items)) (entry i part)) on here)
  has_entry n (c ∷ made) (suc k) part cells at has =
      let on : n + 1 + k ≡ n + suc k = omega arith in
      in_right (map (entry n) (parts_in c.items)) (entries_from entry (n + 1) made) (entry (n + suc k) part)
      (subst (λ i. In (entries_from entry (n + 1) made) (entry i part)) on (has_entry (n + 1) made k part cells at has))

  pub entries_push : (n : ℕ) (made : List (Vec (Option Prototype) Global)) (cells : Vec (Option Prototype) Global) → entries_from entry n (made ++ cells ∷ []) ≡ entries_from entry n made ++ map (entry (n + length made)) (parts_in cells.items)
  entries_push n [] cells =
      let on : n ≡ n + 0 = omega arith in
      append-nil (map (entry n) (parts_in cells.items)) ∙ ap (λ i. map (entry i) (parts_in cells.items)) on
  entries_push n (c ∷ made) cells =
      let on : n + 1 + length made ≡ n + length (c ∷ made) = omega arith in
      ap (λ l. map (entry n) (parts_in c.items) ++ l) (entries_push (n + 1) made cells ∙ ap (λ i. entries_from entry (n + 1) made ++ map (entry i) (parts_in cells.items)) on)
      ∙ sym (append_assoc (map (entry n) (parts_in c.items)) (entries_from entry (n + 1) made) (map (entry (n + length (c ∷ made))) (parts_in cells.items)))

-- one more cell in a loop over cells
pub entries_step : (entry : ℕ → Entry) (cells : List (Option Prototype)) (k : ℕ) (cell : Option Prototype) (start old new : List Entry) → k < length cells → cell ≡ get_or cells k cell
    → old ≡ start ++ map entry (parts_in (take k cells)) → new ≡ old ++ map entry (part_in cell) → new ≡ start ++ map entry (parts_in (take (k + 1) cells))
entries_step entry cells k cell start old new within is so_far put =
    let front = parts_in (take k cells) in
    let longer : parts_in (take (k + 1) cells) ≡ front ++ part_in cell =
    ap parts_in (take_more cells k cell within ∙ ap (λ c. take k cells ++ c ∷ []) (sym is)) ∙ flat_map-append part_in (take k cells) (cell ∷ [])
    ∙ ap (λ ps. front ++ ps) (append-nil (part_in cell)) in
    put ∙ ap (λ es. es ++ map entry (part_in cell)) so_far ∙ append_assoc start (map entry front) (map entry (part_in cell))
    ∙ ap (λ es. start ++ es) (sym (map-append entry front (part_in cell)) ∙ ap (map entry) (sym longer))

-- ---- groups of entries

module _ (entries : List Entry) (count : ℕ) (groups : List (List ℕ)) (gathered : IsGathered entries count groups) where
  pub read_entry : (key value : ℕ) → HasRead groups key value → In entries (record { key = key; value = value })
  read_entry key value has =
      elim (cases_lt key (length groups)) [
        | inl within ↦
            let below : key < count = omega (arith, within, gathered.all) in
            let is : get_or groups key [] ≡ with_key key entries = get_or_from_slice_get groups key (with_key key entries) [] (gathered.each key below) in
            let there = subst (λ (l : List ℕ). Contains l value) is has in
            let m = from_map (λ (e : Entry). e.value) (filter (has_key key) entries) value (in_of (with_key key entries) value there) in
            let f = from_filter (has_key key) entries m.0 m.1 in
            let at_key : (m.0).key ≡ key = (Decides-eqb (m.0).key key).0 f.1 in
            let same : m.0 ≡ record { key = key; value = value } = same_entry m.0 key value at_key m.2 in
            subst (In entries) same f.0
        | inr past ↦ (let none : get_or groups key [] ≡ [] = get_or_past groups key [] past in absurd (omega (arith, has.1, ap length none)))
      ]
    where
      same_entry : (e : Entry) (k v : ℕ) → e.key ≡ k → e.value ≡ v → e ≡ record { key = k; value = v }
      same_entry e k v p q = let make : ℕ → ℕ → Entry = λ a b. record { key = a; value = b } in ap₂ make p q

  pub entry_read : (key value : ℕ) → key < count → In entries (record { key = key; value = value }) → HasRead groups key value
  entry_read key value below has =
      let e : Entry = record { key = key; value = value } in
      let is : get_or groups key [] ≡ with_key key entries = get_or_from_slice_get groups key (with_key key entries) [] (gathered.each key below) in
      let kept : In (filter (has_key key) entries) e = in_filter (has_key key) entries e has ((Decides-eqb key key).1 refl) in
      let there : In (with_key key entries) value = in_map (λ (x : Entry). x.value) (filter (has_key key) entries) e kept in
      subst (λ (l : List ℕ). Contains l value) (sym is) (contains_of (with_key key entries) value there)

-- what holds of each element holds by place
pub All-from_In : {X : Type 0} (P : X → Type 0) (xs : List X) → ((x : X) → In xs x → P x) → All P xs
All-from_In P xs each k d within = each (get_or xs k d) (in_of xs (get_or xs k d) (Contains-get_or xs k d within))

-- ---- parts

module _ (design : Design) (made : List (Vec (Option Prototype) Global)) (are : AreMade design made) where
  pub part_at : (n m : ℕ) (cells : Vec (Option Prototype) Global) → slice_get made n ≡ Some cells → In (parts_in cells.items) m → HasPart design n m
  part_at n m cells at has =
      let j = part_of_cells cells.items m has in
      let in_design : n < length design = omega (arith, slice_get_within made n cells at, are.sized) in
      let c = exists_at design n in_design in
      let are_cells = are.each n c.0 cells c.1 at in
      let in_cells : j.0 < length c.0.cells = omega (arith, slice_get_within cells.items j.0 (Some (variant.Component m)) j.1, are_cells.sized) in
      let cell = exists_at c.0.cells j.0 in_cells in
      part_from_cell design n m c.0 c.1 cell.0 (Contains-at c.0.cells j.0 cell.0 cell.1) (are_cells.each j.0 cell.0 (Some (variant.Component m)) cell.1 j.1)

  pub cells_at : (n m : ℕ) → HasPart design n m → (cells : Vec (Option Prototype) Global) × (slice_get made n ≡ Some cells) × In (parts_in cells.items) m
  cells_at n m part =
      let in_made : n < length made = omega (arith, slice_get_within design n part.c part.at, are.sized) in
      let cells = exists_at made n in_made in
      let are_cells = are.each n part.c cells.0 part.at cells.1 in
      let j = place_of part.c.cells part.cell part.has in
      let in_cells : j.0 < length cells.0.items = omega (arith, slice_get_within part.c.cells j.0 part.cell j.1, are_cells.sized) in
      let o = exists_at cells.0.items j.0 in_cells in
      let is = component_is o.0 m (cell_from_part design n m part.c part.at part o.0 (are_cells.each j.0 part.cell o.0 j.1 o.1)) in
      (cells.0, cells.1, cells_part cells.0.items j.0 m (o.1 ∙ ap Some is))

  module _ (count : ℕ) (groups : List (List ℕ)) (whole : count ≡ length design) where
    -- the graph of parts
    pub reads_parts : IsGathered (entries_from part_read 0 made) count groups → (n m : ℕ) → HasRead groups n m ↔ HasPart design n m
    reads_parts gathered n m = (to, from)
      where
        to : HasRead groups n m → HasPart design n m
        to has =
            let r = entry_of part_read 0 made (record { key = n; value = m }) (read_entry (entries_from part_read 0 made) count groups gathered n m has) in
            let e : part_read n m ≡ part_read (0 + r.0) r.3 = r.5 in
            let at : r.0 ≡ n = omega (arith, ap (λ (x : Entry). x.key) e) in
            let is : r.3 ≡ m = sym (ap (λ (x : Entry). x.value) e) in
            subst (HasPart design n) is (subst (λ k. HasPart design k r.3) at (part_at r.0 r.3 r.1 r.2 r.4))

        from : HasPart design n m → HasRead groups n m
        from part =
            let r = cells_at n m part in
            let below : n < count = omega (arith, whole, slice_get_within design n part.c part.at) in
            let on : 0 + n ≡ n = omega arith in
            entry_read (entries_from part_read 0 made) count groups gathered n m below
            (subst (λ k. In (entries_from part_read 0 made) (part_read k m)) on (has_entry part_read 0 made n m r.0 r.1 r.2))

    -- the graph of holders
    pub reads_holders : IsGathered (entries_from holder_read 0 made) count groups → (n m : ℕ) → HasRead groups m n ↔ HasPart design n m
    reads_holders gathered n m = (to, from)
      where
        to : HasRead groups m n → HasPart design n m
        to has =
            let r = entry_of holder_read 0 made (record { key = m; value = n }) (read_entry (entries_from holder_read 0 made) count groups gathered m n has) in
            let e : holder_read n m ≡ holder_read (0 + r.0) r.3 = r.5 in
            let at : r.0 ≡ n = omega (arith, ap (λ (x : Entry). x.value) e) in
            let is : r.3 ≡ m = sym (ap (λ (x : Entry). x.key) e) in
            subst (HasPart design n) is (subst (λ k. HasPart design k r.3) at (part_at r.0 r.3 r.1 r.2 r.4))

        from : HasPart design n m → HasRead groups m n
        from part =
            let r = cells_at n m part in
            let below : m < count = omega (arith, whole, slice_get_within design m part.part part.there) in
            let on : 0 + n ≡ n = omega arith in
            entry_read (entries_from holder_read 0 made) count groups gathered m n below
            (subst (λ k. In (entries_from holder_read 0 made) (holder_read k m)) on (has_entry holder_read 0 made n m r.0 r.1 r.2))

    pub parts_below : All (λ (e : Entry). e.key < count) (entries_from part_read 0 made)
    parts_below =
        All-from_In (λ (e : Entry). e.key < count) (entries_from part_read 0 made) (λ e has.
        let r = entry_of part_read 0 made e has in
        omega (arith, slice_get_within made r.0 r.1 r.2, are.sized, whole, ap (λ (x : Entry). x.key) r.5))

    pub holders_below : All (λ (e : Entry). e.key < count) (entries_from holder_read 0 made)
    holders_below =
        All-from_In (λ (e : Entry). e.key < count) (entries_from holder_read 0 made) (λ e has.
        let r = entry_of holder_read 0 made e has in
        let part = part_at r.0 r.3 r.1 r.2 r.4 in
        omega (arith, slice_get_within design r.3 part.part part.there, whole, ap (λ (x : Entry). x.key) r.5))
