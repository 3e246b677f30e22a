-- One graph of ports and copies leads between the ports as they read one another.
use Rattle.std.proofs.Common.{◌≡◌, inl, inr, ℕ, suc, ◌+◌, ◌-◌, ◌<◌, ◌≤◌, List, [], ◌∷◌, ◌++◌, length, map, get_or, drop, drop-cons, slice_get, Some, refl, sym, ap, ap₂, subst, ◌∙◌, append_assoc, arith}
use Rattle.std.specs.Prelude.{All, Contains, filter}
use Rattle.std.proofs.lemmas.Bool.{cases_lt}
use Rattle.std.proofs.lemmas.Bool.Decides.{Decides-eqb}
use Rattle.std.proofs.lemmas.List.{get_or_past}
use Rattle.std.proofs.lemmas.List.Elements.{All-append, All-contains, All-get_or, All-map, All-weaker, Contains-get_or, filter-append}
use Rattle.std.proofs.lemmas.Option.{get_or_from_slice_get, slice_get_within}
use Rattle.hw_graph.proofs.ComponentLemmas.{gathered_in_range}
use Rattle.hw_graph.proofs.MemberLemmas.{In, in_of, contains_of, in_map, from_map, in_filter, from_filter}
use Rattle.hw_graph.specs.Graph as graph
use Rattle.hw_graph.specs.Graph.{AreDistinct, AreInRange, HasRead, IsCycle}
use Rattle.hw_graph.specs.Groups.{IsGathered, has_key, with_key}
use Rattle.hw_graph.specs.inside.Components.{AreBelow}
use Rattle.hw_graph.specs.declared.groups.Entry.{Entry}
use Rattle.hw_cells.specs.Cells.{Directly, IsFit, IsFlat, IsLoop, IsPinWithin, Reaches, Reads, Through, is_below}
use Rattle.hw_cells.specs.inside.Copies.{cell_entries, entries_from, input_entry, inside_entries, node_entries, output_entry}
use Rattle.hw_cells.specs.inside.Parts.{Splits}
use Rattle.hw_cells.specs.declared.cell.Cell.{Cell}
use Rattle.hw_cells.specs.declared.cell.Pin.{Pin}
use Rattle.hw_cells.proofs.CopyLemmas.{Steps, copy_shortens, inside_of, through_within}
use Rattle.hw_cells.proofs.LoopLemmas.{filter_distinct, loop_walk, walk_along, walk_back}
use Rattle.hw_cells.proofs.WayLemmas.{More, One, Shortens, Walk, Way, kept, shortens_on, shortens_same, way_over}

-- ---- the nodes of a graph

-- what a node reads is one
pub read_within : (reads : List (List ℕ)) (node : ℕ) (got : List ℕ) → AreInRange reads → slice_get reads node ≡ Some got → (k d : ℕ) → k < length got → get_or got k d < length reads
read_within reads node got range at k d lt =
    let is : get_or reads node [] ≡ got = get_or_from_slice_get reads node got [] at in
    range node (get_or got k d) (subst (λ (l : List ℕ). Contains l (get_or got k d)) (sym is) (Contains-get_or got k d lt))

-- what reads is one
reader_within : (reads : List (List ℕ)) (port other : ℕ) → HasRead reads port other → port < length reads
reader_within reads port other has = elim (cases_lt port (length reads)) [
  | inl lt ↦ lt
  | inr past ↦ let none : get_or reads port [] ≡ [] = get_or_past reads port [] past in absurd (omega (arith, has.1, ap length none))
]

drop_at : (reads : List (List ℕ)) (node : ℕ) (got : List ℕ) → slice_get reads node ≡ Some got → drop node reads ≡ got ∷ drop (node + 1) reads
drop_at reads node got at =
    let is : get_or reads node [] ≡ got = get_or_from_slice_get reads node got [] at in
    let on : suc node ≡ node + 1 = omega arith in
    drop-cons reads node [] (slice_get_within reads node got at) ∙ ap₂ (λ (l : List ℕ) (k : ℕ). l ∷ drop k reads) is on

-- the entries of one node more
pub node_more : (first node : ℕ) (reads : List (List ℕ)) (got : List ℕ) (before now all : List Entry) → slice_get reads node ≡ Some got → now ≡ before ++ node_entries first node got → before ++ entries_from first node (drop node reads) ≡ all → now ++ entries_from first (node + 1) (drop (node + 1) reads) ≡ all
node_more first node reads got before now all at is so_far =
    let rest = entries_from first (node + 1) (drop (node + 1) reads) in
    ap (λ (l : List Entry). l ++ rest) is ∙ append_assoc before (node_entries first node got) rest ∙ sym (ap (λ (l : List (List ℕ)). before ++ entries_from first node l) (drop_at reads node got at)) ∙ so_far

-- there is room for the nodes of a cell's ports
pub pins_room : (ports nodes first limit : ℕ) (pins : List Pin) → All (IsPinWithin ports nodes) pins → first + nodes < limit → All (λ (pin : Pin). first + pin.node < limit) pins
pins_room ports nodes first limit pins within room =
    All-weaker (IsPinWithin ports nodes) (λ (pin : Pin). first + pin.node < limit) (λ pin lt. omega (arith, lt.1, room)) pins within

-- ---- entries that are gathered

module _ (entries : List Entry) (count : ℕ) (groups : List (List ℕ)) (gathered : IsGathered entries count groups) where
  pub read_entry : (key value : ℕ) → HasRead groups key value → In entries (record { key = key; value = value })
  read_entry key value has =
      let below : key < count = omega (arith, reader_within groups key value has, gathered.all) in
      let is : get_or groups key [] ≡ with_key key entries = get_or_from_slice_get groups key (with_key key entries) [] (gathered.each key below) in
      let there = subst (λ (l : List ℕ). Contains l value) is has in
      let m = from_map (λ (e : Entry). e.value) (filter (has_key key) entries) value (in_of (with_key key entries) value there) in
      let f = from_filter (has_key key) entries m.0 m.1 in
      let at_key : (m.0).key ≡ key = (Decides-eqb (m.0).key key).0 f.1 in
      let same : m.0 ≡ record { key = key; value = value } = same_entry m.0 key value at_key m.2 in
      subst (In entries) same f.0
    where
      same_entry : (e : Entry) (k v : ℕ) → e.key ≡ k → e.value ≡ v → e ≡ record { key = k; value = v }
      same_entry e k v p q = let make : ℕ → ℕ → Entry = λ a b. record { key = a; value = b } in ap₂ make p q

  pub entry_read : (key value : ℕ) → key < count → In entries (record { key = key; value = value }) → HasRead groups key value
  entry_read key value below has =
      let e : Entry = record { key = key; value = value } in
      let is : get_or groups key [] ≡ with_key key entries = get_or_from_slice_get groups key (with_key key entries) [] (gathered.each key below) in
      let there = in_map (λ (x : Entry). x.value) (filter (has_key key) entries) e (in_filter (has_key key) entries e has ((Decides-eqb key key).1 refl)) in
      subst (λ (l : List ℕ). Contains l value) (sym is) (contains_of (with_key key entries) value there)

-- ---- steps and reads

step_reads : (entries : List Entry) (cells : List Cell) (x y : ℕ) → Steps entries cells x y → Reads entries cells x y
step_reads entries cells x y (inl has) = inl (contains_of entries (record { key = x; value = y }) has)
step_reads entries cells x y (inr (cell, has, through)) = inr (cell, contains_of cells cell has, through)

reads_step : (entries : List Entry) (cells : List Cell) (x y : ℕ) → Reads entries cells x y → Steps entries cells x y
reads_step entries cells x y (inl has) = inl (in_of entries (record { key = x; value = y }) has)
reads_step entries cells x y (inr (cell, has, through)) = inr (cell, in_of cells cell has, through)

walk_reaches : (entries : List Entry) (cells : List Cell) (x y : ℕ) (zs : List ℕ) → Walk (Steps entries cells) x (zs ++ y ∷ []) → Reaches entries cells x y
walk_reaches entries cells x y [] walk = Directly x y (step_reads entries cells x y walk.0)
walk_reaches entries cells x y (z ∷ zs) walk = Through x z y (step_reads entries cells x z walk.0) (walk_reaches entries cells z y zs walk.1)

reaches_way : (entries : List Entry) (cells : List Cell) (x y : ℕ) → Reaches entries cells x y → Way (Steps entries cells) x y
reaches_way entries cells x y (Directly p q step) = One p q (reads_step entries cells p q step)
reaches_way entries cells x y (Through p next q step rest) = More p next q (reads_step entries cells p next step) (reaches_way entries cells next q rest)

module _ (R : ℕ → ℕ → Type 0) (reads : List (List ℕ)) where
  graph_walk : ((x y : ℕ) → HasRead reads x y → R x y) → (x y : ℕ) → graph.Reaches reads x y → (zs : List ℕ) × Walk R x (zs ++ y ∷ [])
  graph_walk each x y (graph.Directly p q has) = ([], (each p q has, tt))
  graph_walk each x y (graph.Through p next q has rest) = let r = graph_walk each next q rest in (next ∷ r.0, (each p next has, r.1))

  way_graph : ((x y : ℕ) → R x y → HasRead reads x y) → (x y : ℕ) → Way R x y → graph.Reaches reads x y
  way_graph each x y (One p q step) = graph.Directly p q (each p q step)
  way_graph each x y (More p next q step rest) = graph.Through p next q (each p next step) (way_graph each next q rest)

  cycle_walk : ((x y : ℕ) → HasRead reads x y → R x y) → (x : ℕ) (rest : List ℕ) → IsCycle reads (x ∷ rest) → Walk R x (rest ++ x ∷ [])
  cycle_walk each x rest cycle = loop_walk R x x rest along back
    where
      along : (i : ℕ) → suc i < length (x ∷ rest) → R (get_or (x ∷ rest) i 0) (get_or (x ∷ rest) (suc i) 0)
      along i lt =
          let on : i + 1 ≡ suc i = omega arith in
          each (get_or (x ∷ rest) i 0) (get_or (x ∷ rest) (suc i) 0)
          (subst (λ (k : ℕ). HasRead reads (get_or (x ∷ rest) i 0) (get_or (x ∷ rest) k 0)) on (cycle.trail.along i (omega (arith, lt))))

      back : (k : ℕ) → suc k ≡ length (x ∷ rest) → R (get_or (x ∷ rest) k 0) x
      back k e =
          let last : length (x ∷ rest) - 1 ≡ k = omega (arith, e) in
          each (get_or (x ∷ rest) k 0) x (subst (λ (i : ℕ). HasRead reads (get_or (x ∷ rest) i 0) x) last cycle.back)

-- a walk back to its first number whose numbers are distinct
walk_loop : (entries : List Entry) (cells : List Cell) (x : ℕ) (rest : List ℕ) → AreDistinct (x ∷ rest) → Walk (Steps entries cells) x (rest ++ x ∷ []) → IsLoop entries cells (x ∷ rest)
walk_loop entries cells x rest once walk = record { some = omega arith; along = along; back = back; once = once }
  where
    along : (i : ℕ) → i + 1 < length (x ∷ rest) → Reads entries cells (get_or (x ∷ rest) i 0) (get_or (x ∷ rest) (i + 1) 0)
    along i lt =
        let on : suc i ≡ i + 1 = omega arith in
        let step = walk_along (Steps entries cells) x x rest walk i (omega (arith, lt)) in
        subst (λ (k : ℕ). Reads entries cells (get_or (x ∷ rest) i 0) (get_or (x ∷ rest) k 0)) on (step_reads entries cells (get_or (x ∷ rest) i 0) (get_or (x ∷ rest) (suc i) 0) step)

    back : Reads entries cells (get_or (x ∷ rest) (length (x ∷ rest) - 1) 0) x
    back =
        let k = length (x ∷ rest) - 1 in
        step_reads entries cells (get_or (x ∷ rest) k 0) x (walk_back (Steps entries cells) x x rest walk k (omega arith))

-- ---- cell by cell

-- what is copied so far, with the cells that are left
pub record IsFlatSoFar (entries : List Entry) (cells : List Cell) (ports : ℕ) (left : List Cell) (now : List Entry) (nodes : ℕ) : Type 0 where
  pub more : ports ≤ nodes
  pub below : AreBelow nodes now
  pub shortens : Shortens ports (Steps now left) (Steps entries cells)

pub flat_start : (entries : List Entry) (cells : List Cell) (ports : ℕ) → AreBelow ports entries → All (IsFit ports) cells → IsFlatSoFar entries cells ports cells entries ports
flat_start entries cells ports below fits = record { more = omega arith; below = below; shortens = shortens_same ports (Steps entries cells) step_within }
  where
    step_within : (x y : ℕ) → Steps entries cells x y → y < ports
    step_within x y (inl has) =
        let e : Entry = record { key = x; value = y } in
        let within = All-contains (λ (i : Entry). (i.key < ports) × (i.value < ports)) entries e below (contains_of entries e has) in
        within.1
    step_within x y (inr (cell, has, through)) = (through_within ports cell x y (All-contains (IsFit ports) cells cell fits (contains_of cells cell has)) through).1

-- the entries of a copy
module _ (ports n : ℕ) (cell : Cell) (more : ports ≤ n) (fit : IsFit ports cell) where
  inside_below : AreBelow (n + length cell.reads.now) (inside_entries n cell.reads.now)
  inside_below k d lt =
      let entries = inside_entries n cell.reads.now in
      let r = inside_of n 0 cell.reads.now (get_or entries k d) (in_of entries (get_or entries k d) (Contains-get_or entries k d lt)) in
      let reader = reader_within cell.reads.now r.0 r.1 r.2 in
      let read = fit.in_range r.0 r.1 r.2 in
      (omega (arith, reader, r.3), omega (arith, read, r.4))

  outputs_below : AreBelow (n + length cell.reads.now) (map (output_entry n) cell.outputs.items)
  outputs_below =
      All-map (λ (e : Entry). (e.key < n + length cell.reads.now) × (e.value < n + length cell.reads.now)) (output_entry n) cell.outputs.items
      (All-weaker (IsPinWithin ports (length cell.reads.now)) (λ (pin : Pin). (pin.port < n + length cell.reads.now) × (n + pin.node < n + length cell.reads.now)) (λ pin lt. (omega (arith, lt.0, more), omega (arith, lt.1))) cell.outputs.items fit.outputs)

  inputs_below : AreBelow (n + length cell.reads.now) (map (input_entry n) cell.inputs.items)
  inputs_below =
      All-map (λ (e : Entry). (e.key < n + length cell.reads.now) × (e.value < n + length cell.reads.now)) (input_entry n) cell.inputs.items
      (All-weaker (IsPinWithin ports (length cell.reads.now)) (λ (pin : Pin). (n + pin.node < n + length cell.reads.now) × (pin.port < n + length cell.reads.now)) (λ pin lt. (omega (arith, lt.1), omega (arith, lt.0, more))) cell.inputs.items fit.inputs)

  copy_below : (entries : List Entry) → AreBelow n entries → AreBelow (n + length cell.reads.now) (entries ++ cell_entries n cell)
  copy_below entries below =
      let P = λ (e : Entry). (e.key < n + length cell.reads.now) × (e.value < n + length cell.reads.now) in
      let outputs = map (output_entry n) cell.outputs.items in
      let inputs = map (input_entry n) cell.inputs.items in
      All-append P entries (cell_entries n cell) (All-weaker (λ (e : Entry). (e.key < n) × (e.value < n)) P (λ e lt. (omega (arith, lt.0), omega (arith, lt.1))) entries below)
      (All-append P (inside_entries n cell.reads.now) (outputs ++ inputs) inside_below (All-append P outputs inputs outputs_below inputs_below))

pub cell_at : (ports : ℕ) (cells : List Cell) (index : ℕ) (cell : Cell) → index < length cells → cell ≡ get_or cells index cell → All (IsFit ports) cells → IsFit ports cell
cell_at ports cells index cell within is fits = subst (IsFit ports) (sym is) (All-get_or (IsFit ports) cells index cell within fits)

pub flat_more : (entries : List Entry) (cells rest : List Cell) (ports : ℕ) (cell : Cell) (now : List Entry) (nodes : ℕ) → IsFit ports cell → All (IsFit ports) rest → IsFlatSoFar entries cells ports (cell ∷ rest) now nodes → IsFlatSoFar entries cells ports rest (now ++ cell_entries nodes cell) (nodes + length cell.reads.now)
flat_more entries cells rest ports cell now nodes fit fits so_far =
    let copied = copy_shortens ports nodes now cell rest so_far.more so_far.below fit fits in
    record {
      more = omega (arith, so_far.more);
      below = copy_below ports nodes cell so_far.more fit now so_far.below;
      shortens = shortens_on ports nodes (Steps (now ++ cell_entries nodes cell) rest) (Steps now (cell ∷ rest)) (Steps entries cells) so_far.more copied so_far.shortens;
    }

-- where entries say what is read through cells, and the others are left
module _ (entries : List Entry) (cells : List Cell) (ports : ℕ) (new : List Entry) (left : List Cell) (splits : Splits cells (Contains cells) entries new [] left) where
  one_of_cells : (cell : Cell) → Contains left cell → Contains cells cell
  one_of_cells cell has = elim (splits.others cell has) [
    | inl before ↦ absurd (omega (arith, before.1))
    | inr of ↦ of
  ]

  pub left_fit : All (IsFit ports) cells → All (IsFit ports) left
  left_fit fits k d lt = All-contains (IsFit ports) cells (get_or left k d) fits (one_of_cells (get_or left k d) (Contains-get_or left k d lt))

  pub new_below : All (IsFit ports) cells → AreBelow ports entries → AreBelow ports new
  new_below fits below k d lt =
      let e = get_or new k d in
      elim (splits.only e (Contains-get_or new k d lt)) [
        | inl old ↦ All-contains (λ (i : Entry). (i.key < ports) × (i.value < ports)) entries e below old
        | inr some ↦ through_within ports some.0 e.key e.value (All-contains (IsFit ports) cells some.0 fits some.1) some.2
      ]

  to_cells : (x y : ℕ) → Reads new left x y → Reads entries cells x y
  to_cells x y (inl has) = let e : Entry = record { key = x; value = y } in splits.only e has
  to_cells x y (inr (cell, has, through)) = inr (cell, one_of_cells cell has, through)

  from_cells : (x y : ℕ) → Reads entries cells x y → Reads new left x y
  from_cells x y (inl has) = let e : Entry = record { key = x; value = y } in inl (splits.kept e has)
  from_cells x y (inr (cell, has, through)) = elim (splits.each cell has) [
    | inl one_left ↦ inr (cell, one_left, through)
    | inr say ↦ inl (say x y through)
  ]

  reaches_to : (x y : ℕ) → Reaches new left x y → Reaches entries cells x y
  reaches_to x y (Directly p q step) = Directly p q (to_cells p q step)
  reaches_to x y (Through p next q step rest) = Through p next q (to_cells p next step) (reaches_to next q rest)

  reaches_from : (x y : ℕ) → Reaches entries cells x y → Reaches new left x y
  reaches_from x y (Directly p q step) = Directly p q (from_cells p q step)
  reaches_from x y (Through p next q step rest) = Through p next q (from_cells p next step) (reaches_from next q rest)

  loop_to : (list : List ℕ) → IsLoop new left list → IsLoop entries cells list
  loop_to list loop = record {
    some = loop.some;
    along = λ i lt. to_cells (get_or list i 0) (get_or list (i + 1) 0) (loop.along i lt);
    back = to_cells (get_or list (length list - 1) 0) (get_or list 0 0) loop.back;
    once = loop.once;
  }

  pub flat_of_split : (reads : List (List ℕ)) → IsFlat new ports left reads → IsFlat entries ports cells reads
  flat_of_split reads flat = record {
    in_range = flat.in_range;
    all = flat.all;
    reaches = λ port other port_lt other_lt.
        let both = flat.reaches port other port_lt other_lt in (λ reaches. reaches_to port other (both.0 reaches), λ reaches. both.1 (reaches_from port other reaches));
    loops = λ nodes cycle lt. loop_to (filter (is_below ports) nodes) (flat.loops nodes cycle lt);
  }

-- ---- all cells

filter_end : (n : ℕ) (xs : List ℕ) (x : ℕ) → x < n → filter (is_below n) (xs ++ x ∷ []) ≡ filter (is_below n) xs ++ x ∷ []
filter_end n xs x lt = filter-append (is_below n) xs (x ∷ []) ∙ ap (λ (l : List ℕ). filter (is_below n) xs ++ l) (kept n x [] lt)

module _ (entries : List Entry) (cells : List Cell) (ports : ℕ) (now : List Entry) (nodes : ℕ) (reads : List (List ℕ)) (flat : IsFlatSoFar entries cells ports [] now nodes) (gathered : IsGathered now nodes reads) where
  read_step : (x y : ℕ) → HasRead reads x y → Steps now [] x y
  read_step x y has = inl (read_entry now nodes reads gathered x y has)

  step_read : (x y : ℕ) → Steps now [] x y → HasRead reads x y
  step_read x y (inl has) =
      let e : Entry = record { key = x; value = y } in
      let within = All-contains (λ (i : Entry). (i.key < nodes) × (i.value < nodes)) now e flat.below (contains_of now e has) in
      entry_read now nodes reads gathered x y within.0 has
  step_read x y (inr (cell, has, through)) = absurd has

  to_ports : (port other : ℕ) → port < ports → other < ports → graph.Reaches reads port other → Reaches entries cells port other
  to_ports port other port_lt other_lt reaches =
      let r = graph_walk (Steps now []) reads read_step port other reaches in
      walk_reaches entries cells port other (filter (is_below ports) r.0)
      (subst (Walk (Steps entries cells) port) (filter_end ports r.0 other other_lt) (flat.shortens.walks port (r.0 ++ other ∷ []) port_lt r.1))

  from_ports : (port other : ℕ) → Reaches entries cells port other → graph.Reaches reads port other
  from_ports port other reaches =
      way_graph (Steps now []) reads step_read port other (way_over (Steps entries cells) (Steps now []) flat.shortens.back port other (reaches_way entries cells port other reaches))

  loop_of : (list : List ℕ) → IsCycle reads list → get_or list 0 0 < ports → IsLoop entries cells (filter (is_below ports) list)
  loop_of [] cycle lt = absurd (omega (arith, cycle.some))
  loop_of (x ∷ rest) cycle lt =
      let walk = flat.shortens.walks x (rest ++ x ∷ []) lt (cycle_walk (Steps now []) reads read_step x rest cycle) in
      let left : filter (is_below ports) (x ∷ rest) ≡ x ∷ filter (is_below ports) rest = kept ports x rest lt in
      let once = subst AreDistinct left (filter_distinct (is_below ports) (x ∷ rest) cycle.trail.once) in
      subst (IsLoop entries cells) (sym left)
      (walk_loop entries cells x (filter (is_below ports) rest) once (subst (Walk (Steps entries cells) x) (filter_end ports rest x lt) walk))

  pub flat_end : IsFlat entries ports cells reads
  flat_end = record {
    in_range = gathered_in_range now nodes reads flat.below gathered;
    all = omega (arith, flat.more, gathered.all);
    reaches = λ port other port_lt other_lt. (to_ports port other port_lt other_lt, from_ports port other);
    loops = loop_of;
  }
