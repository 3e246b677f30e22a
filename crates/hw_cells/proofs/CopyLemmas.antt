-- A copy of a cell's graph leads between the numbers before it as the cell itself.
use Rattle.std.proofs.Common.{◌≡◌, ◌⊎◌, inl, inr, ℕ, zero, suc, ◌+◌, ◌<◌, ◌≤◌, List, [], ◌∷◌, ◌++◌, length, map, refl, sym, ap, subst, ◌∙◌, arith}
use Rattle.std.specs.Prelude.{All}
use Rattle.std.proofs.lemmas.List.Elements.{All-contains}
use Rattle.hw_graph.proofs.MemberLemmas.{In, in_of, contains_of, in_left, in_right, in_append, in_map, from_map}
use Rattle.hw_graph.specs.Graph as graph
use Rattle.hw_graph.specs.Graph.{HasRead}
use Rattle.hw_graph.specs.inside.Components.{AreBelow}
use Rattle.hw_graph.specs.declared.groups.Entry.{Entry}
use Rattle.hw_cells.specs.Cells.{IsFit, IsOrReaches, IsPinWithin, ReadsThrough}
use Rattle.hw_cells.specs.inside.Copies.{cell_entries, entries_from, input_entry, inside_entries, node_entries, output_entry}
use Rattle.hw_cells.specs.declared.cell.Cell.{Cell}
use Rattle.hw_cells.specs.declared.cell.Pin.{Pin}
use Rattle.hw_cells.proofs.WayLemmas.{Way, One, More, Shortens, shorten}

-- one number leads to another, as an entry says or through a cell
abbrev pub Steps : List Entry → List Cell → ℕ → ℕ → Type 0
Steps entries cells x y = In entries (record { key = x; value = y }) ⊎ ((cell : Cell) × In cells cell × ReadsThrough cell x y)

-- ---- the entries of the inside

pub inside_of : (first node : ℕ) (reads : List (List ℕ)) (e : Entry) → In (entries_from first node reads) e → (i : ℕ) × (j : ℕ) × HasRead reads i j × (e.key ≡ first + (node + i)) × (e.value ≡ first + j)
inside_of first node [] e has = absurd has
inside_of first node (r ∷ reads) e has =
    elim (in_append (node_entries first node r) (entries_from first (node + 1) reads) e has) [
      | inl here ↦
          let m = from_map (λ (read : ℕ). record { key = first + node; value = first + read }) r e here in
          (0, m.0, contains_of r m.0 m.1, omega (arith, ap (λ (x : Entry). x.key) m.2), omega (arith, ap (λ (x : Entry). x.value) m.2))
      | inr later ↦ let s = inside_of first (node + 1) reads e later in (suc s.0, s.1, s.2, omega (arith, s.3), s.4)
    ]

pub has_inside : (first node : ℕ) (reads : List (List ℕ)) (i j key : ℕ) → HasRead reads i j → key ≡ first + (node + i) → In (entries_from first node reads) (record { key = key; value = first + j })
has_inside first node [] i j key has at = absurd (omega (arith, has.1))
has_inside first node (r ∷ reads) zero j key has at =
    let here : first + node ≡ key = omega (arith, at) in
    let entry = λ (k : ℕ) (read : ℕ). let e : Entry = record { key = k; value = first + read } in e in
    in_left (node_entries first node r) (entries_from first (node + 1) reads) (entry key j)
    (subst (λ (k : ℕ). In (node_entries first node r) (entry k j)) here (in_map (entry (first + node)) r j (in_of r j has)))
has_inside first node (r ∷ reads) (suc i) j key has at =
    in_right (node_entries first node r) (entries_from first (node + 1) reads) (record { key = key; value = first + j }) (has_inside first (node + 1) reads i j key has (omega (arith, at)))

-- ---- one read more

reaches_more : (reads : List (List ℕ)) (x y z : ℕ) → graph.Reaches reads x y → HasRead reads y z → graph.Reaches reads x z
reaches_more reads x y z (graph.Directly p q has) more = graph.Through p q z has (graph.Directly q z more)
reaches_more reads x y z (graph.Through p next q has rest) more = graph.Through p next z has (reaches_more reads next q z rest more)

is_or_reaches_more : (reads : List (List ℕ)) (x y z : ℕ) → IsOrReaches reads x y → HasRead reads y z → IsOrReaches reads x z
is_or_reaches_more reads x y z (inl same) more = inr (graph.Directly x z (subst (λ (k : ℕ). HasRead reads k z) (sym same) more))
is_or_reaches_more reads x y z (inr some) more = inr (reaches_more reads x y z some more)

-- ---- one cell

-- ports that read one another through a cell are ports
pub through_within : (ports : ℕ) (cell : Cell) (x y : ℕ) → IsFit ports cell → ReadsThrough cell x y → (x < ports) × (y < ports)
through_within ports cell x y fit through =
    let output = All-contains (IsPinWithin ports (length cell.reads.now)) cell.outputs.items through.output fit.outputs through.has_output in
    let input = All-contains (IsPinWithin ports (length cell.reads.now)) cell.inputs.items through.input fit.inputs through.has_input in
    (omega (arith, output.0, through.is_output), omega (arith, input.0, through.is_input))

module _ (ports n : ℕ) (entries : List Entry) (cell : Cell) (cells : List Cell) (more : ports ≤ n) (below : AreBelow n entries) (fit : IsFit ports cell) (fits : All (IsFit ports) cells) where
  -- with a copy of the cell
  abbrev WithCopy : ℕ → ℕ → Type 0
  WithCopy = Steps (entries ++ cell_entries n cell) cells

  -- with the cell itself
  abbrev WithCell : ℕ → ℕ → Type 0
  WithCell = Steps entries (cell ∷ cells)

  -- a node of the copy that an output of this port is or reaches
  record IsInside (port x : ℕ) : Type 0 where
    node : ℕ
    output : Pin
    has : In cell.outputs.items output
    is_output : output.port ≡ port
    at : x ≡ n + node
    reaches : IsOrReaches cell.reads.now output.node node

  -- the one is the last number before the copy on a walk that has come to the other
  abbrev From : ℕ → ℕ → Type 0
  From last x = ((x ≡ last) × (x < n)) ⊎ IsInside last x

  -- the walk goes on to a number before the copy or to one of the copy
  abbrev Goes : ℕ → ℕ → Type 0
  Goes last y = ((y < n) × WithCell last y) ⊎ ((n ≤ y) × From last y)

  -- from and to numbers before the copy
  outside : (last x y : ℕ) → From last x → x < n → y < n → WithCell x y → Goes last y
  outside last x y (inl here) x_low y_low step = inl (y_low, subst (λ (k : ℕ). WithCell k y) here.0 step)
  outside last x y (inr inside) x_low y_low step = absurd (omega (arith, inside.at, x_low))

  from_inside : (last x y : ℕ) → From last x → In (inside_entries n cell.reads.now) (record { key = x; value = y }) → Goes last y
  from_inside last x y from has =
      let e : Entry = record { key = x; value = y } in
      let r = inside_of n 0 cell.reads.now e has in
      elim from [
        | inl here ↦ absurd (omega (arith, here.1, r.3))
        | inr inside ↦
            let same : r.0 ≡ inside.node = omega (arith, inside.at, r.3) in
            inr (
              omega (arith, r.4),
              inr (record {
                node = r.1;
                output = inside.output;
                has = inside.has;
                is_output = inside.is_output;
                at = r.4;
                reaches = is_or_reaches_more cell.reads.now inside.output.node inside.node r.1 inside.reaches (subst (λ (k : ℕ). HasRead cell.reads.now k r.1) same r.2);
              }),
            )
      ]

  from_output : (last x y : ℕ) → From last x → In (map (output_entry n) cell.outputs.items) (record { key = x; value = y }) → Goes last y
  from_output last x y from has =
      let m = from_map (output_entry n) cell.outputs.items (record { key = x; value = y }) has in
      let port_is : (m.0).port ≡ x = ap (λ (e : Entry). e.key) m.2 in
      let node_is : n + (m.0).node ≡ y = ap (λ (e : Entry). e.value) m.2 in
      let within = All-contains (IsPinWithin ports (length cell.reads.now)) cell.outputs.items m.0 fit.outputs (contains_of cell.outputs.items m.0 m.1) in
      elim from [
        | inl here ↦
            inr (
              omega (arith, node_is),
              inr (record {
                node = (m.0).node;
                output = m.0;
                has = m.1;
                is_output = port_is ∙ here.0;
                at = sym node_is;
                reaches = inl refl;
              }),
            )
        | inr inside ↦ absurd (omega (arith, inside.at, port_is, within.0, more))
      ]

  from_input : (last x y : ℕ) → From last x → In (map (input_entry n) cell.inputs.items) (record { key = x; value = y }) → Goes last y
  from_input last x y from has =
      let m = from_map (input_entry n) cell.inputs.items (record { key = x; value = y }) has in
      let node_is : n + (m.0).node ≡ x = ap (λ (e : Entry). e.key) m.2 in
      let port_is : (m.0).port ≡ y = ap (λ (e : Entry). e.value) m.2 in
      let within = All-contains (IsPinWithin ports (length cell.reads.now)) cell.inputs.items m.0 fit.inputs (contains_of cell.inputs.items m.0 m.1) in
      elim from [
        | inl here ↦ absurd (omega (arith, here.1, node_is))
        | inr inside ↦
            let same : inside.node ≡ (m.0).node = omega (arith, inside.at, node_is) in
            inl (
              omega (arith, within.0, more, port_is),
              inr (
                cell,
                inl refl,
                record {
                  output = inside.output;
                  input = m.0;
                  has_output = contains_of cell.outputs.items inside.output inside.has;
                  has_input = contains_of cell.inputs.items m.0 m.1;
                  is_output = inside.is_output;
                  is_input = port_is;
                  reaches = subst (IsOrReaches cell.reads.now inside.output.node) same inside.reaches;
                },
              ),
            )
      ]

  next : (last x y : ℕ) → From last x → WithCopy x y → Goes last y
  next last x y from (inr (other, has, through)) =
      let within = through_within ports other x y (All-contains (IsFit ports) cells other fits (contains_of cells other has)) through in
      outside last x y from (omega (arith, within, more)) (omega (arith, within, more)) (inr (other, inr has, through))
  next last x y from (inl has) =
      let e : Entry = record { key = x; value = y } in
      elim (in_append entries (cell_entries n cell) e has) [
        | inl old ↦ let within = All-contains (λ (i : Entry). (i.key < n) × (i.value < n)) entries e below (contains_of entries e old) in outside last x y from within.0 within.1 (inl old)
        | inr new ↦ elim (in_append (inside_entries n cell.reads.now) (map (output_entry n) cell.outputs.items ++ map (input_entry n) cell.inputs.items) e new) [
          | inl inside ↦ from_inside last x y from inside
          | inr pin ↦ elim (in_append (map (output_entry n) cell.outputs.items) (map (input_entry n) cell.inputs.items) e pin) [
            | inl output ↦ from_output last x y from output
            | inr input ↦ from_input last x y from input
          ]
        ]
      ]

  -- ---- and back

  copied : (e : Entry) → In (cell_entries n cell) e → WithCopy e.key e.value
  copied e has = inl (in_right entries (cell_entries n cell) e has)

  step_inside : (i j : ℕ) → HasRead cell.reads.now i j → WithCopy (n + i) (n + j)
  step_inside i j has =
      let e : Entry = record { key = n + i; value = n + j } in
      copied e (in_left (inside_entries n cell.reads.now) (map (output_entry n) cell.outputs.items ++ map (input_entry n) cell.inputs.items) e (has_inside n 0 cell.reads.now i j (n + i) has (omega arith)))

  step_output : (pin : Pin) → In cell.outputs.items pin → WithCopy pin.port (n + pin.node)
  step_output pin has =
      let e = output_entry n pin in
      copied e (in_right (inside_entries n cell.reads.now) (map (output_entry n) cell.outputs.items ++ map (input_entry n) cell.inputs.items) e
      (in_left (map (output_entry n) cell.outputs.items) (map (input_entry n) cell.inputs.items) e (in_map (output_entry n) cell.outputs.items pin has)))

  step_input : (pin : Pin) → In cell.inputs.items pin → WithCopy (n + pin.node) pin.port
  step_input pin has =
      let e = input_entry n pin in
      copied e (in_right (inside_entries n cell.reads.now) (map (output_entry n) cell.outputs.items ++ map (input_entry n) cell.inputs.items) e
      (in_right (map (output_entry n) cell.outputs.items) (map (input_entry n) cell.inputs.items) e (in_map (input_entry n) cell.inputs.items pin has)))

  way_inside : (i j z : ℕ) → graph.Reaches cell.reads.now i j → Way WithCopy (n + j) z → Way WithCopy (n + i) z
  way_inside i j z (graph.Directly p q has) rest = More (n + p) (n + q) z (step_inside p q has) rest
  way_inside i j z (graph.Through p middle q has some) rest = More (n + p) (n + middle) z (step_inside p middle has) (way_inside middle q z some rest)

  way_within : (i j z : ℕ) → IsOrReaches cell.reads.now i j → Way WithCopy (n + j) z → Way WithCopy (n + i) z
  way_within i j z (inl same) rest = subst (λ (k : ℕ). Way WithCopy (n + k) z) (sym same) rest
  way_within i j z (inr some) rest = way_inside i j z some rest

  way_through : (x y : ℕ) → ReadsThrough cell x y → Way WithCopy x y
  way_through x y t =
      let out = step_output t.output (in_of cell.outputs.items t.output t.has_output) in
      let last = step_input t.input (in_of cell.inputs.items t.input t.has_input) in
      let way = More t.output.port (n + t.output.node) t.input.port out (way_within t.output.node t.input.node t.input.port t.reaches (One (n + t.input.node) t.input.port last)) in
      subst (λ (k : ℕ). Way WithCopy k y) t.is_output (subst (Way WithCopy t.output.port) t.is_input way)

  back : (x y : ℕ) → WithCell x y → Way WithCopy x y
  back x y (inl has) = One x y (inl (in_left entries (cell_entries n cell) (record { key = x; value = y }) has))
  back x y (inr (other, inl same, through)) = way_through x y (subst (λ (c : Cell). ReadsThrough c x y) (sym same) through)
  back x y (inr (other, inr has, through)) = One x y (inr (other, has, through))

  pub copy_shortens : Shortens n WithCopy WithCell
  copy_shortens = record {
    walks = λ x ys lt walk. shorten n WithCopy WithCell From (λ y less. inl (refl, less)) next x x ys (inl (refl, lt)) walk;
    back = back;
  }
