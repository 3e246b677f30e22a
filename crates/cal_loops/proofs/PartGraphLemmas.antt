-- The graphs of a component's cells, by the numbers of what they are made of.
use Rattle.std.proofs.Common.{◌≡◌, ℕ, List, [], ◌∷◌, ◌++◌, Option, Some, None, slice_get, All, sym, ap, ◌∙◌, arith}
use Rattle.std.proofs.lemmas.List.Elements.{All-push}
use Rattle.hw_cells.proofs.GraphLemmas.{HasGraphOf}
use Rattle.hw_cells.specs.declared.cell.Cell.{Cell}
use Rattle.cal_loops.specs.declared.cells.inside.Inside.{Inside}

-- the graph inside, where something is known
abbrev pub graph_known : Option (Option Inside) → Option (List (List ℕ))
graph_known None = None
graph_known (Some None) = None
graph_known (Some (Some inside)) = Some inside.graph.reads

-- the graph inside the component of this number, where it is known
abbrev pub graph_in : List (Option Inside) → ℕ → Option (List (List ℕ))
graph_in insides part = graph_known (slice_get insides part)

pub graphs_none : (insides : List (Option Inside)) → All (HasGraphOf (graph_in insides)) []
graphs_none insides = λ k d lt. absurd (omega (arith, lt))

pub has_graph : (insides : List (Option Inside)) (part : ℕ) (inside : Inside) → slice_get insides part ≡ Some (Some inside) → (cell : Cell) → (cell.part ≡ part) × (cell.reads.now ≡ inside.graph.reads) → HasGraphOf (graph_in insides) cell
has_graph insides part inside at cell is = ap (graph_in insides) is.0 ∙ ap graph_known at ∙ ap Some (sym is.1)

pub graphs_more : (insides : List (Option Inside)) (cells : List Cell) (cell : Cell) → HasGraphOf (graph_in insides) cell → All (HasGraphOf (graph_in insides)) cells → All (HasGraphOf (graph_in insides)) (cells ++ cell ∷ [])
graphs_more insides cells cell has all = All-push (HasGraphOf (graph_in insides)) cells cell all has
