-- The entries of a copy of a cell's graph, whose nodes are numbered from a first one on. This project's, for private functions alone.
use Rattle.std.specs.Prelude.{ℕ, ◌+◌, List, [], ◌∷◌, ◌++◌, map}
use Rattle.hw_graph.specs.declared.groups.Entry.{Entry}
use Rattle.hw_cells.specs.declared.cell.Cell.{Cell}
use Rattle.hw_cells.specs.declared.cell.Pin.{Pin}

-- what a node of the copy reads
abbrev pub node_entries : ℕ → ℕ → List ℕ → List Entry
node_entries first node reads = map (λ read. record { key = first + node; value = first + read }) reads

-- the same of each node, from one on
abbrev pub entries_from : ℕ → ℕ → List (List ℕ) → List Entry
entries_from first node [] = []
entries_from first node (reads ∷ more) = node_entries first node reads ++ entries_from first (node + 1) more

abbrev pub inside_entries : ℕ → List (List ℕ) → List Entry
inside_entries first reads = entries_from first 0 reads

-- an output reads its node
abbrev pub output_entry : ℕ → Pin → Entry
output_entry first pin = record { key = pin.port; value = first + pin.node }

-- the node of an input reads the input
abbrev pub input_entry : ℕ → Pin → Entry
input_entry first pin = record { key = first + pin.node; value = pin.port }

-- all of a cell
abbrev pub cell_entries : ℕ → Cell → List Entry
cell_entries first cell = inside_entries first cell.reads.now ++ (map (output_entry first) cell.outputs.items ++ map (input_entry first) cell.inputs.items)
