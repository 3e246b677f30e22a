use Rattle.std.proofs.Common.{◌≡◌, None, Some, slice_get, take}
use Rattle.hw_names.specs.Name.{Text}
use Rattle.fil_loops.proofs.CellPinLemmas.{HasBoth}
use Rattle.fil_loops.proofs.cells.cell_of.Given as goal

-- the cell's component, and the pins of the nodes so far; nothing is told of them
abbrev pub invariant-loop-node : goal.invariant-loop-node
invariant-loop-node l = record {
  part : l.cell.part ≡ l.part;
  reads : l.cell.reads.now ≡ l.inside.graph.reads;
  untold : l.cell.told ≡ None;
  both : (inst : Text) → slice_get l.ports.instances l.instance ≡ Some inst → HasBoth l.inside l.ports inst (take l.node-index l.nodes) l.cell.outputs.items l.cell.inputs.items;
}
