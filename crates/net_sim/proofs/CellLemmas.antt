-- The listing of a netlist's cells with their primitives and ports.
use Rattle.std.proofs.Common.{◌≡◌, ℕ, ◌+◌, ◌<◌, List, [], ◌∷◌, ◌++◌, None, Some, length, get_or, refl, sym, ap, ◌∙◌, arith, subst}
use Rattle.std.specs.Prelude.{slice_get, option_map}
use Rattle.std.proofs.lemmas.List.{length_push, length-map}
use Rattle.std.proofs.lemmas.Option.{slice_get-map, slice_get_read}
use Rattle.hw_prims.specs.Table.{inputs_of, outputs_of}
use Rattle.net_core.specs.Netlist.{Netlist, CellLine, netlist_of, cell_of, set_of}
use Rattle.net_core.specs.declared.net.Net.{Net}
use Rattle.net_core.specs.declared.net.NetAssign.{NetAssign}
use Rattle.net_core.specs.declared.net.NetCell.{NetCell}
use Rattle.net_sim.proofs.LayoutLemmas.{first_port-more, length-ports_of_cell}
use Rattle.net_sim.proofs.GrowthLemmas.{each_more}
use Rattle.net_sim.specs.Layout.{IsCellPorts, first_port, own_count}
use Rattle.net_sim.specs.declared.cells.CellPorts.{CellPorts}

-- a cell and an assignment of the tree, as lines
pub cell_at : (net : Net) (i : ℕ) (cell : NetCell) → i < length net.cells.items → cell ≡ get_or net.cells.items i cell → slice_get (netlist_of net).cells i ≡ Some (cell_of net.names cell)
cell_at net i cell within is = slice_get-map (cell_of net.names) net.cells.items i ∙ ap (option_map (cell_of net.names)) (slice_get_read net.cells.items (length net.cells.items) i cell refl within is)

pub set_at : (net : Net) (i : ℕ) (a : NetAssign) → i < length net.sets.items → a ≡ get_or net.sets.items i a → slice_get (netlist_of net).sets i ≡ Some (set_of net.names a)
set_at net i a within is = slice_get-map (set_of net.names) net.sets.items i ∙ ap (option_map (set_of net.names)) (slice_get_read net.sets.items (length net.sets.items) i a refl within is)

-- the first cells are listed, and the next one's ports start here
pub record AreListed (n : Netlist) (i : ℕ) (cells : List CellPorts) (first : ℕ) : Type 0 where
  pub all : length cells ≡ i
  pub each : (k : ℕ) (c : CellLine) (ports : CellPorts) → slice_get n.cells k ≡ Some c → slice_get cells k ≡ Some ports → IsCellPorts n k c ports
  pub next : first ≡ first_port n i

pub own_count_is : (net : Net) → own_count (netlist_of net) ≡ length net.ins.items + length net.outs.items + length net.wires.items
own_count_is net = simp length-map refl

pub listed_none : (n : Netlist) (first : ℕ) → first ≡ own_count n → AreListed n 0 [] first
listed_none n first e = record { all = refl; each = λ k c ports at none. let bad : None ≡ Some ports = none in cc; next = omega (arith, e) }

module _ (n : Netlist) (i first : ℕ) (cells : List CellPorts) (c : CellLine) (ports : CellPorts) (so_far : AreListed n i cells first) (at : slice_get n.cells i ≡ Some c) (is : IsCellPorts n i c ports) where
  pub next_first : first + (length (inputs_of ports.prim) + length (outputs_of ports.prim)) ≡ first_port n (i + 1)
  next_first = omega (arith, so_far.next, first_port-more n i c at, length-ports_of_cell c ports.prim is.prim)

  pub listed_more : AreListed n (i + 1) (cells ++ ports ∷ []) (first + (length (inputs_of ports.prim) + length (outputs_of ports.prim)))
  listed_more = record {
    all = length_push cells ports ∙ ap (λ k. k + 1) so_far.all;
    each = each_more (IsCellPorts n) (IsCellPorts n) n.cells cells c ports (λ k d other has. has) (ap (slice_get n.cells) so_far.all ∙ at) (subst (λ k. IsCellPorts n k c ports) (sym so_far.all) is) so_far.each;
    next = next_first;
  }

-- the same of the items that a loop goes over
pub cell_item : (net : Net) (items : List NetCell) (i : ℕ) (cell : NetCell) → items ≡ net.cells.items → i < length items → cell ≡ get_or items i cell → slice_get (netlist_of net).cells i ≡ Some (cell_of net.names cell)
cell_item net items i cell same within is = cell_at net i cell (subst (λ l. i < length l) same within) (is ∙ ap (λ l. get_or l i cell) same)

pub set_item : (net : Net) (items : List NetAssign) (i : ℕ) (a : NetAssign) → items ≡ net.sets.items → i < length items → a ≡ get_or items i a → slice_get (netlist_of net).sets i ≡ Some (set_of net.names a)
set_item net items i a same within is = set_at net i a (subst (λ l. i < length l) same within) (is ∙ ap (λ l. get_or l i a) same)
