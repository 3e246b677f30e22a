use Rattle.std.proofs.Common.{◌≡◌, ◌<◌, ◌+◌, ◌++◌, ◌∙◌, ℕ, List, drop, flat_map, get_or, length, true, refl, sym, ap, subst, arith}
use Rattle.hw_names.proofs.NameLemmas.{text_of-slice_get}
use Rattle.hw_names.specs.Name.{Text, text_of}
use Rattle.hw_prims.specs.State.{State, memory_words}
use Rattle.hw_prims.specs.declared.prim.Primitive.{Primitive}
use Rattle.net_core.specs.Netlist.{Netlist, netlist_of}
use Rattle.net_core.specs.Rules.{IsValid}
use Rattle.net_core.specs.declared.net.Net.{Net}
use Rattle.net_core.specs.declared.net.NetCell.{NetCell}
use Rattle.net_sim.specs.Shown.{IsShown, shown_cells}
use Rattle.net_sim.specs.Sim.{states_of}
use Rattle.filc_report.proofs.MemoryLemmas.{AreLeft, IsNextShown, next_hidden, next_shown}
use Rattle.filc_report.specs.Rows.{memories_text, memory_text, shown_text}
use Rattle.filc_calyx.proofs.GrowLemmas.{piece_more}
use Rattle.filc_calyx.proofs.memories.push_memories.Goals as goal
use Rattle.filc_calyx.proofs.memories.push_memories.Goals.{then-cell+in_ok-push_memory, else-cell}

-- the shown cell at which the loop stands
next : (net : Net) (valid : IsValid (netlist_of net)) (states : Text → Primitive → State) (items : List NetCell) (mem i : ℕ) (cell : NetCell) → items ≡ net.cells.items → i < length items → cell ≡ get_or items i cell → AreLeft (netlist_of net) mem i → cell.shown ≡ true → IsNextShown (netlist_of net) states mem i (text_of net.names cell.name)
next net valid states items mem i cell same within is left shown =
    next_shown (netlist_of net) valid states net.names net.cells.items refl mem i cell (omega (arith, within, ap length same)) (is ∙ ap (λ (l : List NetCell). get_or l i cell) same) left shown

pub push_memory-requires : goal.push_memory-requires
push_memory-requires c =
    let n = netlist_of c.args.net.now in
    let at = next c.args.net.now c.requires.valid (states_of n c.args.sim.now.states) c.deref-cell-items.result.now c.loop-cell.mem c.loop-cell.cell-index c.cell-item.result c.deref-cell-items.ensures.value c.loop-cell-test.true c.cell-item.is c.loop-cell.invariant.left c.if-cell.true in
    record { shown = subst (λ (m : Netlist). c.loop-cell.mem < length (shown_cells m)) (sym c.requires.net) at.counted }

pub loop-cell-preserved : goal.loop-cell-preserved
loop-cell-preserved c =
    let net = c.args.net.now in
    let n = netlist_of net in
    let states = states_of n c.args.sim.now.states in
    let i = c.loop-cell.cell-index in
    let whole = c.args.text.now.items ++ memories_text n states in
    elim c.if-cell.branch [
      | then-cell+in_ok-push_memory w ↦
          let at = next net c.requires.valid states c.deref-cell-items.result.now c.loop-cell.mem i c.cell-item.result c.deref-cell-items.ensures.value c.loop-cell-test.true c.cell-item.is c.loop-cell.invariant.left w.if-cell.true in
          let name = text_of net.names c.cell-item.result.name in
          let named = text_of-slice_get net.names c.cell-item.result.name w.text.result.now w.text.ensures in
          let line = memory_text name (memory_words (states name at.prim)) in
          let shown = subst (λ (m : Netlist). IsShown m c.loop-cell.mem name at.prim) (sym c.requires.net) at.is_shown in
          let pushed : w.push_memory.new.text.items ≡ c.loop-cell.text.items ++ line =
          w.in_ok-push_memory.ensures name at.prim shown
          ∙ ap (λ (m : Netlist). c.loop-cell.text.items ++ memory_text w.text.result.now (memory_words (states_of m c.args.sim.now.states name at.prim))) c.requires.net
          ∙ ap (λ (t : Text). c.loop-cell.text.items ++ memory_text t (memory_words (states name at.prim))) (sym named) in
          rw (w.text-is, w.mem-is) (record {
            left = at.left;
            counted = omega (arith, c.loop-cell.invariant.counted);
            text = piece_more c.loop-cell.text.items line w.push_memory.new.text.items (flat_map (shown_text states) (drop i n.cells)) (flat_map (shown_text states) (drop (i + 1) n.cells)) whole pushed at.step c.loop-cell.invariant.text;
          })
      | else-cell w ↦
          let over = next_hidden n states net.names net.cells.items refl c.loop-cell.mem i c.cell-item.result (omega (arith, c.loop-cell-test.true, ap length c.deref-cell-items.ensures.value)) (c.cell-item.is ∙ ap (λ (l : List NetCell). get_or l i c.cell-item.result) c.deref-cell-items.ensures.value) c.loop-cell.invariant.left w.if-cell.false in
          rw (w.text-is, w.mem-is) (record {
            left = over.0;
            counted = omega (arith, c.loop-cell.invariant.counted);
            text = ap (λ (more : Text). c.loop-cell.text.items ++ more) (sym over.1) ∙ c.loop-cell.invariant.text;
          })
    ]
