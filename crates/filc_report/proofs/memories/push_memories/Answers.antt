use Rattle.std.proofs.Common.{rules, ◌≡◌, ◌<◌, ◌++◌, ℕ, List, length, get_or, ap, sym, ◌∙◌, subst, arith, flat_map, drop, true, ◌+◌, refl}
use Rattle.hw_io.specs.Writing.{AppendsPrefix, Passes}
use Rattle.hw_names.specs.Name.{Text, text_of}
use Rattle.hw_names.proofs.NameLemmas.{text_of-slice_get}
use Rattle.hw_prims.specs.State.{State, memory_words}
use Rattle.hw_prims.specs.declared.prim.Primitive.{Primitive}
use Rattle.net_core.specs.Netlist.{Netlist, netlist_of}
use Rattle.net_core.specs.Rules.{IsValid}
use Rattle.net_core.specs.declared.net.Net.{Net}
use Rattle.net_core.specs.declared.net.NetCell.{NetCell}
use Rattle.net_sim.specs.Shown.{shown_cells, IsShown}
use Rattle.net_sim.specs.Sim.{states_of}
use Rattle.filc_report.specs.Rows.{shown_text, memory_text, memories_text}
use Rattle.filc_report.proofs.MemoryLemmas.{AreLeft, IsNextShown, next_shown, next_hidden}
use Rattle.filc_stop.proofs.SinkLemmas.{PassedUpTo, passed_up_to_more, passed_up_to_prefix}
use Rattle.filc_report.proofs.memories.push_memories.Goals as goal
use Rattle.filc_report.proofs.memories.push_memories.Goals.{then-cell+in_ok-push_memory, else-cell}

-- the shown cell at which the loop stands
next : (net : Net) (valid : IsValid (netlist_of net)) (states : Text → Primitive → State) (items : List NetCell) (mem i : ℕ) (cell : NetCell) → items ≡ net.cells.items → i < length items → cell ≡ get_or items i cell → AreLeft (netlist_of net) mem i → cell.shown ≡ true → IsNextShown (netlist_of net) states mem i (text_of net.names cell.name)
next net valid states items mem i cell same within is left shown =
    next_shown (netlist_of net) valid states net.names net.cells.items refl mem i cell (omega (arith, within, ap length same)) (is ∙ ap (λ (l : List NetCell). get_or l i cell) same) left shown

pub push_memory-requires : goal.push_memory-requires
push_memory-requires g c =
    let n = netlist_of c.args.net.now in
    let at = next c.args.net.now c.requires.valid (states_of n c.args.sim.now.states) c.deref-cell-items.result.now c.loop-cell.mem c.loop-cell.cell-index c.cell-item.result c.deref-cell-items.ensures.value c.loop-cell-test.true c.cell-item.is c.loop-cell.invariant.left c.if-cell.true in
    record { shown = subst (λ (m : Netlist). c.loop-cell.mem < length (shown_cells m)) (sym c.requires.net) at.counted }

pub returns-in_err-push_memory-clause-prefix : goal.returns-in_err-push_memory-clause-prefix
returns-in_err-push_memory-clause-prefix g c =
    let told = g.O.Sink.written in
    let net = c.args.net.now in
    let n = netlist_of net in
    let states = states_of n c.args.sim.now.states in
    let at = next net c.requires.valid states c.deref-cell-items.result.now c.loop-cell.mem c.loop-cell.cell-index c.cell-item.result c.deref-cell-items.ensures.value c.loop-cell-test.true c.cell-item.is c.loop-cell.invariant.left c.if-cell.true in
    let name = text_of net.names c.cell-item.result.name in
    let named = text_of-slice_get net.names c.cell-item.result.name c.text.result.now c.text.ensures in
    let text = memory_text name (memory_words (states name at.prim)) in
    let shown = subst (λ (m : Netlist). IsShown m c.loop-cell.mem name at.prim) (sym c.requires.net) at.is_shown in
    let late : AppendsPrefix (told c.loop-cell.out) (told c.push_memory.new.out) (c.loop-cell.held ++ text) =
    subst (λ (m : Netlist). AppendsPrefix (told c.loop-cell.out) (told c.push_memory.new.out) (c.loop-cell.held ++ memory_text name (memory_words (states_of m c.args.sim.now.states name at.prim)))) c.requires.net
    (subst (λ t. AppendsPrefix (told c.loop-cell.out) (told c.push_memory.new.out) (c.loop-cell.held ++ memory_text t (memory_words (states_of (netlist_of c.args.sim.now.net) c.args.sim.now.states name at.prim)))) (sym named)
    (c.in_err-push_memory.ensures.prefix name at.prim shown)) in
    let prefix = passed_up_to_prefix (told c.args.out.now) (told c.loop-cell.out) (told c.push_memory.new.out) c.args.held.now c.loop-cell.held text (flat_map (shown_text states) (drop c.loop-cell.cell-index n.cells)) (flat_map (shown_text states) (drop (c.loop-cell.cell-index + 1) n.cells)) (memories_text n states) at.step c.loop-cell.invariant.passed late in
    search (rules, prefix)

pub loop-cell-preserved : goal.loop-cell-preserved
loop-cell-preserved g c =
    let told = g.O.Sink.written in
    let net = c.args.net.now in
    let n = netlist_of net in
    let states = states_of n c.args.sim.now.states in
    let i = c.loop-cell.cell-index in
    elim c.if-cell.branch [
      | then-cell+in_ok-push_memory w ↦
          let at = next net c.requires.valid states c.deref-cell-items.result.now c.loop-cell.mem i c.cell-item.result c.deref-cell-items.ensures.value c.loop-cell-test.true c.cell-item.is c.loop-cell.invariant.left w.if-cell.true in
          let name = text_of net.names c.cell-item.result.name in
          let named = text_of-slice_get net.names c.cell-item.result.name w.text.result.now w.text.ensures in
          let text = memory_text name (memory_words (states name at.prim)) in
          let shown = subst (λ (m : Netlist). IsShown m c.loop-cell.mem name at.prim) (sym c.requires.net) at.is_shown in
          let late : Passes (told c.loop-cell.out) c.loop-cell.held (told w.push_memory.new.out) w.push_memory.new.held text =
          subst (λ (m : Netlist). Passes (told c.loop-cell.out) c.loop-cell.held (told w.push_memory.new.out) w.push_memory.new.held (memory_text name (memory_words (states_of m c.args.sim.now.states name at.prim)))) c.requires.net
          (subst (λ t. Passes (told c.loop-cell.out) c.loop-cell.held (told w.push_memory.new.out) w.push_memory.new.held (memory_text t (memory_words (states_of (netlist_of c.args.sim.now.net) c.args.sim.now.states name at.prim)))) (sym named)
          (w.in_ok-push_memory.ensures.passed name at.prim shown)) in
          let passed = passed_up_to_more (told c.args.out.now) (told c.loop-cell.out) (told w.push_memory.new.out) c.args.held.now c.loop-cell.held w.push_memory.new.held text (flat_map (shown_text states) (drop i n.cells)) (flat_map (shown_text states) (drop (i + 1) n.cells)) (memories_text n states) at.step c.loop-cell.invariant.passed late in
          rw (w.held-is, w.out-is, w.mem-is) (record {
            left = at.left;
            counted = omega (arith, c.loop-cell.invariant.counted);
            passed = passed;
            never_falls = omega (arith, c.loop-cell.invariant.never_falls, w.in_ok-push_memory.ensures.never_falls);
          })
      | else-cell w ↦
          let next = next_hidden n states net.names net.cells.items refl c.loop-cell.mem i c.cell-item.result (omega (arith, c.loop-cell-test.true, ap length c.deref-cell-items.ensures.value)) (c.cell-item.is ∙ ap (λ (l : List NetCell). get_or l i c.cell-item.result) c.deref-cell-items.ensures.value) c.loop-cell.invariant.left w.if-cell.false in
          rw (w.held-is, w.out-is, w.mem-is) (record {
            left = next.0;
            counted = omega (arith, c.loop-cell.invariant.counted);
            passed = subst (λ text. PassedUpTo (told c.args.out.now) c.args.held.now (told c.loop-cell.out) c.loop-cell.held text (memories_text n states)) next.1 c.loop-cell.invariant.passed;
            never_falls = c.loop-cell.invariant.never_falls;
          })
    ]
