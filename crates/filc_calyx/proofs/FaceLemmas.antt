-- Netlists that look alike from outside take the same stimuli, and print the same memories; one that refines a Calyx component looks like its face.
use Rattle.std.proofs.Common.{◌≡◌, ℕ, Bool, true, false, ◌&&◌, List, [], ◌∷◌, ◌++◌, cond, if◌then◌else◌, filter, flat_map, map, length, refl, sym, ap, subst₂, ◌∙◌}
use mathlib.Core.Path.{fun_ext}
use Rattle.std.specs.Prelude.{bytes_eq, replicate, slice_index_or}
use Rattle.hw_names.specs.Name.{Text}
use Rattle.hw_prims.specs.State.{State}
use Rattle.hw_prims.specs.Table.{Pin, is_memory, pin_names, prim_of}
use Rattle.hw_prims.specs.declared.prim.Primitive.{Primitive}
use Rattle.net_core.specs.declared.stimulus.InputShape.{InputShape}
use Rattle.net_core.specs.Netlist.{CellLine, Netlist}
use Rattle.net_core.specs.declared.stimulus.MemShape.{MemShape}
use Rattle.net_sim.specs.Shown.{is_shown, shown_cells}
use Rattle.net_sim.specs.Slots.{row_of}
use Rattle.cal_ast.specs.Keeping.{flat_cell}
use Rattle.cal_ast.specs.Tree.{CellDef, Component, Design}
use Rattle.cal_net.specs.Face.{face}
use Rattle.cal_net.specs.Refining.{RefinesFrom}
use Rattle.stim_read.specs.CycleRun.{GiveRun, IsCause, Load, Run, Setting}
use Rattle.filc_load.specs.Built.{IsNotGiven}
use Rattle.filc_load.specs.Given.{after_load, after_loads, begun_with, given_inputs, is_made_by, with_settings}
use Rattle.filc_load.specs.Settable.{input_shape, memory_shape, settable_inputs, settable_memories}
use Rattle.filc_load.specs.StimulusFile.{FileGivesRun, run_causes}
use Rattle.filc_report.specs.Rows.{cell_words, memories_text, memory_text, outputs_of_net, shown_text}
use Rattle.filc_stop.specs.Outcome.{Contents}
use Rattle.filc_stop.specs.declared.stop.Stop.{Stop}

-- the same inputs, outputs and shown memories
pub record LookAlike (n m : Netlist) : Type 0 where
  pub ins : n.ins ≡ m.ins
  pub outs : n.outs ≡ m.outs
  pub shown : shown_cells n ≡ shown_cells m

-- ---- the face

abbrev is_observable : CellDef → Bool
is_observable cell = cell.external && is_memory cell.made

shown_step : (x : CellDef) (b : Bool) (kept : List CellDef) → (flat_cell [] x).shown ≡ b → filter is_shown (map (flat_cell []) kept) ≡ map (flat_cell []) kept
    → filter is_shown (map (flat_cell []) (cond b (x ∷ kept) kept)) ≡ map (flat_cell []) (cond b (x ∷ kept) kept)
shown_step x true kept e rest =
    let shown : List CellLine = filter is_shown (map (flat_cell []) kept) in
    ap (λ (b : Bool). cond b (flat_cell [] x ∷ shown) shown) e ∙ ap (λ (lines : List CellLine). flat_cell [] x ∷ lines) rest
shown_step x false kept e rest = rest

all_shown : (cells : List CellDef) → filter is_shown (map (flat_cell []) (filter is_observable cells)) ≡ map (flat_cell []) (filter is_observable cells)
all_shown [] = refl
all_shown (x ∷ cells) = shown_step x (is_observable x) (filter is_observable cells) refl (all_shown cells)

-- a netlist that refines a component looks like its face
pub look_alike : (design : Design) (top : Component) (n : Netlist) → RefinesFrom design top n → LookAlike n (face top)
look_alike design top n is = record { ins = is.refines.ins; outs = is.refines.outs; shown = is.memories ∙ sym (all_shown top.cells) }

-- ---- what is printed of memories

text_step : (states : Text → Primitive → State) (c : CellLine) (cells kept : List CellLine) (b : Bool) → c.shown ≡ b → flat_map (shown_text states) cells ≡ flat_map (shown_text states) kept
    → flat_map (shown_text states) (c ∷ cells) ≡ flat_map (shown_text states) (cond c.shown (c ∷ kept) kept)
text_step states c cells kept true e rest =
    ap (λ (text : Text). shown_text states c ++ text) rest ∙ sym (ap (λ (b : Bool). flat_map (shown_text states) (cond b (c ∷ kept) kept)) e)
text_step states c cells kept false e rest =
    ap (λ (b : Bool). (if b then memory_text c.name (cell_words states c.name (prim_of c.prim c.params)) else []) ++ flat_map (shown_text states) cells) e
    ∙ rest ∙ sym (ap (λ (b : Bool). flat_map (shown_text states) (cond b (c ∷ kept) kept)) e)

-- a cell that isn't shown has no line
shown_alone : (states : Text → Primitive → State) (cells : List CellLine) → flat_map (shown_text states) cells ≡ flat_map (shown_text states) (filter is_shown cells)
shown_alone states [] = refl
shown_alone states (c ∷ cells) = text_step states c cells (filter is_shown cells) c.shown refl (shown_alone states cells)

module _ (n m : Netlist) (alike : LookAlike n m) where
  pub same_memories_text : (states : Text → Primitive → State) → memories_text n states ≡ memories_text m states
  same_memories_text states = shown_alone states n.cells ∙ ap (flat_map (shown_text states)) alike.shown ∙ sym (shown_alone states m.cells)

  pub same_outputs : outputs_of_net n ≡ outputs_of_net m
  same_outputs = ap (map (λ (p : Pin). p.name)) alike.outs

  -- ---- what a stimulus gives

  same_settable : settable_inputs n ≡ settable_inputs m
  same_settable = ap (map input_shape) alike.ins

  same_shapes : settable_memories n ≡ settable_memories m
  same_shapes = ap (map memory_shape) alike.shown

  pub file_gives_alike : (contents : Contents) (stimulus : Text) (run : Run) → FileGivesRun contents stimulus n run → FileGivesRun contents stimulus m run
  file_gives_alike contents stimulus run is = record {
    bytes = is.bytes;
    told = is.told;
    gives = record {
      within = is.gives.within;
      gives = subst₂ (λ (ins : List InputShape) (mems : List MemShape). GiveRun is.bytes ins mems run) same_settable same_shapes is.gives.gives;
    };
  }

  pub not_given_alike : (contents : Contents) (stimulus : Text) (why : Stop) → IsNotGiven contents stimulus (λ text. run_causes text n) why → IsNotGiven contents stimulus (λ text. run_causes text m) why
  not_given_alike contents stimulus why is =
      subst₂ (λ (ins : List InputShape) (mems : List MemShape). IsNotGiven contents stimulus (λ text. IsCause text ins mems) why) same_settable same_shapes is

  pub same_inputs : (settings : List Setting) → given_inputs n settings ≡ given_inputs m settings
  same_inputs settings = fun_ext (λ row. ap (λ (ins : List Pin). row_of (pin_names ins) (with_settings (filter (is_made_by row) settings) (replicate (length ins) 0))) alike.ins)

  one_load : (l : Load) (before : Text → List ℕ) → after_load n l before ≡ after_load m l before
  one_load l before = fun_ext (λ cell. ap (λ (cells : List CellLine).
      if bytes_eq (slice_index_or (map (λ (c : CellLine). c.name) cells) l.memory []) cell then begun_with l.values (before cell) else before cell) alike.shown)

  pub same_loads : (loads : List Load) (before : Text → List ℕ) → after_loads n loads before ≡ after_loads m loads before
  same_loads [] before = refl
  same_loads (l ∷ loads) before = same_loads loads (after_load n l before) ∙ ap (after_loads m loads) (one_load l before)
