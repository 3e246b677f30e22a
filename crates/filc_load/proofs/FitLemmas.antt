-- What is read of a stimulus for what a netlist lets it set fits the netlist.
use Rattle.std.proofs.Common.{◌≡◌, ◌≤◌, List, [], ◌∷◌, Some, length, map, get_or, refl, sym, ap, subst, ◌∙◌, arith}
use Rattle.std.specs.Prelude.{All}
use Rattle.std.specs.Option.{option_map}
use Rattle.std.proofs.lemmas.List.{length-map}
use Rattle.std.proofs.lemmas.Option.{slice_get-map, slice_get_within, same_Some}
use Rattle.hw_bits.specs.Values.{widths_of}
use Rattle.hw_names.specs.Name.{Text}
use Rattle.hw_prims.specs.Memory.{word_count, word_width}
use Rattle.hw_prims.specs.Table.{Pin, pin_widths}
use Rattle.hw_prims.specs.declared.prim.Primitive.{Primitive}
use Rattle.net_core.specs.declared.stimulus.InputShape.{InputShape}
use Rattle.net_core.specs.Netlist.{Netlist}
use Rattle.net_core.specs.declared.stimulus.CycleList.{CycleList}
use Rattle.net_core.specs.declared.stimulus.MemLoad.{MemLoad}
use Rattle.net_core.specs.declared.stimulus.MemShape.{MemShape}
use Rattle.net_sim.specs.Shown.{shown_cells, IsShown}
use Rattle.stim_read.specs.Fits.{FitsRun, LoadsMemory}
use Rattle.filc_load.specs.Built.{FitsNet}
use Rattle.filc_load.specs.Given.{FitsMemory, FitInputs}
use Rattle.filc_load.specs.Settable.{input_shape, settable_inputs, shape_with, memory_shape, settable_memories}

input_shape_widths : (pins : List Pin) → map (λ (i : InputShape). i.width) (map input_shape pins) ≡ pin_widths pins
input_shape_widths [] = refl
input_shape_widths (p ∷ pins) = ap (λ widths. p.width ∷ widths) (input_shape_widths pins)

-- the memory of a load is that of a shown cell
module _ (n : Netlist) (load : MemLoad) (loads : LoadsMemory (settable_memories n) load) where
  memory_is : (cell : Text) (prim : Primitive) → IsShown n load.mem cell prim → loads.memory ≡ record { name = cell; width = word_width prim; size = word_count prim }
  memory_is cell prim shown =
      same_Some loads.memory (memory_shape shown.line) (sym loads.at ∙ slice_get-map memory_shape (shown_cells n) load.mem ∙ ap (option_map memory_shape) shown.at)
      ∙ ap (shape_with shown.line.name) shown.made_of
      ∙ ap (λ name. shape_with name (Some prim)) shown.named

  fits_memory : FitsMemory n load
  fits_memory = record {
    memory = omega (arith, slice_get_within (settable_memories n) load.mem loads.memory loads.at, length-map (shown_cells n) memory_shape);
    few = λ cell prim shown. subst (λ (m : MemShape). length load.words.items ≤ m.size) (memory_is cell prim shown) loads.few;
    widths = λ cell prim shown. subst (λ (m : MemShape). All (λ w. w ≡ m.width) (widths_of load.words.items)) (memory_is cell prim shown) loads.widths;
  }

-- what a stimulus gives fits the netlist
pub fits_net : (n : Netlist) (list : CycleList) → FitsRun (settable_inputs n) (settable_memories n) list → FitsNet n list
fits_net n list fits = record {
  sets = record {
    fit = subst (λ widths. FitInputs widths list.sets.items) (input_shape_widths n.ins) fits.sets;
    in_order = fits.in_order;
  };
  loads = λ k d within. fits_memory n (get_or list.loads.items k d) (fits.loads k d within);
}
