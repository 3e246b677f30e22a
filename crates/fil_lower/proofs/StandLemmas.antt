-- Lowered designs path by path: where a Filament component stands its lowering stands, and primitive instances are cells.
use Rattle.std.proofs.Common.{◌≡◌, ℕ, Bool, true, false, List, [], ◌∷◌, ◌++◌, take, slice_get, All, Option, Some, None, refl, sym, ap, subst, ◌∙◌, inl}
use Rattle.std.specs.Option.{option_and_then}
use Rattle.std.specs.Prelude.{Contains}
use Rattle.std.proofs.lemmas.Bool.{false≢true}
use Rattle.std.proofs.lemmas.List.Elements.{All-contains_itself, All-head, All-weaker}
use Rattle.hw_names.specs.Name.{Path, Text, dotted, full_name}
use Rattle.hw_names.proofs.NameLemmas.{full_name-append}
use Rattle.hw_prims.specs.Cell.{IsCell, state_before}
use Rattle.hw_prims.specs.Filament.{is_timed}
use Rattle.hw_prims.specs.Meaning.{opening_state, output_values}
use Rattle.hw_prims.specs.Memory.{keeps_words}
use Rattle.hw_prims.specs.Row.{values_at}
use Rattle.hw_prims.specs.State.{State}
use Rattle.hw_prims.specs.Table.{inputs_of, outputs_of, pin_names}
use Rattle.hw_prims.specs.declared.prim.Primitive.{Primitive}
use Rattle.hw_prims.specs.declared.prim.Primitive.TheVariants.{StdMemD1, StdMemD2}
use Rattle.cal_ast.proofs.PathLoopLemmas.{assignments_are_plain}
use Rattle.cal_ast.specs.Instances.{component_at}
use Rattle.cal_ast.specs.Naming.{Unreserved}
use Rattle.cal_ast.specs.Plain.{IsPlainPort}
use Rattle.cal_ast.specs.Ports.{part_in, primitive_in, primitive_of}
use Rattle.cal_ast.specs.Tree as calyx
use Rattle.cal_ast.specs.Tree.{Assignment}
use Rattle.cal_ast.specs.Wires.{set_ports}
use Rattle.fil_ast.specs.Primitives.{filament_primitive, is_filament_primitive}
use Rattle.fil_ast.specs.Scope.{Instance, instance_named}
use Rattle.fil_ast.specs.Tree.{Component}
use Rattle.fil_ast.specs.Wires.{whole_scope}
use Rattle.fil_share.proofs.ListLemmas.{Contains-at}
use Rattle.fil_lower.specs.Wires.{Stands, AtTop, Within}
use Rattle.fil_lower.specs.inside.Lowered.{IsLowered}
use Rattle.fil_lower.specs.inside.LoweredDesign.{IsLoweredDesign, run_at}
use Rattle.fil_lower.specs.inside.Lowering.{lowered_sets, lowering_with}
use Rattle.fil_lower.specs.inside.LoweringLaws.{LoweringsArePlain, LoweringsShowPlans}
use Rattle.fil_lower.specs.inside.Plan.{Use}
use Rattle.fil_lower.specs.inside.PlanOf.{plan_of}
use Rattle.fil_lower.proofs.ItemLemmas.{keeps_all}
use Rattle.fil_lower.proofs.LoweredParts.{LoweredPair, StandingComp, TopRun, comp_of}
use Rattle.fil_lower.proofs.PartLemmas.{cell_of, comp_at, component_cell, low_at, table_primitive}
use Rattle.fil_lower.proofs.RowLemmas.{is_lowered, shown}
use Rattle.fil_lower.proofs.TimingLemmas.{filament_is_timed}

-- ---- paths

same_option : {X : Type 0} (o : Option X) → option_and_then (λ (x : X). Some x) o ≡ o
same_option None = refl
same_option (Some x) = refl

-- the component of a longer path is a part of that of the shorter one
pub component_below : (design : calyx.Design) (c : calyx.Component) (path : Path) (inst : Text) →
    component_at design c (path ++ inst ∷ []) ≡ option_and_then (λ (d : calyx.Component). part_in design d inst) (component_at design c path)
component_below design c [] inst = same_option (part_in design c inst)
component_below design c (cell ∷ path) inst = by (part_in design c cell) (λ part. component_below design part path inst)
  where
    by : (o : Option calyx.Component) → ((part : calyx.Component) → component_at design part (path ++ inst ∷ []) ≡ option_and_then (λ (d : calyx.Component). part_in design d inst) (component_at design part path))
        → option_and_then (λ (part : calyx.Component). component_at design part (path ++ inst ∷ [])) o
        ≡ option_and_then (λ (d : calyx.Component). part_in design d inst) (option_and_then (λ (part : calyx.Component). component_at design part path) o)
    by None rest = refl
    by (Some part) rest = rest part

-- ---- cells

-- but for memories no cell opens with words
opens_without_words : (prim : Primitive) → is_timed prim ≡ true → (words : List ℕ) → opening_state prim words ≡ opening_state prim []
unfolding opening_state is_timed keeps_words
opens_without_words (StdMemD1 w size idx) timed words = absurd (false≢true timed)
opens_without_words (StdMemD2 w size0 size1 idx0 idx1) timed words = absurd (false≢true timed)
opens_without_words prim timed words = refl

module _ (pair : LoweredPair) (from_top : TopRun pair) where
  open pair use {comps, rules, plain, design, lowered, plain_design}
  open from_top use {number, top, at_top, asked, inputs, loads, height, trace, run}

  -- the lowering of component n stands at the path
  pub record IsLowAt (n : ℕ) (path : Path) : Type 0 where
    pub c : Component
    pub here : slice_get comps n ≡ Some c
    pub low : calyx.Component
    pub at_low : slice_get design n ≡ Some low
    pub at : component_at design top path ≡ Some low

  part_of_low : (n : ℕ) (c : Component) (low : calyx.Component) → slice_get comps n ≡ Some c → slice_get design n ≡ Some low → (inst : Text) (i : Instance) → instance_named (whole_scope (take n comps) c).instances inst ≡ Some i →
      is_filament_primitive i.made ≡ false → (m : ℕ) (d : Component) (part : calyx.Component) → slice_get comps m ≡ Some d → slice_get design m ≡ Some part → d.name ≡ i.made → part_in design low inst ≡ Some part
  part_of_low n c low here at_low inst i found none m d part at_m at_part is_named =
      ap (λ (x : calyx.Component). part_in design x inst) (lowered.components n c low here at_low).is
      ∙ (component_cell (comp_of pair n c low here at_low) inst i found m d part at_m at_part is_named none).1

  stands_low : (n : ℕ) (path : Path) → Stands comps number n path → IsLowAt n path
  stands_low n path AtTop = let c = comp_at pair number top at_top in record { c = c.0; here = c.1; low = top; at_low = at_top; at = refl }
  stands_low n path (Within k m before c d inst i stands here found none below at_m is_named) =
      let s = stands_low k before stands in
      let part = low_at pair m d at_m in
      record {
        c = d;
        here = at_m;
        low = part.0;
        at_low = part.1;
        at = component_below design top before inst ∙ ap (option_and_then (λ (x : calyx.Component). part_in design x inst)) s.at ∙ part_of_low k c s.low here s.at_low inst i found none m d part.0 at_m part.1 is_named;
      }

  pub plain_of : (n : ℕ) (c : Component) (low : calyx.Component) (here : slice_get comps n ≡ Some c) (at_low : slice_get design n ≡ Some low) →
      All (λ (a : Assignment). IsPlainPort a.dst) (lowered_sets (lowering_with (take n comps) c (comp_of pair n c low here at_low).registers))
  plain_of n c low here at_low =
      let sets : All (λ (a : Assignment). IsPlainPort a.dst) low.sets =
      All-weaker (Contains low.sets) (λ (a : Assignment). IsPlainPort a.dst) (λ a has.
      All-head IsPlainPort a.dst (set_ports a) (assignments_are_plain Unreserved design low a plain_design (keeps_all comps rules design lowered) (Contains-at design n low at_low) (inl has))) low.sets (All-contains_itself low.sets) in
      subst (λ (x : calyx.Component). All (λ (a : Assignment). IsPlainPort a.dst) x.sets) (lowered.components n c low here at_low).is sets

  -- a component that stands at a path, in the run
  abbrev pub standing_of : (n : ℕ) (c : Component) (low : calyx.Component) (here : slice_get comps n ≡ Some c) (at_low : slice_get design n ≡ Some low) (path : Path) → component_at design top path ≡ Some low → StandingComp (comp_of pair n c low here at_low)
  standing_of n c low here at_low path at =
      record { below_top = from_top; path = path; at = at ∙ ap Some (lowered.components n c low here at_low).is; plain_sets = plain_of n c low here at_low }

  components_shown : (n : ℕ) (path : Path) (c : Component) → Stands comps number n path → slice_get comps n ≡ Some c → (feeds : Use → Text → ℕ → Bool) × IsLowered (plan_of (take n comps) c) (run_at path feeds height trace)
  components_shown n path c stands here =
      let s = stands_low n path stands in
      let comp = comp_of pair n c s.low here s.at_low in
      let standing = standing_of n c s.low here s.at_low path s.at in
      ((shown comp standing).feeds, is_lowered comp standing)

  primitives_shown : (n : ℕ) (path : Path) (c : Component) (inst : Text) (i : Instance) (prim : Primitive) → Stands comps number n path → slice_get comps n ≡ Some c →
      instance_named (whole_scope (take n comps) c).instances inst ≡ Some i → filament_primitive i.made i.params ≡ Some prim → IsCell prim (full_name (path ++ inst ∷ [])) height trace
  primitives_shown n path c inst i prim stands here found is r below =
      let s = stands_low n path stands in
      let made : primitive_in s.low inst ≡ Some prim =
      ap (λ (x : calyx.Component). primitive_in x inst) (lowered.components n c s.low here s.at_low).is
      ∙ ap (option_and_then primitive_of) (cell_of (comp_of pair n c s.low here s.at_low) inst i found) ∙ table_primitive (take n comps) i.made i.params prim is in
      let computed = (run.rows r below).computed (full_name path inst) prim (record { path = path; c = s.low; at = s.at; cell = inst; made = made; named = refl }) in
      let names : dotted (full_name path inst) ≡ full_name (path ++ inst ∷ []) = λ j pin. sym (full_name-append path inst pin) j in
      let opens = opens_without_words prim (filament_is_timed i.made i.params prim is) (loads (full_name path inst)) in
      subst (λ (at : Text → Text). values_at (trace r) at (pin_names (outputs_of prim)) ≡ output_values prim (state_before r trace at prim (opening_state prim [])) (values_at (trace r) at (pin_names (inputs_of prim)))) names
      (subst (λ (state : State). values_at (trace r) (dotted (full_name path inst)) (pin_names (outputs_of prim)) ≡ output_values prim (state_before r trace (dotted (full_name path inst)) prim state) (values_at (trace r) (dotted (full_name path inst)) (pin_names (inputs_of prim)))) opens computed)

  pub is_lowered_design : IsLoweredDesign comps number height trace
  is_lowered_design = record { components = components_shown; primitives = primitives_shown }

pub lowerings_show_by : LoweringsArePlain → LoweringsShowPlans
lowerings_show_by are_plain comps design rules plain lowered number low at_low asked inputs loads height trace run =
    is_lowered_design (record { comps = comps; rules = rules; plain = plain; design = design; lowered = lowered; plain_design = are_plain comps design rules plain lowered })
    (record { number = number; top = low; at_top = at_low; asked = asked; inputs = inputs; loads = loads; height = height; trace = trace; run = run })
