-- What the code has made of a design lists its instances.
use Rattle.std.proofs.Common.{◌≡◌, ℕ, zero, suc, ◌-◌, ◌<◌, ◌≤◌, List, [], ◌∷◌, length, map, take, drop, length-drop, slice_get, All, Some, option_map, refl, ap, subst, ◌∙◌, arith}
use Rattle.std.specs.List.{flat_map}
use Rattle.std.proofs.lemmas.List.{length-map, take_all}
use Rattle.std.proofs.lemmas.Option.{slice_get-map, slice_get_within}
use Rattle.cal_ast.proofs.ListLemmas.{Contains-at}
use Rattle.hw_names.specs.Name.{Text, KeepsTexts, text_of}
use Rattle.hw_prims.specs.Table.{Pin}
use Rattle.cal_ast.specs.Top.{IsTop}
use Rattle.cal_ast.specs.Tree.{Component, Design, component_tree, design_of, pin_tree}
use Rattle.cal_ast.specs.Wired.{IsWired}
use Rattle.cal_ast.specs.declared.tree.CalComp.{CalComp}
use Rattle.cal_ast.specs.declared.tree.CalDesign.{CalDesign}
use Rattle.net_core.specs.Netlist.{pin_of, cell_of}
use Rattle.net_core.specs.Numbers.{PortHasNumbers, CellHasNumbers}
use Rattle.net_core.specs.declared.net.Net.{Net}
use Rattle.net_flat.specs.inside.Levels.{levels}
use Rattle.net_flat.specs.Listing as listing
use Rattle.net_flat.specs.Listing.{cells_at, flat_pin, sets_at, wires_at}
use Rattle.net_flat.specs.inside.ListingOf.{IsListingOf}
use Rattle.net_flat.specs.inside.Placed.{AreInstances}
use Rattle.net_flat.specs.inside.StandFor.{AreCells, ArePins, AreSets}
use Rattle.net_flat.specs.declared.instances.Instance.{Instance}
use Rattle.net_flat.proofs.FoundLemmas.{instances_rest, same_length}
use Rattle.net_flat.proofs.LevelLemmas.{levels_begin}
use Rattle.net_flat.proofs.LevelListingLemmas.{levels_list_all}
use Rattle.net_flat.proofs.StandLemmas.{Keeps-then, all_kept, one_kept, stable_name, stable_pin, stable_cell}
use Rattle.net_flat.proofs.TextLemmas.{number_stands}

-- the levels of a design that has a component begin with the top
pub levels_of_some : (design : Design) (top : Component) (n m : ℕ) → m < n → (others : List listing.Instance) × (levels design top n ≡ ([], top) ∷ others)
levels_of_some design top zero m some = absurd (omega (arith, some))
levels_of_some design top (suc n) m some = levels_begin design top n

-- so the top is among its instances
pub some_instances : (d : CalDesign) (top : CalComp) (all : List Instance) → 0 < length d.comps.items
    → AreInstances d.names (levels (design_of d) (component_tree d.names top) (length d.comps.items)) all → 1 ≤ length all
some_instances d top all some h =
    let begun = levels_of_some (design_of d) (component_tree d.names top) (length d.comps.items) 0 some in
    omega (arith, same_length d.names (levels (design_of d) (component_tree d.names top) (length d.comps.items)) all h, ap length begun.1)

-- a slice from the second on is all but the first
pub slice_rest : (xs all : List Instance) → xs ≡ all → take (length xs - 1) (drop 1 xs) ≡ drop 1 all
slice_rest xs all same = take_all (length xs - 1) (drop 1 xs) (omega (arith, length-drop 1 xs)) ∙ ap (drop 1) same

pub All-rest : {X : Type 0} (P : X → Type 0) (xs : List X) → All P xs → All P (drop 1 xs)
All-rest P [] h = h
All-rest P (x ∷ xs) h = λ k d within. h (suc k) d (omega (arith, within))

-- at the top names are as they are
flat_none : (pins : List Pin) → map (flat_pin []) pins ≡ pins
flat_none [] = refl
flat_none (p ∷ pins) = ap (λ (ps : List Pin). p ∷ ps) (flat_none pins)

-- what was made of a design from its top component, while names got numbers
pub record Made (d : CalDesign) (place : ℕ) (top : CalComp) (all : List Instance) (net : Net) : Type 0 where
  pub is_top : IsTop (design_of d) place
  pub at : slice_get d.comps.items place ≡ Some top
  pub instances : AreInstances d.names (levels (design_of d) (component_tree d.names top) (length d.comps.items)) all
  pub with_name : List Text
  pub name : slice_get with_name net.name.0 ≡ Some (text_of d.names top.name)
  pub with_ins : List Text
  pub name_kept : KeepsTexts with_name with_ins
  pub ins : ArePins with_ins (map (flat_pin []) (map (pin_tree d.names) top.ins.items)) net.ins.items
  pub with_outs : List Text
  pub ins_kept : KeepsTexts with_ins with_outs
  pub outs : ArePins with_outs (map (flat_pin []) (map (pin_tree d.names) top.outs.items)) net.outs.items
  pub with_wires : List Text
  pub outs_kept : KeepsTexts with_outs with_wires
  pub wires : (listed : List listing.Instance) → AreInstances d.names listed (drop 1 all) → ArePins with_wires (flat_map wires_at listed) net.wires.items
  pub with_cells : List Text
  pub wires_kept : KeepsTexts with_wires with_cells
  pub cells : (listed : List listing.Instance) → AreInstances d.names listed all → AreCells with_cells (flat_map cells_at listed) net.cells.items
  pub cells_kept : KeepsTexts with_cells net.names
  pub sets : (listed : List listing.Instance) → AreInstances d.names listed all → AreSets net.names (flat_map sets_at listed) net.sets.items

pub lists : (d : CalDesign) (place : ℕ) (top : CalComp) (all : List Instance) (net : Net) → IsWired (design_of d) → Made d place top all net → IsListingOf (design_of d) net
lists d place top all net wired m =
    let design = design_of d in
    let tree = component_tree d.names top in
    let at : slice_get design place ≡ Some tree = slice_get-map (component_tree d.names) d.comps.items place ∙ ap (option_map (component_tree d.names)) m.at in
    let count : length design ≡ length d.comps.items = length-map d.comps.items (component_tree d.names) in
    let begun = levels_of_some design tree (length d.comps.items) place (slice_get_within d.comps.items place top m.at) in
    let others = begun.0 in
    let whole = subst (λ (js : List listing.Instance). AreInstances d.names js all) begun.1 m.instances in
    let below = instances_rest d.names ([], tree) others all whole in
    let all_there = levels_list_all design tree others wired.rules.keeps (Contains-at design place tree at) (ap (levels design tree) count ∙ begun.1) in
    let sets_from = m.cells_kept in
    let wires_from = Keeps-then m.with_wires m.with_cells net.names m.wires_kept sets_from in
    let outs_from = Keeps-then m.with_outs m.with_wires net.names m.outs_kept wires_from in
    let ins_from = Keeps-then m.with_ins m.with_outs net.names m.ins_kept outs_from in
    let name_from = Keeps-then m.with_name m.with_ins net.names m.name_kept ins_from in
    let name = one_kept _ _ stable_name m.with_name net.names (text_of d.names top.name) net.name name_from (number_stands m.with_name net.name (text_of d.names top.name) m.name) in
    let ins = all_kept PortHasNumbers pin_of stable_pin m.with_ins net.names _ net.ins.items ins_from m.ins in
    let outs = all_kept PortHasNumbers pin_of stable_pin m.with_outs net.names _ net.outs.items outs_from m.outs in
    let wires = all_kept PortHasNumbers pin_of stable_pin m.with_wires net.names _ net.wires.items wires_from (m.wires others below) in
    let cells = all_kept CellHasNumbers cell_of stable_cell m.with_cells net.names _ net.cells.items sets_from (m.cells (([], tree) ∷ others) whole) in
    let sets = m.sets (([], tree) ∷ others) whole in
    record {
      place = place;
      is_top = m.is_top;
      top = tree;
      at = at;
      listing = record {
        others = others;
        found = all_there.found;
        listed = all_there.listed;
        once = all_there.once;
        name = name.tree;
        ins = ins.trees ∙ flat_none (map (pin_tree d.names) top.ins.items);
        outs = outs.trees ∙ flat_none (map (pin_tree d.names) top.outs.items);
        wires = wires.trees;
        cells = cells.trees;
        sets = sets.trees;
      };
      numbers = record { name = name.numbers; ins = ins.numbers; outs = outs.numbers; wires = wires.numbers; cells = cells.numbers; sets = sets.numbers };
    }
