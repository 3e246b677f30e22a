use Rattle.std.proofs.Common.{[], List, All, Some, length, map, ap, refl, sym, subst, ◌∙◌, arith}
use Rattle.std.proofs.lemmas.Option.{slice_get_read}
use Rattle.hw_names.proofs.NameLemmas.{text_of-slice_get}
use Rattle.net_core.specs.declared.net.Net.{Net}
use Rattle.cal_ast.specs.Tree.{pin_tree}
use Rattle.cal_ast.specs.declared.tree.CalPin.{CalPin}
use Rattle.net_flat.specs.Listing.{flat_pin}
use Rattle.net_flat.specs.inside.Placed.{AreInstances, InstanceHasNumbers}
use Rattle.net_flat.specs.inside.StandFor.{ArePins}
use Rattle.net_flat.specs.declared.instances.Instance.{Instance}
use Rattle.net_flat.proofs.MadeLemmas.{All-rest, Made, lists, slice_rest, some_instances}
use Rattle.net_flat.proofs.listing.list_design.Goals as goal

pub slice_bounds-wires-count : goal.slice_bounds-wires-count
slice_bounds-wires-count c =
    let some = some_instances c.args.design.now c.index-top.result.now c.in_ok-all.all.items c.requires.some c.in_ok-all.ensures in
    omega (arith, some, ap length c.deref-3.ensures.value)

pub slice_bounds-wires-start : goal.slice_bounds-wires-start
slice_bounds-wires-start c =
    let some = some_instances c.args.design.now c.index-top.result.now c.in_ok-all.all.items c.requires.some c.in_ok-all.ensures in
    omega (arith, some, ap length c.deref-3.ensures.value)

pub wires-requires : goal.wires-requires
wires-requires c =
    let d = c.args.design.now in
    let rest = slice_rest c.deref-3.result.now c.in_ok-all.all.items c.deref-3.ensures.value in
    subst (λ (is : List Instance). All (InstanceHasNumbers d.names) is) (sym rest) (All-rest (InstanceHasNumbers d.names) c.in_ok-all.all.items c.in_ok-all.ensures.numbers)

pub returns : goal.returns
returns c =
    let d = c.args.design.now in
    let place = c.top_of.result in
    let top = c.index-top.result.now in
    let all = c.in_ok-all.all.items in
    let rest = slice_rest c.deref-3.result.now all c.deref-3.ensures.value in
    let net : Net = record { names = c.sets.new.names; name = c.in_ok-name.name; ins = c.in_ok-ins.ins; outs = c.in_ok-outs.outs; wires = c.in_ok-wires.wires; cells = c.in_ok-cells.cells; sets = c.in_ok-sets.sets } in
    let pins = λ (ps : List CalPin). map (flat_pin []) (map (pin_tree d.names) ps) in
    let made : Made d place top all net = record {
      is_top = c.top_of.ensures.top;
      at = slice_get_read d.comps.items (length d.comps.items) place top refl c.top_of.ensures.within c.index-top.ensures;
      instances = c.in_ok-all.ensures;
      with_name = c.number_of.new.names;
      name = c.in_ok-name.ensures.text ∙ ap Some (sym (text_of-slice_get d.names top.name c.text.result.now c.text.ensures));
      with_ins = c.pins_at.new.names;
      name_kept = c.pins_at.ensures.kept;
      ins = subst (λ (ps : List CalPin). ArePins c.pins_at.new.names (pins ps) c.in_ok-ins.ins.items) c.deref.ensures.value (c.in_ok-ins.ensures.pins [] refl);
      with_outs = c.pins_at-2.new.names;
      ins_kept = c.pins_at-2.ensures.kept;
      outs = subst (λ (ps : List CalPin). ArePins c.pins_at-2.new.names (pins ps) c.in_ok-outs.outs.items) c.deref-2.ensures.value (c.in_ok-outs.ensures.pins [] refl);
      with_wires = c.wires.new.names;
      outs_kept = c.wires.ensures.kept;
      wires = λ listed h. c.in_ok-wires.ensures.wires listed (subst (λ (is : List Instance). AreInstances d.names listed is) (sym rest) h);
      with_cells = c.cells.new.names;
      wires_kept = c.cells.ensures.kept;
      cells = λ listed h. c.in_ok-cells.ensures.cells listed (subst (λ (is : List Instance). AreInstances d.names listed is) (sym c.deref-4.ensures.value) h);
      cells_kept = c.sets.ensures.kept;
      sets = λ listed h. c.in_ok-sets.ensures.sets listed (subst (λ (is : List Instance). AreInstances d.names listed is) (sym c.deref-5.ensures.value) h);
    } in
    lists d place top all net c.requires.wired made
