-- Trees and their numbers stay where names keep their texts.
use Rattle.std.proofs.Common.{◌≡◌, List, [], ◌∷◌, map, Option, Some, None, option_map, IfSome, All, refl, ap, ap₂, ◌∙◌, arith}
use Rattle.std.proofs.lemmas.List.Elements.{All-head, All-tail, All-weaker}
use Rattle.hw_names.proofs.NameLemmas.{length-KeepsTexts, text_of-KeepsTexts}
use Rattle.hw_names.specs.Name.{KeepsTexts, Text, text_of}
use Rattle.hw_names.specs.declared.names.NameId.{NameId}
use Rattle.net_core.specs.Guard.{GuardTree, Reads, Compares, Negates, AllOf, AnyOf, MoreGuards, guard_option, guard_tree, guard_trees, source_tree}
use Rattle.net_core.specs.Numbers.{IsNumberOf}
use Rattle.net_core.specs.declared.net.Guard.{Guard, Row_of-Guard, end_of-Guard, more_of-Guard}
use Rattle.net_core.specs.declared.net.Guard as code
use Rattle.net_core.specs.declared.net.Src.{Src}
use Rattle.net_core.specs.declared.net.Src.TheVariants.{Port, Lit}
use Rattle.cal_ast.specs.Numbers.{CellHasNumbers, DoneHasNumbers, GroupHasNumbers, GuardHasNumbers, GuardsHaveNumbers, PinHasNumber, PortHasNumbers, SetHasNumbers, SourceHasNumbers, WhenHasNumbers}
use Rattle.cal_ast.specs.Tree.{Assignment, DoneLine, GroupDef, PortName, assignment_tree, cell_tree, done_tree, group_tree, pin_tree, port_tree}
use Rattle.cal_ast.specs.declared.tree.Assign.{Assign}
use Rattle.cal_ast.specs.declared.tree.CalCell.{CalCell}
use Rattle.cal_ast.specs.declared.tree.CalPin.{CalPin}
use Rattle.cal_ast.specs.declared.tree.CalPort.{CalPort}
use Rattle.cal_ast.specs.declared.tree.DoneSet.{DoneSet}
use Rattle.cal_ast.specs.declared.tree.Group.{Group}

pub KeepsTexts-refl : (names : List Text) → KeepsTexts names names
KeepsTexts-refl names i text found = found

pub KeepsTexts-trans : (a b c : List Text) → KeepsTexts a b → KeepsTexts b c → KeepsTexts a c
KeepsTexts-trans a b c first second i text found = second i text (first i text found)

-- two functions that agree on each element
pub map_kept : {X Y : Type 0} (f g : X → Y) (P : X → Type 0) → ((x : X) → P x → f x ≡ g x) → (xs : List X) → All P xs → map f xs ≡ map g xs
map_kept f g P same [] all = refl
map_kept f g P same (x ∷ xs) all = ap₂ ◌∷◌ (same x (All-head P x xs all)) (map_kept f g P same xs (All-tail P x xs all))

module _ (old new : List Text) (kept : KeepsTexts old new) where
  pub id_number : (id : NameId) → IsNumberOf old id → IsNumberOf new id
  id_number id known = omega (arith, length-KeepsTexts old new kept, known)

  -- a group that may be there
  pub by_kept : (by : Option NameId) → IfSome by (IsNumberOf old) → option_map (text_of new) by ≡ option_map (text_of old) by
  by_kept None known = refl
  by_kept (Some id) known = ap Some (text_of-KeepsTexts old new id kept known)

  pub by_numbers : (by : Option NameId) → IfSome by (IsNumberOf old) → IfSome by (IsNumberOf new)
  by_numbers None known = tt
  by_numbers (Some id) known = id_number id known

  -- ---- ports and sources

  pub port_kept : (p : CalPort) → PortHasNumbers old p → port_tree new p ≡ port_tree old p
  port_kept p known = ap₂ (λ cell pin. record { cell = cell; pin = pin }) (by_kept p.cell known.0) (text_of-KeepsTexts old new p.port kept known.1)

  pub port_numbers : (p : CalPort) → PortHasNumbers old p → PortHasNumbers new p
  port_numbers p known = (by_numbers p.cell known.0, id_number p.port known.1)

  pub source_kept : (s : Src CalPort) → SourceHasNumbers old s → source_tree (port_tree new) s ≡ source_tree (port_tree old) s
  source_kept (Port p) known = ap Port (port_kept p known)
  source_kept (Lit width value) known = refl

  pub source_numbers : (s : Src CalPort) → SourceHasNumbers old s → SourceHasNumbers new s
  source_numbers (Port p) known = port_numbers p known
  source_numbers (Lit width value) known = tt

  -- ---- guards

  mutual
    pub guard_kept : (g : Guard CalPort) → GuardHasNumbers old g → guard_tree (port_tree new) g ≡ guard_tree (port_tree old) g
    guard_kept (code.Read s) known = ap Reads (source_kept s.value known)
    guard_kept (code.Test op a b) known = ap₂ (Compares op) (source_kept a.value known.0) (source_kept b.value known.1)
    guard_kept (code.Not' p g) known = ap Negates (guard_kept g known)
    guard_kept (code.All' shape gs) known = ap AllOf (row_kept gs known)
    guard_kept (code.Any' shape gs) known = ap AnyOf (row_kept gs known)

    row_kept : {m : _} (gs : Row_of-Guard CalPort m) → GuardsHaveNumbers old gs → guard_trees (port_tree new) gs ≡ guard_trees (port_tree old) gs
    row_kept end_of-Guard known = refl
    row_kept (more_of-Guard g gs) known = ap₂ MoreGuards (guard_kept g known.0) (row_kept gs known.1)

  mutual
    pub guard_numbers : (g : Guard CalPort) → GuardHasNumbers old g → GuardHasNumbers new g
    guard_numbers (code.Read s) known = source_numbers s.value known
    guard_numbers (code.Test op a b) known = (source_numbers a.value known.0, source_numbers b.value known.1)
    guard_numbers (code.Not' p g) known = guard_numbers g known
    guard_numbers (code.All' shape gs) known = row_numbers gs known
    guard_numbers (code.Any' shape gs) known = row_numbers gs known

    row_numbers : {m : _} (gs : Row_of-Guard CalPort m) → GuardsHaveNumbers old gs → GuardsHaveNumbers new gs
    row_numbers end_of-Guard known = tt
    row_numbers (more_of-Guard g gs) known = (guard_numbers g known.0, row_numbers gs known.1)

  pub when_kept : (g : Option (Guard CalPort)) → WhenHasNumbers old g → guard_option (port_tree new) g ≡ guard_option (port_tree old) g
  when_kept None known = refl
  when_kept (Some g) known = ap Some (guard_kept g known)

  pub when_numbers : (g : Option (Guard CalPort)) → WhenHasNumbers old g → WhenHasNumbers new g
  when_numbers None known = tt
  when_numbers (Some g) known = guard_numbers g known

  -- ---- assignments, cells and pins

  pub set_kept : (a : Assign) → SetHasNumbers old a → assignment_tree new a ≡ assignment_tree old a
  set_kept a known =
      let of : PortName → Option (GuardTree PortName) → Src PortName → Assignment = λ dst guard src. record { dst = dst; guard = guard; src = src } in
      ap₂ (λ dst guard. of dst guard (source_tree (port_tree new) a.src)) (port_kept a.dst known.0) (when_kept a.guard known.1)
      ∙ ap (of (port_tree old a.dst) (guard_option (port_tree old) a.guard)) (source_kept a.src known.2)

  pub set_numbers : (a : Assign) → SetHasNumbers old a → SetHasNumbers new a
  set_numbers a known = (port_numbers a.dst known.0, when_numbers a.guard known.1, source_numbers a.src known.2)

  pub cell_kept : (c : CalCell) → CellHasNumbers old c → cell_tree new c ≡ cell_tree old c
  cell_kept c known =
      ap₂ (λ name made. record { name = name; made = made; params = c.params.items; external = c.external }) (text_of-KeepsTexts old new c.name kept known.0) (text_of-KeepsTexts old new c.made kept known.1)

  pub cell_numbers : (c : CalCell) → CellHasNumbers old c → CellHasNumbers new c
  cell_numbers c known = (id_number c.name known.0, id_number c.made known.1)

  pub pin_kept : (p : CalPin) → PinHasNumber old p → pin_tree new p ≡ pin_tree old p
  pin_kept p known = ap (λ name. record { name = name; width = p.width }) (text_of-KeepsTexts old new p.name kept known)

  pub pin_numbers : (p : CalPin) → PinHasNumber old p → PinHasNumber new p
  pin_numbers p known = id_number p.name known

  pub sets_kept : (xs : List Assign) → All (SetHasNumbers old) xs → map (assignment_tree new) xs ≡ map (assignment_tree old) xs
  sets_kept xs all = map_kept (assignment_tree new) (assignment_tree old) (SetHasNumbers old) set_kept xs all

  pub cells_kept : (xs : List CalCell) → All (CellHasNumbers old) xs → map (cell_tree new) xs ≡ map (cell_tree old) xs
  cells_kept xs all = map_kept (cell_tree new) (cell_tree old) (CellHasNumbers old) cell_kept xs all

  pub pins_kept : (xs : List CalPin) → All (PinHasNumber old) xs → map (pin_tree new) xs ≡ map (pin_tree old) xs
  pins_kept xs all = map_kept (pin_tree new) (pin_tree old) (PinHasNumber old) pin_kept xs all

  pub sets_numbers : (xs : List Assign) → All (SetHasNumbers old) xs → All (SetHasNumbers new) xs
  sets_numbers xs all = All-weaker (SetHasNumbers old) (SetHasNumbers new) set_numbers xs all

  pub cells_numbers : (xs : List CalCell) → All (CellHasNumbers old) xs → All (CellHasNumbers new) xs
  cells_numbers xs all = All-weaker (CellHasNumbers old) (CellHasNumbers new) cell_numbers xs all

  pub pins_numbers : (xs : List CalPin) → All (PinHasNumber old) xs → All (PinHasNumber new) xs
  pins_numbers xs all = All-weaker (PinHasNumber old) (PinHasNumber new) pin_numbers xs all

  -- ---- groups

  pub done_kept : (d : DoneSet) → DoneHasNumbers old d → done_tree new d ≡ done_tree old d
  done_kept d known =
      let of : Text → Option (GuardTree PortName) → Src PortName → DoneLine = λ group guard src. record { group = group; guard = guard; src = src } in
      ap₂ (λ group guard. of group guard (source_tree (port_tree new) d.src)) (text_of-KeepsTexts old new d.of kept known.0) (when_kept d.guard known.1)
      ∙ ap (of (text_of old d.of) (guard_option (port_tree old) d.guard)) (source_kept d.src known.2)

  pub done_numbers : (d : DoneSet) → DoneHasNumbers old d → DoneHasNumbers new d
  done_numbers d known = (id_number d.of known.0, when_numbers d.guard known.1, source_numbers d.src known.2)

  pub group_kept : (g : Group) → GroupHasNumbers old g → group_tree new g ≡ group_tree old g
  group_kept g known =
      let of : Text → List Assignment → List DoneLine → GroupDef = λ name sets dones. record { name = name; comb = g.comb; sets = sets; dones = dones } in
      ap₂ (λ name sets. of name sets (map (done_tree new) g.dones.items)) (text_of-KeepsTexts old new g.name kept known.name) (sets_kept g.sets.items known.sets)
      ∙ ap (of (text_of old g.name) (map (assignment_tree old) g.sets.items)) (map_kept (done_tree new) (done_tree old) (DoneHasNumbers old) done_kept g.dones.items known.dones)

  pub group_numbers : (g : Group) → GroupHasNumbers old g → GroupHasNumbers new g
  group_numbers g known = record {
    name = id_number g.name known.name;
    sets = sets_numbers g.sets.items known.sets;
    dones = All-weaker (DoneHasNumbers old) (DoneHasNumbers new) done_numbers g.dones.items known.dones;
  }

  pub groups_kept : (xs : List Group) → All (GroupHasNumbers old) xs → map (group_tree new) xs ≡ map (group_tree old) xs
  groups_kept xs all = map_kept (group_tree new) (group_tree old) (GroupHasNumbers old) group_kept xs all

  pub groups_numbers : (xs : List Group) → All (GroupHasNumbers old) xs → All (GroupHasNumbers new) xs
  groups_numbers xs all = All-weaker (GroupHasNumbers old) (GroupHasNumbers new) group_numbers xs all
