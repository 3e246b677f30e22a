-- Trees and their numbers stay where names keep their texts.
use Rattle.std.proofs.Common.{◌≡◌, List, [], ◌∷◌, map, Option, Some, None, option_map, IfSome, All, refl, sym, ap, ap₂, subst, ◌∙◌, arith}
use Rattle.std.proofs.lemmas.List.Elements.{All-head, All-nil, All-tail, All-weaker}
use Rattle.hw_names.proofs.NameLemmas.{length-KeepsTexts, text_of-KeepsTexts}
use Rattle.hw_names.specs.Name.{KeepsTexts, Text, text_of}
use Rattle.hw_names.specs.declared.names.NameId.{NameId}
use Rattle.hw_prims.specs.Table.{Pin}
use Rattle.net_core.specs.Guard.{GuardTree, Reads, Compares, Negates, AllOf, AnyOf, MoreGuards, guard_option, guard_tree, guard_trees, source_tree}
use Rattle.net_core.specs.Numbers.{IsNumberOf}
use Rattle.net_core.specs.declared.net.Guard.{Guard, Row_of-Guard, end_of-Guard, more_of-Guard}
use Rattle.net_core.specs.declared.net.Guard as code
use Rattle.net_core.specs.declared.net.Src.{Src}
use Rattle.net_core.specs.declared.net.Src.TheVariants.{Port, Lit}
use Rattle.cal_ast.specs.Numbers.{CellHasNumbers, ComponentHasNumbers, ControlHasNumbers, GroupHasNumbers, GuardHasNumbers, GuardsHaveNumbers, PinHasNumber, PortHasNumbers, SetHasNumbers, SourceHasNumbers, WhenHasNumbers}
use Rattle.cal_ast.specs.Tree.{Absent, Assignment, CellDef, Component, ControlSection, GroupDef, PortName, assignment_tree, cell_tree, component_tree, control_tree, group_tree, pin_tree, port_tree}
use Rattle.cal_ast.specs.declared.tree.Assign.{Assign}
use Rattle.cal_ast.specs.declared.tree.CalCell.{CalCell}
use Rattle.cal_ast.specs.declared.tree.CalComp.{CalComp}
use Rattle.cal_ast.specs.declared.tree.CalPin.{CalPin}
use Rattle.cal_ast.specs.declared.tree.CalPort.{CalPort}
use Rattle.cal_ast.specs.declared.tree.ControlPart.{ControlPart}
use Rattle.cal_ast.specs.declared.tree.ControlPart.TheVariants as part
use Rattle.cal_ast.specs.declared.tree.Group.{Group}

-- two functions that agree on each element
pub map_kept : {X Y : Type 0} (f g : X → Y) (P : X → Type 0) → ((x : X) → P x → f x ≡ g x) → (xs : List X) → All P xs → map f xs ≡ map g xs
map_kept f g P same [] all = refl
map_kept f g P same (x ∷ xs) all = ap₂ ◌∷◌ (same x (All-head P x xs all)) (map_kept f g P same xs (All-tail P x xs all))

module _ (old new : List Text) (kept : KeepsTexts old new) where
  id_number : (id : NameId) → IsNumberOf old id → IsNumberOf new id
  id_number id known = omega (arith, length-KeepsTexts old new kept, known)

  -- ---- ports and sources

  pub port_kept : (p : CalPort) → PortHasNumbers old p → port_tree new p ≡ port_tree old p
  port_kept p known = ap₂ (λ cell pin. record { cell = cell; pin = pin }) (cell p.cell known.0) (text_of-KeepsTexts old new p.port kept known.1)
    where
      cell : (c : Option NameId) → IfSome c (IsNumberOf old) → option_map (text_of new) c ≡ option_map (text_of old) c
      cell None known = refl
      cell (Some id) known = ap Some (text_of-KeepsTexts old new id kept known)

  pub port_numbers : (p : CalPort) → PortHasNumbers old p → PortHasNumbers new p
  port_numbers p known = (cell p.cell known.0, id_number p.port known.1)
    where
      cell : (c : Option NameId) → IfSome c (IsNumberOf old) → IfSome c (IsNumberOf new)
      cell None known = tt
      cell (Some id) known = id_number id known

  source_kept : (s : Src CalPort) → SourceHasNumbers old s → source_tree (port_tree new) s ≡ source_tree (port_tree old) s
  source_kept (Port p) known = ap Port (port_kept p known)
  source_kept (Lit width value) known = refl

  source_numbers : (s : Src CalPort) → SourceHasNumbers old s → SourceHasNumbers new s
  source_numbers (Port p) known = port_numbers p known
  source_numbers (Lit width value) known = tt

  -- ---- guards

  mutual
    guard_kept : (g : Guard CalPort) → GuardHasNumbers old g → guard_tree (port_tree new) g ≡ guard_tree (port_tree old) g
    guard_kept (code.Read s) known = ap Reads (source_kept s.value known)
    guard_kept (code.Test op a b) known = ap₂ (Compares op) (source_kept a.value known.0) (source_kept b.value known.1)
    guard_kept (code.Not' p g) known = ap Negates (guard_kept g known)
    guard_kept (code.All' shape gs) known = ap AllOf (row_kept gs known)
    guard_kept (code.Any' shape gs) known = ap AnyOf (row_kept gs known)

    row_kept : {m : _} (gs : Row_of-Guard CalPort m) → GuardsHaveNumbers old gs → guard_trees (port_tree new) gs ≡ guard_trees (port_tree old) gs
    row_kept end_of-Guard known = refl
    row_kept (more_of-Guard g gs) known = ap₂ MoreGuards (guard_kept g known.0) (row_kept gs known.1)

  mutual
    guard_numbers : (g : Guard CalPort) → GuardHasNumbers old g → GuardHasNumbers new g
    guard_numbers (code.Read s) known = source_numbers s.value known
    guard_numbers (code.Test op a b) known = (source_numbers a.value known.0, source_numbers b.value known.1)
    guard_numbers (code.Not' p g) known = guard_numbers g known
    guard_numbers (code.All' shape gs) known = row_numbers gs known
    guard_numbers (code.Any' shape gs) known = row_numbers gs known

    row_numbers : {m : _} (gs : Row_of-Guard CalPort m) → GuardsHaveNumbers old gs → GuardsHaveNumbers new gs
    row_numbers end_of-Guard known = tt
    row_numbers (more_of-Guard g gs) known = (guard_numbers g known.0, row_numbers gs known.1)

  when_kept : (g : Option (Guard CalPort)) → WhenHasNumbers old g → guard_option (port_tree new) g ≡ guard_option (port_tree old) g
  when_kept None known = refl
  when_kept (Some g) known = ap Some (guard_kept g known)

  when_numbers : (g : Option (Guard CalPort)) → WhenHasNumbers old g → WhenHasNumbers new g
  when_numbers None known = tt
  when_numbers (Some g) known = guard_numbers g known

  -- ---- assignments, cells and pins

  pub set_kept : (a : Assign) → SetHasNumbers old a → assignment_tree new a ≡ assignment_tree old a
  set_kept a known =
      let of : PortName → Option (GuardTree PortName) → Src PortName → Assignment = λ dst guard src. record { dst = dst; guard = guard; src = src } in
      ap₂ (λ dst guard. of dst guard (source_tree (port_tree new) a.src)) (port_kept a.dst known.0) (when_kept a.guard known.1)
      ∙ ap (of (port_tree old a.dst) (guard_option (port_tree old) a.guard)) (source_kept a.src known.2)

  pub set_numbers : (a : Assign) → SetHasNumbers old a → SetHasNumbers new a
  set_numbers a known = (port_numbers a.dst known.0, when_numbers a.guard known.1, source_numbers a.src known.2)

  pub cell_kept : (c : CalCell) → CellHasNumbers old c → cell_tree new c ≡ cell_tree old c
  cell_kept c known =
      ap₂ (λ name made. record { name = name; made = made; params = c.params.items; external = c.external }) (text_of-KeepsTexts old new c.name kept known.0) (text_of-KeepsTexts old new c.made kept known.1)

  pub cell_numbers : (c : CalCell) → CellHasNumbers old c → CellHasNumbers new c
  cell_numbers c known = (id_number c.name known.0, id_number c.made known.1)

  pub pin_kept : (p : CalPin) → PinHasNumber old p → pin_tree new p ≡ pin_tree old p
  pin_kept p known = ap (λ name. record { name = name; width = p.width }) (text_of-KeepsTexts old new p.name kept known)

  pub pin_numbers : (p : CalPin) → PinHasNumber old p → PinHasNumber new p
  pin_numbers p known = id_number p.name known

  pub sets_kept : (xs : List Assign) → All (SetHasNumbers old) xs → map (assignment_tree new) xs ≡ map (assignment_tree old) xs
  sets_kept xs all = map_kept (assignment_tree new) (assignment_tree old) (SetHasNumbers old) set_kept xs all

  pub cells_kept : (xs : List CalCell) → All (CellHasNumbers old) xs → map (cell_tree new) xs ≡ map (cell_tree old) xs
  cells_kept xs all = map_kept (cell_tree new) (cell_tree old) (CellHasNumbers old) cell_kept xs all

  pub pins_kept : (xs : List CalPin) → All (PinHasNumber old) xs → map (pin_tree new) xs ≡ map (pin_tree old) xs
  pins_kept xs all = map_kept (pin_tree new) (pin_tree old) (PinHasNumber old) pin_kept xs all

  pub ports_kept : (xs : List CalPort) → All (PortHasNumbers old) xs → map (port_tree new) xs ≡ map (port_tree old) xs
  ports_kept xs all = map_kept (port_tree new) (port_tree old) (PortHasNumbers old) port_kept xs all

  -- ---- bare components without groups

  no_groups : (gs : List Group) → map (group_tree old) gs ≡ [] → gs ≡ []
  no_groups [] none = refl
  no_groups (g ∷ gs) none = absurd (cc)

  no_control : (p : ControlPart) → control_tree old p ≡ Absent → p ≡ part.Absent
  no_control part.Absent none = refl
  no_control part.Empty none = absurd (cc)
  no_control (part.Body s) none = absurd (cc)

  pub component_kept : (c : CalComp) → ComponentHasNumbers old c → map (group_tree old) c.groups.items ≡ [] → control_tree old c.control ≡ Absent → component_tree new c ≡ component_tree old c
  component_kept c known groups control =
      let of : Text → List Pin → List Pin → List CellDef → List GroupDef → List Assignment → ControlSection → Component =
      λ name ins outs cells groups sets control. record { name = name; ins = ins; outs = outs; cells = cells; groups = groups; sets = sets; control = control } in
      let is_none = no_groups c.groups.items groups in
      let is_absent = no_control c.control control in
      let ins_old = map (pin_tree old) c.ins.items in
      let outs_old = map (pin_tree old) c.outs.items in
      let groups_new : map (group_tree new) c.groups.items ≡ map (group_tree old) c.groups.items = ap (map (group_tree new)) is_none ∙ sym (ap (map (group_tree old)) is_none) in
      let control_new : control_tree new c.control ≡ control_tree old c.control = ap (control_tree new) is_absent ∙ sym (ap (control_tree old) is_absent) in
      ap₂ (λ name ins. of name ins (map (pin_tree new) c.outs.items) (map (cell_tree new) c.cells.items) (map (group_tree new) c.groups.items) (map (assignment_tree new) c.sets.items) (control_tree new c.control))
      (text_of-KeepsTexts old new c.name kept known.name) (pins_kept c.ins.items known.ins)
      ∙ ap₂ (λ outs cells. of (text_of old c.name) ins_old outs cells (map (group_tree new) c.groups.items) (map (assignment_tree new) c.sets.items) (control_tree new c.control))
      (pins_kept c.outs.items known.outs) (cells_kept c.cells.items known.cells)
      ∙ ap₂ (λ groups sets. of (text_of old c.name) ins_old outs_old (map (cell_tree old) c.cells.items) groups sets (control_tree new c.control)) groups_new (sets_kept c.sets.items known.sets)
      ∙ ap (of (text_of old c.name) ins_old outs_old (map (cell_tree old) c.cells.items) (map (group_tree old) c.groups.items) (map (assignment_tree old) c.sets.items)) control_new

  pub component_numbers : (c : CalComp) → ComponentHasNumbers old c → map (group_tree old) c.groups.items ≡ [] → control_tree old c.control ≡ Absent → ComponentHasNumbers new c
  component_numbers c known groups control =
      let G : List Group → Type 0 = All (GroupHasNumbers new) in
      let C : ControlPart → Type 0 = ControlHasNumbers new in
      record {
        name = id_number c.name known.name;
        ins = All-weaker (PinHasNumber old) (PinHasNumber new) pin_numbers c.ins.items known.ins;
        outs = All-weaker (PinHasNumber old) (PinHasNumber new) pin_numbers c.outs.items known.outs;
        cells = All-weaker (CellHasNumbers old) (CellHasNumbers new) cell_numbers c.cells.items known.cells;
        groups = subst G (sym (no_groups c.groups.items groups)) (All-nil (GroupHasNumbers new));
        sets = All-weaker (SetHasNumbers old) (SetHasNumbers new) set_numbers c.sets.items known.sets;
        control = subst C (sym (no_control c.control control)) tt;
      }
