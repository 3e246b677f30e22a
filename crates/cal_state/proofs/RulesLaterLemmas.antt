-- Rules and lowered components where names are added.
use Rattle.std.proofs.Common.{◌≡◌, ℕ, ◌+◌, ◌≤◌, List, [], ◌∷◌, ◌++◌, length, map, take, drop, All, Some, inl, inr, refl, sym, subst, ap, ap₂, ◌∙◌}
use Rattle.std.specs.Prelude.{option_map, slice_get}
use Rattle.std.proofs.lemmas.Bool.{cases_Bool}
use Rattle.std.proofs.lemmas.List.{take_all}
use Rattle.std.proofs.lemmas.List.Elements.{All-cons, All-head, All-nil, All-tail, All-weaker}
use Rattle.std.proofs.lemmas.Option.{slice_get-map}
use Rattle.hw_names.proofs.NameLemmas.{text_of-KeepsTexts}
use Rattle.hw_names.specs.Name.{KeepsTexts, Text}
use Rattle.hw_prims.specs.Table.{Pin}
use Rattle.net_core.specs.Guard.{GuardTree}
use Rattle.cal_ast.specs.Holes.{ActivityRule, rule_tree}
use Rattle.cal_ast.specs.Numbers.{ComponentHasNumbers, ControlHasNumbers, RuleHasNumbers}
use Rattle.cal_ast.specs.Ports.{is_bare}
use Rattle.cal_ast.specs.Tree.{PortName, Absent, Assignment, CellDef, Component, ControlSection, GroupDef, assignment_tree, cell_tree, component_tree, control_tree, design_of, group_tree, pin_tree}
use Rattle.cal_ast.specs.declared.lowered.ActRule.{ActRule}
use Rattle.cal_ast.specs.declared.tree.CalComp.{CalComp}
use Rattle.cal_ast.specs.declared.tree.CalDesign.{CalDesign}
use Rattle.cal_ast.specs.declared.tree.ControlPart.{ControlPart}
use Rattle.cal_ast.specs.declared.tree.ControlPart.TheVariants as part
use Rattle.cal_lower.specs.inside.Lowered.{lowered}
use Rattle.cal_lower.proofs.ComponentLemmas.{component_numbers, lowered_bare, lowered_full}
use Rattle.cal_lower.proofs.StableLemmas.{KeepsTexts-refl, cells_kept, groups_kept, guard_kept, guard_numbers, id_number, map_kept, pins_kept, sets_kept}
use Rattle.cal_lower.proofs.GrownLemmas.{show_all_kept}
use Rattle.cal_lower.proofs.NextLemmas.{drop_next, map_next}
use Rattle.cal_lower.specs.inside.Shown.{Shows}
use Rattle.cal_state.specs.inside.Encoded.{encoded}
use Rattle.cal_state.specs.inside.Making.{ShowComponents}
use Rattle.cal_state.proofs.EncodingLemmas.{show_first, show_rest}

module _ (old new : List Text) (kept : KeepsTexts old new) where
  rule_kept : (r : ActRule) → RuleHasNumbers old r → rule_tree new r ≡ rule_tree old r
  rule_kept r known =
      ap₂ (λ (g : Text) (w : GuardTree PortName). record { comp = r.comp; group = g; when = w }) (text_of-KeepsTexts old new r.group kept known.0) (guard_kept old new kept r.when known.1)

  pub rules_kept : (rules : List ActRule) → All (RuleHasNumbers old) rules → map (rule_tree new) rules ≡ map (rule_tree old) rules
  rules_kept rules all = map_kept (rule_tree new) (rule_tree old) (RuleHasNumbers old) rule_kept rules all

  pub rules_numbers : (rules : List ActRule) → All (RuleHasNumbers old) rules → All (RuleHasNumbers new) rules
  rules_numbers rules all =
      All-weaker (RuleHasNumbers old) (RuleHasNumbers new) (λ (r : ActRule) known. (id_number old new kept r.group known.0, guard_numbers old new kept r.when known.1)) rules all

  -- a component without control
  component_kept : (c : CalComp) → ComponentHasNumbers old c × (c.control ≡ part.Absent) → component_tree new c ≡ component_tree old c
  component_kept c known =
      let n = known.0 in
      let of : Text → List Pin → List Pin → List CellDef → List GroupDef → List Assignment → ControlSection → Component = λ name i o cs g s control.
      record { name = name; ins = i; outs = o; cells = cs; groups = g; sets = s; control = control } in
      let controls : control_tree new c.control ≡ control_tree old c.control = ap (control_tree new) known.1 ∙ sym (ap (control_tree old) known.1) in
      let name = text_of-KeepsTexts old new c.name kept n.name in
      let ins = map (pin_tree old) c.ins.items in
      let outs = map (pin_tree old) c.outs.items in
      let cells = map (cell_tree old) c.cells.items in
      let groups = map (group_tree new) c.groups.items in
      let sets = map (assignment_tree new) c.sets.items in
      ap₂ (λ (a : Text) (i : List Pin). of a i (map (pin_tree new) c.outs.items) (map (cell_tree new) c.cells.items) groups sets (control_tree new c.control))
      name (pins_kept old new kept c.ins.items n.ins)
      ∙ ap₂ (λ (o : List Pin) (cs : List CellDef). of (component_tree old c).name ins o cs groups sets (control_tree new c.control))
      (pins_kept old new kept c.outs.items n.outs) (cells_kept old new kept c.cells.items n.cells)
      ∙ ap₂ (λ (g : List GroupDef) (s : List Assignment). of (component_tree old c).name ins outs cells g s (control_tree new c.control))
      (groups_kept old new kept c.groups.items n.groups) (sets_kept old new kept c.sets.items n.sets)
      ∙ ap (of (component_tree old c).name ins outs cells (map (group_tree old) c.groups.items) (map (assignment_tree old) c.sets.items)) controls

  pub components_kept : (cs : List CalComp) → All (λ c. ComponentHasNumbers old c × (c.control ≡ part.Absent)) cs → map (component_tree new) cs ≡ map (component_tree old) cs
  components_kept cs all = map_kept (component_tree new) (component_tree old) (λ c. ComponentHasNumbers old c × (c.control ≡ part.Absent)) component_kept cs all

-- ---- lowered components have no control

lowered_control : (c : Component) → (lowered c).control ≡ Absent
lowered_control c = elim (cases_Bool (is_bare c)) [
  | inl bare ↦ sym (ap (λ (d : Component). d.control) (lowered_bare c bare))
  | inr full ↦ sym (ap (λ (d : Component). d.control) (lowered_full c full))
]

absent_is : (names : List Text) (section : ControlPart) → control_tree names section ≡ Absent → section ≡ part.Absent
absent_is names part.Absent is = refl
absent_is names part.Empty is = absurd (cc)
absent_is names (part.Body s) is = absurd (cc)

module _ (names : List Text) where
  all_absent : (ds : List Component) (cs : List CalComp) → map (component_tree names) cs ≡ map lowered ds → All (ComponentHasNumbers names) cs
      → All (λ c. ComponentHasNumbers names c × (c.control ≡ part.Absent)) cs
  all_absent ds [] same all = All-nil (λ c. ComponentHasNumbers names c × (c.control ≡ part.Absent))
  all_absent [] (c ∷ cs) same all = absurd (cc)
  all_absent (d ∷ ds) (c ∷ cs) same all =
      let first : component_tree names c ≡ lowered d = cc in
      let rest : map (component_tree names) cs ≡ map lowered ds = cc in
      let control : control_tree names c.control ≡ Absent = ap (λ (e : Component). e.control) first ∙ lowered_control d in
      All-cons (λ c. ComponentHasNumbers names c × (c.control ≡ part.Absent)) c cs
      (All-head (ComponentHasNumbers names) c cs all, absent_is names c.control control)
      (all_absent ds cs rest (All-tail (ComponentHasNumbers names) c cs all))

  -- they are shown also under names that are added later
  pub lowered_shown : (ds : List Component) (cs : List CalComp) → map (component_tree names) cs ≡ map lowered ds → All (ComponentHasNumbers names) cs
      → ShowComponents names (map lowered ds) cs
  lowered_shown ds cs same all = record {
    trees = λ later more. components_kept names later more cs (all_absent ds cs same all) ∙ same;
    numbers = λ later more. All-weaker (ComponentHasNumbers names) (ComponentHasNumbers later) (λ (c : CalComp) known. component_numbers names later more c known) cs all;
  }

-- ---- the next of them, and the rest

pub next_shown : (names : List Text) (tree : Component) (more : List Component) (comp : CalComp) (comps rest : List CalComp) → comps ≡ comp ∷ rest
    → ShowComponents names (tree ∷ more) comps → Shows ComponentHasNumbers component_tree names tree comp
next_shown names tree more comp comps rest cut shows =
    let P : List CalComp → Type 0 = ShowComponents names (tree ∷ more) in
    show_first ComponentHasNumbers component_tree names tree more comp rest (subst P cut shows)

pub rest_kept : (old new : List Text) (tree : Component) (more : List Component) (comp : CalComp) (comps rest : List CalComp) → KeepsTexts old new → comps ≡ comp ∷ rest
    → ShowComponents old (tree ∷ more) comps → ShowComponents new more rest
rest_kept old new tree more comp comps rest kept cut shows =
    let P : List CalComp → Type 0 = ShowComponents old (tree ∷ more) in
    show_all_kept ComponentHasNumbers component_tree old new more rest kept (show_rest ComponentHasNumbers component_tree old tree more comp rest (subst P cut shows))

-- ---- one more component of a design

module _ (d : CalDesign) (n : ℕ) (comp : CalComp) (at : slice_get d.comps.items n ≡ Some comp) where
  abbrev own_tree : Component
  own_tree = component_tree d.names comp

  tree_at : slice_get (design_of d) n ≡ Some own_tree
  tree_at = slice_get-map (component_tree d.names) d.comps.items n ∙ ap (option_map (component_tree d.names)) at

  pub lowered_next : map lowered (drop n (design_of d)) ≡ lowered own_tree ∷ map lowered (drop (n + 1) (design_of d))
  lowered_next = ap (map lowered) (drop_next (design_of d) n own_tree tree_at)

  pub encoded_next : map encoded (take (n + 1) (design_of d)) ≡ map encoded (take n (design_of d)) ++ encoded own_tree ∷ []
  encoded_next = map_next encoded (design_of d) n own_tree tree_at

pub all_encoded : (ds : List Component) (names : List Text) (cs : List CalComp) (n : ℕ) → length ds ≤ n → ShowComponents names (map encoded (take n ds)) cs
    → map (component_tree names) cs ≡ map encoded ds
all_encoded ds names cs n past shows = shows.trees names (KeepsTexts-refl names) ∙ ap (map encoded) (take_all n ds past)
