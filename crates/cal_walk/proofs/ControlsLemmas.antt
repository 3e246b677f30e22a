-- The controls of the components of a design, one after another.
use Rattle.std.proofs.Common.{◌≡◌, inl, inr, ℕ, zero, suc, ◌+◌, ◌<◌, List, [], ◌∷◌, ◌++◌, length, All, Some, refl, sym, ap, ◌∙◌, subst, arith}
use Rattle.std.specs.Prelude.{slice_get, option_map}
use Rattle.std.proofs.lemmas.Bool.{cases_lt}
use Rattle.std.proofs.lemmas.List.{length_push}
use Rattle.std.proofs.lemmas.List.Elements.{All-contains, All-same, All-weaker}
use Rattle.std.proofs.lemmas.Option.{slice_get_within, slice_get-map, same_Some}
use Rattle.hw_names.specs.Name.{AreDistinct}
use Rattle.cal_ast.proofs.ListLemmas.{Contains-at}
use Rattle.cal_ast.proofs.LookupLemmas.{cell_named-itself}
use Rattle.cal_ast.specs.Items.{control_statements}
use Rattle.cal_ast.specs.Naming.{Unreserved}
use Rattle.cal_ast.specs.Numbers.{HasNumbers, ComponentHasNumbers, CellHasNumbers, GroupHasNumbers}
use Rattle.cal_ast.specs.Rules.{KeepsRules}
use Rattle.cal_ast.specs.Tree.{component_tree, design_of}
use Rattle.cal_ast.specs.declared.tree.CalCell.{CalCell}
use Rattle.cal_ast.specs.declared.tree.CalComp.{CalComp}
use Rattle.cal_ast.specs.declared.tree.CalDesign.{CalDesign}
use Rattle.cal_ast.specs.declared.tree.Group.{Group}
use Rattle.cal_walk.specs.Planning.{TellsLast, ShowsNames, IsKnown, IsControlOf, AreControlsOf}
use Rattle.cal_walk.specs.declared.planning.Controlled.{Controlled}
use Rattle.cal_walk.specs.declared.planning.Numbers.{Numbers}
use Rattle.cal_walk.proofs.PlanLemmas.{at_last}
use Rattle.cal_walk.proofs.RuleLemmas.{all_known}
use Rattle.cal_walk.proofs.TableLemmas.{shows_names}

-- controls of the first components
pub record AreControlsUpTo (design : CalDesign) (n : ℕ) (controls : List Controlled) : Type 0 where
  pub count : length controls ≡ n
  pub each : (k : ℕ) (comp : CalComp) (control : Controlled) → slice_get design.comps.items k ≡ Some comp → slice_get controls k ≡ Some control →
      (control.comp.now ≡ comp) × IsControlOf design.names (component_tree design.names comp) control

pub no_controls : (design : CalDesign) → AreControlsUpTo design 0 []
no_controls design = record { count = refl; each = λ k comp control at there. absurd (cc) }

before_last : {X : Type 0} (xs : List X) (y : X) (k : ℕ) (x : X) → k < length xs → slice_get (xs ++ y ∷ []) k ≡ Some x → slice_get xs k ≡ Some x
before_last [] y k x less at = absurd (omega (arith, less))
before_last (z ∷ xs) y zero x less at = at
before_last (z ∷ xs) y (suc k) x less at = before_last xs y k x (omega (arith, less)) at

pub one_control : (design : CalDesign) (n : ℕ) (controls : List Controlled) (comp : CalComp) (control : Controlled) → AreControlsUpTo design n controls → slice_get design.comps.items n ≡ Some comp
    → (control.comp.now ≡ comp) × IsControlOf design.names (component_tree design.names comp) control → AreControlsUpTo design (n + 1) (controls ++ control ∷ [])
one_control design n controls comp control so_far at is = record { count = length_push controls control ∙ ap (λ k. k + 1) so_far.count; each = each }
  where
    each : (k : ℕ) (other : CalComp) (found : Controlled) → slice_get design.comps.items k ≡ Some other → slice_get (controls ++ control ∷ []) k ≡ Some found
        → (found.comp.now ≡ other) × IsControlOf design.names (component_tree design.names other) found
    each k other found at_k there = elim (cases_lt k (length controls)) [
      | inl less ↦ so_far.each k other found at_k (before_last controls control k found less there)
      | inr last ↦
          let within = slice_get_within (controls ++ control ∷ []) k found there in
          let place : k ≡ length controls = omega (arith, last, within, length_push controls control) in
          let place' : k ≡ n = place ∙ so_far.count in
          let C : ℕ → Type 0 = λ j. slice_get (controls ++ control ∷ []) j ≡ Some found in
          let D : ℕ → Type 0 = λ j. slice_get design.comps.items j ≡ Some other in
          let is_found : control ≡ found = same_Some control found (sym (at_last controls control) ∙ subst C place there) in
          let is_comp : comp ≡ other = same_Some comp other (sym at ∙ subst D place' at_k) in
          let F : Controlled → Type 0 = λ x. (x.comp.now ≡ other) × IsControlOf design.names (component_tree design.names other) x in
          let G : CalComp → Type 0 = λ x. (control.comp.now ≡ x) × IsControlOf design.names (component_tree design.names x) control in
          subst F is_found (subst G is_comp is)
    ]

pub all_controls : (design : CalDesign) (n : ℕ) (controls : List Controlled) → n ≡ length design.comps.items → AreControlsUpTo design n controls → AreControlsOf design controls
all_controls design n controls all so_far = record { all = so_far.count ∙ all; each = so_far.each }

-- ---- what is known of a component of a design

module _ (d : CalDesign) (has : HasNumbers d) (n : ℕ) (comp : CalComp) (at : slice_get d.comps.items n ≡ Some comp) where
  pub comp_numbers : ComponentHasNumbers d.names comp
  comp_numbers = All-contains (ComponentHasNumbers d.names) d.comps.items comp has (Contains-at d.comps.items n comp at)

  in_design : slice_get (design_of d) n ≡ Some (component_tree d.names comp)
  in_design = slice_get-map (component_tree d.names) d.comps.items n ∙ ap (option_map (component_tree d.names)) at

  pub groups_within : (groups : List Group) (count : ℕ) → groups ≡ comp.groups.items → count ≡ length d.names → All (λ (g : Group). g.name.0 < count) groups
  groups_within groups count same all =
      All-weaker (GroupHasNumbers d.names) (λ (g : Group). g.name.0 < count) (λ g numbers. let within : g.name.0 < length d.names = numbers.name in omega (arith, within, all)) groups
      (All-same (GroupHasNumbers d.names) groups comp.groups.items same comp_numbers.groups)

  pub cells_within : (cells : List CalCell) (count : ℕ) → cells ≡ comp.cells.items → count ≡ length d.names → All (λ (cell : CalCell). cell.name.0 < count) cells
  cells_within cells count same all =
      All-weaker (CellHasNumbers d.names) (λ (cell : CalCell). cell.name.0 < count) (λ cell numbers. let within : cell.name.0 < length d.names = numbers.0 in omega (arith, within, all)) cells
      (All-same (CellHasNumbers d.names) cells comp.cells.items same comp_numbers.cells)

  module _ (keeps : KeepsRules (design_of d)) where
    pub statements_known : All (IsKnown (component_tree d.names comp)) (control_statements (component_tree d.names comp).control)
    statements_known = all_known (design_of d) keeps n (component_tree d.names comp) in_design

    pub tables_show : AreDistinct d.names → (groups : List Group) (cells : List CalCell) (mid new : Numbers) → groups ≡ comp.groups.items → cells ≡ comp.cells.items → new.groups.items ≡ mid.groups.items
        → TellsLast (λ (g : Group). g.name.0) (λ number (g : Group). number) groups mid.groups.items
        → TellsLast (λ (cell : CalCell). cell.name.0) (λ number (cell : CalCell). cell.made) cells new.made.items → ShowsNames d.names (component_tree d.names comp) new
    tables_show distinct groups cells mid new same_groups same_cells kept told_groups told_cells =
        let G : List Group → Type 0 = λ gs. TellsLast (λ (g : Group). g.name.0) (λ number (g : Group). number) gs mid.groups.items in
        let T : List ℕ → Type 0 = λ table. TellsLast (λ (g : Group). g.name.0) (λ number (g : Group). number) comp.groups.items table in
        let C : List CalCell → Type 0 = λ cs. TellsLast (λ (cell : CalCell). cell.name.0) (λ number (cell : CalCell). cell.made) cs new.made.items in
        shows_names d.names distinct comp comp_numbers new (subst T (sym kept) (subst G same_groups told_groups)) (subst C same_cells told_cells)
        (λ cell within. cell_named-itself Unreserved (design_of d) keeps (component_tree d.names comp) (Contains-at (design_of d) n (component_tree d.names comp) in_design) cell within)

-- ---- a turn of the loop over components

pub control_push : (d : CalDesign) (n : ℕ) (controls new : List Controlled) (comp : CalComp) (control : Controlled) → new ≡ controls ++ control ∷ [] → AreControlsUpTo d n controls → slice_get d.comps.items n ≡ Some comp
    → (control.comp.now ≡ comp) × IsControlOf d.names (component_tree d.names comp) control → AreControlsUpTo d (n + 1) new
control_push d n controls new comp control put so_far at is = subst (λ (l : List Controlled). AreControlsUpTo d (n + 1) l) (sym put) (one_control d n controls comp control so_far at is)

pub none_controlled : (d : CalDesign) (controls : List Controlled) → controls ≡ [] → AreControlsUpTo d 0 controls
none_controlled d controls none = subst (λ (l : List Controlled). AreControlsUpTo d 0 l) (sym none) (no_controls d)

pub comp_at : (d : CalDesign) (items : List CalComp) (n : ℕ) (comp : CalComp) → items ≡ d.comps.items → slice_get items n ≡ Some comp → slice_get d.comps.items n ≡ Some comp
comp_at d items n comp same at = subst (λ (l : List CalComp). slice_get l n ≡ Some comp) same at
