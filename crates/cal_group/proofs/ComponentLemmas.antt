-- A component in memory with groups for its invokes, and a design of such components.
use Rattle.std.proofs.Common.{◌≡◌, ℕ, ◌+◌, List, [], ◌∷◌, ◌++◌, length, map, take, All, Some, option_map, refl, sym, ap, ap₂, ◌∙◌, subst}
use Rattle.std.specs.Prelude.{slice_get}
use Rattle.std.specs.List.{AllZip}
use Rattle.std.proofs.lemmas.List.{map_push}
use Rattle.std.proofs.lemmas.List.Elements.{All-contains, All-nil, All-push}
use Rattle.std.proofs.lemmas.Option.{slice_get-map}
use Rattle.hw_prims.specs.Table.{Pin}
use Rattle.hw_names.proofs.NameLemmas.{text_of-KeepsTexts}
use Rattle.hw_names.specs.Name.{KeepsTexts, Text, text_of}
use Rattle.net_core.specs.Numbers.{IsNumberOf}
use Rattle.cal_ast.proofs.ListLemmas.{Contains-at}
use Rattle.cal_ast.specs.Invoking.{InvokeDef, invokes_among, invoke_group}
use Rattle.cal_ast.specs.Items.{TheStatement, control_statements, items_before_control}
use Rattle.cal_ast.specs.Numbers.{CellHasNumbers, ComponentHasNumbers, ControlHasNumbers, GroupHasNumbers, HasNumbers, PinHasNumber, SetHasNumbers}
use Rattle.cal_ast.specs.Tree.{CellDef, Assignment, GroupDef, ControlSection, Component, Design, assignment_tree, cell_tree, component_tree, control_tree, design_of, group_tree, pin_tree}
use Rattle.cal_ast.specs.declared.tree.CalComp.{CalComp}
use Rattle.cal_ast.specs.declared.tree.CalDesign.{CalDesign}
use Rattle.cal_ast.specs.declared.tree.CalPin.{CalPin}
use Rattle.cal_ast.specs.declared.tree.Group.{Group}
use Rattle.cal_copy.proofs.CopyLemmas.{copies_number, copies_tree, take_next}
use Rattle.cal_copy.specs.inside.Copies.{IsCellCopy, IsGroupCopy, IsSetCopy}
use Rattle.cal_group.specs.inside.Expanded.{expanded, expanded_section, invoke_groups, invoke_name}
use Rattle.cal_group.specs.inside.Expansion.{AddsGroups, IsLater}
use Rattle.cal_group.proofs.CountLemmas.{invokes_after}
use Rattle.cal_group.proofs.ExpandingLemmas.{later_before}
use Rattle.cal_group.proofs.StableLemmas.{cells_kept, cells_numbers, groups_kept, groups_numbers, id_number, pins_kept, pins_numbers, sets_kept, sets_numbers}

module _ (source names later : List Text) (is_later : IsLater names source later) (design : Design) (comp : CalComp) (has : ComponentHasNumbers source comp) where
  abbrev tree : Component
  tree = component_tree source comp

  -- the component's groups and those of its invokes, whose items come after those of all else
  module _ (item : ℕ) (copied after : List Group) (first : item ≡ length (items_before_control tree)) (copies : AllZip IsGroupCopy comp.groups.items copied)
      (adds : AddsGroups design tree source names item (control_statements tree.control) copied after) where
    group_trees : map (group_tree later) after ≡ tree.groups ++ invoke_groups design tree
    group_trees =
        let made = λ (is : List InvokeDef). map (λ (i : InvokeDef). invoke_group design tree (invoke_name i.item) i) is in
        adds.trees later is_later
        ∙ ap₂ (λ (l m : List GroupDef). l ++ m) (copies_tree GroupHasNumbers group_tree later comp.groups.items copied copies ∙ groups_kept source later is_later.1 comp.groups.items has.groups)
        (ap (λ (k : ℕ). made (invokes_among k (map TheStatement (control_statements tree.control)))) first ∙ ap made (sym (invokes_after tree)))

    group_numbers : All (GroupHasNumbers later) after
    group_numbers =
        adds.numbers later is_later (copies_number GroupHasNumbers group_tree later comp.groups.items copied copies (groups_numbers source later is_later.1 comp.groups.items has.groups))

    -- all its parts
    module _ (made : CalComp) (name : made.name ≡ comp.name) (ins : made.ins.items ≡ comp.ins.items) (outs : made.outs.items ≡ comp.outs.items) (cells : AllZip IsCellCopy comp.cells.items made.cells.items)
        (groups : made.groups.items ≡ after) (sets : AllZip IsSetCopy comp.sets.items made.sets.items) where
      pub made_tree : control_tree later made.control ≡ expanded_section item tree.control → component_tree later made ≡ expanded design tree
      made_tree control =
          let of : Text → List Pin → List Pin → List CellDef → List GroupDef → List Assignment → ControlSection → Component =
          λ n i o c g s k. record { name = n; ins = i; outs = o; cells = c; groups = g; sets = s; control = k } in
          let n = ap (text_of later) name ∙ text_of-KeepsTexts source later comp.name is_later.1 has.name in
          let i = ap (map (pin_tree later)) ins ∙ pins_kept source later is_later.1 comp.ins.items has.ins in
          let o = ap (map (pin_tree later)) outs ∙ pins_kept source later is_later.1 comp.outs.items has.outs in
          let c = copies_tree CellHasNumbers cell_tree later comp.cells.items made.cells.items cells ∙ cells_kept source later is_later.1 comp.cells.items has.cells in
          let g = ap (map (group_tree later)) groups ∙ group_trees in
          let s = copies_tree SetHasNumbers assignment_tree later comp.sets.items made.sets.items sets ∙ sets_kept source later is_later.1 comp.sets.items has.sets in
          let k = control ∙ ap (λ (m : ℕ). expanded_section m tree.control) first in
          λ j. of (n j) (i j) (o j) (c j) (g j) (s j) (k j)

      pub made_numbers : ControlHasNumbers later made.control → ComponentHasNumbers later made
      made_numbers control =
          let N : List CalPin → Type 0 = All (PinHasNumber later) in
          let G : List Group → Type 0 = All (GroupHasNumbers later) in
          record {
            name = subst (IsNumberOf later) (sym name) (id_number source later is_later.1 comp.name has.name);
            ins = subst N (sym ins) (pins_numbers source later is_later.1 comp.ins.items has.ins);
            outs = subst N (sym outs) (pins_numbers source later is_later.1 comp.outs.items has.outs);
            cells = copies_number CellHasNumbers cell_tree later comp.cells.items made.cells.items cells (cells_numbers source later is_later.1 comp.cells.items has.cells);
            groups = subst G (sym groups) group_numbers;
            sets = copies_number SetHasNumbers assignment_tree later comp.sets.items made.sets.items sets (sets_numbers source later is_later.1 comp.sets.items has.sets);
            control = control;
          }

-- ---- components, one after another

pub comp_numbers : (d : CalDesign) → HasNumbers d → (i : ℕ) (comp : CalComp) → slice_get d.comps.items i ≡ Some comp → ComponentHasNumbers d.names comp
comp_numbers d numbers i comp at = All-contains (ComponentHasNumbers d.names) d.comps.items comp numbers (Contains-at d.comps.items i comp at)

pub comp_at : (d : CalDesign) (i : ℕ) (comp : CalComp) → slice_get d.comps.items i ≡ Some comp → slice_get (design_of d) i ≡ Some (component_tree d.names comp)
comp_at d i comp at = slice_get-map (component_tree d.names) d.comps.items i ∙ ap (option_map (component_tree d.names)) at

-- the components so far, in these names and later ones
pub record AreMade (source names : List Text) (design : Design) (comps made : List CalComp) : Type 0 where
  pub trees : (later : List Text) → IsLater names source later → map (component_tree later) made ≡ map (expanded design) (map (component_tree source) comps)
  pub numbers : (later : List Text) → IsLater names source later → All (ComponentHasNumbers later) made

pub none_made : (source names : List Text) (design : Design) (made : List CalComp) → made ≡ [] → AreMade source names design [] made
none_made source names design made none =
    let M : List CalComp → Type 0 = AreMade source names design [] in
    subst M (sym none) (record { trees = λ later is. refl; numbers = λ later is. All-nil (ComponentHasNumbers later) })

pub one_made : (source old new : List Text) (design : Design) (comps : List CalComp) (i : ℕ) (comp answer : CalComp) (made made' : List CalComp) → KeepsTexts old new → slice_get comps i ≡ Some comp → made' ≡ made ++ answer ∷ []
    → AreMade source old design (take i comps) made
    → ((later : List Text) → IsLater new source later → (component_tree later answer ≡ expanded design (component_tree source comp)) × ComponentHasNumbers later answer)
    → AreMade source new design (take (i + 1) comps) made'
one_made source old new design comps i comp answer made made' kept at puts so_far one =
    let M : List CalComp → Type 0 = λ cs. AreMade source new design cs made' in
    let R : List CalComp → Type 0 = λ ms. AreMade source new design (take i comps ++ comp ∷ []) ms in
    let tree = component_tree source in
    subst M (sym (take_next comps i comp at)) (subst R (sym puts) (record {
      trees = λ later is.
          map_push (component_tree later) made answer
          ∙ ap₂ (λ (cs : List Component) (c : Component). cs ++ c ∷ []) (so_far.trees later (later_before old new source later kept is)) (one later is).0
          ∙ sym (map_push (expanded design) (map tree (take i comps)) (tree comp))
          ∙ ap (map (expanded design)) (sym (map_push tree (take i comps) comp));
      numbers = λ later is. All-push (ComponentHasNumbers later) made answer (so_far.numbers later (later_before old new source later kept is)) (one later is).1;
    }))
