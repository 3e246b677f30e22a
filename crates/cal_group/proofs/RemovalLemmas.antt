-- A component in memory whose groups have become guarded wires, and its tree.
use Rattle.std.proofs.Common.{◌≡◌, ℕ, ◌+◌, ◌<◌, true, List, [], ◌∷◌, ◌++◌, get_or, length, map, take, Option, Some, refl, sym, ap, ap₂, ◌∙◌, subst, append_assoc}
use Rattle.std.specs.Prelude.{All, flat_map, slice_get}
use Rattle.std.specs.List.{AllZip}
use Rattle.std.proofs.lemmas.Grind.{flat_map-append}
use Rattle.std.proofs.lemmas.List.{append-nil, map-append}
use Rattle.std.proofs.lemmas.List.Elements.{All-nil}
use Rattle.std.proofs.lemmas.Option.{slice_get_read}
use Rattle.hw_prims.specs.Table.{Pin}
use Rattle.hw_names.specs.Name.{Text, text_of}
use Rattle.net_core.specs.Guard.{GuardTree, guard_tree}
use Rattle.net_core.specs.Numbers.{IsNumberOf}
use Rattle.net_core.specs.declared.net.Guard.{Guard}
use Rattle.cal_ast.specs.Holes.{ActivityRule, guarded_set, when_of}
use Rattle.cal_ast.specs.Items.{control_statements, statements_in}
use Rattle.cal_ast.specs.Numbers.{CellHasNumbers, ComponentHasNumbers, ControlHasNumbers, GroupHasNumbers, GuardHasNumbers, PinHasNumber, SetHasNumbers}
use Rattle.cal_ast.specs.Ports.{is_bare_by}
use Rattle.cal_ast.specs.Tree.{Statement, Enable, Seq, Par, If, While, Invoke, statement_tree, PortName, CellDef, Assignment, GroupDef, ControlSection, Component, Design, port_tree, pin_tree, cell_tree, assignment_tree, group_tree, control_tree, component_tree}
use Rattle.cal_ast.specs.declared.tree.Assign.{Assign}
use Rattle.cal_ast.specs.declared.tree.CalComp.{CalComp}
use Rattle.cal_ast.specs.declared.tree.CalPin.{CalPin}
use Rattle.cal_ast.specs.declared.tree.CalPort.{CalPort}
use Rattle.cal_ast.specs.declared.tree.Control.{Control}
use Rattle.cal_ast.specs.declared.tree.ControlPart.{ControlPart}
use Rattle.cal_ast.specs.declared.tree.ControlPart.TheVariants as part
use Rattle.cal_ast.specs.declared.tree.Group.{Group}
use Rattle.cal_copy.proofs.CopyLemmas.{copies_number, copies_tree, take_next}
use Rattle.cal_copy.specs.inside.Copies.{IsCellCopy, IsSetCopy}
use Rattle.cal_group.specs.inside.Removed.{ruled_sets, removed}
use Rattle.cal_group.specs.inside.Ruling.{AddsRuled}

-- what stands in a list that is read
pub read_at : {X : Type 0} (xs ys : List X) (i : ℕ) (x : X) → xs ≡ ys → i < length xs → x ≡ get_or xs i x → slice_get ys i ≡ Some x
read_at xs ys i x same within read = ap (λ zs. slice_get zs i) (sym same) ∙ slice_get_read xs (length xs) i x refl within read

-- the continuous assignments, and then those of the groups so far, each under its group's rule
pub record AreRuled (names : List Text) (design : Design) (rules : List ActivityRule) (comp : CalComp) (groups : List Group) (sets : List Assign) : Type 0 where
  pub numbers : All (SetHasNumbers names) sets
  pub trees : map (assignment_tree names) sets ≡ map (assignment_tree names) comp.sets.items ++ flat_map (ruled_sets design rules (component_tree names comp)) (map (group_tree names) groups)

pub ruled_none : (names : List Text) (design : Design) (rules : List ActivityRule) (comp : CalComp) (sets : List Assign) → ComponentHasNumbers names comp → AllZip IsSetCopy comp.sets.items sets → AreRuled names design rules comp [] sets
ruled_none names design rules comp sets has copies = record {
  numbers = copies_number SetHasNumbers assignment_tree names comp.sets.items sets copies has.sets;
  trees = copies_tree SetHasNumbers assignment_tree names comp.sets.items sets copies ∙ sym (append-nil (map (assignment_tree names) comp.sets.items));
}

pub ruled_more : (names : List Text) (design : Design) (rules : List ActivityRule) (comp : CalComp) (groups : List Group) (i : ℕ) (group : Group) (when : Guard CalPort) (sets sets' : List Assign)
    → slice_get groups i ≡ Some group → GroupHasNumbers names group → GuardHasNumbers names when
    → when_of design rules (component_tree names comp) (text_of names group.name) ≡ Some (guard_tree (port_tree names) when)
    → AddsRuled when group.sets.items sets sets' → AreRuled names design rules comp (take i groups) sets → AreRuled names design rules comp (take (i + 1) groups) sets'
ruled_more names design rules comp groups i group when sets sets' at has guard rule adds so_far =
    let t = assignment_tree names in
    let f = ruled_sets design rules (component_tree names comp) in
    let g = group_tree names in
    record {
      numbers = adds.numbers names guard has.sets so_far.numbers;
      trees =
          adds.trees names
          ∙ ap₂ (λ (xs ys : List Assignment). xs ++ ys) so_far.trees (ap (λ (o : Option (GuardTree PortName)). map (guarded_set o) (map t group.sets.items)) (sym rule))
          ∙ append_assoc (map t comp.sets.items) (flat_map f (map g (take i groups))) (f (g group))
          ∙ ap (λ (xs : List Assignment). map t comp.sets.items ++ xs)
          (ap (λ (xs : List Assignment). flat_map f (map g (take i groups)) ++ xs) (sym (append-nil (f (g group))))
          ∙ sym (flat_map-append f (map g (take i groups)) (g group ∷ []))
          ∙ ap (flat_map f) (sym (map-append g (take i groups) (group ∷ [])) ∙ ap (map g) (sym (take_next groups i group at))));
    }

-- the component's tree, from its parts
pub removed_tree : (names : List Text) (design : Design) (rules : List ActivityRule) (comp made : CalComp) → made.name ≡ comp.name → made.ins.items ≡ comp.ins.items → made.outs.items ≡ comp.outs.items
    → AllZip IsCellCopy comp.cells.items made.cells.items → made.groups.items ≡ [] → AreRuled names design rules comp comp.groups.items made.sets.items → control_tree names made.control ≡ control_tree names comp.control
    → component_tree names made ≡ removed design rules (component_tree names comp)
removed_tree names design rules comp made name ins outs cells groups sets control =
    let made_so : Text → List Pin → List Pin → List CellDef → List GroupDef → List Assignment → ControlSection → Component =
    λ n i o c g s k. record { name = n; ins = i; outs = o; cells = c; groups = g; sets = s; control = k } in
    let n = ap (text_of names) name in
    let i = ap (map (pin_tree names)) ins in
    let o = ap (map (pin_tree names)) outs in
    let c = copies_tree CellHasNumbers cell_tree names comp.cells.items made.cells.items cells in
    let g = ap (map (group_tree names)) groups in
    λ j. made_so (n j) (i j) (o j) (c j) (g j) (sets.trees j) (control j)

pub removed_numbers : (names : List Text) (design : Design) (rules : List ActivityRule) (comp made : CalComp) → ComponentHasNumbers names comp → made.name ≡ comp.name → made.ins.items ≡ comp.ins.items → made.outs.items ≡ comp.outs.items
    → AllZip IsCellCopy comp.cells.items made.cells.items → made.groups.items ≡ [] → AreRuled names design rules comp comp.groups.items made.sets.items → ControlHasNumbers names made.control → ComponentHasNumbers names made
removed_numbers names design rules comp made has name ins outs cells groups sets control = record {
  name = subst (IsNumberOf names) (sym name) has.name;
  ins = subst (λ (pins : List CalPin). All (PinHasNumber names) pins) (sym ins) has.ins;
  outs = subst (λ (pins : List CalPin). All (PinHasNumber names) pins) (sym outs) has.outs;
  cells = copies_number CellHasNumbers cell_tree names comp.cells.items made.cells.items cells has.cells;
  groups = subst (λ (gs : List Group). All (GroupHasNumbers names) gs) (sym groups) (All-nil (GroupHasNumbers names));
  sets = sets.numbers;
  control = control;
}

-- ---- the control section of a bare component

some_statement : (s : Statement) → statements_in s ≡ [] → ⊥
some_statement (Enable g) none = cc
some_statement (Seq ss) none = cc
some_statement (Par ss) none = cc
some_statement (If port by s t) none = cc
some_statement (While port by s) none = cc
some_statement (Invoke cell ins outs) none = cc

pub no_body : (control : ControlPart) (s : Control) → control ≡ part.Body s → ((names : List Text) → control_statements (control_tree names control) ≡ []) → ⊥
no_body control s is none = some_statement (statement_tree [] s) (ap (λ (p : ControlPart). control_statements (control_tree [] p)) (sym is) ∙ none [])

pub no_statements : (names other : List Text) (control : ControlPart) (sets : List Assignment) → is_bare_by (control_tree names control) sets ≡ true → control_statements (control_tree other control) ≡ []
no_statements names other part.Absent sets bare = refl
no_statements names other part.Empty sets bare = refl
no_statements names other (part.Body s) sets bare = absurd (cc)

-- without a body it has no names
pub bare_numbers : (names : List Text) (control : ControlPart) → ((other : List Text) → control_statements (control_tree other control) ≡ []) → ControlHasNumbers names control
bare_numbers names part.Absent none = tt
bare_numbers names part.Empty none = tt
bare_numbers names (part.Body s) none = absurd (no_body (part.Body s) s refl none)

-- ---- components one after another

pub mapped_next : {X Y : Type 0} (t : X → Y) (r : Y → Y) (made made' from : List X) (i : ℕ) (x y : X) → made' ≡ made ++ y ∷ [] → slice_get from i ≡ Some x → t y ≡ r (t x) → map t made ≡ map r (map t (take i from)) → map t made' ≡ map r (map t (take (i + 1) from))
mapped_next t r made made' from i x y pushed at same so_far =
    ap (map t) pushed ∙ map-append t made (y ∷ []) ∙ ap₂ (λ xs z. xs ++ z ∷ []) so_far same
    ∙ sym (ap (λ xs. map r (map t xs)) (take_next from i x at) ∙ ap (map r) (map-append t (take i from) (x ∷ [])) ∙ map-append r (map t (take i from)) (t x ∷ []))
