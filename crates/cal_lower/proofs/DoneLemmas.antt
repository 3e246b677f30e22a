-- Continuous assignments of the port `done`, and components that no control starts.
use Rattle.std.proofs.Common.{◌≡◌, ℕ, zero, suc, ◌+◌, ◌≤◌, Bool, true, false, not, ◌&&◌, List, [], ◌∷◌, ◌++◌, length, map, take, Option, Some, None, codes, refl, sym, ap, ◌∙◌}
use Rattle.std.specs.Prelude.{slice_get, bytes_eq, is_some, option_map}
use Rattle.std.proofs.lemmas.Bool.{or_left, or_right, or_from, or_parts}
use Rattle.std.proofs.lemmas.List.{map_push, take_all}
use Rattle.hw_names.specs.Name.{Text, text_of}
use Rattle.hw_names.specs.declared.names.NameId.{NameId}
use Rattle.cal_ast.specs.Ports.{is_own, drives_done, is_bare, is_bare_by}
use Rattle.cal_ast.specs.Tree.{Assignment, assignment_tree, component_tree, control_tree, port_tree}
use Rattle.cal_ast.specs.declared.tree.Assign.{Assign}
use Rattle.cal_ast.specs.declared.tree.CalComp.{CalComp}
use Rattle.cal_ast.specs.declared.tree.CalPort.{CalPort}
use Rattle.cal_ast.specs.declared.tree.ControlPart.{ControlPart}

abbrev drives : Assignment → Bool
drives a = is_own (codes "done") a.dst

drives_push : (sets : List Assignment) (a : Assignment) → drives_done sets ≡ false → drives a ≡ false → drives_done (sets ++ a ∷ []) ≡ false
drives_push [] a none other = or_from (drives a) false other refl
drives_push (b ∷ sets) a none other =
    let parts = or_parts (drives b) (drives_done sets) none in
    or_from (drives b) (drives_done (sets ++ a ∷ [])) parts.0 (drives_push sets a parts.1 other)

module _ (names : List Text) where
  -- the own port done, and other ports
  pub own_done : (p : CalPort) (text done : Text) → p.cell ≡ None → text_of names p.port ≡ text → done ≡ codes "done" → bytes_eq text done ≡ is_own (codes "done") (port_tree names p)
  own_done p text done none is done_is =
      ap (λ (t : Text). bytes_eq t done) (sym is) ∙ ap (λ (t : Text). bytes_eq (text_of names p.port) t) done_is
      ∙ sym (ap (λ (o : Option NameId). not (is_some (option_map (text_of names) o)) && bytes_eq (text_of names p.port) (codes "done")) none)

  pub not_own : (p : CalPort) (cell : NameId) → p.cell ≡ Some cell → false ≡ is_own (codes "done") (port_tree names p)
  not_own p cell some = sym (ap (λ (o : Option NameId). not (is_some (option_map (text_of names) o)) && bytes_eq (text_of names p.port) (codes "done")) some)

  -- one of the assignments, and none so far
  pub one_drives : (sets : List Assign) (k : ℕ) (a : Assign) → slice_get sets k ≡ Some a → is_own (codes "done") (port_tree names a.dst) ≡ true → drives_done (map (assignment_tree names) sets) ≡ true
  one_drives [] k a at own = absurd (cc)
  one_drives (b ∷ sets) zero a at own =
      let is : b ≡ a = cc in
      or_left (drives (assignment_tree names b)) (drives_done (map (assignment_tree names) sets)) (ap (λ (x : Assign). is_own (codes "done") (port_tree names x.dst)) is ∙ own)
  one_drives (b ∷ sets) (suc k) a at own = or_right (drives (assignment_tree names b)) (drives_done (map (assignment_tree names) sets)) (one_drives sets k a at own)

  pub none_drive_more : (sets : List Assign) (i : ℕ) (a : Assign) → take (i + 1) sets ≡ take i sets ++ a ∷ [] → drives_done (map (assignment_tree names) (take i sets)) ≡ false
      → is_own (codes "done") (port_tree names a.dst) ≡ false → drives_done (map (assignment_tree names) (take (i + 1) sets)) ≡ false
  none_drive_more sets i a more none other =
      ap (λ (l : List Assign). drives_done (map (assignment_tree names) l)) more ∙ ap drives_done (map_push (assignment_tree names) (take i sets) a)
      ∙ drives_push (map (assignment_tree names) (take i sets)) (assignment_tree names a) none other

  pub none_drive : (items sets : List Assign) (i : ℕ) → items ≡ sets → length items ≤ i → drives_done (map (assignment_tree names) (take i items)) ≡ false → false ≡ drives_done (map (assignment_tree names) sets)
  none_drive items sets i same past none = sym none ∙ ap (λ (l : List Assign). drives_done (map (assignment_tree names) l)) (take_all i items past ∙ same)

  -- whether control starts the component
  pub bare_by : (comp : CalComp) (part : ControlPart) → comp.control ≡ part → is_bare_by (control_tree names part) (map (assignment_tree names) comp.sets.items) ≡ is_bare (component_tree names comp)
  bare_by comp part is = sym (ap (λ (p : ControlPart). is_bare_by (control_tree names p) (map (assignment_tree names) comp.sets.items)) is)
