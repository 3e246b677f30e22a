-- A component that has the parts of a shift register has its chain: each register is found by its name, and is driven by the chain alone.
use Rattle.std.proofs.Common.{◌≡◌, inl, inr, Bool, true, false, List, [], ◌∷◌, ◌++◌, map, get_or, Some, All, Contains, refl, sym, ap, ap₂, ◌∙◌, subst, append_assoc}
use Rattle.std.specs.List.{filter}
use Rattle.std.specs.Prelude.{option_and_then}
use Rattle.std.specs.Str.{bytes_eq}
use Rattle.std.proofs.lemmas.List.{append-nil, map-append}
use Rattle.std.proofs.lemmas.List.Elements.{All-head, All-tail, All-contains, Contains-get_or, Contains-append_left, Contains-append_right, filter-append}
use Rattle.std.proofs.lemmas.Slice.Eq.{bytes_eq-Decides}
use Rattle.hw_names.specs.Name.{Text}
use Rattle.hw_prims.specs.Table.{prim_names, prim_of, with_params, is_made}
use Rattle.hw_prims.specs.declared.prim.Primitive.TheVariants.{StdReg}
use Rattle.cal_ast.proofs.ListLemmas.{Contains-here, Contains-there, Contains-none, Contains-cases_first, Contains-map}
use Rattle.cal_ast.specs.Naming.{cell_names}
use Rattle.cal_ast.specs.Ports.{cell_named, primitive_of, primitive_in}
use Rattle.cal_ast.specs.Tree.{CellDef, Assignment, Component, cell_tree, assignment_tree, port_tree}
use Rattle.fil_fsm.specs.Chain.{register, chain_sets}
use Rattle.fil_fsm.specs.Delays.{HasParts, PartsMakeChains, drives_cell}

-- a cell that is not among the first is found among the rest
found_after : (before rest : List CellDef) (name : Text) → (Contains (cell_names before) name → ⊥) → cell_named (before ++ rest) name ≡ cell_named rest name
found_after [] rest name none = refl
found_after (cell ∷ before) rest name none = by (bytes_eq cell.name name) refl (found_after before rest name (λ there. none (Contains-there cell.name (cell_names before) name there)))
  where
    by : (b : Bool) → bytes_eq cell.name name ≡ b → cell_named (before ++ rest) name ≡ cell_named rest name → cell_named (cell ∷ before ++ rest) name ≡ cell_named rest name
    by true e later = absurd (none (subst (λ x. Contains (cell.name ∷ cell_names before) x) ((bytes_eq-Decides cell.name name).0 e) (Contains-here cell.name (cell_names before))))
    by false e later = rw e later

-- a register is found among registers
register_found : (registers : List Text) (after : List CellDef) (name : Text) → Contains registers name → cell_named (map register registers ++ after) name ≡ Some (register name)
register_found [] after name has = absurd (Contains-none name has)
register_found (other ∷ registers) after name has = by (bytes_eq other name) refl (register_found registers after name)
  where
    by : (b : Bool) → bytes_eq other name ≡ b → (Contains registers name → cell_named (map register registers ++ after) name ≡ Some (register name)) → cell_named (map register (other ∷ registers) ++ after) name ≡ Some (register name)
    by true e later = rw e (ap (λ x. Some (register x)) ((bytes_eq-Decides other name).0 e))
    by false e later = elim (Contains-cases_first other registers name has) [
      | inl same ↦ (let is = (bytes_eq-Decides other name).1 same in absurd (cc))
      | inr there ↦ rw e (later there)
    ]

is_register : (name : Text) → primitive_of (register name) ≡ Some (StdReg 1)
unfolding prim_names prim_of with_params is_made
is_register name = refl

-- assignments that drive another cell are left out
filter_none : (name : Text) (sets : List Assignment) → All (λ (a : Assignment). drives_cell name a ≡ false) sets → filter (drives_cell name) sets ≡ []
filter_none name [] none = refl
filter_none name (a ∷ sets) none =
    let other : drives_cell name a ≡ false = All-head (λ (b : Assignment). drives_cell name b ≡ false) a sets none in
    let rest = filter_none name sets (All-tail (λ (b : Assignment). drives_cell name b ≡ false) a sets none) in
    rw other rest

-- what holds of each element holds of all
All-from_contains : {X : Type 0} (P : X → Type 0) (xs : List X) → ((x : X) → Contains xs x → P x) → All P xs
All-from_contains P xs each k d within = each (get_or xs k d) (Contains-get_or xs k d within)

All-append_left : {X : Type 0} (P : X → Type 0) (xs ys : List X) → All P (xs ++ ys) → All P xs
All-append_left P xs ys all = All-from_contains P xs (λ x has. All-contains P (xs ++ ys) x all (Contains-append_left xs ys x has))

All-append_right : {X : Type 0} (P : X → Type 0) (xs ys : List X) → All P (xs ++ ys) → All P ys
All-append_right P xs ys all = All-from_contains P ys (λ x has. All-contains P (xs ++ ys) x all (Contains-append_right xs ys x has))

module _ (c : Component) (parts : List CellDef) (sets : List Assignment) (has : HasParts c parts sets) (registers : List Text) (are : parts ≡ map register registers) (name : Text) (there : Contains registers name) where
  part : Contains parts (register name)
  part = subst (λ cells. Contains cells (register name)) (sym are) (Contains-map register registers name there)

  no_other_cell : Contains (cell_names (has.cells_before ++ has.cells_after)) name → ⊥
  no_other_cell = All-contains (λ (p : CellDef). ¬ Contains (cell_names (has.cells_before ++ has.cells_after)) p.name) parts (register name) has.other_cells part

  not_before : Contains (cell_names has.cells_before) name → ⊥
  not_before stands =
      no_other_cell (subst (λ names. Contains names name) (sym (map-append (λ (p : CellDef). p.name) has.cells_before has.cells_after)) (Contains-append_left (cell_names has.cells_before) (cell_names has.cells_after) name stands))

  part_found : cell_named c.cells name ≡ Some (register name)
  part_found =
      let all : c.cells ≡ has.cells_before ++ (map register registers ++ has.cells_after) = has.cells ∙ ap (λ cells. has.cells_before ++ cells ++ has.cells_after) are ∙ append_assoc has.cells_before (map register registers) has.cells_after in
      ap (λ cells. cell_named cells name) all ∙ found_after has.cells_before (map register registers ++ has.cells_after) name not_before ∙ register_found registers has.cells_after name there

  part_made : primitive_in c name ≡ Some (StdReg 1)
  part_made = ap (option_and_then primitive_of) part_found ∙ is_register name

  others_pass : All (λ (a : Assignment). drives_cell name a ≡ false) (has.sets_before ++ has.sets_after)
  others_pass = All-contains (λ (p : CellDef). All (λ (a : Assignment). drives_cell p.name a ≡ false) (has.sets_before ++ has.sets_after)) parts (register name) has.other_sets part

  none_before : filter (drives_cell name) has.sets_before ≡ []
  none_before = filter_none name has.sets_before (λ k d within. All-append_left (λ (a : Assignment). drives_cell name a ≡ false) has.sets_before has.sets_after others_pass k d within)

  none_after : filter (drives_cell name) has.sets_after ≡ []
  none_after = filter_none name has.sets_after (λ k d within. All-append_right (λ (a : Assignment). drives_cell name a ≡ false) has.sets_before has.sets_after others_pass k d within)

  part_driven : filter (drives_cell name) c.sets ≡ filter (drives_cell name) sets
  part_driven =
      let test = drives_cell name in
      ap (filter test) has.assigned
      ∙ filter-append test (has.sets_before ++ sets) has.sets_after
      ∙ ap₂ (λ (a b : List Assignment). a ++ b) (filter-append test has.sets_before sets ∙ ap (λ (a : List Assignment). a ++ filter test sets) none_before) none_after
      ∙ append-nil (filter test sets)

pub parts_make_chains : PartsMakeChains
parts_make_chains old new go n parts shift c has = record {
  made = All-from_contains (λ name. primitive_in c name ≡ Some (StdReg 1)) shift.registers (λ name there. part_made c (map (cell_tree new) parts.cells.items) (map (assignment_tree new) parts.sets.items) has shift.registers shift.cells name there);
  driven = All-from_contains (λ name. filter (drives_cell name) c.sets ≡ filter (drives_cell name) (chain_sets (port_tree new go) shift.registers)) shift.registers
      (λ name there. part_driven c (map (cell_tree new) parts.cells.items) (map (assignment_tree new) parts.sets.items) has shift.registers shift.cells name there ∙ ap (filter (drives_cell name)) shift.sets);
  distinct = shift.distinct;
}
