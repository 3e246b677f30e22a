-- Wires and registers, one after another, as cells and assignments.
use Rattle.std.proofs.Common.{◌≡◌, ℕ, List, [], ◌∷◌, ◌++◌, map, flat_map, Some, None, false, codes, sym, ap, ap₂, subst, ◌∙◌, append_assoc, Vec, Global}
use Rattle.std.proofs.lemmas.List.{append-nil, map-append}
use Rattle.std.proofs.lemmas.List.Concat.{flat_map-append}
use Rattle.hw_names.specs.Name.{Text}
use Rattle.hw_names.specs.declared.names.NameId.{NameId}
use Rattle.net_core.specs.Guard.{GuardTree}
use Rattle.net_core.specs.declared.net.Guard.{Guard}
use Rattle.net_core.specs.declared.net.Src.TheVariants.{Lit}
use Rattle.cal_ast.specs.Numbers.{CellHasNumbers, SetHasNumbers}
use Rattle.cal_ast.specs.Tree.{Assignment, CellDef, PortName, assignment_tree, cell_tree, port_of}
use Rattle.cal_ast.specs.declared.tree.Assign.{Assign}
use Rattle.cal_ast.specs.declared.tree.CalCell.{CalCell}
use Rattle.cal_ast.specs.declared.tree.CalPort.{CalPort}
use Rattle.cal_lower.specs.inside.Labels.{AreTexts}
use Rattle.cal_lower.specs.inside.Pieces.{Kind, Wire, Register, Piece, enables_piece, made_by, piece_cell, piece_set, piece_sets}
use Rattle.cal_lower.specs.inside.Shown.{DriveTree, Shows, ShowAll, ShowsDrive, ShowsGuard, ShowsName, ShowsPieces, ShowsPort, ShowsSets, driven, one_when}
use Rattle.cal_lower.specs.declared.labels.Texts.{Texts}
use Rattle.cal_lower.specs.declared.pieces.Drive.{Drive}
use Rattle.cal_lower.specs.declared.pieces.Pieces.{Pieces}
use Rattle.cal_lower.proofs.GrownLemmas.{cell_port, name_number, name_text, show_append, show_none, show_push}

module _ (names : List Text) where
  -- 1, where the guard is true
  pub when_shown : (tree : GuardTree PortName) (g : Guard CalPort) → ShowsGuard names tree g → ShowsDrive names (one_when tree) (record { guard = Some g; src = Lit 1 1 })
  when_shown tree g h = record {
    tree = λ later more. ap (λ (t : GuardTree PortName). one_when t) (h.tree later more);
    numbers = λ later more. (h.numbers later more, tt);
  }

  -- the cell of a piece
  pub cell_shown : (kind : Kind) (text : Text) (tree : DriveTree) (made name : NameId) (params : Vec ℕ Global) → ShowsName names (made_by kind) made → ShowsName names text name → params.items ≡ 1 ∷ []
      → Shows CellHasNumbers cell_tree names (piece_cell (driven kind text tree)) (record { name = name; made = made; params = params; external = false })
  cell_shown kind text tree made name params made_is name_is one = record {
    tree = λ later more.
        ap₂ (λ (n m : Text). record { name = n; made = m; params = params.items; external = false }) (name_text later text name (more _ _ name_is)) (name_text later (made_by kind) made (more _ _ made_is))
        ∙ ap (λ (ps : List ℕ). record { name = text; made = made_by kind; params = ps; external = false }) one;
    numbers = λ later more. (name_number later text name (more _ _ name_is), name_number later (made_by kind) made (more _ _ made_is));
  }

  -- the assignment that drives it, and the one by which a register takes what drives it
  pub set_shown : (kind : Kind) (text : Text) (tree : DriveTree) (texts : Texts) (name : NameId) (dst : CalPort) (d : Drive) → AreTexts names texts → ShowsName names text name
      → dst ≡ record { cell = Some name; port = texts.input } → ShowsDrive names tree d
      → Shows SetHasNumbers assignment_tree names (piece_set (driven kind text tree)) (record { dst = dst; guard = d.guard; src = d.src })
  set_shown kind text tree texts name dst d are is dst_is drive =
      let P : CalPort → Type 0 = ShowsPort names (port_of text (codes "in")) in
      let port = subst P (sym dst_is) (cell_port names text (codes "in") name texts.input is are.input) in
      record {
        tree = λ later more.
            ap₂ (λ (p : PortName) (t : DriveTree). record { dst = p; guard = t.guard; src = t.src }) (port.tree later more) (drive.tree later more);
        numbers = λ later more. let h = drive.numbers later more in (port.numbers later more, h.0, h.1);
      }

  pub enable_shown : (text : Text) (texts : Texts) (name : NameId) (dst : CalPort) → AreTexts names texts → ShowsName names text name → dst ≡ record { cell = Some name; port = texts.enable }
      → Shows SetHasNumbers assignment_tree names (record { dst = port_of text (codes "write_en"); guard = None; src = Lit 1 1 }) (record { dst = dst; guard = None; src = Lit 1 1 })
  enable_shown text texts name dst are is dst_is =
      let P : CalPort → Type 0 = ShowsPort names (port_of text (codes "write_en")) in
      let port = subst P (sym dst_is) (cell_port names text (codes "write_en") name texts.enable is are.enable) in
      record {
        tree = λ later more. ap (λ (p : PortName). record { dst = p; guard = None; src = Lit 1 1 }) (port.tree later more);
        numbers = λ later more. (port.numbers later more, tt, tt);
      }

  -- a wire has no such assignment
  pub none_enables : (kind : Kind) (text : Text) (sets : List Assign) → kind ≡ Wire → ShowsSets names sets (enables_piece kind text) sets
  none_enables kind text sets is = λ trees shown.
      let P : Kind → Type 0 = λ k. ShowAll SetHasNumbers assignment_tree names (trees ++ enables_piece k text) sets in
      let Q : List Assignment → Type 0 = λ ys. ShowAll SetHasNumbers assignment_tree names ys sets in
      subst P (sym is) (subst Q (sym (append-nil trees)) shown)

  pub one_enables : (kind : Kind) (text : Text) (texts : Texts) (name : NameId) (dst : CalPort) (old new : List Assign) → kind ≡ Register → AreTexts names texts → ShowsName names text name
      → dst ≡ record { cell = Some name; port = texts.enable } → new ≡ old ++ record { dst = dst; guard = None; src = Lit 1 1 } ∷ [] → ShowsSets names old (enables_piece kind text) new
  one_enables kind text texts name dst old new kind_is are is dst_is new_is = λ trees shown.
      let P : Kind → Type 0 = λ k. ShowAll SetHasNumbers assignment_tree names (trees ++ enables_piece k text) new in
      let S : List Assign → Type 0 = ShowAll SetHasNumbers assignment_tree names (trees ++ enables_piece Register text) in
      subst P (sym kind_is)
      (subst S (sym new_is) (show_push SetHasNumbers assignment_tree names trees old _ _ shown (enable_shown text texts name dst are is dst_is)))

  -- no piece
  pub no_pieces : (made : Pieces) → made.cells.items ≡ [] → made.sets.items ≡ [] → ShowsPieces names [] made
  no_pieces made cells sets =
      let C : List CalCell → Type 0 = ShowAll CellHasNumbers cell_tree names [] in
      let S : List Assign → Type 0 = ShowAll SetHasNumbers assignment_tree names [] in
      record { cells = subst C (sym cells) (show_none CellHasNumbers cell_tree names); sets = subst S (sym sets) (show_none SetHasNumbers assignment_tree names) }

  -- one piece more
  pub one_piece : (list : List Piece) (p : Piece) (old new : Pieces) (cell : CalCell) (set : Assign) (mid : List Assign) → ShowsPieces names list old
      → new.cells.items ≡ old.cells.items ++ cell ∷ [] → mid ≡ old.sets.items ++ set ∷ [] → Shows CellHasNumbers cell_tree names (piece_cell p) cell
      → Shows SetHasNumbers assignment_tree names (piece_set p) set → ShowsSets names mid (enables_piece p.kind p.name) new.sets.items → ShowsPieces names (list ++ p ∷ []) new
  one_piece list p old new cell set mid shows cells sets cell_is set_is enables =
      let before = flat_map piece_sets list in
      let C : List CalCell → Type 0 = ShowAll CellHasNumbers cell_tree names (map piece_cell list ++ piece_cell p ∷ []) in
      let D : List CellDef → Type 0 = λ ys. ShowAll CellHasNumbers cell_tree names ys new.cells.items in
      let S : List Assign → Type 0 = ShowAll SetHasNumbers assignment_tree names (before ++ piece_set p ∷ []) in
      let T : List Assignment → Type 0 = λ ys. ShowAll SetHasNumbers assignment_tree names ys new.sets.items in
      let set_list = subst S (sym sets) (show_push SetHasNumbers assignment_tree names before old.sets.items (piece_set p) set shows.sets set_is) in
      let same_sets : (before ++ piece_set p ∷ []) ++ enables_piece p.kind p.name ≡ flat_map piece_sets (list ++ p ∷ []) =
      append_assoc before (piece_set p ∷ []) (enables_piece p.kind p.name)
      ∙ ap (λ ys. before ++ ys) (sym (append-nil (piece_sets p)))
      ∙ sym (flat_map-append piece_sets list (p ∷ [])) in
      record {
        cells = subst D (sym (map-append piece_cell list (p ∷ []))) (subst C (sym cells) (show_push CellHasNumbers cell_tree names (map piece_cell list) old.cells.items (piece_cell p) cell shows.cells cell_is));
        sets = subst T same_sets (enables (before ++ piece_set p ∷ []) set_list);
      }

  -- further pieces
  pub more_pieces : (list more : List Piece) (old others new : Pieces) → ShowsPieces names list old → ShowsPieces names more others → new.cells.items ≡ old.cells.items ++ others.cells.items
      → new.sets.items ≡ old.sets.items ++ others.sets.items → ShowsPieces names (list ++ more) new
  more_pieces list more old others new first second cells sets =
      let C : List CalCell → Type 0 = ShowAll CellHasNumbers cell_tree names (map piece_cell list ++ map piece_cell more) in
      let D : List CellDef → Type 0 = λ ys. ShowAll CellHasNumbers cell_tree names ys new.cells.items in
      let S : List Assign → Type 0 = ShowAll SetHasNumbers assignment_tree names (flat_map piece_sets list ++ flat_map piece_sets more) in
      let T : List Assignment → Type 0 = λ ys. ShowAll SetHasNumbers assignment_tree names ys new.sets.items in
      record {
        cells = subst D (sym (map-append piece_cell list more)) (subst C (sym cells) (show_append CellHasNumbers cell_tree names _ _ _ _ first.cells second.cells));
        sets = subst T (sym (flat_map-append piece_sets list more)) (subst S (sym sets) (show_append SetHasNumbers assignment_tree names _ _ _ _ first.sets second.sets));
      }
