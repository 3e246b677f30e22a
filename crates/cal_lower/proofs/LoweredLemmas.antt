-- The lowering to registers of one bit, as cells and assignments that are added.
use Rattle.std.proofs.Common.{◌≡◌, inl, inr, false, List, [], ◌∷◌, map, Some, refl, ap, subst, ◌∙◌}
use Rattle.std.specs.Prelude.{Contains, bytes_eq, flat_map}
use Rattle.std.proofs.lemmas.Bool.{cases_Bool, cond-true, cond-false}
use Rattle.std.proofs.lemmas.Slice.Eq.{bytes_eq-Decides}
use Rattle.hw_names.specs.Name.{Text}
use Rattle.hw_prims.specs.Table.{prim_names, prim_of, with_params, is_made}
use Rattle.hw_prims.specs.declared.prim.Primitive.{Primitive}
use Rattle.hw_prims.specs.declared.prim.Primitive.TheVariants.{StdWire, StdReg}
use Rattle.cal_ast.proofs.ListLemmas.{Contains-from_map, Contains-none, find-Some}
use Rattle.cal_ast.specs.Ports.{is_bare, cell_named, primitive_of}
use Rattle.cal_ast.specs.Tree.{CellDef, Component}
use Rattle.cal_lower.specs.inside.Added.{Additions}
use Rattle.cal_lower.specs.inside.Lowered.{control_pieces}
use Rattle.cal_lower.specs.inside.Pieces.{Kind, Wire, Register, Piece, made_by, piece_cell, piece_sets}
use Rattle.cal_lower.proofs.ExtendedLemmas.{AreOfPrimitives, added_cells}

-- wires and registers, with what drives them
abbrev pub tokens : Additions
tokens = record { cells = λ c. map piece_cell (control_pieces c); sets = λ c. flat_map piece_sets (control_pieces c) }

abbrev pub prim_for : Kind → Primitive
prim_for Wire = StdWire 1
prim_for Register = StdReg 1

pub kind_made : (kind : Kind) → prim_of (made_by kind) (1 ∷ []) ≡ Some (prim_for kind)
unfolding prim_names prim_of with_params is_made
kind_made Wire = refl
kind_made Register = refl

pub piece_made : (p : Piece) → primitive_of (piece_cell p) ≡ Some (prim_for p.kind)
piece_made p = kind_made p.kind

pub tokens_made : AreOfPrimitives tokens
tokens_made c cell has =
    let p = Contains-from_map piece_cell (control_pieces c) cell has in
    (prim_for p.0.kind, subst (λ (x : CellDef). primitive_of x ≡ Some (prim_for p.0.kind)) p.2 (piece_made p.0))

-- an added cell is a piece's, of a component with control
pub record IsOfPiece (c : Component) (name : Text) (cell : CellDef) : Type 0 where
  pub full : is_bare c ≡ false
  pub p : Piece
  pub has : Contains (control_pieces c) p
  pub is : piece_cell p ≡ cell
  pub named : p.name ≡ name

pub added_cell : (c : Component) (name : Text) (cell : CellDef) → cell_named (added_cells tokens c) name ≡ Some cell → IsOfPiece c name cell
added_cell c name cell found =
    let C : List CellDef → Type 0 = λ cells. Contains cells cell in
    let r = find-Some (λ (x : CellDef). bytes_eq x.name name) (added_cells tokens c) cell found in
    elim (cases_Bool (is_bare c)) [
      | inl bare ↦ absurd (Contains-none cell (subst C (cond-true (is_bare c) [] (tokens.cells c) bare) r.0))
      | inr full ↦
          let p = Contains-from_map piece_cell (control_pieces c) cell (subst C (cond-false (is_bare c) [] (tokens.cells c) full) r.0) in
          record {
            full = full;
            p = p.0;
            has = p.1;
            is = p.2;
            named = ap (λ (x : CellDef). x.name) p.2 ∙ (bytes_eq-Decides cell.name name).0 r.1;
          }
    ]
