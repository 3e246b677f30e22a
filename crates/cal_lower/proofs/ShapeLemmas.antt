-- A lowered design has the shape of its source: what is added are wires and registers with reserved names.
use Rattle.std.proofs.Common.{◌≡◌, List, [], ◌∷◌, map, false, refl, sym, subst, inl, inr}
use Rattle.std.specs.Prelude.{All, Contains}
use Rattle.std.proofs.lemmas.Bool.{cases_Bool, cond-true, cond-false}
use Rattle.std.proofs.lemmas.List.Elements.{All-nil, All-cons, All-contains}
use Rattle.hw_prims.specs.Table.{is_memory, prim_names}
use Rattle.cal_ast.proofs.ListLemmas.{Contains-here, Contains-there}
use Rattle.cal_ast.specs.Keeping.{IsAddedCell, KeepsComponentShape, KeepsShape}
use Rattle.cal_ast.specs.Naming.{IsReserved}
use Rattle.cal_ast.specs.Ports.{is_bare}
use Rattle.cal_ast.specs.Tree.{CellDef, Component, Design}
use Rattle.cal_lower.specs.inside.Added.{Additions, extended}
use Rattle.cal_lower.specs.inside.Laws.{LoweringsKeepShape}
use Rattle.cal_lower.specs.inside.Lowered.{control_pieces, HasFewParts}
use Rattle.cal_lower.specs.inside.Pieces.{Kind, Wire, Register, Piece, made_by, piece_cell}
use Rattle.cal_lower.proofs.ExtendedLemmas.{answer, extended_name, extended_ins, extended_outs, extended_cells, added_cells}
use Rattle.cal_lower.proofs.ListLemmas.{Each}
use Rattle.cal_lower.proofs.LoweredLemmas.{tokens}
use Rattle.cal_lower.proofs.PieceLemmas.{pieces_reserved}

-- ---- additions of cells that are no memories, with names of lowering's

module _ (add : Additions) where
  component_shape : (c : Component) → (is_bare c ≡ false → All IsAddedCell (add.cells c)) → KeepsComponentShape c (extended add c)
  component_shape c are_added = record {
    name = extended_name add c;
    ins = extended_ins add c;
    outs = extended_outs add c;
    added = added_cells add c;
    cells = extended_cells add c;
    are_added =
        let A : List CellDef → Type 0 = λ cells. All IsAddedCell cells in
        elim (cases_Bool (is_bare c)) [
          | inl bare ↦ subst A (sym (cond-true (is_bare c) [] (add.cells c) bare)) (All-nil IsAddedCell)
          | inr full ↦ subst A (sym (cond-false (is_bare c) [] (add.cells c) full)) (are_added full)
        ];
  }

  pub shape_kept : (source : Design) → ((c : Component) → Contains source c → is_bare c ≡ false → All IsAddedCell (add.cells c)) → KeepsShape source (answer add source)
  shape_kept [] each = tt
  shape_kept (c ∷ cs) each = (component_shape c (each c (Contains-here c cs)), shape_kept cs (λ d has. each d (Contains-there c cs d has)))

-- ---- the lowering to registers of one bit

no_memory : (kind : Kind) → is_memory (made_by kind) ≡ false
unfolding is_memory prim_names
no_memory Wire = refl
no_memory Register = refl

all_added : (ps : List Piece) → Each (λ (p : Piece). IsReserved p.name) ps → All IsAddedCell (map piece_cell ps)
all_added [] all = All-nil IsAddedCell
all_added (p ∷ ps) all = All-cons IsAddedCell (piece_cell p) (map piece_cell ps) (record { named = all.0; no_memory = no_memory p.kind }) (all_added ps all.1)

pub lowerings_keep_shape : LoweringsKeepShape
lowerings_keep_shape source answer rules plain is =
    let K : Design → Type 0 = λ a. KeepsShape source a in
    subst K (sym is.design) (shape_kept tokens source (λ c has full. all_added (control_pieces c) (pieces_reserved c (All-contains HasFewParts source c is.few has))))
