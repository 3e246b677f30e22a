-- What the lowering to registers of one bit adds is as additions have to be: wires and registers with names that are apart, each with its own assignments.
use Rattle.std.proofs.Common.{◌≢◌, ◌^◌, ◌≤◌, List, [], ◌∷◌, refl, map}
use Rattle.std.specs.Prelude.{Contains, codes, flat_map}
use Rattle.hw_names.proofs.NameLemmas.{HasNoDot-from_test}
use Rattle.hw_names.specs.Name.{IsPlain}
use Rattle.cal_ast.proofs.ListLemmas.{Contains-map}
use Rattle.cal_ast.specs.Naming.{IsReserved}
use Rattle.cal_ast.specs.NoInvoke.{IsPlainDesign}
use Rattle.cal_ast.specs.Plain.{HasPlainTree}
use Rattle.cal_ast.specs.Plan.{plan_of}
use Rattle.cal_ast.specs.Tree.{CellDef, Component, Design}
use Rattle.cal_token.specs.inside.Tokens.{size}
use Rattle.cal_lower.specs.inside.Lowered.{control_pieces}
use Rattle.cal_lower.specs.inside.Pieces.{Kind, Wire, Register, Piece, piece_cell, piece_set, enables_piece, piece_sets}
use Rattle.cal_lower.proofs.ExtendedLemmas.{AreNamed, CellsApart, DrivesAdded}
use Rattle.cal_lower.proofs.ListLemmas.{Each, each_weaker, each_map, each_flat_map}
use Rattle.cal_lower.proofs.LoweredLemmas.{tokens}
use Rattle.cal_lower.proofs.PieceLemmas.{driven_alone, pieces_apart, pieces_reserved}
use Rattle.cal_lower.proofs.PlaceLemmas.{Apart}
use Rattle.cal_lower.proofs.ShownLemmas.{IsAddedPiece}

-- ---- pieces with names of lowering's

plain_in : IsPlain (codes "in")
plain_in = (λ e. cc, HasNoDot-from_test (codes "in") refl)

plain_write_en : IsPlain (codes "write_en")
plain_write_en = (λ e. cc, HasNoDot-from_test (codes "write_en") refl)

abbrev IsReservedPiece : Piece → Type 0
IsReservedPiece p = IsReserved p.name

piece_drives : (kind : Kind) (p : Piece) → IsReserved p.name → Each DrivesAdded (piece_set p ∷ enables_piece kind p.name)
piece_drives Wire p named = (record { cell = p.name; pin = codes "in"; drives = refl; reserved = named; plain = plain_in }, tt)
piece_drives Register p named = (
  record { cell = p.name; pin = codes "in"; drives = refl; reserved = named; plain = plain_in },
  (record { cell = p.name; pin = codes "write_en"; drives = refl; reserved = named; plain = plain_write_en }, tt),
)

pub pieces_drive : (ps : List Piece) → Each (λ (p : Piece). IsReserved p.name) ps → Each DrivesAdded (flat_map piece_sets ps)
pieces_drive ps all =
    each_flat_map DrivesAdded piece_sets ps (each_weaker IsReservedPiece (λ (p : Piece). Each DrivesAdded (piece_sets p)) (λ p named. piece_drives p.kind p named) ps all)

apart_cells : (p : Piece) (qs : List Piece) → Each (λ (q : Piece). p.name ≢ q.name) qs → Each (λ (y : CellDef). p.name ≢ y.name) (map piece_cell qs)
apart_cells p [] all = tt
apart_cells p (q ∷ qs) all = (all.0, apart_cells p qs all.1)

pub piece_cells_apart : (ps : List Piece) → Apart ps → CellsApart (map piece_cell ps)
piece_cells_apart [] apart = tt
piece_cells_apart (p ∷ ps) apart = (apart_cells p ps apart.0, piece_cells_apart ps apart.1)

-- ---- those of a component

module _ (source : Design) (tree : HasPlainTree source) (plain : IsPlainDesign source) (c : Component) (in_design : Contains source c) (few : size (plan_of c) ≤ 2 ^ 64) where
  pub tokens_named : AreNamed tokens c
  tokens_named = record {
    reserved = each_map (λ (cell : CellDef). IsReserved cell.name) piece_cell (control_pieces c) (pieces_reserved c few);
    apart = piece_cells_apart (control_pieces c) (pieces_apart source tree plain c in_design few);
    driven = pieces_drive (control_pieces c) (pieces_reserved c few);
  }

  pub piece_added : (p : Piece) → Contains (control_pieces c) p → IsAddedPiece tokens c p
  piece_added p has = record {
    has = Contains-map piece_cell (control_pieces c) p has;
    alone = λ see pin. driven_alone see (control_pieces c) (pieces_apart source tree plain c in_design few) p pin has;
  }
