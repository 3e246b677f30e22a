-- An encoded design has the shape of its source: what is added are wires and registers with reserved names.
use Rattle.std.proofs.Common.{◌≡◌, ◌≤◌, ◌^◌, List, [], ◌∷◌, map, false, refl, sym, subst, ◌∙◌}
use Rattle.std.specs.Prelude.{All}
use Rattle.std.proofs.lemmas.List.Elements.{All-nil, All-cons, All-append, All-contains}
use Rattle.hw_names.specs.Name.{Text}
use Rattle.hw_prims.specs.Table.{is_memory, prim_names}
use Rattle.cal_ast.specs.Keeping.{IsAddedCell, KeepsShape}
use Rattle.cal_ast.specs.Naming.{IsReserved}
use Rattle.cal_ast.specs.Plan.{plan_of}
use Rattle.cal_ast.specs.Tree.{Component, Design}
use Rattle.cal_token.specs.inside.Tokens.{size}
use Rattle.cal_lower.specs.inside.Lowered.{control_pieces, HasFewParts}
use Rattle.cal_lower.specs.inside.Pieces.{Kind, Wire, Register, Piece, made_by, piece_cell}
use Rattle.cal_lower.proofs.ListLemmas.{Each}
use Rattle.cal_lower.proofs.PieceLemmas.{pieces_reserved}
use Rattle.cal_lower.proofs.ShapeLemmas.{shape_kept}
use Rattle.cal_state.specs.inside.Encoded.{wires}
use Rattle.cal_state.specs.inside.Laws.{StatesKeepShape}
use Rattle.cal_state.specs.inside.States.{thread_cell}
use Rattle.cal_state.specs.inside.Threads.{Thread, threads}
use Rattle.cal_state.proofs.AddedStateLemmas.{design_is, encoding}
use Rattle.cal_state.proofs.EncodedLemmas.{piece_names, wires_named}

no_memory : (kind : Kind) → is_memory (made_by kind) ≡ false
unfolding is_memory prim_names
no_memory Wire = refl
no_memory Register = refl

-- reserved names, in one list and as names of pieces
each_name : (ps : List Piece) → Each (λ (p : Piece). IsReserved p.name) ps → Each IsReserved (piece_names ps)
each_name [] all = tt
each_name (p ∷ ps) all = (all.0, each_name ps all.1)

pub wires_reserved : (c : Component) → size (plan_of c) ≤ 2 ^ 64 → Each IsReserved (piece_names (wires c))
wires_reserved c few = let E : List Text → Type 0 = λ names. Each IsReserved names in subst E (sym (wires_named c)) (each_name (control_pieces c) (pieces_reserved c few))

wires_added : (ps : List Piece) → Each IsReserved (piece_names ps) → All IsAddedCell (map piece_cell ps)
wires_added [] all = All-nil IsAddedCell
wires_added (p ∷ ps) all = All-cons IsAddedCell (piece_cell p) (map piece_cell ps) (record { named = all.0; no_memory = no_memory p.kind }) (wires_added ps all.1)

threads_added : (ts : List Thread) → All IsAddedCell (map thread_cell ts)
threads_added [] = All-nil IsAddedCell
threads_added (t ∷ ts) = All-cons IsAddedCell (thread_cell t) (map thread_cell ts) (record { named = refl; no_memory = no_memory Register }) (threads_added ts)

pub states_keep_shape : StatesKeepShape
states_keep_shape source answer rules plain is =
    let K : Design → Type 0 = λ a. KeepsShape source a in
    subst K (sym (is.design ∙ design_is source))
    (shape_kept encoding source (λ c has full.
    All-append IsAddedCell (map piece_cell (wires c)) (map thread_cell (threads (plan_of c)))
    (wires_added (wires c) (wires_reserved c (All-contains HasFewParts source c is.few has))) (threads_added (threads (plan_of c)))))
