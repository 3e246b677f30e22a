-- An encoded design has plain names where its source and the groups of it have.
use Rattle.std.proofs.Common.{◌≡◌, ◌<◌, ◌^◌, ◌≤◌, List, [], ◌∷◌, ◌++◌, map, refl, sym, subst, ◌∙◌}
use Rattle.std.specs.Prelude.{All, Contains, codes, decimal}
use Rattle.std.proofs.lemmas.List.Elements.{All-nil, All-cons, All-append, All-contains}
use Rattle.hw_names.specs.Name.{Text, IsPlain}
use Rattle.cal_ast.specs.Plain.{IsPlainCell, HasPlainTree}
use Rattle.cal_ast.specs.Plan.{plan_of}
use Rattle.cal_ast.specs.Tree.{CellDef, Component, Design}
use Rattle.cal_token.specs.inside.Tokens.{size}
use Rattle.cal_lower.specs.inside.Lowered.{HasFewParts, control_pieces}
use Rattle.cal_lower.specs.inside.Pieces.{Piece, piece_cell}
use Rattle.cal_lower.proofs.ListLemmas.{Each, each_at, each_from, each_map}
use Rattle.cal_lower.proofs.PlainNameLemmas.{decimal_no_dot, pieces_plain, plain_after, plain_kept}
use Rattle.cal_state.specs.inside.Encoded.{encoded, wires}
use Rattle.cal_state.specs.inside.Laws.{StatesArePlain}
use Rattle.cal_state.specs.inside.States.{thread_cell, thread_name}
use Rattle.cal_state.specs.inside.Threads.{Thread, threads}
use Rattle.cal_state.proofs.AddedStateLemmas.{design_is, encoding, small}
use Rattle.cal_state.proofs.EncodedLemmas.{piece_names, wires_named}

wires_plain : (ps : List Piece) → Each IsPlain (piece_names ps) → All IsPlainCell (map piece_cell ps)
wires_plain [] all = All-nil IsPlainCell
wires_plain (p ∷ ps) all = All-cons IsPlainCell (piece_cell p) (map piece_cell ps) all.0 (wires_plain ps all.1)

threads_plain : (ts : List Thread) → Each (λ (t : Thread). t.part < 2 ^ 64) ts → All IsPlainCell (map thread_cell ts)
threads_plain [] all = All-nil IsPlainCell
threads_plain (t ∷ ts) all =
    All-cons IsPlainCell (thread_cell t) (map thread_cell ts) (plain_after (codes "c$fsm") (decimal t.part) refl (decimal_no_dot t.part all.0)) (threads_plain ts all.1)

pub states_are_plain : StatesArePlain
states_are_plain source answer rules tree groups plain is =
    subst (λ (design : Design). HasPlainTree design) (sym (is.design ∙ design_is source))
    (plain_kept encoding source tree (λ c has full.
    let few : size (plan_of c) ≤ 2 ^ 64 = All-contains HasFewParts source c is.few has in
    let named : Each IsPlain (piece_names (control_pieces c)) = each_map IsPlain (λ (p : Piece). p.name) (control_pieces c) (pieces_plain source plain groups is.few c has) in
    All-append IsPlainCell (map piece_cell (wires c)) (map thread_cell (threads (plan_of c)))
    (wires_plain (wires c) (subst (λ (names : List Text). Each IsPlain names) (sym (wires_named c)) named))
    (threads_plain (threads (plan_of c)) (each_from (λ (t : Thread). t.part < 2 ^ 64) (threads (plan_of c)) (small c few)))))
