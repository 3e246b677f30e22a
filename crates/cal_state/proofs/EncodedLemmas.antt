-- Encoded components: a bare one stays as it is, and the wires of another have the names of the token lowering's pieces.
use Rattle.std.proofs.Common.{◌≡◌, List, [], ◌∷◌, ◌++◌, map, true, false, refl, sym, ap, ◌∙◌}
use Rattle.std.specs.Prelude.{flat_map}
use Rattle.std.proofs.lemmas.Bool.{cond-true, cond-false}
use Rattle.hw_names.specs.Name.{Text}
use Rattle.cal_ast.specs.Plan.{plan_of}
use Rattle.cal_ast.specs.Ports.{is_bare}
use Rattle.cal_ast.specs.Tree.{Absent, Component}
use Rattle.cal_lower.specs.inside.Lowered.{control_pieces, group_pieces, instance_pieces, plan_pieces}
use Rattle.cal_lower.specs.inside.Pieces.{Piece}
use Rattle.cal_state.specs.inside.Encoded.{encoded, instance_wires, wires, with_states}
use Rattle.cal_state.specs.inside.States.{as_wires}
use Rattle.cal_state.specs.inside.Threads.{Place, NoState, IsIn, plan_places}
use Rattle.cal_state.proofs.PlaceLemmas.{Aligned}
use Rattle.cal_state.proofs.RegisterLemmas.{plan_aligned}

module _ (c : Component) where
  abbrev pub without_control : Component
  without_control = record c { control = Absent }

  pub encoded_bare : is_bare c ≡ true → encoded c ≡ without_control
  encoded_bare bare = cond-true (is_bare c) without_control (with_states c) bare

  pub encoded_full : is_bare c ≡ false → encoded c ≡ with_states c
  encoded_full full = cond-false (is_bare c) without_control (with_states c) full

-- ---- names of wires

abbrev pub piece_names : List Piece → List Text
piece_names ps = map (λ (p : Piece). p.name) ps

names-append : (ps qs : List Piece) → piece_names (ps ++ qs) ≡ piece_names ps ++ piece_names qs
names-append [] qs = refl
names-append (p ∷ ps) qs = ap (λ names. p.name ∷ names) (names-append ps qs)

names_kept : (ps : List Piece) (xs : List Place) → Aligned ps xs → piece_names (as_wires ps xs) ≡ piece_names ps
names_kept [] [] fit = refl
names_kept [] (x ∷ xs) fit = absurd fit
names_kept (p ∷ ps) [] fit = absurd fit
names_kept (p ∷ ps) (NoState ∷ xs) fit = ap (λ names. p.name ∷ names) (names_kept ps xs fit.1)
names_kept (p ∷ ps) (IsIn token state ∷ xs) fit = ap (λ names. p.name ∷ names) (names_kept ps xs fit.1)

-- the wires have the names of the token lowering's pieces, in the same order
pub wires_named : (c : Component) → piece_names (wires c) ≡ piece_names (control_pieces c)
wires_named c =
    let groups : List Piece = flat_map (group_pieces (plan_of c)) c.groups in
    let plan : List Piece = plan_pieces (plan_of c) in
    let states : List Piece = as_wires plan (plan_places (plan_of c)) in
    names-append (instance_wires (plan_of c)) (groups ++ states)
    ∙ ap (λ names. piece_names (instance_pieces (plan_of c)) ++ names)
    (names-append groups states ∙ ap (λ names. piece_names groups ++ names) (names_kept plan (plan_places (plan_of c)) (plan_aligned (plan_of c))) ∙ sym (names-append groups plan))
    ∙ sym (names-append (instance_pieces (plan_of c)) (groups ++ plan))
