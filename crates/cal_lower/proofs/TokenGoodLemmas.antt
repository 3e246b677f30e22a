-- What the lowering to registers of one bit adds agrees with the rules.
use Rattle.std.proofs.Common.{◌≡◌, ◌^◌, ◌≤◌, false, Some}
use Rattle.std.specs.Prelude.{Contains}
use Rattle.cal_ast.proofs.ListLemmas.{Contains-map}
use Rattle.cal_ast.proofs.LookupLemmas.{cell_inputs-primitive, cell_outputs-primitive}
use Rattle.cal_ast.specs.NoInvoke.{IsPlainDesign}
use Rattle.cal_ast.specs.Plain.{HasPlainTree}
use Rattle.cal_ast.specs.Plan.{plan_of}
use Rattle.cal_ast.specs.Ports.{is_bare, primitive_in}
use Rattle.cal_ast.specs.Tree.{Assignment, Component, Design}
use Rattle.cal_token.specs.inside.Tokens.{size}
use Rattle.cal_lower.specs.inside.Added.{extended}
use Rattle.cal_lower.specs.inside.Lowered.{control_pieces}
use Rattle.cal_lower.specs.inside.Pieces.{Piece, piece_cell, piece_sets, shown}
use Rattle.cal_lower.proofs.ControlGoodLemmas.{acts_bit, over_bit, pieces_good}
use Rattle.cal_lower.proofs.ExtendedLemmas.{answer}
use Rattle.cal_lower.proofs.GoodLemmas.{IsBitPort, IsGoodPiece, IsGoodSet, sets_good, shown_bit}
use Rattle.cal_lower.proofs.ListLemmas.{Each, each_at, each_flat_map, each_from}
use Rattle.cal_lower.proofs.LoweredLemmas.{prim_for, piece_made, tokens, tokens_made}
use Rattle.cal_lower.proofs.RulesKeptLemmas.{AgreesWithRules}
use Rattle.cal_lower.proofs.ShownLemmas.{added_primitive}
use Rattle.cal_lower.proofs.TokenLemmas.{tokens_named}

module _ (source : Design) (tree : HasPlainTree source) (plain : IsPlainDesign source) (c : Component) (in_design : Contains source c) (full : is_bare c ≡ false)
    (few : size (plan_of c) ≤ 2 ^ 64) where
  abbrev low : Design
  low = answer tokens source

  abbrev d : Component
  d = extended tokens c

  pub piece_primitive : (p : Piece) → Contains (control_pieces c) p → primitive_in d p.name ≡ Some (prim_for p.kind)
  piece_primitive p has =
      added_primitive tokens source tree plain c in_design full (tokens_named source tree plain c in_design few) (piece_cell p) (prim_for p.kind)
      (Contains-map piece_cell (control_pieces c) p has) (piece_made p)

  piece_bit : (p : Piece) → Contains (control_pieces c) p → IsBitPort low d (shown p.name)
  piece_bit p has =
      let made = piece_primitive p has in
      shown_bit low d p (cell_inputs-primitive low d p.name (prim_for p.kind) made) (cell_outputs-primitive low d p.name (prim_for p.kind) made)

  piece_sets_good : (p : Piece) → Contains (control_pieces c) p → Each (IsGoodSet low d) (piece_sets p)
  piece_sets_good p has =
      let made = piece_primitive p has in
      let good : Each (IsGoodPiece low d) (control_pieces c) = pieces_good tokens tokens_made source tree plain c in_design full piece_bit in
      sets_good low d p (cell_inputs-primitive low d p.name (prim_for p.kind) made) (cell_outputs-primitive low d p.name (prim_for p.kind) made)
      (each_at (λ (q : Piece). IsGoodPiece low d q) (control_pieces c) p good has)

  pub tokens_agree : AgreesWithRules tokens source c
  tokens_agree =
      let Good : Assignment → Type 0 = λ a. IsGoodSet low d a in
      record {
        sets = each_flat_map Good piece_sets (control_pieces c) (each_from (λ (p : Piece). Each Good (piece_sets p)) (control_pieces c) piece_sets_good);
        over = over_bit tokens tokens_made source tree plain c in_design full piece_bit;
        acts = acts_bit tokens tokens_made source tree plain c in_design full piece_bit;
      }
