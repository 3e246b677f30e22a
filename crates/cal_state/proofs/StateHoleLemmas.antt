-- An encoded design is one without control whose groups act where their rules are true.
use Rattle.std.proofs.Common.{List, sym, subst, ◌∙◌}
use Rattle.std.specs.Prelude.{Contains}
use Rattle.std.proofs.lemmas.List.Elements.{All-contains}
use Rattle.cal_ast.specs.Holes.{ActivityRule, IsHoleDesign}
use Rattle.cal_ast.specs.Tree.{Component, Design}
use Rattle.cal_lower.specs.inside.Lowered.{HasFewParts}
use Rattle.cal_lower.proofs.ExtendedLemmas.{answer}
use Rattle.cal_lower.proofs.HoleLemmas.{hole_design}
use Rattle.cal_state.specs.inside.Laws.{StatesAreHoles}
use Rattle.cal_state.proofs.AddedStateLemmas.{design_is, encoding, encoding_made, encoding_named}
use Rattle.cal_state.proofs.StateGoodLemmas.{encoding_agrees}
use Rattle.cal_state.proofs.StateLoopLemmas.{no_loops}

pub states_are_holes : StatesAreHoles
states_are_holes source answer' rules tree plain is =
    let D : Design → Type 0 = λ design. IsHoleDesign design rules in
    let R : List ActivityRule → Type 0 = λ xs. IsHoleDesign (answer encoding source) xs in
    let few = λ (c : Component) (has : Contains source c). All-contains HasFewParts source c is.few has in
    subst D (sym (is.design ∙ design_is source)) (subst R (sym is.acting)
    (hole_design encoding encoding_made source tree plain (λ c has full. encoding_named source tree plain c has (few c has))
    (λ c has full. encoding_agrees source tree plain c has full (few c has)) (no_loops source tree plain is.few)))
