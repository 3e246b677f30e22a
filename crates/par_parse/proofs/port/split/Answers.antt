use Rattle.std.proofs.Common.{◌≡◌, ◌∷◌, [], ◌++◌, List, length, map, refl, sym, ap, subst, ◌∙◌, append_assoc, append-nil, arith}
use Rattle.std.proofs.lemmas.List.{map_push}
use Rattle.std.specs.Vec.Iter.{into_iter_items}
use Rattle.par_parse.specs.declared.port.ParamInput.{ParamInput}
use Rattle.par_parse.specs.Tree.{interface_tree, port_tree}
use Rattle.par_parse.specs.Grammar.{interfaces_of, data_of}
use Rattle.par_parse.specs.inside.Inputs.{input_tree}
use Rattle.par_parse.proofs.InputLists.{interfaces_next, data_next}
use Rattle.par_parse.proofs.port.split.Goals as goal

nothing_left : {X : Type 0} (l : List X) → length l ≡ 0 → l ≡ []
nothing_left [] h = refl
nothing_left (x ∷ xs) h = absurd (omega arith)

pub loop-input-preserved : goal.loop-input-preserved
loop-input-preserved c =
    let at = c.loop-input in
    let x = c.in-Some.input in
    let steps : into_iter_items at.input-iterator ≡ x ∷ into_iter_items c.next.new.self = c.in-Some.ensures.steps.0 in (
      append_assoc at.yielded (x ∷ []) _ ∙ rw (← steps) at.invariant.0,
      (let was = at.invariant.1 in
          let gone = c.in-Some.ensures.steps.1 in
          let short = ap length steps in
          omega arith),
      λ names.
          let added = c.in_ok-add.ensures names in
          let so_far = at.invariant.2 names in
          let one : map (input_tree names) (at.yielded ++ x ∷ []) ≡ map (input_tree names) at.yielded ++ input_tree names x ∷ [] = map_push (input_tree names) at.yielded x in
          rw one (interfaces_next (map (input_tree names) at.yielded) (input_tree names x) _ _ so_far.0 added.0, data_next (map (input_tree names) at.yielded) (input_tree names x) _ _ so_far.1 added.1),
    )

pub returns-clause-gos : goal.returns-clause-gos
returns-clause-gos c = λ names.
    let at = c.loop-input in
    let none = c.in-None.ensures.steps in
    let empty : into_iter_items at.input-iterator ≡ [] = nothing_left _ (sym at.invariant.1 ∙ none.0) in
    let all = sym (append-nil at.yielded) ∙ rw empty at at.invariant.0 ∙ c.into_iter-input-iterator.ensures.into_iter_gives.0 in
    subst (λ (l : List ParamInput). map (interface_tree names) at.parts.gos.items ≡ interfaces_of (map (input_tree names) l)) all (at.invariant.2 names).0

pub returns-clause-ins : goal.returns-clause-ins
returns-clause-ins c = λ names.
    let at = c.loop-input in
    let none = c.in-None.ensures.steps in
    let empty : into_iter_items at.input-iterator ≡ [] = nothing_left _ (sym at.invariant.1 ∙ none.0) in
    let all = sym (append-nil at.yielded) ∙ rw empty at at.invariant.0 ∙ c.into_iter-input-iterator.ensures.into_iter_gives.0 in
    subst (λ (l : List ParamInput). map (port_tree names) at.parts.ins.items ≡ data_of (map (input_tree names) l)) all (at.invariant.2 names).1
