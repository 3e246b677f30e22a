use Rattle.std.proofs.Common.{◌≡◌, Option, IfOk, sym, subst, subst₂, ◌∙◌}
use Rattle.std.specs.Prelude.{IfSome}
use Rattle.std.proofs.lemmas.Option.{same_Some}
use Rattle.cal_ast.specs.Rules.{KeepsRules}
use Rattle.cal_ast.specs.Tree.{Component, Design}
use Rattle.cal_ast.specs.Wires.{HasNoLoop}
use Rattle.cal_place.specs.Around.{comp_at}
use Rattle.cal_loops.specs.inside.Levels.{ShowsLevels, ShowsPartLevels}
use Rattle.cal_loops.specs.declared.levels.Levels.{Levels}
use Rattle.cal_loops.proofs.levels.levels_at.Goals as goal

pub levels_in-requires-clause-kept : goal.levels_in-requires-clause-kept
levels_in-requires-clause-kept c =
    let K : Design → Type 0 = λ d. KeepsRules d in
    subst K (sym c.in_ok-place.ensures.design) c.requires.kept

pub levels_in-requires-clause-parts : goal.levels_in-requires-clause-parts
levels_in-requires-clause-parts c =
    subst₂ (λ d n. ShowsPartLevels d n c.args.levels.now) (sym c.in_ok-place.ensures.design) (sym c.in_ok-place.ensures.number) c.requires.parts

pub returns-clause-levels : goal.returns-clause-levels
returns-clause-levels c = λ comp at.
    let e = c.in_ok-place.ensures in
    let p = c.in_ok-place.place in
    let same : comp_at p ≡ comp = same_Some (comp_at p) comp (sym e.comp ∙ at) in
    let J : Design → Component → Type 0 = λ design x. IfOk c.levels_in.result (λ (found : Option Levels). IfSome found (ShowsLevels design x)) in
    subst₂ J e.design same c.levels_in.ensures.levels

pub returns-clause-no_loop : goal.returns-clause-no_loop
returns-clause-no_loop c = λ comp at.
    let e = c.in_ok-place.ensures in
    let p = c.in_ok-place.place in
    let same : comp_at p ≡ comp = same_Some (comp_at p) comp (sym e.comp ∙ at) in
    let J : Design → Component → Type 0 = λ design x. IfOk c.levels_in.result (λ (found : Option Levels). IfSome found (λ _. HasNoLoop design x)) in
    subst₂ J e.design same c.levels_in.ensures.no_loop
