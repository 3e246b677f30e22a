use Rattle.std.proofs.Common.{◌≡◌, sym, subst, subst₂, ◌∙◌, arith}
use Rattle.std.specs.Prelude.{IfSome}
use Rattle.std.proofs.lemmas.List.{length-map}
use Rattle.std.proofs.lemmas.Option.{same_Some}
use Rattle.cal_ast.specs.Rules.{KeepsRules}
use Rattle.cal_ast.specs.Tree.{Component, Design, component_tree, design_of}
use Rattle.cal_place.specs.Around.{comp_at, design_at}
use Rattle.cal_loops.specs.inside.Wiring.{IsInside, ShowsParts, TellsLoop}
use Rattle.cal_loops.proofs.LoopedLemmas.{told_part}
use Rattle.cal_loops.proofs.first_loop.judge_number.Goals as goal

pub get-requires : goal.get-requires
get-requires c =
    let design = c.args.overview.now.design.now in
    omega (arith, c.requires.nesting.sized, length-map design.comps.items (component_tree design.names))

pub judge_loops-requires-clause-kept : goal.judge_loops-requires-clause-kept
judge_loops-requires-clause-kept c =
    let K : Design → Type 0 = λ d. KeepsRules d in
    subst K (sym c.in_ok-place.ensures.design) c.requires.kept

pub judge_loops-requires-clause-parts : goal.judge_loops-requires-clause-parts
judge_loops-requires-clause-parts c =
    subst₂ (λ d n. ShowsParts d n c.args.insides.now) (sym c.in_ok-place.ensures.design) (sym c.in_ok-place.ensures.number) c.requires.parts

pub returns-clause-inside : goal.returns-clause-inside
returns-clause-inside c = λ holder held.
    let d = design_of c.args.overview.now.design.now in
    let nesting = c.args.overview.now.nesting.now in
    let part = told_part d nesting.holders holder c.args.number c.get.result.now c.is_empty-is_part.result c.requires.nesting.holders held c.get.ensures c.is_empty-is_part.ensures in
    c.in_ok-inside.ensures.some (c.in_ok-judged.ensures.inside part)

pub returns-clause-shows : goal.returns-clause-shows
returns-clause-shows c = λ comp at.
    let e = c.in_ok-place.ensures in
    let p = c.in_ok-place.place in
    let same : comp_at p ≡ comp = same_Some (comp_at p) comp (sym e.comp ∙ at) in
    let J : Design → Component → Type 0 = λ design x. IfSome c.in_ok-inside.inside (IsInside design x) in
    subst₂ J e.design same (c.in_ok-inside.ensures.shows (design_at p) (comp_at p) c.in_ok-judged.ensures.shows)

pub returns-clause-cycle : goal.returns-clause-cycle
returns-clause-cycle c = λ comp at.
    let e = c.in_ok-place.ensures in
    let p = c.in_ok-place.place in
    let same : comp_at p ≡ comp = same_Some (comp_at p) comp (sym e.comp ∙ at) in
    let J : Design → Component → Type 0 = λ design x. TellsLoop design x c.in_ok-judged.judged.least_loop in
    subst₂ J e.design same c.in_ok-judged.ensures.cycle
