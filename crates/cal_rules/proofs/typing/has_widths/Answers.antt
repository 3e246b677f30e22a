use Rattle.std.proofs.Common.{◌↔◌, List, All, map, subst, ap, ◌∙◌}
use Rattle.std.specs.Bool.{IsTrue}
use Rattle.std.proofs.lemmas.Bool.Decides.{not_from_Decides}
use Rattle.hw_prims.specs.Table.{Pin}
use Rattle.cal_ast.specs.Tree.{Component, pin_tree}
use Rattle.cal_ast.specs.Typing.{HasWidth, HasWidths}
use Rattle.cal_ast.specs.declared.tree.CalPin.{CalPin}
use Rattle.cal_place.specs.Around.{comp_at, design_at, names_at}
use Rattle.cal_place.proofs.ListLemmas.{told_false}
use Rattle.cal_rules.proofs.typing.has_widths.Goals.{After-have_widths, After-have_widths-2}
use Rattle.cal_rules.proofs.typing.has_widths.Goals as goal

-- what the tests say of the inputs and of the outputs
ins_told : (c : After-have_widths) → IsTrue c.have_widths.result ↔ All HasWidth (comp_at c.args.place.now).ins
ins_told c =
    let names = names_at c.args.place.now in
    let W : List Pin → Type 0 = λ pins. IsTrue c.have_widths.result ↔ All HasWidth pins in
    subst W (ap (λ (pins : List CalPin). map (pin_tree names) pins) c.deref.ensures.value ∙ ap (λ (x : Component). x.ins) c.comp-comp.ensures.comp) (c.have_widths.ensures names)

outs_told : (c : After-have_widths-2) → IsTrue c.have_widths-2.result ↔ All HasWidth (comp_at c.args.place.now).outs
outs_told c =
    let names = names_at c.args.place.now in
    let W : List Pin → Type 0 = λ pins. IsTrue c.have_widths-2.result ↔ All HasWidth pins in
    subst W (ap (λ (pins : List CalPin). map (pin_tree names) pins) c.deref-2.ensures.value ∙ ap (λ (x : Component). x.outs) c.comp-comp.ensures.comp) (c.have_widths-2.ensures names)

pub returns-then-not-have_widths : goal.returns-then-not-have_widths
returns-then-not-have_widths c =
    let p = c.args.place.now in
    told_false (HasWidths (design_at p) (comp_at p))
    (λ widths. not_from_Decides c.have_widths.result (ins_told (goal.at.returns-then-not-have_widths c).After-have_widths) c.if-not-have_widths.true widths.ins)

pub returns-then-not-have_widths-2 : goal.returns-then-not-have_widths-2
returns-then-not-have_widths-2 c =
    let p = c.args.place.now in
    told_false (HasWidths (design_at p) (comp_at p))
    (λ widths. not_from_Decides c.have_widths-2.result (outs_told (goal.at.returns-then-not-have_widths-2 c).After-have_widths-2) c.if-not-have_widths-2.true widths.outs)

pub returns : goal.returns
returns c =
    let ins = ins_told (goal.at.returns c).After-have_widths in
    let outs = outs_told (goal.at.returns c).After-have_widths-2 in (
      λ yes'. record {
        ins = ins.0 c.if-not-have_widths.false;
        outs = outs.0 c.if-not-have_widths-2.false;
        go = λ other. (c.has_control_bits.ensures.0 yes' other).0;
        done = λ other. (c.has_control_bits.ensures.0 yes' other).1;
      },
      λ widths. c.has_control_bits.ensures.1 (λ other. (widths.go other, widths.done other)),
    )
