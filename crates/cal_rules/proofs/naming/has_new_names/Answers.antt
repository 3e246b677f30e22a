use Rattle.std.proofs.Common.{List, subst, sym, ap, ◌∙◌}
use Rattle.std.proofs.lemmas.Bool.Decides.{not_from_Decides}
use Rattle.hw_names.specs.Name.{AreDistinct, Text}
use Rattle.hw_prims.specs.Table.{is_primitive}
use Rattle.cal_ast.specs.Naming.{HasNewNames}
use Rattle.cal_ast.specs.Ports.{both_sides, inputs_in, outputs_in}
use Rattle.cal_ast.specs.Tree.{Component}
use Rattle.cal_place.specs.Around.{comp_at, earlier_at}
use Rattle.cal_place.specs.Signatures.{sided_names}
use Rattle.cal_place.proofs.ListLemmas.{told_false}
use Rattle.cal_place.proofs.SidedNameLemmas.{names_both}
use Rattle.cal_rules.proofs.naming.has_new_names.Goals as goal

pub text-requires : goal.text-requires
text-requires c = c.comp.ensures.numbers.name

pub returns-then-is_primitive : goal.returns-then-is_primitive
returns-then-is_primitive c =
    let p = c.args.place.now in
    let named = c.text.ensures ∙ ap (λ (x : Component). x.name) c.comp.ensures.comp in
    told_false (HasNewNames (earlier_at p) (comp_at p)) (λ new.
    let yes' = sym c.if-is_primitive.true ∙ c.is_primitive.ensures ∙ ap is_primitive named ∙ new.no_primitive in
    absurd (cc))

pub returns-then-not-is_first : goal.returns-then-not-is_first
returns-then-not-is_first c =
    let p = c.args.place.now in
    told_false (HasNewNames (earlier_at p) (comp_at p)) (λ new. not_from_Decides c.is_first.result c.is_first.ensures c.if-not-is_first.true new.new)

pub returns : goal.returns
returns c =
    let p = c.args.place.now in
    let t = comp_at p in
    let named = c.text.ensures ∙ ap (λ (x : Component). x.name) c.comp.ensures.comp in
    let none = ap is_primitive (sym named) ∙ sym c.is_primitive.ensures ∙ c.if-is_primitive.false in
    let new = c.is_first.ensures.0 c.if-not-is_first.false in
    let told = c.are_distinct.ensures (sided_names (both_sides (inputs_in t) (outputs_in t))) c.signature.ensures.ports.names in
    let D : List Text → Type 0 = AreDistinct in
    let same = names_both (inputs_in t) (outputs_in t) in (
      λ yes'. record { no_primitive = none; new = new; ports = subst D same (told.0 yes') },
      λ all. told.1 (subst D (sym same) all.ports),
    )
