use Rattle.std.proofs.Common.{◌≡◌, ◌<◌, ◌↔◌, ℕ, Some, length, ap, sym, subst, ◌∙◌}
use Rattle.hw_names.specs.Name.{Text}
use Rattle.cal_ast.specs.Naming.{component_names}
use Rattle.cal_place.specs.Around.{Around, comp_at, design_at}
use Rattle.cal_place.specs.FirstPlaces.{IsFirst}
use Rattle.cal_place.proofs.GuardLemmas.{both_ways}
use Rattle.cal_place.proofs.SideLemmas.{same_width}
use Rattle.cal_place.proofs.PlaceTableLemmas.{named_at, new_name, stands, told_first}
use Rattle.cal_place.proofs.place.Place.is_first.Goals as goal

pub text-requires : goal.text-requires
text-requires c =
    let known = stands c.self.inside c.args.self.now c.self.view_is c.self.invariant in
    let P : Around → Type 0 = λ p. p.comp.name.0 < length c.args.self.now.design.names in
    subst P (sym c.self.view_is) known.numbers.name

pub returns : goal.returns
returns c =
    let p = c.args.self.now in
    let known = stands c.self.inside p c.self.view_is c.self.invariant in
    let names = component_names (design_at p) in
    let named : c.text.result.now ≡ (comp_at p).name = c.text.ensures ∙ named_at c.self.inside p c.self.view_is in
    let number : c.self.inside.number ≡ p.number = ap (λ (q : Around). q.number) c.self.view_is in
    let test = same_width c.find.result (Some c.self.inside.number) in
    let found = told_first names c.text.result.now c.find.result c.self.inside.number (c.find.ensures names known.tables.comps) in
    let first : IsFirst names c.text.result.now c.self.inside.number ↔ IsFirst names (comp_at p).name p.number = (
      λ f. subst (λ (k : ℕ). IsFirst names (comp_at p).name k) number (subst (λ (t : Text). IsFirst names t c.self.inside.number) named f),
      λ f. subst (λ (t : Text). IsFirst names t c.self.inside.number) (sym named) (subst (λ (k : ℕ). IsFirst names (comp_at p).name k) (sym number) f),
    ) in
    both_ways (λ t. test.0 (sym c.eq.ensures ∙ t), λ e. c.eq.ensures ∙ test.1 e) (both_ways found (both_ways first (new_name p known.here)))
