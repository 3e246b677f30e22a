use Rattle.std.proofs.Common.{◌≡◌, refl, sym, subst}
use Rattle.cal_ast.specs.Numbers.{ComponentHasNumbers}
use Rattle.cal_ast.specs.Tree.{component_tree}
use Rattle.cal_place.specs.Around.{Around, comp_at, names_at}
use Rattle.cal_place.proofs.PlaceTableLemmas.{stands}
use Rattle.cal_place.proofs.place.Place.comp.Goals as goal

pub returns-clause-comp : goal.returns-clause-comp
unfolding comp_at
returns-clause-comp c =
    subst (λ (p : Around). component_tree (names_at p) c.self.inside.comp.now ≡ comp_at p) c.self.view_is refl

pub returns-clause-numbers : goal.returns-clause-numbers
returns-clause-numbers c =
    let known = stands c.self.inside c.args.self.now c.self.view_is c.self.invariant in
    let P : Around → Type 0 = λ p. ComponentHasNumbers (names_at c.args.self.now) p.comp in
    subst P (sym c.self.view_is) known.numbers

pub returns-clause-at : goal.returns-clause-at
returns-clause-at c = (stands c.self.inside c.args.self.now c.self.view_is c.self.invariant).here
