-- By C1 and C2 there is an order of components, each after those that it has cells of.
use Rattle.std.proofs.Common.{◌≡◌, ℕ, Vec, Global, refl, subst}
use Rattle.cal_ast.specs.Rules.{KeepsRules}
use Rattle.cal_ast.specs.Tree.{Design}
use Rattle.cal_place.specs.Nesting.{ArePartsFirst, ShowsOrder}
use Rattle.cal_place.specs.declared.nesting.PartOrder.{PartOrder}
use Rattle.cal_place.specs.declared.nesting.PartOrder.TheVariants.{Loop, Parts}
use Rattle.cal_place.proofs.PartsLemmas.{no_loop}

-- by C2 there is an order of parts
pub no_other_order : (design : Design) → KeepsRules design → (order : PartOrder) → ShowsOrder design order → ((parts : Vec ℕ Global) → order ≡ Parts parts → ⊥) → ⊥
no_other_order design keeps (Parts parts) shows none = none parts refl
no_other_order design keeps (Loop first) shows none = no_loop design keeps first shows

pub parts_first : (design : Design) (order : PartOrder) (parts : Vec ℕ Global) → order ≡ Parts parts → ShowsOrder design order → ArePartsFirst design parts.items
parts_first design order parts is shows = subst (λ (o : PartOrder). ShowsOrder design o) is shows
