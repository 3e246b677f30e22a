-- C5 and C6: the side of a port, and which ports may be driven.
use Rattle.std.proofs.Common.{◌≡◌, ◌↔◌, Bool, true, false, not, Some, codes, refl, sym, ◌∙◌}
use Rattle.std.specs.Bool.{IsTrue}
use denote.Enum.Bare.{sameb, same_true, true_same}
use Rattle.cal_ast.specs.Ports.{is_bare, is_own, side_in}
use Rattle.cal_ast.specs.Sides.{IsDestination, driven_side}
use Rattle.cal_ast.specs.Tree.{PortName, Component, Design}
use Rattle.cal_place.specs.contracts.signature.Side.{the_type}
use Rattle.cal_place.specs.declared.signature.Side.{Side}
use Rattle.cal_place.proofs.ListLemmas.{told_true}

-- a test of two sides
pub sides_told : (a b : Side) (r : Bool) → r ≡ sameb the_type a b → IsTrue r ↔ (a ≡ b)
sides_told a b r is = (λ t. same_true the_type tt a b (sym is ∙ t), λ e. is ∙ true_same the_type a b e)

module _ (design : Design) (c : Component) (p : PortName) (side : side_in design c p ≡ Some (driven_side p.cell)) where
  -- in a component that is bare its done is an output like any other
  pub driven_if_bare : (bare : Bool) → bare ≡ is_bare c → bare ≡ true → IsTrue true ↔ IsDestination design c p
  driven_if_bare bare shown is =
      told_true (IsDestination design c p) (record { side = side; not_done = λ other. let bad : true ≡ false = sym is ∙ shown ∙ other in absurd (cc) })

  -- in another it is not
  pub driven_unless_done : (bare done : Bool) → bare ≡ is_bare c → bare ≡ false → done ≡ is_own (codes "done") p → IsTrue (not done) ↔ IsDestination design c p
  driven_unless_done bare true shown other is = (
    λ t. let bad : false ≡ true = t in absurd (cc),
    λ destination. let bad : true ≡ false = is ∙ destination.not_done (sym shown ∙ other) in absurd (cc),
  )
  driven_unless_done bare false shown other is = (λ t. record { side = side; not_done = λ o. sym is }, λ destination. refl)
