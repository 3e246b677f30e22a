use Rattle.std.proofs.Common.{◌≡◌, true, false, Some, codes, sym, ◌∙◌}
use Rattle.cal_ast.specs.Ports.{is_bare, width_in}
use Rattle.cal_ast.specs.Tree.{own}
use Rattle.cal_place.specs.Around.{comp_at, design_at}
use Rattle.cal_place.proofs.ListLemmas.{told_true}
use Rattle.cal_rules.proofs.TestLemmas.{fails, told_no}
use Rattle.cal_rules.proofs.typing.has_control_bits.Goals as goal

pub returns-then-signature : goal.returns-then-signature
returns-then-signature c =
    let d = design_at c.args.place.now in
    let t = comp_at c.args.place.now in
    told_true (is_bare t ≡ false → (width_in d t (own (codes "go")) ≡ Some 1) × (width_in d t (own (codes "done")) ≡ Some 1))
    (λ other. let bad : true ≡ false = sym c.if-signature.true ∙ c.signature.ensures.bare ∙ other in absurd (cc))

pub returns-then-has_own_bit : goal.returns-then-has_own_bit
returns-then-has_own_bit c =
    let other : is_bare (comp_at c.args.place.now) ≡ false = sym c.signature.ensures.bare ∙ c.if-signature.false in (
      λ yes' bare. (c.has_own_bit.ensures.0 c.if-has_own_bit.true, c.has_own_bit-then-has_own_bit.ensures.0 yes'),
      λ both. c.has_own_bit-then-has_own_bit.ensures.1 (both other).1,
    )

pub returns-else-has_own_bit : goal.returns-else-has_own_bit
returns-else-has_own_bit c =
    let d = design_at c.args.place.now in
    let t = comp_at c.args.place.now in
    let other : is_bare t ≡ false = sym c.signature.ensures.bare ∙ c.if-signature.false in
    told_no (is_bare t ≡ false → (width_in d t (own (codes "go")) ≡ Some 1) × (width_in d t (own (codes "done")) ≡ Some 1)) c.has_own_bit.result c.if-has_own_bit.false
    (λ both. fails (width_in d t (own (codes "go")) ≡ Some 1) c.has_own_bit.result c.has_own_bit.ensures c.if-has_own_bit.false (both other).0)
