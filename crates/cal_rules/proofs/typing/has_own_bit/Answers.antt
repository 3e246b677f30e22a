use Rattle.std.proofs.Common.{◌≡◌, Some, sym, ◌∙◌}
use Rattle.cal_ast.specs.Ports.{width_in}
use Rattle.cal_ast.specs.Tree.{own}
use Rattle.cal_place.specs.Around.{comp_at, design_at}
use Rattle.cal_place.proofs.ListLemmas.{told_false}
use Rattle.cal_place.proofs.SideLemmas.{has_width, no_width}
use Rattle.cal_rules.proofs.TestLemmas.{width_told}
use Rattle.cal_rules.proofs.typing.has_own_bit.Goals as goal

pub returns-in-Some : goal.returns-in-Some
returns-in-Some c =
    let d = design_at c.args.place.now in
    let t = comp_at c.args.place.now in
    let port = own c.args.name.now in
    width_told (width_in d t port) c.in-Some.pin.width 1 (has_width d t port c.pin.result c.pin.ensures c.in-Some.pin c.in-Some.is)

pub returns-in-None : goal.returns-in-None
returns-in-None c =
    let d = design_at c.args.place.now in
    let t = comp_at c.args.place.now in
    let port = own c.args.name.now in
    told_false (width_in d t port ≡ Some 1) (λ e. let bad = sym (no_width d t port c.pin.result c.pin.ensures c.in-None.is) ∙ e in cc)
