use Rattle.std.proofs.Common.{◌++◌, List, map, sym, ap, subst, ◌∙◌}
use Rattle.std.specs.Prelude.{OnOk}
use Rattle.hw_prims.specs.Table.{Pin}
use Rattle.cal_ast.specs.Ports.{SidedPin, on_side}
use Rattle.cal_ast.specs.Tree.{pin_tree}
use Rattle.cal_place.specs.Signatures.{ShowsPorts, side_of}
use Rattle.cal_place.proofs.SignatureLemmas.{side_bare, side_has, side_implied, side_last}
use Rattle.cal_place.proofs.signature.Signature.add_side.Goals.{then-self-via-then-self, then-self-via-else-self+then-has_pin}
use Rattle.cal_place.proofs.signature.Signature.add_side.Goals as goal

pub returns-then-self-clause-ports : goal.returns-then-self-clause-ports
returns-then-self-clause-ports c ports shows =
    let pins = map (pin_tree c.args.names.now) c.args.pins.now in
    let old = c.args.self.now.bare in
    let S : List Pin → Type 0 = λ ps. ShowsPorts c.add_written.new.self (ports ++ on_side (side_of c.args.side) ps) in
    let written : S pins = c.in_ok-add_written.ensures.ports ports shows in
    elim c.then-self.branch [
      | then-self-via-then-self w ↦ subst S (side_bare c.args.implied.now pins old (sym c.in_ok-add_written.ensures.bare ∙ w.if-self.true)) written
      | then-self-via-else-self+then-has_pin w ↦ subst S (side_has c.args.implied.now pins old (sym w.has_pin.ensures ∙ w.if-has_pin.true)) written
    ]

pub returns-clause-ports : goal.returns-clause-ports
returns-clause-ports c ports shows =
    let pins = map (pin_tree c.args.names.now) c.args.pins.now in
    let side = side_of c.args.side in
    let implied = c.args.implied.now in
    let is = side_implied implied pins c.args.self.now.bare (sym c.in_ok-add_written.ensures.bare ∙ c.if-self.false) (sym c.has_pin.ensures ∙ c.if-has_pin.false) in
    let A : List SidedPin → Type 0 = λ l. OnOk c.add.result (ShowsPorts c.add.new.self l) in
    subst A (side_last ports side pins implied ∙ ap (λ (ps : List Pin). ports ++ on_side side ps) is)
    (c.add.ensures.ports (ports ++ on_side side pins) (c.in_ok-add_written.ensures.ports ports shows))
