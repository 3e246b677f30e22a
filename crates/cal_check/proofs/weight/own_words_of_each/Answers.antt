use Rattle.std.proofs.Common.{◌<◌, ◌≤◌, length, arith}
use Rattle.cal_check.specs.Weight.{own_words}
use Rattle.cal_check.proofs.WeightLemmas.{made_at, own_all, own_more, own_none}
use Rattle.cal_check.proofs.weight.own_words_of_each.Goals as goal

pub own_words-requires : goal.own_words-requires
own_words-requires c =
    let within : c.loop-cells.cells-index < length c.args.made.now = omega arith in
    let comp = made_at c.requires.0 c.args.made.now c.loop-cells.cells-index c.cells-item.result c.deref.result.now c.requires.1 within c.cells-item.is c.deref.ensures.value in
    (c.requires.0, comp.0.cells, comp.2)

pub loop-cells-init : goal.loop-cells-init
loop-cells-init c = λ design are. own_none own_words c.new-words.result.items c.new-words.ensures.items

pub loop-cells-preserved : goal.loop-cells-preserved
loop-cells-preserved c = λ design are.
    let k = c.loop-cells.cells-index in
    let within : k < length c.args.made.now = omega arith in
    let comp = made_at design c.args.made.now k c.cells-item.result c.deref.result.now are within c.cells-item.is c.deref.ensures.value in
    own_more own_words design k comp.0 c.loop-cells.words.items c.push.new.self.items c.own_words.result comp.1 c.in_ok-push.ensures.items (c.own_words.ensures design comp.0.cells comp.2) (c.loop-cells.invariant design are)

pub returns : goal.returns
returns c = λ design are.
    let end : length design ≤ c.loop-cells.cells-index = omega (arith, are.sized) in
    own_all own_words design c.loop-cells.cells-index c.loop-cells.words.items end (c.loop-cells.invariant design are)
