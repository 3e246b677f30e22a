use Rattle.std.proofs.Common.{◌≡◌, ◌≤◌, true, false, Some, take, refl, sym, ◌∙◌, arith}
use Rattle.cal_ast.specs.Controlling.{IsOnlyDone}
use Rattle.cal_ast.specs.Tree.{done_tree, group_tree}
use Rattle.cal_ast.specs.Typing.{source_width}
use Rattle.cal_place.specs.Around.{comp_at, design_at, names_at}
use Rattle.cal_rules.proofs.GroupLemmas.{none_before_first, some_before}
use Rattle.cal_place.proofs.ListLemmas.{told_false, told_true}
use Rattle.cal_rules.proofs.TestLemmas.{widths_told}
use Rattle.cal_rules.proofs.controlling.is_only_done.Goals as goal

pub source_width-requires : goal.source_width-requires
source_width-requires c = c.requires.numbers.2

pub returns-then-group : goal.returns-then-group
returns-then-group c =
    let p = c.args.place.now in
    let g = group_tree (names_at p) c.args.group.now in
    told_true (IsOnlyDone (design_at p) (comp_at p) g (take c.args.number g.dones) (done_tree (names_at p) c.args.done.now))
    (λ other. let bad : true ≡ false = sym c.if-group.true ∙ other in absurd (cc))

pub returns-then-number-gt0 : goal.returns-then-number-gt0
returns-then-number-gt0 c =
    let p = c.args.place.now in
    let g = group_tree (names_at p) c.args.group.now in
    let d = done_tree (names_at p) c.args.done.now in
    told_false (IsOnlyDone (design_at p) (comp_at p) g (take c.args.number g.dones) d)
    (λ only. some_before g.dones c.args.number d c.requires.at (omega arith) (only c.if-group.false).0)

pub returns : goal.returns
returns c =
    let p = c.args.place.now in
    let g = group_tree (names_at p) c.args.group.now in
    let d = done_tree (names_at p) c.args.done.now in
    let width = source_width (design_at p) (comp_at p) d.src in
    let bit = widths_told c.source_width.result (Some 1) width (Some 1) c.eq.result c.source_width.ensures refl c.eq.ensures in
    let first : c.args.number ≤ 0 = omega arith in
    (λ yes' other. (none_before_first g.dones c.args.number first, bit.0 yes'), λ only. bit.1 (only c.if-group.false).1)
