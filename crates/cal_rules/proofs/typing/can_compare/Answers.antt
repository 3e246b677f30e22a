use Rattle.std.proofs.lemmas.Bool.Decides.{not_from_Decides}
use Rattle.net_core.specs.Guard.{Compares, source_tree}
use Rattle.cal_ast.specs.Tree.{port_tree}
use Rattle.cal_ast.specs.Typing.{GuardAgrees, source_width}
use Rattle.cal_place.specs.Around.{comp_at, design_at, names_at}
use Rattle.cal_place.proofs.ListLemmas.{told_false}
use Rattle.cal_rules.proofs.TestLemmas.{widths_told}
use Rattle.cal_rules.proofs.typing.can_compare.Goals as goal

pub returns-then-not-literal_fits : goal.returns-then-not-literal_fits
returns-then-not-literal_fits c op =
    let p = c.args.place.now in
    let tree = source_tree (port_tree (names_at p)) in
    told_false (GuardAgrees (design_at p) (comp_at p) (Compares op (tree c.args.left) (tree c.args.right)))
    (λ agrees. not_from_Decides c.literal_fits.result (c.literal_fits.ensures (names_at p)) c.if-not-literal_fits.true agrees.0)

pub returns-then-not-literal_fits-2 : goal.returns-then-not-literal_fits-2
returns-then-not-literal_fits-2 c op =
    let p = c.args.place.now in
    let tree = source_tree (port_tree (names_at p)) in
    told_false (GuardAgrees (design_at p) (comp_at p) (Compares op (tree c.args.left) (tree c.args.right)))
    (λ agrees. not_from_Decides c.literal_fits-2.result (c.literal_fits-2.ensures (names_at p)) c.if-not-literal_fits-2.true agrees.1)

pub returns : goal.returns
returns c op =
    let p = c.args.place.now in
    let names = names_at p in
    let tree = source_tree (port_tree names) in
    let width = source_width (design_at p) (comp_at p) in
    let same = widths_told c.source_width.result c.source_width-2.result (width (tree c.args.left)) (width (tree c.args.right)) c.eq.result c.source_width.ensures c.source_width-2.ensures c.eq.ensures in (
      λ yes'. ((c.literal_fits.ensures names).0 c.if-not-literal_fits.false, (c.literal_fits-2.ensures names).0 c.if-not-literal_fits-2.false, same.0 yes'),
      λ agrees. same.1 agrees.2,
    )
