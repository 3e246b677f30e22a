use Rattle.std.proofs.lemmas.Bool.Decides.{not_from_Decides}
use Rattle.cal_ast.specs.Ports.{width_in}
use Rattle.cal_ast.specs.Tree.{assignment_tree}
use Rattle.cal_ast.specs.Typing.{WidthsAgree, source_width}
use Rattle.cal_place.specs.Around.{comp_at, design_at, names_at}
use Rattle.cal_place.proofs.ListLemmas.{told_false}
use Rattle.cal_rules.proofs.TestLemmas as test
use Rattle.cal_rules.proofs.typing.widths_agree.Goals as goal

pub port_width-requires : goal.port_width-requires
port_width-requires c = c.requires.0

pub source_width-requires : goal.source_width-requires
source_width-requires c = c.requires.2

pub option_agrees-requires : goal.option_agrees-requires
option_agrees-requires c = c.requires.1

pub returns-then-not-literal_fits : goal.returns-then-not-literal_fits
returns-then-not-literal_fits c =
    let p = c.args.place.now in
    told_false (WidthsAgree (design_at p) (comp_at p) (assignment_tree (names_at p) c.args.set.now))
    (λ agree. not_from_Decides c.literal_fits.result (c.literal_fits.ensures (names_at p)) c.if-not-literal_fits.true agree.literal)

pub returns-then-ne : goal.returns-then-ne
returns-then-ne c =
    let p = c.args.place.now in
    let a = assignment_tree (names_at p) c.args.set.now in
    told_false (WidthsAgree (design_at p) (comp_at p) a)
    (λ agree. test.widths_differ c.port_width.result c.source_width.result (width_in (design_at p) (comp_at p) a.dst) (source_width (design_at p) (comp_at p) a.src) c.ne.result c.port_width.ensures c.source_width.ensures
    c.ne.ensures c.if-ne.true agree.sides)

pub returns : goal.returns
returns c =
    let p = c.args.place.now in
    let a = assignment_tree (names_at p) c.args.set.now in
    let sides = test.widths_agree c.port_width.result c.source_width.result (width_in (design_at p) (comp_at p) a.dst) (source_width (design_at p) (comp_at p) a.src) c.ne.result c.port_width.ensures c.source_width.ensures
    c.ne.ensures c.if-ne.false in (
      λ yes'. record { literal = (c.literal_fits.ensures (names_at p)).0 c.if-not-literal_fits.false; sides = sides; guard = c.option_agrees.ensures.0 yes' },
      λ agree. c.option_agrees.ensures.1 agree.guard,
    )
