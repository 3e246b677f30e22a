use Rattle.cal_ast.specs.Tree.{done_tree}
use Rattle.cal_ast.specs.Typing.{DoneAgrees, LiteralFits}
use Rattle.cal_place.specs.Around.{comp_at, design_at, names_at}
use Rattle.cal_rules.proofs.TestLemmas.{fails, told_no}
use Rattle.cal_rules.proofs.typing.done_agrees.Goals as goal

pub option_agrees-requires : goal.option_agrees-requires
option_agrees-requires c = c.requires.1

pub returns-then-literal_fits : goal.returns-then-literal_fits
returns-then-literal_fits c = (
  λ yes'. record { literal = (c.literal_fits.ensures (names_at c.args.place.now)).0 c.if-literal_fits.true; guard = c.option_agrees.ensures.0 yes' },
  λ agree. c.option_agrees.ensures.1 agree.guard,
)

pub returns-else-literal_fits : goal.returns-else-literal_fits
returns-else-literal_fits c =
    let p = c.args.place.now in
    let d = done_tree (names_at p) c.args.done.now in
    told_no (DoneAgrees (design_at p) (comp_at p) d) c.literal_fits.result c.if-literal_fits.false
    (λ agree. fails (LiteralFits d.src) c.literal_fits.result (c.literal_fits.ensures (names_at p)) c.if-literal_fits.false agree.literal)
