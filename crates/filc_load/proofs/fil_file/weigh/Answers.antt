use Rattle.std.proofs.Common.{arith}
use Rattle.fil_ast.specs.Tree.{design_of}
use Rattle.filc_load.proofs.FilLemmas.{light_top, heavy_refused}
use Rattle.filc_load.proofs.TopLemmas.{top_within}
use Rattle.filc_load.proofs.fil_file.weigh.Goals as goal

pub fil_weight-requires : goal.fil_weight-requires
fil_weight-requires c = top_within (design_of c.args.ok.now) c.top_of-top.result (rw c.design.ensures.same at c.top_of-top.ensures)

pub returns-then-weight-gt-MOST_WEIGHT-clause-refused : goal.returns-then-weight-gt-MOST_WEIGHT-clause-refused
returns-then-weight-gt-MOST_WEIGHT-clause-refused c = heavy_refused c.args.ok.now c.top_of-top.result c.in_ok-weight.weight (rw c.design.ensures.same at c.top_of-top.ensures) c.in_ok-weight.ensures c.if-weight-gt-MOST_WEIGHT.true

pub returns-clause-light : goal.returns-clause-light
returns-clause-light c = light_top (design_of c.args.ok.now) c.top_of-top.result c.in_ok-weight.weight (rw c.design.ensures.same at c.top_of-top.ensures) c.in_ok-weight.ensures (omega (arith, c.if-weight-gt-MOST_WEIGHT.false))

pub returns-clause-top : goal.returns-clause-top
returns-clause-top c = (rw c.design.ensures.same at c.top_of-top.ensures)
