use Rattle.fil_ast.specs.Tree.{design_of}
use Rattle.fil_flow.proofs.PlaceLemmas.{some_at}
use Rattle.fil_flow.proofs.dataflow.flow.Goals as goal

pub values-requires : goal.values-requires
values-requires c =
    let comps = design_of c.args.ok.now in
    let (comp, at) = some_at comps c.args.comp c.requires.comp in
    (comps, comp, c.in_ok-dataflow.ensures comp at, c.requires.inputs comp at)

pub returns-clause-values : goal.returns-clause-values
returns-clause-values c = λ comp at. c.values.ensures.values (design_of c.args.ok.now) comp (c.in_ok-dataflow.ensures comp at) (c.requires.inputs comp at)

pub returns-clause-widths : goal.returns-clause-widths
returns-clause-widths c = λ comp at. c.values.ensures.widths (design_of c.args.ok.now) comp (c.in_ok-dataflow.ensures comp at) (c.requires.inputs comp at)
