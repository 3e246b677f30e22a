use Rattle.std.proofs.Common.{sym}
use Rattle.fil_parse.specs.inside.Offsets.{of_component}
use Rattle.fil_parse.specs.Spelling.{is_large}
use Rattle.fil_parse.proofs.Finding.{found, passed}
use Rattle.fil_parse.proofs.offsets.large_component.Goals as goal

pub returns-in-Some : goal.returns-in-Some
returns-in-Some c =
    sym (found is_large of_component c.args.comps.now c.loop-comp.comp-index c.comp-item.result c.comp-item.result c.in-Some.number c.loop-comp-test.true (sym c.comp-item.is) c.loop-comp.invariant (sym c.in-Some.ensures))

pub loop-comp-preserved : goal.loop-comp-preserved
loop-comp-preserved c =
    passed is_large of_component c.args.comps.now c.loop-comp.comp-index c.comp-item.result c.comp-item.result c.loop-comp-test.true (sym c.comp-item.is) c.loop-comp.invariant (sym c.in_default.ensures)
