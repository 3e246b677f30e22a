use Rattle.std.proofs.Common.{length, sym, subst}
use Rattle.std.specs.Prelude.{All}
use Rattle.hw_cells.specs.Cells.{IsAskable}
use Rattle.hw_tests.proofs.cells.tell_all.Goals as goal

pub tell-requires-clause-askable : goal.tell-requires-clause-askable
tell-requires-clause-askable c = subst (All (IsAskable (length c.args.inside.now))) (sym c.as_mut_slice.ensures.value) c.requires.askable
