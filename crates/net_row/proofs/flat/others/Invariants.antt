use Rattle.net_row.proofs.FlatOtherLemmas.{AreOfFirst}
use Rattle.net_row.specs.Flats.{AreOpeningOthers, IsOther}
use Rattle.net_row.proofs.flat.others.Given as goal

abbrev pub invariant-loop-number : goal.invariant-loop-number
invariant-loop-number l = record {
  upto : AreOfFirst IsOther l.cells l.number l.others.items;
  opening : AreOpeningOthers l.others.items;
}
