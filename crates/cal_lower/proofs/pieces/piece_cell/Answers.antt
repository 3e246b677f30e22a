use Rattle.cal_lower.specs.inside.Labels.{kind_of}
use Rattle.cal_lower.proofs.PushLemmas.{cell_shown}
use Rattle.cal_lower.proofs.pieces.piece_cell.Goals as goal

pub returns : goal.returns
returns c = λ names text tree are is.
    cell_shown names (kind_of c.args.label) text tree c.made_by.result c.args.name c.in_ok-from_slice.field-0 (c.made_by.ensures names are) is c.in_ok-from_slice.ensures.items
