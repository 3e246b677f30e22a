use Rattle.cal_rules.proofs.sides.drives_destination.Goals as goal

pub is_destination-requires : goal.is_destination-requires
is_destination-requires c = c.requires.0

pub returns : goal.returns
returns c = c.is_destination.ensures
