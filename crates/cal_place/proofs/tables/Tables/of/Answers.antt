use Rattle.cal_place.proofs.tables.Tables.of.Goals as goal

pub returns : goal.returns
returns c = record { comps = c.in_ok-comps.ensures; signatures = c.in_ok-signatures.ensures; made = c.in_ok-made.ensures }
