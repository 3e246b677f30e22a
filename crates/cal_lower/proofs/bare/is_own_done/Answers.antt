use Rattle.std.proofs.Common.{◌∙◌}
use Rattle.hw_names.proofs.NameLemmas.{text_of-slice_get}
use Rattle.cal_lower.proofs.DoneLemmas.{own_done, not_own}
use Rattle.cal_lower.proofs.bare.is_own_done.Goals as goal

pub returns-in-None : goal.returns-in-None
returns-in-None c =
    let names = c.args.names.now in
    let port = c.args.port in
    c.eq.ensures ∙ own_done names port c.text.result.now c.as_slice.result.now c.in-None.is (text_of-slice_get names port.port c.text.result.now c.text.ensures) c.as_slice.ensures

pub returns-in-Some : goal.returns-in-Some
returns-in-Some c = not_own c.args.names.now c.args.port c.in-Some.field-0 c.in-Some.is
