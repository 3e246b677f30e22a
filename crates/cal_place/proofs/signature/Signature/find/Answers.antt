use Rattle.std.proofs.Common.{List, slice_get, ap, ◌∙◌}
use Rattle.cal_place.specs.Signatures.{sided_names}
use Rattle.cal_place.specs.declared.signature.Pin.{Pin}
use Rattle.cal_place.proofs.ListLemmas.{got}
use Rattle.cal_place.proofs.SignatureLemmas.{port_found, port_missing}
use Rattle.cal_place.proofs.signature.Signature.find.Goals as goal

pub returns-in_err-place : goal.returns-in_err-place
returns-in_err-place c ports shows =
    c.from_residual.ensures ∙ port_missing ports c.args.name.now (c.in_err-place.ensures (sided_names ports) shows.names)

pub returns : goal.returns
returns c ports shows =
    let place = c.in_ok-place.place in
    c.copied.ensures ∙ got c.deref.result.now place c.get.result c.get.ensures.lookup ∙ ap (λ (l : List Pin). slice_get l place) c.deref.ensures.value
    ∙ port_found c.args.self.now ports c.args.name.now place shows (c.in_ok-place.ensures (sided_names ports) shows.names)
