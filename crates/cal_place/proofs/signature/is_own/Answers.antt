use Rattle.std.proofs.Common.{bytes_eq, sym, ap, ◌∙◌}
use Rattle.hw_names.specs.Name.{text_of}
use Rattle.hw_names.proofs.NameLemmas.{text_of-slice_get}
use Rattle.cal_place.proofs.SignatureLemmas.{cell_port, own_text}
use Rattle.cal_place.proofs.signature.is_own.Goals as goal

pub returns-then-is_none : goal.returns-then-is_none
returns-then-is_none c =
    let names = c.args.names.now in
    let port = c.args.port in
    let name = c.args.name.now in
    c.eq.ensures ∙ ap (λ t. bytes_eq t name) (sym (text_of-slice_get names port.port c.text.result.now c.text.ensures))
    ∙ own_text names (text_of names port.port) name c.is_none.result port.cell c.is_none.ensures c.if-is_none.true

pub returns-else-is_none : goal.returns-else-is_none
returns-else-is_none c =
    let names = c.args.names.now in
    let port = c.args.port in
    cell_port names (text_of names port.port) c.args.name.now c.is_none.result port.cell c.is_none.ensures c.if-is_none.false
