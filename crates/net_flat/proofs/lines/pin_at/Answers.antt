use Rattle.std.proofs.Common.{◌++◌, List, ℕ, Some, ap, sym, ◌∙◌}
use Rattle.hw_names.proofs.NameLemmas.{text_of-slice_get}
use Rattle.net_flat.proofs.LineLemmas.{pin_stands}
use Rattle.net_flat.proofs.lines.pin_at.Goals as goal

pub returns-clause-pin : goal.returns-clause-pin
returns-clause-pin c = λ path at.
    let source = c.args.source.now in
    let text = text_of-slice_get source c.args.pin.name c.text.result.now c.text.ensures in
    pin_stands c.name_at.new.names source c.args.prefix.now path c.args.pin c.in_ok-name.name at
    (c.in_ok-name.ensures.text ∙ ap (λ (t : List ℕ). Some (c.args.prefix.now ++ t)) (sym text))
