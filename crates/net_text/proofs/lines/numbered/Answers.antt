use Rattle.std.proofs.Common.{Some, ap, sym}
use Rattle.hw_names.specs.Name.{Text}
use Rattle.net_text.proofs.NameLemmas.{text_later, Grows-from_intern}
use Rattle.net_text.proofs.lines.numbered.Goals as goal

pub returns-clause-read : goal.returns-clause-read
returns-clause-read c = λ later ext.
    ap (λ (t : Text). Some t) (sym (text_later c.intern.new.self later c.in_ok-intern.field-0 c.args.name.now c.in_ok-intern.ensures.text ext))

pub returns-clause-grows : goal.returns-clause-grows
returns-clause-grows c = Grows-from_intern c.args.names.now c.intern.new.self c.args.name.now c.requires.some c.intern.ensures.grown
