use Rattle.std.proofs.Common.{[], subst, sym}
use Rattle.std.proofs.lemmas.Option.{get_or_from_slice_get}
use Rattle.hw_names.specs.Name.{HasNoDot}
use Rattle.hw_short.proofs.ShortNameLemmas.{plain_text}
use Rattle.hw_short.proofs.pieces.is_plain.Goals as goal

pub returns : goal.returns
returns c plain =
    let text = c.text.result.now in
    subst HasNoDot (sym (get_or_from_slice_get c.args.texts.now.all c.args.piece.text text [] c.text.ensures)) (plain_text text c.contains.result c.contains.ensures.value plain)
