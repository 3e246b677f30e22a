use Rattle.std.proofs.Common.{Some, sym, ap, ◌∙◌}
use Rattle.std.proofs.lemmas.Option.{slice_get-get_or}
use Rattle.fil_rules.proofs.sharing.apart.times_given.Goals as goal

pub returns : goal.returns
returns c =
    let given = c.index.result.now in
    (given, slice_get-get_or c.args.tables.now.times.items c.args.call given c.requires ∙ ap Some (sym c.index.ensures), sym c.deref.ensures.value)
