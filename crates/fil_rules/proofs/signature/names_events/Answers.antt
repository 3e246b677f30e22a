use Rattle.std.proofs.Common.{List, All, sym, subst, ◌∙◌}
use Rattle.hw_names.specs.declared.names.NameId.{NameId}
use Rattle.fil_ast.specs.Numbers.{IsNumberOf}
use Rattle.fil_place.proofs.NameLemmas.{used_numbers}
use Rattle.fil_rules.proofs.SignatureLemmas.{events_judged}
use Rattle.fil_rules.proofs.signature.names_events.Goals as goal

pub are_among-requires : goal.are_among-requires
are_among-requires c =
    let A : List NameId → Type 0 = All (IsNumberOf c.args.names.now) in
    subst A (sym (c.deref.ensures.value ∙ c.in_ok-used.ensures)) (used_numbers c.args.names.now c.args.comp.now c.requires.numbered)

pub returns : goal.returns
returns c =
    events_judged c.args.names.now c.args.comp.now c.args.events.now c.deref.result.now c.are_among.result c.requires.events (c.deref.ensures.value ∙ c.in_ok-used.ensures) c.are_among.ensures
