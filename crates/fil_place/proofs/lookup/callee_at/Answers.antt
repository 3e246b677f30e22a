use Rattle.std.proofs.Common.{Bor, List, option_map, sym, ap, subst, ◌∙◌}
use Rattle.std.specs.Option.{option_and_then, option_copied}
use Rattle.std.specs.Slice.{IsItemAt}
use Rattle.fil_place.specs.Tables.{made_signature}
use Rattle.fil_place.specs.declared.callee.Callee.{Callee}
use Rattle.fil_place.specs.declared.tables.Made.{Made}
use Rattle.fil_place.proofs.LookupLemmas.{got, callee_there}
use Rattle.fil_place.proofs.lookup.callee_at.Goals as goal

pub returns-in_err-get : goal.returns-in_err-get
returns-in_err-get c names comp scope name place at =
    let earlier = c.args.earlier.now in
    let made = c.args.tables.now.made.items in
    let I : List Made → Type 0 = λ ms. IsItemAt ms c.args.instance c.get.result in
    let item = subst I c.deref.ensures.value c.get.ensures.lookup in
    ap (option_map (λ (callee : Bor Callee). callee.now)) c.from_residual.ensures
    ∙ sym (ap (option_and_then (made_signature earlier)) (sym (got made c.args.instance c.get.result item) ∙ ap option_copied (c.in_err-get.was)))
    ∙ callee_there names earlier comp c.args.tables.now scope place name c.args.instance at

pub returns : goal.returns
returns c names comp scope name place at =
    let earlier = c.args.earlier.now in
    let made = c.args.tables.now.made.items in
    let I : List Made → Type 0 = λ ms. IsItemAt ms c.args.instance c.get.result in
    let item = subst I c.deref.ensures.value c.get.ensures.lookup in
    c.callee_made.ensures
    ∙ sym (ap (option_and_then (made_signature earlier)) (sym (got made c.args.instance c.get.result item) ∙ ap option_copied (c.in_ok-get.was)))
    ∙ callee_there names earlier comp c.args.tables.now scope place name c.args.instance at
