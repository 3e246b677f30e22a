use Rattle.std.proofs.Common.{Bor, option_map, sym, ap, ◌∙◌}
use Rattle.std.specs.Option.{option_and_then, option_copied}
use Rattle.fil_place.specs.Tables.{made_signature}
use Rattle.fil_place.specs.declared.callee.Callee.{Callee}
use Rattle.fil_place.proofs.LookupLemmas.{got}
use Rattle.fil_place.proofs.statement_parts.callee_in.Goals as goal

pub returns-in_err-get : goal.returns-in_err-get
returns-in_err-get c =
    ap (option_map (λ (callee : Bor Callee). callee.now)) c.from_residual.ensures
    ∙ sym (ap (option_and_then (made_signature c.args.earlier.now)) (sym (got c.args.made.now c.args.instance c.get.result c.get.ensures.lookup) ∙ ap option_copied c.in_err-get.was))

pub returns : goal.returns
returns c =
    c.callee_made.ensures
    ∙ sym (ap (option_and_then (made_signature c.args.earlier.now)) (sym (got c.args.made.now c.args.instance c.get.result c.get.ensures.lookup) ∙ ap option_copied c.in_ok-get.was))
