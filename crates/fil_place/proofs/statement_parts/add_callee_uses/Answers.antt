use Rattle.std.proofs.Common.{Bor, Option, Some, option_map, sym, ap, subst, ◌∙◌}
use Rattle.std.specs.Prelude.{OnOk}
use Rattle.fil_ast.specs.Signature.{Signature}
use Rattle.fil_place.specs.Starts.{AddsUses}
use Rattle.fil_place.specs.declared.callee.Callee.{Callee}
use Rattle.fil_place.proofs.AddedLemmas.{adds_nothing}
use Rattle.fil_place.proofs.statement_parts.add_callee_uses.Goals as goal

pub returns-in-Some : goal.returns-in-Some
returns-in-Some c events inst times are =
    let A : Option Signature → Type 0 = λ of. OnOk c.add_uses.result (AddsUses events of inst times c.args.instance c.args.starts.now c.add_uses.new.starts) in
    subst A (ap Some c.sig.ensures.same ∙ sym (ap (option_map (λ (callee : Bor Callee). callee.now)) c.in-Some.is)) (c.add_uses.ensures events inst times are)

pub returns-in-None : goal.returns-in-None
returns-in-None c events inst times are =
    let A : Option Signature → Type 0 = λ of. AddsUses events of inst times c.args.instance c.args.starts.now c.args.starts.now in
    subst A (sym (ap (option_map (λ (callee : Bor Callee). callee.now)) c.in-None.is)) (adds_nothing events inst times c.args.instance c.args.starts.now)
