use Rattle.std.proofs.Common.{◌↔◌, Bor, Option, Some, option_map, subst, sym, ap, ◌∙◌}
use Rattle.std.specs.Bool.{IsTrue}
use Rattle.std.specs.Option.{IfSome}
use Rattle.fil_ast.specs.Signature.{Signature}
use Rattle.fil_ast.specs.Tree.{giving}
use Rattle.fil_ast.specs.Typing.{GivesWidths}
use Rattle.fil_place.specs.declared.callee.Callee.{Callee}
use Rattle.fil_rules.proofs.typing.gives_callee_widths.Goals as goal

pub returns-in-Some : goal.returns-in-Some
returns-in-Some c scope at place =
    let names = c.args.place.now.names.now in
    let P : Option Signature → Type 0 = λ o. IsTrue c.gives_widths.result ↔ IfSome o (λ sig. GivesWidths scope sig (giving names at c.args.args.now)) in
    subst P (ap Some c.sig.ensures.same ∙ sym (ap (option_map (λ (callee : Bor Callee). callee.now)) c.in-Some.is)) (c.gives_widths.ensures scope at place)
