use Rattle.std.proofs.Common.{◌↔◌, List, sym, subst, ◌∙◌}
use Rattle.std.specs.Bool.{IsTrue}
use Rattle.fil_ast.specs.Tree.{giving}
use Rattle.fil_ast.specs.Typing.{GivesWidths}
use Rattle.fil_sig.specs.Seen.{seen}
use Rattle.fil_sig.specs.declared.time_sig.SigPort.{SigPort}
use Rattle.fil_rules.specs.inside.Arguments.{AreWide}
use Rattle.fil_rules.proofs.ArgumentLemmas.{widths_given, literals_given}
use Rattle.fil_place.proofs.GeneralLemmas.{told_no}
use Rattle.fil_rules.proofs.typing.gives_widths.Goals as goal

pub returns-then-are_literals : goal.returns-then-are_literals
returns-then-are_literals c scope at place =
    let names = c.args.place.now.names.now in
    let W : List SigPort → Type 0 = λ ports. IsTrue c.have_widths.result ↔ AreWide scope names ports c.args.args.now in
    widths_given names scope c.args.sig.now at c.args.args.now ((c.are_literals.ensures names).0 c.if-are_literals.true) c.have_widths.result
    (subst W c.deref.ensures.value (c.have_widths.ensures scope place))

pub returns-else-are_literals : goal.returns-else-are_literals
returns-else-are_literals c scope at place =
    let names = c.args.place.now.names.now in
    told_no (GivesWidths scope (seen c.args.sig.now) (giving names at c.args.args.now)) c.are_literals.result c.if-are_literals.false (λ widths.
    let yes = (c.are_literals.ensures names).1 (literals_given names scope c.args.sig.now at c.args.args.now widths) in
    let bad = sym c.if-are_literals.false ∙ yes in
    absurd (cc))
