use Rattle.std.proofs.Common.{ℕ, sym, ap, subst}
use Rattle.fil_check.specs.inside.FirstComponent.{ComponentIs}
use Rattle.fil_rules.specs.declared.rules.CompEnd.{CompEnd}
use Rattle.fil_check.specs.declared.rules.FilEnd.TheVariants.{Refused}
use Rattle.fil_check.proofs.check.in_component.Goals as goal

pub returns-in-Broken : goal.returns-in-Broken
returns-in-Broken c =
    let comp = c.args.comp in
    let item = c.in-Broken.item in
    let evidence = c.in-Broken.broken.evidence in
    let C : CompEnd → Type 0 = λ end. ComponentIs comp end (Refused c.number.result comp item evidence) in
    subst C (sym c.in-Broken.is) (ap (λ (n : ℕ). Refused n comp item evidence) c.number.ensures)
