use Rattle.std.proofs.Common.{ℕ, refl, sym, ap, subst}
use Rattle.cal_check.specs.inside.ComponentEnd.{ComponentIs}
use Rattle.cal_check.specs.declared.refusal.CalEnd.TheVariants.{Refused, Memory}
use Rattle.cal_rules.specs.declared.rule.CompEnd.{CompEnd}
use Rattle.cal_check.proofs.check.in_component.Goals as goal

pub returns-in-Broken : goal.returns-in-Broken
returns-in-Broken c =
    let comp = c.args.comp in
    let item = c.in-Broken.item in
    let ports = c.new.result in
    let C : CompEnd → Type 0 = λ end. ComponentIs comp end (Refused c.number.result comp item ports) in
    subst C (sym c.in-Broken.is) (ports, ap (λ (n : ℕ). Refused n comp item ports) c.number.ensures, c.new.ensures.items)

pub returns-in-Memory : goal.returns-in-Memory
returns-in-Memory c =
    let C : CompEnd → Type 0 = λ end. ComponentIs c.args.comp end Memory in
    subst C (sym c.in-Memory.is) refl
