use Rattle.std.proofs.Common.{◌≡◌, Bool, sym, ap, subst, ◌∙◌}
use Rattle.std.specs.Prelude.{if◌then◌else◌}
use Rattle.cal_lower.specs.inside.Labels.{kind_of}
use Rattle.cal_lower.specs.inside.Pieces.{Kind, Wire, Register, made_by}
use Rattle.cal_lower.specs.inside.Shown.{ShowsName}
use Rattle.cal_lower.proofs.pieces.made_by.Goals as goal

pub returns-then-is_register : goal.returns-then-is_register
returns-then-is_register c = λ names are.
    let P : Kind → Type 0 = λ k. ShowsName names (made_by k) c.args.texts.register in
    let kind : Register ≡ kind_of c.args.label = sym (ap (λ (b : Bool). if b then Register else Wire) (sym c.is_register.ensures ∙ c.if-is_register.true)) in
    subst P kind are.register

pub returns-else-is_register : goal.returns-else-is_register
returns-else-is_register c = λ names are.
    let P : Kind → Type 0 = λ k. ShowsName names (made_by k) c.args.texts.wire in
    let kind : Wire ≡ kind_of c.args.label = sym (ap (λ (b : Bool). if b then Register else Wire) (sym c.is_register.ensures ∙ c.if-is_register.false)) in
    subst P kind are.wire
