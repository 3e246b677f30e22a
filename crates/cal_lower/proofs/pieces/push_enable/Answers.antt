use Rattle.std.proofs.Common.{◌≡◌, Bool, sym, ap, ◌∙◌}
use Rattle.std.specs.Prelude.{if◌then◌else◌}
use Rattle.cal_lower.specs.inside.Labels.{kind_of}
use Rattle.cal_lower.specs.inside.Pieces.{Wire, Register}
use Rattle.cal_lower.proofs.PushLemmas.{none_enables, one_enables}
use Rattle.cal_lower.proofs.pieces.push_enable.Goals as goal

pub returns-then-not-is_register : goal.returns-then-not-is_register
returns-then-not-is_register c = λ names text are is.
    let kind : kind_of c.args.label ≡ Wire = ap (λ (b : Bool). if b then Register else Wire) (sym c.is_register.ensures ∙ c.if-not-is_register.true) in
    none_enables names (kind_of c.args.label) text c.args.sets.now.items kind

pub returns : goal.returns
returns c = λ names text are is.
    let kind : kind_of c.args.label ≡ Register = ap (λ (b : Bool). if b then Register else Wire) (sym c.is_register.ensures ∙ c.if-not-is_register.false) in
    one_enables names (kind_of c.args.label) text c.args.texts c.args.name c.port_of.result c.args.sets.now.items c.push.new.self.items kind are is c.port_of.ensures c.in_ok-push.ensures.items
