use Rattle.std.proofs.Common.{List, [], ◌∷◌, ◌++◌, Ok, Contains, ap, sym, subst, ◌∙◌}
use Rattle.hw_names.specs.Name.{Text}
use Rattle.fil_flow.proofs.BodyLemmas.{body_instance}
use Rattle.fil_flow.proofs.PortLemmas.{added}
use Rattle.fil_flow.proofs.body.Body.add_instance.Goals as goal

pub returns : goal.returns
returns c earlier scope held i known named is signed new =
    let old = c.args.self.now in
    let text = c.args.name.now in
    let absent : Contains old.instances text → ⊥ = λ there.
    new (subst (λ (ts : List Text). Contains ts i.name) known.instances (subst (λ (t : Text). Contains old.instances t) (sym named) there)) in
    let put = added old.instances c.add_name.new.names text c.in_ok-_new._new absent (λ yes. c.in_ok-_new.ensures.new (ap Ok yes)) (λ no. c.in_ok-_new.ensures.there (ap Ok no)) in
    body_instance earlier scope held old known i c.args.callee c.add_name.new.names c.push.new.self
    (put ∙ ap (λ (t : Text). old.instances ++ t ∷ []) (sym named)) c.in_ok-push.ensures.items is signed
