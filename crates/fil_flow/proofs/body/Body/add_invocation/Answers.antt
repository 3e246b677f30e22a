use Rattle.std.proofs.Common.{rules, ℕ, ◌+◌, ◌<◌, ◌^◌, length, List, [], ◌∷◌, ◌++◌, Ok, Contains, ap, sym, subst, ◌∙◌, arith}
use Rattle.hw_names.specs.Name.{Text}
use Rattle.fil_flow.specs.inside.Body.{outputs_of}
use Rattle.fil_flow.proofs.BodyLemmas.{body_invocation, places_fit}
use Rattle.fil_flow.proofs.PortLemmas.{added}
use Rattle.fil_flow.proofs.body.Body.add_invocation.Goals as goal

pub overflow_add-self : goal.overflow_add-self
overflow_add-self c =
    let (scope, held, known, new) = c.requires in
    let old = c.args.self.now in
    let text = c.args.name.now in
    let absent : Contains old.invocations text → ⊥ = λ there. new (subst (λ (ts : List Text). Contains ts text) known.invocations there) in
    let put = added old.invocations c.add_name.new.names text c.in_ok-_new._new absent (λ yes. c.in_ok-_new.ensures.new (ap Ok yes)) (λ no. c.in_ok-_new.ensures.there (ap Ok no)) in
    let short : length c.add_name.new.names < 2 ^ 32 = omega (arith, c.len.ensures.len, c.len.ensures.small) in
    let fits = places_fit old.invocations c.add_name.new.names text old.places c.out_count.result put known.few short c.out_count.ensures.small in
    search (rules, fits)

pub returns : goal.returns
returns c scope held v i known named new found is =
    let old = c.args.self.now in
    let earlier = c.args.earlier.now in
    let text = c.args.name.now in
    let absent : Contains old.invocations text → ⊥ = λ there.
    new (subst (λ (ts : List Text). Contains ts v.name) known.invocations (subst (λ (t : Text). Contains old.invocations t) (sym named) there)) in
    let put = added old.invocations c.add_name.new.names text c.in_ok-_new._new absent (λ yes. c.in_ok-_new.ensures.new (ap Ok yes)) (λ no. c.in_ok-_new.ensures.there (ap Ok no)) in
    let short : length c.add_name.new.names < 2 ^ 32 = omega (arith, c.len.ensures.len, c.len.ensures.small) in
    let fits = places_fit old.invocations c.add_name.new.names text old.places c.out_count.result put known.few short c.out_count.ensures.small in
    let few : length (outputs_of earlier c.args.callee) < 2 ^ 32 = omega (arith, c.out_count.ensures.count, c.out_count.ensures.small) in
    body_invocation earlier scope held old known v i c.args.callee c.add_name.new.names c.push.new.self (old.places + c.out_count.result)
    (put ∙ ap (λ (t : Text). old.invocations ++ t ∷ []) (sym named)) c.in_ok-push.ensures.items (ap (λ (n : ℕ). old.places + n) c.out_count.ensures.count) few fits found is
