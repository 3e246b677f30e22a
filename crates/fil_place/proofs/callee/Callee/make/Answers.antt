use Rattle.std.proofs.Common.{◌≡◌, ◌<◌, Bool, true, false, List, Contains, Ok, [], ◌∷◌, ◌++◌, length, map, take, refl, ap, subst, ◌∙◌, arith}
use Rattle.std.proofs.Math.Seq.{take-length}
use Rattle.hw_names.specs.Name.{Text}
use Rattle.fil_place.proofs.OutputLemmas.{port_name, port_names_seen, output_is_new, output_put}
use Rattle.fil_place.proofs.callee.Callee.make.Goals as goal

by_cases : {P : Type 0} (b : Bool) → (b ≡ true → P) → (b ≡ false → P) → P
by_cases true yes_so not_so = yes_so refl
by_cases false yes_so not_so = not_so refl

pub loop-port-preserved : goal.loop-port-preserved
loop-port-preserved c =
    let ports = c.deref-port-items.result.now in
    let i = c.loop-port.port-index in
    let port = c.port-item.result in
    let within : i < length ports = c.loop-port-test.true in
    let same_name : c.bytes.result.now ≡ port.name = c.bytes.ensures in
    let absent : Contains c.loop-port.outs c.bytes.result.now → ⊥ =
    λ there. output_is_new c.args.sig ports c.deref-port-items.ensures.value c.requires.outputs i port within c.port-item.is
    (subst (λ (t : Text). Contains (map port_name (take i ports)) t) same_name (subst (λ (ts : List Text). Contains ts c.bytes.result.now) c.loop-port.invariant.0 there)) in
    by_cases c.in_ok-_new._new
    (λ so. let put = (c.in_ok-_new.ensures.new (ap Ok so)).1 in (output_put ports i port c.loop-port.outs c.add_name.new.names within c.port-item.is c.loop-port.invariant.0 (put ∙ ap (λ (t : Text). c.loop-port.outs ++ t ∷ []) same_name), c.in_ok-_new.ensures.distinct))
    (λ not_so. absurd (absent (c.in_ok-_new.ensures.there (ap Ok not_so)).0))

pub invariant_of-result : goal.invariant_of-result
invariant_of-result c =
    let ports = c.deref-port-items.result.now in
    let end : c.loop-port.port-index ≡ length ports = omega arith in (
      c.loop-port.invariant.0 ∙ ap (λ k. map port_name (take k ports)) end ∙ ap (map port_name) (take-length ports)
          ∙ ap (map port_name) c.deref-port-items.ensures.value ∙ port_names_seen c.args.sig,
      c.loop-port.invariant.1,
      c.requires.times,
    )
