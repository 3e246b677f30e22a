use Rattle.std.proofs.Common.{◌≡◌, List, None, Some, ◌++◌, map, option_map, subst, sym, ap, ◌∙◌}
use Rattle.fil_ast.specs.Scope.{instance_signature}
use Rattle.fil_ast.specs.Signature.{Signature}
use Rattle.fil_ast.specs.Timeline.{Interval}
use Rattle.fil_ast.specs.Weight.{needs_at}
use Rattle.fil_sig.specs.Seen.{seen_port}
use Rattle.fil_check.specs.inside.Weights.{IsAsked, needs_for}
use Rattle.fil_check.proofs.WeightLemmas.{no_more}
use Rattle.fil_check.proofs.weight.Asked.invoke.Goals as goal

pub returns-in-Some : goal.returns-in-Some
returns-in-Some c names comp scope v needs times place distinct at are asked =
    let events = c.args.tables.now.events in
    let gives = v.gives.times in
    let sig_is : instance_signature scope v.inst ≡ Some c.in-Some.callee.now = sym (c.callee_at.ensures names comp scope v.inst place at) ∙ ap (option_map (λ callee. callee.now)) c.in-Some.is in
    let ins = ap (map seen_port) c.deref.ensures.value ∙ ap (λ (s : Signature). s.ins) c.sig.ensures.same in
    let needed = c.need_inputs.ensures events needs times gives distinct are asked in
    let A : List Interval → Type 0 = λ ns. IsAsked events (needs ++ ns) (times ++ gives) c.reach_times.new.self in
    subst A (ap (needs_for gives) ins ∙ sym (ap (needs_at gives) sig_is))
    (c.reach_times.ensures events (needs ++ needs_for gives (map seen_port c.deref.result.now)) times gives distinct are needed)

pub returns-in-None : goal.returns-in-None
returns-in-None c names comp scope v needs times place distinct at are asked =
    let events = c.args.tables.now.events in
    let gives = v.gives.times in
    let none : instance_signature scope v.inst ≡ None = sym (c.callee_at.ensures names comp scope v.inst place at) ∙ ap (option_map (λ callee. callee.now)) c.in-None.is in
    let A : List Interval → Type 0 = λ ns. IsAsked events ns (times ++ gives) c.reach_times-in-None.new.self in
    subst A (sym (ap (λ ns. needs ++ ns) (ap (needs_at gives) none) ∙ no_more needs))
    (c.reach_times-in-None.ensures events needs times gives distinct are asked)
