use Rattle.std.proofs.Common.{◌≡◌, ◌+◌, ℕ, List, [], ◌∷◌, ◌++◌, length, take, rules, length-append, Some, subst, sym, ap, ◌∙◌, arith}
use Rattle.std.specs.List.{flat_map}
use Rattle.std.specs.Iterator.Adapters.{zip_first, zip_second}
use Rattle.std.specs.Slice.Iter.{iter_rest}
use Rattle.std.proofs.Math.Seq.{take-length}
use Rattle.std.proofs.lemmas.List.{length-map}
use Rattle.std.proofs.lemmas.Slice.Zip.{zip_end, zip_turn}
use Rattle.fil_ast.specs.Scope.{Invocation}
use Rattle.fil_ast.specs.Weight.{needs_of}
use Rattle.fil_place.specs.Tables.{instance_of, times_of, times_shown}
use Rattle.std.specs.List.{slice_get}
use Rattle.fil_place.specs.Times.{AreTimes}
use Rattle.fil_check.specs.inside.Weights.{IsAsked}
use Rattle.fil_check.proofs.WeightLemmas.{invoked_more, shown_invocation, stands}
use Rattle.fil_check.proofs.weight.asked_by.Goals as goal

pub loop-instance-preserved : goal.loop-instance-preserved
loop-instance-preserved c names comp scope place distinct =
    let tables = c.args.tables.now in
    let s = c.into_iter-instance-iterator.result in
    let first : iter_rest (zip_first s) ≡ tables.invoked.items = search rules in
    let second : iter_rest (zip_second s) ≡ tables.times.items = search rules in
    let turn = zip_turn tables.invoked.items tables.times.items c.loop-instance.yielded s c.loop-instance.instance-iterator c.next.new.self c.next.result first second c.loop-instance.yielded_by (c.in-Some.instance, c.in-Some.at) c.in-Some.is c.next.ensures.steps in
    let k = length c.loop-instance.yielded in
    let instance = c.in-Some.instance.now in
    let at = c.in-Some.at.now in
    let (v, here, inst, are) = shown_invocation c.args.earlier.now tables scope place.shows k instance at
    (stands tables.invoked.items k instance turn.0 ∙ ap Some (sym (turn.2 instance))) (stands tables.times.items k at turn.1 ∙ ap Some (sym (turn.3 at))) in
    let needs = flat_map (needs_of scope) (take k scope.invocations) in
    let times = flat_map (λ (v : Invocation). v.gives.times) (take k scope.invocations) in
    let asked = c.invoke.ensures names comp scope v needs times place distinct inst (subst (λ os. AreTimes tables.events os v.gives.times) (sym c.deref-in-loop-instance.ensures.value) are) (c.loop-instance.invariant names comp scope place distinct) in
    let N : ℕ → Type 0 = λ n. IsAsked tables.events (flat_map (needs_of scope) (take n scope.invocations)) (flat_map (λ (v : Invocation). v.gives.times) (take n scope.invocations)) c.invoke.new.self in
    let now : N (k + 1) = subst (λ ts. IsAsked tables.events (flat_map (needs_of scope) (take (k + 1) scope.invocations)) ts c.invoke.new.self) (invoked_more (λ (v : Invocation). v.gives.times) scope.invocations k v here)
    (subst (λ ns. IsAsked tables.events ns (times ++ v.gives.times) c.invoke.new.self) (invoked_more (needs_of scope) scope.invocations k v here) asked) in
    subst N (sym (length-append c.loop-instance.yielded ((c.in-Some.instance, c.in-Some.at) ∷ []))) now

pub returns : goal.returns
returns c names comp scope place distinct =
    let tables = c.args.tables.now in
    let shows = place.shows in
    let s = c.into_iter-instance-iterator.result in
    let first : iter_rest (zip_first s) ≡ tables.invoked.items = search rules in
    let second : iter_rest (zip_second s) ≡ tables.times.items = search rules in
    let end = zip_end tables.invoked.items tables.times.items c.loop-instance.yielded s c.loop-instance.instance-iterator c.next.new.self c.next.result first second c.loop-instance.yielded_by c.in-None.is c.next.ensures.steps in
    let invoked = sym (length-map tables.invoked.items (slice_get tables.instances)) ∙ ap length shows.invoked ∙ length-map scope.invocations instance_of in
    let timed = sym (length-map tables.times.items (times_shown tables.events)) ∙ ap length shows.times ∙ length-map scope.invocations times_of in
    let all : length c.loop-instance.yielded ≡ length scope.invocations = omega (arith, end, invoked, timed) in
    let A : List Invocation → Type 0 = λ vs. IsAsked tables.events (flat_map (needs_of scope) vs) (flat_map (λ (v : Invocation). v.gives.times) vs) c.loop-instance.asked in
    subst A (take-length scope.invocations) (subst (λ n. A (take n scope.invocations)) all (c.loop-instance.invariant names comp scope place distinct))
