use Rattle.std.proofs.Common.{◌≡◌, [], ◌∷◌, length, sym, ◌++◌, map}
use Rattle.std.proofs.lemmas.List.{map_push}
use Rattle.std.proofs.lemmas.Result.{err_from_is_err_and}
use Rattle.hw_grammar.proofs.Loop.{goes_on, stops, fails, ends, runs_out}
use Rattle.hw_grammar.specs.declared.sort.Sort.TheVariants.{Comp}
use Rattle.par_parse.specs.Tree.{component_tree}
use Rattle.par_parse.specs.inside.Reading.{component_at}
use Rattle.par_parse.proofs.component.more_components.Goals as goal

pub returns-then-not-starts : goal.returns-then-not-starts
returns-then-not-starts c = λ names. stops (Comp ∷ []) (component_at names) (map (component_tree names) c.loop.all.items) (length c.args.ts.now) c.loop.counter c.loop.rest.now _ (c.loop.invariant names) c.loop-test.true (sym c.if-not-starts.ensures)

pub returns-in_err-next : goal.returns-in_err-next
returns-in_err-next c = λ names.
    let p = err_from_is_err_and c.from_residual.result c.from_residual.ensures.1 in
    rw (p.1, p.2) (fails (Comp ∷ []) (component_at names) (map (component_tree names) c.loop.all.items) (length c.args.ts.now) c.loop.counter c.loop.rest.now _ (c.loop.invariant names) c.in_err-next.field-0.0 c.loop-test.true (sym c.if-not-starts.ensures) (c.in_err-next.ensures names))

pub loop-preserved : goal.loop-preserved
loop-preserved c = λ names.
    let e : map (component_tree names) c.push.new.self.items ≡ map (component_tree names) c.loop.all.items ++ component_tree names c.in_ok-next.next ∷ [] = rw c.in_ok-push.ensures.items (map_push _ c.loop.all.items c.in_ok-next.next) in
    rw e (goes_on (Comp ∷ []) (component_at names) (map (component_tree names) c.loop.all.items) (length c.args.ts.now) c.loop.counter c.loop.rest.now _ (c.loop.invariant names) (component_tree names c.in_ok-next.next) c.in_ok-next.after.now c.loop-test.true (sym c.if-not-starts.ensures) (c.in_ok-next.ensures names))

pub returns-then-starts : goal.returns-then-starts
returns-then-starts c = λ names. runs_out (Comp ∷ []) (component_at names) (map (component_tree names) c.loop.all.items) (length c.args.ts.now) c.loop.counter c.loop.rest.now _ (c.loop.invariant names) c.loop-test.false (sym c.if-starts.ensures)

pub returns : goal.returns
returns c = λ names. ends (Comp ∷ []) (component_at names) (map (component_tree names) c.loop.all.items) (length c.args.ts.now) c.loop.counter c.loop.rest.now _ (c.loop.invariant names) c.loop-test.false (sym c.if-starts.ensures)
