use Rattle.std.proofs.Common.{◌≡◌, ◌++◌, ◌∷◌, [], List, Some, Contains, slice_get, ap, sym, subst, ◌∙◌}
use Rattle.hw_names.specs.Name.{Text}
use Rattle.cal_wires.proofs.PortLemmas.{next_absent, next_key}
use Rattle.cal_wires.proofs.ports.Ports.keys.Goals as goal

pub loop-place-preserved : goal.loop-place-preserved
loop-place-preserved c =
    let seen = c.args.self.now.keys in
    let place = c.loop-place.place in
    let key = c.deref.result.now in
    let at : slice_get seen place ≡ Some key = c.in_ok-key.ensures ∙ ap Some (sym c.deref.ensures.value) in
    let absent : ¬ Contains c.loop-place.keys key = subst (λ (l : List Text). ¬ Contains l key) (sym c.loop-place.invariant) (next_absent seen place key c.len-place-end.ensures.distinct at) in
    (c.in_ok-_number.ensures.added absent).0 ∙ ap (λ (l : List Text). l ++ key ∷ []) c.loop-place.invariant ∙ next_key seen place key at
