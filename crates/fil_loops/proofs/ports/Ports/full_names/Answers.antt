use Rattle.std.proofs.Common.{◌≡◌, ◌++◌, ◌∷◌, [], List, Some, Contains, slice_get, ap, sym, subst, ◌∙◌}
use Rattle.hw_names.specs.Name.{Text}
use Rattle.fil_loops.proofs.PortNumberLemmas.{next_absent, next_name}
use Rattle.fil_loops.proofs.ports.Ports.full_names.Goals as goal

pub loop-place-preserved : goal.loop-place-preserved
loop-place-preserved c =
    let seen = c.args.self.now.names in
    let place = c.loop-place.place in
    let name = c.deref.result.now in
    let at : slice_get seen place ≡ Some name = c.in_ok-name.ensures ∙ ap Some (sym c.deref.ensures.value) in
    let absent : ¬ Contains c.loop-place.names name = subst (λ (l : List Text). ¬ Contains l name) (sym c.loop-place.invariant) (next_absent seen place name c.len-place-end.ensures.distinct at) in
    (c.in_ok-_number.ensures.added absent).0 ∙ ap (λ (l : List Text). l ++ name ∷ []) c.loop-place.invariant ∙ next_name seen place name at
