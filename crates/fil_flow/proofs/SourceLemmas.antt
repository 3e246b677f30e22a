-- Values that come from sources.
use Rattle.std.proofs.Common.{◌≡◌, ℕ, zero, suc, ◌<◌, List, [], ◌∷◌, Some, length, get_or, map, ap, ◌∙◌, arith}
use Rattle.std.specs.Option.{IsSome, is_some}
use Rattle.fil_flow.specs.Plans.{HaveWidths, source_width}
use Rattle.fil_flow.specs.declared.plan.Source.{Source}

-- each source that has a width can be read
pub readable : (widths : List ℕ) (sources : List Source) (wanted : List ℕ) → HaveWidths widths sources wanted →
    (k : ℕ) (s : Source) → k < length sources → s ≡ get_or sources k s → IsSome (source_width widths s)
readable widths [] wanted have k s within is = absurd (omega arith)
readable widths (first ∷ sources) [] have k s within is = cc
readable widths (first ∷ sources) (w ∷ wanted) have zero s within is =
    let some : source_width widths first ≡ Some w = cc in ap (λ x. is_some (source_width widths x)) is ∙ ap is_some some
readable widths (first ∷ sources) (w ∷ wanted) have (suc k) s within is =
    let rest : map (source_width widths) sources ≡ map Some wanted = cc in
    readable widths sources wanted rest k s (omega arith) is
