use Rattle.std.proofs.Common.{[], ◌∷◌, ◌++◌, map, max, ap, ◌∙◌, arith}
use Rattle.std.specs.List.{slice_set, slice_index_or}
use Rattle.std.proofs.lemmas.List.Sums.{sum_by-append}
use Rattle.fil_ast.specs.Weight.{rows_of}
use Rattle.fil_check.specs.inside.Weights.{last_row}
use Rattle.fil_check.proofs.WeightLemmas.{need_more, row_reached}
use Rattle.fil_check.proofs.weight.Asked.need.Goals as goal

pub returns : goal.returns
returns c events needs times need distinct (event, from, to) asked =
    let old = last_row needs times in
    let new = last_row (needs ++ need ∷ []) times in
    let e = c.args.interval.event in
    record {
      rows = omega (arith, asked.rows, from, to, sum_by-append rows_of needs (need ∷ []), c.reach.ensures.rows, c.saturating_add-self.ensures, c.saturating_sub-rows.ensures);
      greatest = c.reach.ensures.greatest ∙ ap (λ gs. slice_set gs e (max (slice_index_or gs e 0) c.args.interval.to)) asked.greatest
          ∙ ap (λ row. slice_set (map old events) e (max (slice_index_or (map old events) e 0) row)) to
          ∙ row_reached old new need.event need.to (need_more needs times need) events e distinct event;
    }
