use Rattle.std.proofs.Common.{[], ◌∷◌, ◌++◌, map, max, ap, ◌∙◌}
use Rattle.std.specs.List.{slice_set, slice_index_or}
use Rattle.fil_check.specs.inside.Weights.{last_row}
use Rattle.fil_place.proofs.TimeLemmas.{shown_parts}
use Rattle.fil_check.proofs.WeightLemmas.{time_more, row_reached}
use Rattle.fil_check.proofs.weight.Asked.reach_time.Goals as goal

pub returns : goal.returns
returns c events needs times given distinct is asked =
    let old = last_row needs times in
    let new = last_row needs (times ++ given ∷ []) in
    let e = c.args.time.event in
    let (named, plus) = shown_parts events c.args.time given is in
    record {
      rows = c.reach.ensures.rows ∙ asked.rows;
      greatest = c.reach.ensures.greatest ∙ ap (λ gs. slice_set gs e (max (slice_index_or gs e 0) c.args.time.plus)) asked.greatest
          ∙ ap (λ row. slice_set (map old events) e (max (slice_index_or (map old events) e 0) row)) plus
          ∙ row_reached old new given.event given.plus (time_more needs times given) events e distinct named;
    }
