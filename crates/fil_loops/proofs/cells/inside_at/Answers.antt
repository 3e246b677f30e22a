use Rattle.std.proofs.Common.{sym, ap, ◌∙◌}
use Rattle.std.specs.Option.{option_copied}
use Rattle.std.proofs.lemmas.Option.{none-some}
use Rattle.fil_loops.proofs.CellLemmas.{known_inside}
use Rattle.fil_place.proofs.LookupLemmas.{got}
use Rattle.fil_loops.proofs.cells.inside_at.Goals as goal

pub returns-in_err-part_at : goal.returns-in_err-part_at
returns-in_err-part_at c inside = (
  λ there. absurd (none-some inside (sym (ap option_copied c.from_residual.ensures) ∙ there)),
  λ known. absurd (none-some known.0 (sym c.in_err-part_at.was ∙ (c.part_at.ensures known.0).1 known.1)),
)

pub returns : goal.returns
returns c =
    let part = c.in_ok-part_at.field-0 in
    known_inside c.args.parts.now c.args.insides.now c.args.instance part ((c.part_at.ensures part).0 c.in_ok-part_at.was) _ (got c.args.insides.now part c.get.result c.get.ensures.lookup)
