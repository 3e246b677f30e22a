use Rattle.std.proofs.Common.{Err, ap, ◌∙◌}
use Rattle.fil_flow.proofs.TableLemmas.{refused}
use Rattle.fil_flow.proofs.earlier.primitive.Goals as goal

pub unreachable-requires : goal.unreachable-requires
unreachable-requires c =
    refused c.args.name.now c.args.params.now c.in-Err.field-0
    (λ same. c.make.ensures.unknown.0 (c.in-Err.is ∙ ap Err same))
    (λ same. (c.make.ensures.bad.0 (c.in-Err.is ∙ ap Err same)).1)
    c.requires
