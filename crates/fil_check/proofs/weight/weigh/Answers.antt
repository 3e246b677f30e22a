use Rattle.std.proofs.Common.{List, refl, subst, sym, arith}
use Rattle.hw_names.specs.Name.{Text, AreDistinct}
use Rattle.fil_ast.specs.Items.{TheSignature}
use Rattle.fil_ast.specs.Rules.{F1}
use Rattle.fil_check.proofs.weight.weigh.Goals as goal

pub returns : goal.returns
returns c comps shown kept are =
    let place = c.in_ok-tables.ensures comps shown kept in
    let D : List Text → Type 0 = λ ts. AreDistinct ts in
    c.weight.ensures comps place (subst D (sym place.shows.events) (kept 0 TheSignature refl 0 F1 (omega arith)).events) are
