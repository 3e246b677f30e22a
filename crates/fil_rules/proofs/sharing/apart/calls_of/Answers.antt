use Rattle.std.proofs.Common.{◌∙◌, ℕ, List, Vec, Global, subst}
use Rattle.std.specs.Slice.{IsItemAt}
use Rattle.fil_rules.proofs.ListedLemmas.{calls_there}
use Rattle.fil_place.proofs.TimeLemmas.{got_some}
use Rattle.fil_rules.proofs.sharing.apart.calls_of.Goals as goal

pub returns-in-Some : goal.returns-in-Some
returns-in-Some c =
    let tables = c.args.tables.now in
    let n = c.args.instance in
    let I : List (Vec ℕ Global) → Type 0 = λ os. IsItemAt os n c.get.result in
    let numbers = c.in-Some.calls in
    c.deref-in-Some.ensures.value ∙ calls_there tables n numbers.now (got_some tables.calls.items n c.get.result numbers (subst I c.deref.ensures.value c.get.ensures.lookup) c.in-Some.is)
