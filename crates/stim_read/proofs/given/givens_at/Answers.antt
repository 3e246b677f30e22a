use Rattle.std.proofs.Common.{◌≡◌, Global, Vec, List, Option, IfOk, option_map, ap, subst}
use Rattle.stim_read.specs.Parts.{◌>>=◌}
use Rattle.stim_read.specs.CycleText.{givens_in}
use Rattle.stim_read.specs.declared.given.Given.{Given}
use Rattle.stim_read.proofs.given.givens_at.Goals as goal

pub returns-in-Some : goal.returns-in-Some
returns-in-Some c =
    let e = ap (λ o. o >>= givens_in c.args.version) c.in-Some.ensures in
    subst (λ (m : Option (List Given)). IfOk c.read_givens.result (λ o. option_map (λ (v : Vec Given Global). v.items) o ≡ m)) e c.read_givens.ensures

pub returns-in-None : goal.returns-in-None
returns-in-None c = ap (λ o. o >>= givens_in c.args.version) c.in-None.ensures
