use Rattle.std.proofs.Common.{◌≡◌, Global, Vec, List, Option, IfOk, option_map, sym, ap, subst, ◌∙◌}
use Rattle.stim_read.specs.Parts.{◌>>=◌, each, members_of}
use Rattle.stim_read.specs.CycleText.{given_by}
use Rattle.stim_read.specs.declared.given.Given.{Given}
use Rattle.stim_read.proofs.SeenLemmas.{members_seen}
use Rattle.stim_read.proofs.given.read_givens.Goals as goal

pub returns-in-Some : goal.returns-in-Some
returns-in-Some c =
    let f = given_by c.args.version in
    let e = ap (each f) (sym (members_seen c.in-Some.members.now.entries)) ∙ ap (λ o. option_map members_of o >>= each f) c.in-Some.ensures in
    subst (λ (m : Option (List Given)). IfOk c.givens_of.result (λ o. option_map (λ (v : Vec Given Global). v.items) o ≡ m)) e c.givens_of.ensures

pub returns-in-None : goal.returns-in-None
returns-in-None c = ap (λ o. option_map members_of o >>= each (given_by c.args.version)) c.in-None.ensures
