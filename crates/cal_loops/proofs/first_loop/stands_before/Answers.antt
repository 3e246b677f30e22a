use Rattle.std.proofs.Common.{◌≡◌, ◌↔◌, ◌<◌, Option, ltb, false, sym, subst}
use Rattle.std.specs.Prelude.{IsTrue, MatchOption}
use Rattle.std.proofs.lemmas.Bool.Decides.{Decides-ltb}
use Rattle.cal_loops.specs.declared.first_loop.Looped.{Looped}
use Rattle.cal_loops.proofs.first_loop.stands_before.Goals as goal

pub returns-in-Some : goal.returns-in-Some
returns-in-Some c =
    let number = c.args.number in
    let test = ltb c.in-Some.found.number number in
    let B : Option Looped → Type 0 = λ o. MatchOption o (test ≡ false) (λ (looped : Looped). IsTrue test ↔ (looped.number < number)) in
    subst B (sym c.in-Some.is) (Decides-ltb c.in-Some.found.number number)
