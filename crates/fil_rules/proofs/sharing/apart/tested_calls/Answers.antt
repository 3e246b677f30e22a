use Rattle.std.proofs.Common.{◌≡◌, ℕ, ◌<◌, List, All, length, sym, subst, arith}
use Rattle.fil_place.proofs.GeneralLemmas.{clash}
use Rattle.fil_rules.proofs.sharing.apart.tested_calls.Goals as goal

pub returns-else-are_below-clause-calls : goal.returns-else-are_below-clause-calls
returns-else-are_below-clause-calls c within =
    let count : length c.args.tables.now.times.items ≡ c.len.result = omega (arith, c.args.tables.now.times.ok.0) in
    let A : List ℕ → Type 0 = All (λ (k : ℕ). k < c.len.result) in
    let B : ℕ → Type 0 = λ end. All (λ (k : ℕ). k < end) c.calls_of-calls.result.now in
    let C : List ℕ → Type 0 = All (λ (k : ℕ). k < length c.args.tables.now.times.items) in
    absurd (clash c.are_below.result (c.are_below.ensures.1 (subst B count (subst C (sym c.calls_of-calls.ensures) within))) c.if-are_below.false)
