use Rattle.std.proofs.Common.{◌≡◌, ℕ, ◌<◌, List, All, length, take, subst, ap, ◌∙◌, arith}
use Rattle.std.proofs.Math.Seq.{take-length}
use Rattle.std.proofs.lemmas.List.Elements.{All-more}
use Rattle.fil_sig.proofs.ListLemmas.{told_true}
use Rattle.fil_rules.proofs.sharing.apart.are_below.Goals as goal

pub loop-number-preserved : goal.loop-number-preserved
loop-number-preserved c =
    let P : ℕ → Type 0 = λ k. k < c.args.end in
    All-more P c.args.numbers.now c.loop-number.number-index 0 c.loop-number-test.true c.loop-number.invariant (omega arith)

pub returns : goal.returns
returns c =
    let numbers = c.args.numbers.now in
    let P : ℕ → Type 0 = λ k. k < c.args.end in
    let A : List ℕ → Type 0 = All P in
    let end : c.loop-number.number-index ≡ length numbers = omega arith in
    told_true (All P numbers) (subst A (ap (λ k. take k numbers) end ∙ take-length numbers) c.loop-number.invariant)
