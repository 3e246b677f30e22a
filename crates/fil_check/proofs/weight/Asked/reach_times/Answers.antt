use Rattle.std.proofs.Common.{◌≡◌, List, ◌++◌, length, take, get_or, subst, sym, ap, ◌∙◌, arith}
use Rattle.std.proofs.Math.Seq.{take-length}
use Rattle.std.proofs.lemmas.List.{length-map}
use Rattle.fil_ast.specs.Tree.{TimeAt}
use Rattle.fil_place.specs.Times.{known, time_shown}
use Rattle.fil_check.specs.inside.Weights.{IsAsked}
use Rattle.fil_place.specs.declared.times.Offset.{Offset}
use Rattle.fil_place.proofs.TimeLemmas.{time_at}
use Rattle.fil_check.proofs.WeightLemmas.{stands, times_more}
use Rattle.fil_check.proofs.weight.Asked.reach_times.Goals as goal

no_offset : Offset
no_offset = record { event = 0; plus = 0 }

pub loop-time-preserved : goal.loop-time-preserved
unfolding no_offset
loop-time-preserved c events needs times gives distinct are asked =
    let at = c.args.at.now in
    let i = c.loop-time.time-index in
    let o = get_or at i no_offset in
    let (t, here, shown) = time_at events at gives are i o (stands at i no_offset c.loop-time-test.true) in
    let A : List TimeAt → Type 0 = λ ts. IsAsked events needs ts c.reach_time.new.self in
    subst A (times_more times gives i t here)
    (c.reach_time.ensures events needs (times ++ take i gives) t distinct shown (c.loop-time.invariant events needs times gives distinct are asked))

pub returns : goal.returns
returns c events needs times gives distinct are asked =
    let same : length c.args.at.now ≡ length gives = sym (length-map c.args.at.now (time_shown events)) ∙ ap length are ∙ length-map gives known in
    let end : c.loop-time.time-index ≡ length gives = omega (arith, same) in
    let A : List TimeAt → Type 0 = λ ts. IsAsked events needs (times ++ ts) c.loop-time.self in
    subst A (take-length gives) (subst (λ k. A (take k gives)) end (c.loop-time.invariant events needs times gives distinct are asked))
