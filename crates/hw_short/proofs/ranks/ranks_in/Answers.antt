use Rattle.std.proofs.Common.{◌≡◌, ◌∙◌, Vec, Global, ℕ, length, get_or, ap, subst, arith}
use Rattle.std.proofs.lemmas.List.{length_push}
use Rattle.hw_names.specs.Name.{Text}
use Rattle.hw_short.specs.inside.Ranks.{IsRank}
use Rattle.hw_short.proofs.RankLemmas.{ranks_more}
use Rattle.hw_short.proofs.ranks.ranks_in.Goals as goal

pub loop-text-preserved : goal.loop-text-preserved
loop-text-preserved c =
    let i = c.loop-text.text-index in
    let sorted = c.args.sorted.now in
    let texts = c.args.texts.now in
    let here = c.text-item.result in
    let item : here ≡ get_or texts i here = c.text-item.is in
    let rank : IsRank sorted (get_or texts i here).items c.rank_in.result =
    subst (λ (t : Text). IsRank sorted t c.rank_in.result) (c.deref.ensures.value ∙ ap (λ (t : Vec ℕ Global). t.items) item) c.rank_in.ensures in
    record {
      sized = omega (arith, ap length c.in_ok-push.ensures.items, length_push c.loop-text.ranks.items c.rank_in.result, c.loop-text.invariant.sized);
      each = ranks_more sorted texts c.loop-text.ranks.items c.push.new.self.items i c.rank_in.result here c.loop-text-test.true c.in_ok-push.ensures.items c.loop-text.invariant.sized rank c.loop-text.invariant.each;
    }
