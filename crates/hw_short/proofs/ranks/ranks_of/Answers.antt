use Rattle.std.proofs.Common.{List, Vec, Global, ℕ, subst}
use Rattle.std.proofs.lemmas.Result.{IfOk-weaker}
use Rattle.hw_short.specs.inside.Ranks.{HaveRanks}
use Rattle.hw_short.proofs.RankLemmas.{tell_order}
use Rattle.hw_short.proofs.ranks.ranks_of.Goals as goal

pub returns : goal.returns
returns c =
    let texts = c.args.texts.now in
    IfOk-weaker c.ranks_in.result _ _
    (λ ranks have. tell_order texts c.args.copies.items c.sort.new.self.items c.requires c.in_ok-sort.ensures.permutation ranks.items
    (subst (λ (l : List (Vec ℕ Global)). HaveRanks l texts ranks.items) c.deref.ensures.value have))
    c.ranks_in.ensures
