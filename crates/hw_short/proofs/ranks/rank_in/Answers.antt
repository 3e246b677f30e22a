use Rattle.std.proofs.Common.{rules, arith}
use Rattle.std.specs.Cmp.Lexicographic.{slice_cmp}
use Rattle.std.specs.Ordering.{is_lt, nat_cmp}
use Rattle.std.proofs.lemmas.List.Sorted.{IsPartitionPoint-from_clause}
use Rattle.hw_short.proofs.RankLemmas.{lt_less, not_lt, parted}
use Rattle.hw_short.proofs.ranks.rank_in.Goals as goal

pub returns : goal.returns
returns c =
    let text = c.args.text.now in
    let point = IsPartitionPoint-from_clause (λ t. is_lt (slice_cmp nat_cmp t.items text)) c.args.sorted.now c.partition_point.result c.partition_point.ensures.partitioned (parted text c.args.sorted.now c.requires) (λ a r q k. search rules) in
    record {
      within = c.partition_point.ensures.bound;
      below = λ k d lt. lt_less _ (point.0 k d (omega arith) lt);
      above = λ k d le lt. not_lt _ (point.1 k d le lt);
    }
