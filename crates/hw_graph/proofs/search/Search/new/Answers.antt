use Rattle.std.proofs.Common.{rules}
use Rattle.hw_graph.proofs.SearchLemmas.{search_none}
use Rattle.hw_graph.proofs.search.Search.new.Goals as goal

pub returns-clause-search : goal.returns-clause-search
returns-clause-search c =
    search_none c.args.reads.now _ (search rules) c.in_ok-unread.ensures c.new.ensures.items c.new-2.ensures.items
