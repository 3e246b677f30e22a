use Rattle.hw_graph.proofs.SearchLemmas.{root_opened, root_seen, root_kept}
use Rattle.hw_graph.proofs.search.Search.visit.Goals as goal

pub loop-top-init : goal.loop-top-init
loop-top-init c = record {
  search = root_opened c.args.reads.now c.args.self.now c.open.new.self c.args.port c.requires.search c.requires.port c.requires.unseen c.requires.path c.open.ensures.marks c.open.ensures.left c.in_ok-open.ensures.path c.open.ensures.order;
  seen = root_seen c.args.reads.now c.args.self.now c.open.new.self c.args.port c.requires.search c.requires.port c.requires.unseen c.requires.path c.open.ensures.marks c.open.ensures.left c.in_ok-open.ensures.path c.open.ensures.order;
  kept = root_kept c.args.reads.now c.args.self.now c.open.new.self c.args.port c.requires.search c.requires.port c.requires.unseen c.requires.path c.open.ensures.marks c.open.ensures.left c.in_ok-open.ensures.path c.open.ensures.order;
}
