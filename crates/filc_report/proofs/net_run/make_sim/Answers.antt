use Rattle.filc_report.proofs.RunLemmas.{list_loaded}
use Rattle.filc_report.proofs.net_run.make_sim.Goals as goal

pub returns : goal.returns
returns c =
    list_loaded c.args.built.now.net c.args.list.now c.in_ok-sim.sim c.load_memories.new.sim c.deref.result.now c.deref.ensures.value c.in_ok-sim.ensures c.load_memories.ensures.loaded
