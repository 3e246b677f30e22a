use Rattle.std.proofs.lemmas.Result.{on_ok_weaker, on_err_weaker}
use Rattle.net_core.specs.Netlist.{netlist_of}
use Rattle.net_sim.specs.Sim.{states_of}
use Rattle.filc_report.specs.Rows.{memories_text}
use Rattle.filc_report.proofs.MemoryLemmas.{passed_then_written, passed_then_part}
use Rattle.filc_report.proofs.memories.write_memories.Goals as goal

pub returns-clause-appended : goal.returns-clause-appended
returns-clause-appended g c =
    let told = g.O.Sink.written in
    let n = netlist_of c.args.net.now in
    on_ok_weaker c.flush.result
    (λ late. passed_then_written (told c.args.out.now) (told c.push_memories.new.out) (told c.flush.new.sink) c.args.held.now c.push_memories.new.held (memories_text n (states_of n c.args.sim.now.states)) c.in_ok-push_memories.ensures.passed late)
    c.flush.ensures.appended

pub returns-clause-prefix : goal.returns-clause-prefix
returns-clause-prefix g c =
    let told = g.O.Sink.written in
    let n = netlist_of c.args.net.now in
    on_err_weaker c.flush.result
    (λ late. passed_then_part (told c.args.out.now) (told c.push_memories.new.out) (told c.flush.new.sink) c.args.held.now c.push_memories.new.held (memories_text n (states_of n c.args.sim.now.states)) c.in_ok-push_memories.ensures.passed late)
    c.flush.ensures.prefix
