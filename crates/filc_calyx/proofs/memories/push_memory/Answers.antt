use Rattle.std.proofs.Common.{◌<◌, ◌++◌, ◌∙◌, length, arith}
use Rattle.std.proofs.lemmas.Result.{on_ok_weaker}
use Rattle.hw_prims.specs.State.{memory_words}
use Rattle.net_core.specs.Netlist.{netlist_of}
use Rattle.net_sim.specs.Sim.{states_of}
use Rattle.filc_report.specs.Rows.{memory_text}
use Rattle.filc_calyx.proofs.GrowLemmas.{word_more, words_end}
use Rattle.filc_calyx.proofs.memories.push_memory.Goals as goal

pub word-requires : goal.word-requires
word-requires c = record {
  memory = c.requires.shown;
  within = λ cell prim is. let count = c.word_count-at-end.ensures cell prim is in omega (arith, c.loop-at-test.true, count.0);
}

pub loop-at-preserved : goal.loop-at-preserved
loop-at-preserved c = λ cell prim is.
    let words = memory_words (states_of (netlist_of c.args.sim.now.net) c.args.sim.now.states cell prim) in
    let count = c.word_count-at-end.ensures cell prim is in
    let within : c.loop-at.at < length words = omega (arith, c.loop-at-test.true, count.1) in
    word_more words c.loop-at.at c.value.result c.loop-at.text.items c.put-in-loop-at.new.out.items c.put_number.new.out.items (c.args.text.now.items ++ memory_text c.args.name.now words) within
    (c.value.ensures ∙ c.word.ensures.value cell prim is) c.in_ok-put-3.ensures c.in_ok-put_number.ensures (c.loop-at.invariant cell prim is)

pub returns : goal.returns
returns c = λ cell prim is.
    let words = memory_words (states_of (netlist_of c.args.sim.now.net) c.args.sim.now.states cell prim) in
    let count = c.word_count-at-end.ensures cell prim is in
    on_ok_weaker c.put-3.result
    (words_end words c.loop-at.at c.loop-at.text.items c.put-3.new.out.items (c.args.text.now.items ++ memory_text c.args.name.now words) (omega (arith, c.loop-at-test.false, count.1)) (c.loop-at.invariant cell prim is))
    c.put-3.ensures
