use Rattle.std.proofs.Common.{rules, ◌<◌, ◌+◌, ◌++◌, [], ◌∷◌, codes, decimal, length, refl, ◌∙◌, subst, arith}
use Rattle.std.proofs.lemmas.List.{append-nil}
use Rattle.std.proofs.lemmas.Result.{on_ok_weaker, on_err_weaker}
use Rattle.hw_io.specs.Writing.{AppendsPrefix, Passes}
use Rattle.hw_prims.specs.State.{memory_words}
use Rattle.net_core.specs.Netlist.{netlist_of}
use Rattle.net_sim.specs.Sim.{states_of}
use Rattle.filc_report.specs.Rows.{memory_text}
use Rattle.filc_report.proofs.MemoryLemmas.{rest_of_words, next_word, last_word, memory_from}
use Rattle.filc_stop.proofs.SinkLemmas.{passed_up_to_none, passed_up_to_more, passed_up_to_prefix, passed_up_to_all}
use Rattle.filc_report.proofs.memories.push_memory.Goals as goal

pub returns-in_err-push_texts-clause-prefix : goal.returns-in_err-push_texts-clause-prefix
returns-in_err-push_texts-clause-prefix g c cell prim is =
    let told = g.O.Sink.written in
    let name = c.args.name.now in
    let words = memory_words (states_of (netlist_of c.args.sim.now.net) c.args.sim.now.states cell prim) in
    let all = memory_text name words in
    let late : AppendsPrefix (told c.args.out.now) (told c.push_texts.new.out) (c.args.held.now ++ (codes "mem " ++ name)) =
    subst (λ t. AppendsPrefix (told c.args.out.now) (told c.push_texts.new.out) (c.args.held.now ++ (codes "mem " ++ t))) (append-nil name) (rw c.as_bytes.ensures.value at c.in_err-push_texts.ensures.prefix) in
    let prefix = passed_up_to_prefix (told c.args.out.now) (told c.args.out.now) (told c.push_texts.new.out) c.args.held.now c.args.held.now (codes "mem " ++ name) all (rest_of_words words 0) all (memory_from name words) (passed_up_to_none (told c.args.out.now) c.args.held.now all) late in
    search (rules, prefix)

pub loop-at-init : goal.loop-at-init
loop-at-init g c =
    let told = g.O.Sink.written in
    let name = c.args.name.now in
    let late : Passes (told c.args.out.now) c.args.held.now (told c.push_texts.new.out) c.push_texts.new.held (codes "mem " ++ name) =
    subst (λ t. Passes (told c.args.out.now) c.args.held.now (told c.push_texts.new.out) c.push_texts.new.held (codes "mem " ++ t)) (append-nil name) (rw c.as_bytes.ensures.value at c.in_ok-push_texts.ensures.passed) in
    record {
      passed = λ cell prim is.
          let words = memory_words (states_of (netlist_of c.args.sim.now.net) c.args.sim.now.states cell prim) in
          let all = memory_text name words in
          passed_up_to_more (told c.args.out.now) (told c.args.out.now) (told c.push_texts.new.out) c.args.held.now c.args.held.now c.push_texts.new.held (codes "mem " ++ name) all (rest_of_words words 0) all (memory_from name words) (passed_up_to_none (told c.args.out.now) c.args.held.now all) late;
      never_falls = c.in_ok-push_texts.ensures.never_falls;
    }

pub word-requires : goal.word-requires
word-requires g c = record {
  memory = c.requires.shown;
  within = λ cell prim is. let count = c.word_count-at-end.ensures cell prim is in omega (arith, c.loop-at-test.true, count.0);
}

pub returns-in_err-push_texts-2-clause-prefix : goal.returns-in_err-push_texts-2-clause-prefix
returns-in_err-push_texts-2-clause-prefix g c cell prim is =
    let told = g.O.Sink.written in
    let at = c.loop-at.at in
    let word = c.value-word.result in
    let words = memory_words (states_of (netlist_of c.args.sim.now.net) c.args.sim.now.states cell prim) in
    let count = c.word_count-at-end.ensures cell prim is in
    let within : at < length words = omega (arith, c.loop-at-test.true, count.1) in
    let parts = next_word words at word within (c.value-word.ensures ∙ c.word.ensures.value cell prim is) in
    let late : AppendsPrefix (told c.loop-at.out) (told c.push_texts-in-loop-at.new.out) (c.loop-at.held ++ (codes " " ++ decimal word)) =
    subst (λ t. AppendsPrefix (told c.loop-at.out) (told c.push_texts-in-loop-at.new.out) (c.loop-at.held ++ (codes " " ++ t))) (append-nil (decimal word)) (rw (c.as_bytes-in-loop-at.ensures.value, c.as_bytes-in-loop-at-2.ensures.value, c.format.ensures.text) at c.in_err-push_texts-2.ensures.prefix) in
    let prefix = passed_up_to_prefix (told c.args.out.now) (told c.loop-at.out) (told c.push_texts-in-loop-at.new.out) c.args.held.now c.loop-at.held (codes " " ++ decimal word) (rest_of_words words at) (rest_of_words words (at + 1)) (memory_text c.args.name.now words) parts (c.loop-at.invariant.passed cell prim is) late in
    search (rules, prefix)

pub loop-at-preserved : goal.loop-at-preserved
loop-at-preserved g c =
    let told = g.O.Sink.written in
    let at = c.loop-at.at in
    let word = c.value-word.result in
    let late : Passes (told c.loop-at.out) c.loop-at.held (told c.push_texts-in-loop-at.new.out) c.push_texts-in-loop-at.new.held (codes " " ++ decimal word) =
    subst (λ t. Passes (told c.loop-at.out) c.loop-at.held (told c.push_texts-in-loop-at.new.out) c.push_texts-in-loop-at.new.held (codes " " ++ t)) (append-nil (decimal word)) (rw (c.as_bytes-in-loop-at.ensures.value, c.as_bytes-in-loop-at-2.ensures.value, c.format.ensures.text) at c.in_ok-push_texts-2.ensures.passed) in
    record {
      passed = λ cell prim is.
          let words = memory_words (states_of (netlist_of c.args.sim.now.net) c.args.sim.now.states cell prim) in
          let count = c.word_count-at-end.ensures cell prim is in
          let within : at < length words = omega (arith, c.loop-at-test.true, count.1) in
          let parts = next_word words at word within (c.value-word.ensures ∙ c.word.ensures.value cell prim is) in
          passed_up_to_more (told c.args.out.now) (told c.loop-at.out) (told c.push_texts-in-loop-at.new.out) c.args.held.now c.loop-at.held c.push_texts-in-loop-at.new.held (codes " " ++ decimal word) (rest_of_words words at) (rest_of_words words (at + 1)) (memory_text c.args.name.now words) parts (c.loop-at.invariant.passed cell prim is) late;
      never_falls = omega (arith, c.loop-at.invariant.never_falls, c.in_ok-push_texts-2.ensures.never_falls);
    }

pub returns-clause-passed : goal.returns-clause-passed
returns-clause-passed g c cell prim is =
    let told = g.O.Sink.written in
    let words = memory_words (states_of (netlist_of c.args.sim.now.net) c.args.sim.now.states cell prim) in
    let all = memory_text c.args.name.now words in
    let count = c.word_count-at-end.ensures cell prim is in
    let last = last_word words c.loop-at.at (omega (arith, c.loop-at-test.false, count.1)) in
    on_ok_weaker c.push.result
    (λ passed. passed_up_to_all (told c.args.out.now) (told c.push.new.sink) c.args.held.now c.push.new.self [] all refl
    (passed_up_to_more (told c.args.out.now) (told c.loop-at.out) (told c.push.new.sink) c.args.held.now c.loop-at.held c.push.new.self (10 ∷ []) (rest_of_words words c.loop-at.at) [] all last (c.loop-at.invariant.passed cell prim is) passed))
    (rw c.as_bytes-2.ensures.value at c.push.ensures.passed)

pub returns-clause-prefix : goal.returns-clause-prefix
returns-clause-prefix g c cell prim is =
    let told = g.O.Sink.written in
    let words = memory_words (states_of (netlist_of c.args.sim.now.net) c.args.sim.now.states cell prim) in
    let all = memory_text c.args.name.now words in
    let count = c.word_count-at-end.ensures cell prim is in
    let last = last_word words c.loop-at.at (omega (arith, c.loop-at-test.false, count.1)) in
    on_err_weaker c.push.result
    (λ prefix. passed_up_to_prefix (told c.args.out.now) (told c.loop-at.out) (told c.push.new.sink) c.args.held.now c.loop-at.held (10 ∷ []) (rest_of_words words c.loop-at.at) [] all last (c.loop-at.invariant.passed cell prim is) prefix)
    (rw c.as_bytes-2.ensures.value at c.push.ensures.prefix)
