use Rattle.std.proofs.Common.{rules, length, ◌∙◌, arith}
use Rattle.hw_cells.proofs.PairLemmas.{all_done, left_within, more_done, none_done}
use Rattle.hw_cells.proofs.pairs.add_pairs.Goals as goal

pub add_pairs_together-requires-clause-few : goal.add_pairs_together-requires-clause-few
add_pairs_together-requires-clause-few c = omega (arith, c.in-Some.ensures.steps.1.1, c.loop-some.invariant.size)

pub add_pairs_together-requires-clause-within : goal.add_pairs_together-requires-clause-within
add_pairs_together-requires-clause-within c =
    left_within c.args.reads.now (length c.args.reads.now) c.args.starts.now c.in-Some.some.now _ _ c.args.entries.now.items c.loop-some.entries.items c.in-Some.ensures.steps.1.0 c.loop-some.invariant.done c.requires.within

pub loop-some-init : goal.loop-some-init
loop-some-init c = record {
  next = search rules;
  finite = tt;
  size = search rules;
  done = none_done c.args.reads.now c.args.starts.now _ c.args.entries.now.items (search rules);
}

pub loop-some-preserved : goal.loop-some-preserved
loop-some-preserved c =
    let steps = c.in-Some.ensures.steps in
    record {
      next = search rules;
      finite = tt;
      size = steps.0 ∙ c.loop-some.invariant.size;
      done = more_done c.args.reads.now c.args.starts.now c.in-Some.some.now _ _ c.args.entries.now.items c.loop-some.entries.items c.add_pairs_together.new.entries.items steps.1.0 c.in_ok-add_pairs_together.ensures c.loop-some.invariant.done;
    }

pub returns : goal.returns
returns c = all_done c.args.reads.now c.args.starts.now _ c.args.entries.now.items c.loop-some.entries.items c.in-None.ensures.steps.1.0 c.loop-some.invariant.done
