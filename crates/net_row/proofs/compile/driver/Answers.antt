use Rattle.std.proofs.Common.{refl}
use Rattle.net_row.proofs.MadeLemmas.{driver_added, steps_after}
use Rattle.net_row.specs.declared.compile.Made.{Made}
use Rattle.net_row.proofs.compile.driver.Goals as goal

pub add_truths-requires-clause-made : goal.add_truths-requires-clause-made
add_truths-requires-clause-made c = steps_after c.args.numbered.now c.args.made.now _ c.in_ok-source.ensures.extends refl refl refl c.requires.made

pub returns : goal.returns
returns c =
    let old = c.args.made.now in
    let mid : Made = record { steps = c.source.new.steps; ports = old.ports; truths = old.truths; clashes = old.clashes } in
    driver_added c.args.numbered.now c.requires.numbered old mid c.add_truths.new.made c.args.number c.index-2.result.now c.index.result.now _ c.requires.made c.requires.number c.index.ensures c.index-2.ensures c.in_ok-source.ensures refl refl refl c.in_ok-add_truths.ensures c.in_ok-truth.ensures
