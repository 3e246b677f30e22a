use Rattle.std.proofs.Common.{◌≡◌, ◌<◌, ◌^◌, Some, None, slice_index_or, refl, sym, ◌∙◌, arith}
use Rattle.fil_place.proofs.StartsLemmas.{IsPlaced, IsSmall, all_inserted, alone_inserted, puts_other}
use Rattle.fil_place.proofs.starts.Starts.add.Goals as goal

pub invariant_of-self : goal.invariant_of-self
invariant_of-self c =
    let starts = c.args.self.now in
    let n = c.args.instance in
    let f = c.in-Some.first in
    let is : slice_index_or starts.firsts.items n None ≡ Some f = sym c.first_of.ensures ∙ c.in-Some.is in
    let small : c.args.held.at.plus < 2 ^ 16 = omega arith in
    record {
      small = all_inserted starts.firsts.items n f is starts.others c.insert.new.self c.args.event c.args.held IsSmall c.insert.result c.insert.ensures.updates c.insert.ensures.err (small, c.requires.small) starts.small;
      placed = all_inserted starts.firsts.items n f is starts.others c.insert.new.self c.args.event c.args.held IsPlaced c.insert.result c.insert.ensures.updates c.insert.ensures.err refl starts.placed;
      alone = alone_inserted starts.firsts.items n f is starts.others c.insert.new.self c.args.event c.args.held c.insert.result c.insert.ensures.updates c.insert.ensures.err starts.alone;
    }

pub returns-in_ok-_before-in-Some : goal.returns-in_ok-_before-in-Some
returns-in_ok-_before-in-Some c =
    puts_other c.args.self.now _ c.args.instance c.args.event c.args.held c.in-Some.first (sym c.first_of.ensures ∙ c.in-Some.is) refl c.in_ok-_before-in-Some.ensures.updates
