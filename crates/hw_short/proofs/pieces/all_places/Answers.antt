use Rattle.std.proofs.Common.{◌≡◌, Some, get_or, slice_get}
use Rattle.std.proofs.lemmas.Option.{slice_get-get_or}
use Rattle.hw_short.specs.declared.full_name.FullName.TheVariants.{Own}
use Rattle.hw_short.proofs.ShortNameLemmas.{none_placed, places_all, places_more}
use Rattle.hw_short.proofs.pieces.all_places.Goals as goal

pub loop-name-init : goal.loop-name-init
loop-name-init c = record {
  have = none_placed c.args.pieces.now.keys c.args.full.now c.new-places.result.items c.new-places.ensures.items;
  fit = λ count all start. start;
}

pub loop-name-preserved : goal.loop-name-preserved
loop-name-preserved c =
    let full = c.args.full.now in
    let i = c.loop-name.name-index in
    let item = get_or full i (Own 0) in
    let at : slice_get full i ≡ Some item = slice_get-get_or full i (Own 0) c.loop-name-test.true in
    let put = c.in_ok-places_in.ensures in
    record {
      have = places_more c.loop-name.pieces.keys c.places_in.new.pieces.keys full i c.loop-name.places.items c.push.new.self.items item c.in_ok-places_in.field-0 put.kept at put.places c.in_ok-push.ensures.items c.loop-name.invariant.have;
      fit = λ count all start. put.fit count (all i (Own 0) c.loop-name-test.true) (c.loop-name.invariant.fit count all start);
    }

pub returns-clause-places : goal.returns-clause-places
returns-clause-places c = places_all c.loop-name.pieces.keys c.args.full.now c.loop-name.name-index c.loop-name.places.items c.loop-name-test.false c.loop-name.auto.name-index-end c.loop-name.invariant.have

pub returns-clause-fit : goal.returns-clause-fit
returns-clause-fit c = c.loop-name.invariant.fit
