use Rattle.std.proofs.Common.{◌<◌, length, set, refl, arith, length-set}
use Rattle.std.proofs.lemmas.List.Elements.{All-contains}
use Rattle.std.proofs.lemmas.Option.{slice_get_read}
use Rattle.cal_ast.proofs.ListLemmas.{Contains-at}
use Rattle.cal_ast.specs.declared.lowered.ActRule.{ActRule}
use Rattle.cal_group.proofs.TableLemmas.{places_none, places_more}
use Rattle.cal_group.proofs.remove.rules_by_component.Goals as goal

pub loop-place-init : goal.loop-place-init
loop-place-init c = record {
  len = c.in_ok-lists.ensures.len;
  places = places_none c.in_ok-lists.lists.items c.in_ok-lists.ensures.empty;
}

pub loop-place-preserved : goal.loop-place-preserved
loop-place-preserved c =
    let acts = c.args.acts.now in
    let lists = c.loop-place.lists.items in
    let i = c.loop-place.place in
    let rule = c.index-acts-place.result in
    let old = c.index_mut.result.now in
    let at = slice_get_read acts (length acts) i rule refl c.loop-place-test.true c.index-acts-place.is in
    let in_count : rule.comp < c.args.count = All-contains (λ (r : ActRule). r.comp < c.args.count) acts rule c.requires (Contains-at acts i rule at) in
    let within : rule.comp < length lists = omega (arith, in_count, c.loop-place.invariant.len) in
    let was = slice_get_read lists (length lists) rule.comp old refl within c.index_mut.ensures.value in
    record {
      len = simp length-set c.loop-place.invariant.len;
      places = places_more acts lists (set lists rule.comp c.push.new.self) i rule old c.push.new.self at was c.in_ok-push.ensures.items refl c.loop-place.invariant.places;
    }
