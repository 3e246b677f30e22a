use Rattle.std.proofs.Common.{◌<◌, length, refl, sym, subst, ◌∙◌, arith}
use Rattle.std.proofs.lemmas.List.{length-set}
use Rattle.std.proofs.lemmas.Option.{slice_get_within}
use Rattle.cal_ast.specs.declared.tree.Group.{Group}
use Rattle.cal_walk.proofs.OverLemmas.{at_index}
use Rattle.cal_walk.proofs.TableLemmas.{tells_more, tells_none, tells_all}
use Rattle.cal_walk.proofs.planning.Numbers.number_groups.Goals as goal

pub loop-number-init : goal.loop-number-init
loop-number-init c = record {
  sized = refl;
  tells = tells_none (λ (g : Group). g.name.0) (λ number (g : Group). number) c.args.groups.now c.args.self.now.groups.items;
  made = refl;
}

pub index_mut-requires : goal.index_mut-requires
index_mut-requires c =
    let item = c.index-groups-number.result in
    let old = c.args.self.now.groups in
    let now = c.loop-number.self.groups in
    let here : item.name.0 < length old.items = subst (λ (g : Group). g.name.0 < length old.items) (sym c.index-groups-number.is) (c.requires c.loop-number.number item c.loop-number-test.true) in
    omega (arith, here, now.ok.0, c.loop-number.invariant.sized)

pub loop-number-preserved : goal.loop-number-preserved
loop-number-preserved c =
    let groups = c.args.groups.now in
    let i = c.loop-number.number in
    let item = c.index-groups-number.result in
    let old = c.args.self.now.groups.items in
    let now = c.loop-number.self.groups.items in
    let here : item.name.0 < length old = subst (λ (g : Group). g.name.0 < length old) (sym c.index-groups-number.is) (c.requires i item c.loop-number-test.true) in
    let within : item.name.0 < length now = omega (arith, here, c.loop-number.invariant.sized) in
    record {
      sized = length-set now item.name.0 i ∙ c.loop-number.invariant.sized;
      tells = tells_more (λ (g : Group). g.name.0) (λ number (g : Group). number) groups i item now (at_index groups i item c.loop-number-test.true c.index-groups-number.is) within c.loop-number.invariant.tells;
      made = c.loop-number.invariant.made;
    }

pub returns-clause-groups : goal.returns-clause-groups
returns-clause-groups c =
    let groups = c.args.groups.now in
    tells_all (λ (g : Group). g.name.0) (λ number (g : Group). number) groups c.loop-number.number c.loop-number.self.groups.items
    (λ k g at. omega (arith, slice_get_within groups k g at, c.loop-number-test.false)) c.loop-number.invariant.tells
