use Rattle.std.proofs.Common.{List, Bool, false, sym, ap, subst, ◌∙◌, unwrap_or}
use Rattle.std.specs.Slice.{IsItemAt}
use Rattle.std.proofs.lemmas.Option.{unwrap_or-slice_get}
use Rattle.cal_place.proofs.GuardLemmas.{both_ways}
use Rattle.cal_place.proofs.ListLemmas.{got}
use Rattle.cal_place.proofs.PlaceTableLemmas.{held_part, mark_told, stands}
use Rattle.cal_place.proofs.place.Place.comes_back.Goals as goal

pub returns : goal.returns
returns c comp at =
    let i = c.self.inside in
    let p = c.args.self.now in
    let known = stands i p c.self.view_is c.self.invariant in
    let marks = i.holders.items in
    let I : List Bool → Type 0 = λ ms. IsItemAt ms c.args.part c.get.result in
    let look = c.copied.ensures ∙ got marks c.args.part c.get.result (subst I c.deref.ensures.value c.get.ensures.lookup) in
    let value = c.unwrap_or.ensures ∙ ap (λ o. unwrap_or o false) look ∙ unwrap_or-slice_get marks c.args.part false in
    let told = mark_told p i.tables.now i.cells i.groups marks known c.args.part comp c.requires.new (held_part p i.tables.now i.cells i.groups marks known c.args.part c.requires.cell) at in
    both_ways (λ t. sym value ∙ t, λ e. value ∙ e) told
