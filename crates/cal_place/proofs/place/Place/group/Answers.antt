use Rattle.std.proofs.Common.{◌≡◌, Bor, List, Some, None, map, option_map, slice_get, sym, ap, subst, ◌∙◌}
use Rattle.hw_names.specs.Name.{Text, text_of}
use Rattle.cal_ast.specs.Naming.{group_names}
use Rattle.cal_ast.specs.Tree.{GroupDef, group_tree}
use Rattle.cal_ast.specs.declared.tree.Group.{Group}
use Rattle.cal_place.specs.Around.{comp_at, names_at}
use Rattle.cal_place.specs.FirstPlaces.{TellsFirst}
use Rattle.cal_place.proofs.FoundLemmas.{found_first, found_none}
use Rattle.cal_place.proofs.PlaceLemmas.{got_mapped}
use Rattle.cal_place.proofs.PlaceTableLemmas.{groups_at, stands}
use Rattle.cal_place.proofs.place.Place.group.Goals as goal

pub returns-in_err-find : goal.returns-in_err-find
returns-in_err-find c =
    let p = c.args.self.now in
    let known = stands c.self.inside p c.self.view_is c.self.invariant in
    let groups = (comp_at p).groups in
    let T : Text → Type 0 = λ t. TellsFirst (group_names groups) t None in
    let absent = subst T c.text.ensures (c.in_err-find.ensures (group_names groups) known.groups) in
    ap (option_map (λ (g : Bor Group). group_tree (names_at p) g.now)) c.from_residual.ensures
    ∙ sym (found_none (λ (g : GroupDef). g.name) groups (text_of (names_at p) c.args.name) absent)

pub returns : goal.returns
returns c =
    let p = c.args.self.now in
    let known = stands c.self.inside p c.self.view_is c.self.invariant in
    let groups = (comp_at p).groups in
    let tree = group_tree (names_at p) in
    let place = c.in_ok-find.field-0 in
    let T : Text → Type 0 = λ t. TellsFirst (group_names groups) t (Some place) in
    let first = subst T c.text.ensures (c.in_ok-find.ensures (group_names groups) known.groups) in
    let listed : map tree c.deref.result.now ≡ groups = ap (map tree) c.deref.ensures.value ∙ groups_at c.self.inside p c.self.view_is in
    got_mapped tree c.deref.result.now place c.get.result c.get.ensures.lookup ∙ ap (λ (l : List GroupDef). slice_get l place) listed
    ∙ sym (found_first (λ (g : GroupDef). g.name) groups (text_of (names_at p) c.args.name) place first)
