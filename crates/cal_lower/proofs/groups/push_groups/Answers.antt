use Rattle.std.proofs.Common.{◌++◌, List, map, flat_map, take, sym, subst}
use Rattle.std.proofs.lemmas.List.{append-nil, take_all}
use Rattle.cal_ast.specs.Tree.{group_tree}
use Rattle.cal_ast.specs.declared.tree.Group.{Group}
use Rattle.cal_lower.specs.inside.Lowered.{group_pieces}
use Rattle.cal_lower.specs.inside.Making.{CanLowerGroup}
use Rattle.cal_lower.specs.inside.Pieces.{Piece}
use Rattle.cal_lower.specs.inside.Shown.{ShowsPieces}
use Rattle.cal_lower.proofs.GroupPieceLemmas.{can_group_later, groups_next}
use Rattle.cal_lower.proofs.GrownLemmas.{labels_refl, labels_texts, labels_trans}
use Rattle.cal_lower.proofs.NextLemmas.{All-at, at_index}
use Rattle.cal_lower.proofs.groups.push_groups.Goals as goal

pub loop-group-init : goal.loop-group-init
loop-group-init c = record {
  kept = labels_refl c.args.labels.now;
  texts = c.requires.texts;
  pushed = λ source plan list all shows.
      let P : List Piece → Type 0 = λ l. ShowsPieces c.args.labels.now.names l c.args.pieces.now in
      subst P (sym (append-nil list)) shows;
}

pub push_group-requires-clause-group : goal.push_group-requires-clause-group
push_group-requires-clause-group c =
    let (source, plan, all) = c.requires.groups in
    let old = c.args.labels.now.names in
    let groups = c.args.groups.now in
    let i = c.loop-group.group-index in
    let g = c.group-item.result in
    let inv = c.loop-group.invariant in
    let can = All-at (CanLowerGroup source old plan c.args.acts.now) groups i g (at_index groups i g c.loop-group-test.true c.group-item.is) all in
    (source, plan, can_group_later source old c.loop-group.labels.names plan c.args.acts.now g inv.kept.names can)

pub loop-group-preserved : goal.loop-group-preserved
loop-group-preserved c =
    let first = c.args.labels.now in
    let before = c.loop-group.labels in
    let after = c.push_group.new.labels in
    let inv = c.loop-group.invariant in
    let groups = c.args.groups.now in
    let i = c.loop-group.group-index in
    let g = c.group-item.result in
    let at = at_index groups i g c.loop-group-test.true c.group-item.is in
    record {
      kept = labels_trans first before after inv.kept c.push_group.ensures.kept;
      texts = labels_texts before after c.push_group.ensures.kept inv.texts;
      pushed = λ source plan list all shows.
          let can = All-at (CanLowerGroup source first.names plan c.args.acts.now) groups i g at all in
          let can_now = can_group_later source first.names before.names plan c.args.acts.now g inv.kept.names can in
          let so_far = list ++ flat_map (group_pieces plan) (map (group_tree source) (take i groups)) in
          groups_next source plan list after.names groups i g c.push_group.new.pieces at
          (c.in_ok-push_group.ensures.pushed source plan so_far can_now (inv.pushed source plan list all shows));
    }

pub returns-clause-pushed : goal.returns-clause-pushed
returns-clause-pushed c = λ source plan list all shows.
    let D : List Group → Type 0 = λ gs. ShowsPieces c.loop-group.labels.names (list ++ flat_map (group_pieces plan) (map (group_tree source) gs)) c.loop-group.pieces in
    subst D (take_all c.loop-group.group-index c.args.groups.now c.loop-group-test.false) (c.loop-group.invariant.pushed source plan list all shows)
