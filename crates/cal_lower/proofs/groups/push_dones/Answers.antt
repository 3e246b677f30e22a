use Rattle.std.proofs.Common.{◌++◌, List, map, take, sym, subst}
use Rattle.std.proofs.lemmas.List.{append-nil, take_all}
use Rattle.cal_ast.specs.Numbers.{DoneHasNumbers}
use Rattle.cal_ast.specs.Tree.{done_tree}
use Rattle.cal_ast.specs.declared.tree.DoneSet.{DoneSet}
use Rattle.cal_lower.specs.inside.Lowered.{done_wire}
use Rattle.cal_lower.specs.inside.Pieces.{Piece}
use Rattle.cal_lower.specs.inside.Shown.{ShowsPieces}
use Rattle.cal_lower.proofs.CopiedLemmas.{done_drive, done_driven}
use Rattle.cal_lower.proofs.GroupPieceLemmas.{dones_next}
use Rattle.cal_lower.proofs.GrownLemmas.{labels_refl, labels_texts, labels_trans}
use Rattle.cal_lower.proofs.NextLemmas.{All-at, at_index}
use Rattle.cal_lower.proofs.StableLemmas.{KeepsTexts-trans, id_number}
use Rattle.cal_lower.proofs.groups.push_dones.Goals as goal

pub loop-done-init : goal.loop-done-init
loop-done-init c = record {
  kept = labels_refl c.args.labels.now;
  texts = c.requires.texts;
  pushed = λ source list kept all shows.
      let P : List Piece → Type 0 = λ l. ShowsPieces c.args.labels.now.names l c.args.pieces.now in
      subst P (sym (append-nil list)) shows;
}

pub push-requires-clause-number : goal.push-requires-clause-number
push-requires-clause-number c =
    let (source, kept, all) = c.requires.numbers in
    let dones = c.args.dones.now in
    let i = c.loop-done.done-index in
    let d = c.done-item.result in
    let inv = c.loop-done.invariant in
    let known = All-at (DoneHasNumbers source) dones i d (at_index dones i d c.loop-done-test.true c.done-item.is) all in
    id_number source c.loop-done.labels.names (KeepsTexts-trans source c.args.labels.now.names c.loop-done.labels.names kept inv.kept.names) d.of known.0

pub loop-done-preserved : goal.loop-done-preserved
loop-done-preserved c =
    let first = c.args.labels.now in
    let before = c.loop-done.labels in
    let after = c.push.new.labels in
    let inv = c.loop-done.invariant in
    let dones = c.args.dones.now in
    let i = c.loop-done.done-index in
    let d = c.done-item.result in
    let at = at_index dones i d c.loop-done-test.true c.done-item.is in
    record {
      kept = labels_trans first before after inv.kept c.push.ensures.kept;
      texts = labels_texts before after c.push.ensures.kept inv.texts;
      pushed = λ source list kept all shows.
          let known = All-at (DoneHasNumbers source) dones i d at all in
          let kept_now = KeepsTexts-trans source first.names before.names kept inv.kept.names in
          let so_far = list ++ map done_wire (map (done_tree source) (take i dones)) in
          let drive = done_driven source before.names kept_now d c.in_ok-copy_when.field-0 c.in_ok-copy_when.ensures known in
          dones_next source list before.names after.names kept_now dones i d c.push.new.self at known.0
          (c.in_ok-push.ensures.pushed so_far (done_drive source before.names kept_now d) (inv.pushed source list kept all shows) drive);
    }

pub returns-clause-pushed : goal.returns-clause-pushed
returns-clause-pushed c = λ source list kept all shows.
    let D : List DoneSet → Type 0 = λ ds. ShowsPieces c.loop-done.labels.names (list ++ map done_wire (map (done_tree source) ds)) c.loop-done.pieces in
    subst D (take_all c.loop-done.done-index c.args.dones.now c.loop-done-test.false) (c.loop-done.invariant.pushed source list kept all shows)
