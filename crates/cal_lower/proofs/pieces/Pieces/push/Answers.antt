use Rattle.std.proofs.lemmas.Result.{IfOk-weaker}
use Rattle.cal_lower.specs.inside.Labels.{kind_of, label_text}
use Rattle.cal_lower.specs.inside.Shown.{DriveHasNumbers, drive_tree, driven}
use Rattle.cal_lower.proofs.PushLemmas.{one_piece, set_shown}
use Rattle.cal_lower.proofs.GrownLemmas.{labels_texts, pieces_kept, shows_kept}
use Rattle.cal_lower.proofs.pieces.Pieces.push.Goals as goal

pub returns-clause-pushed : goal.returns-clause-pushed
returns-clause-pushed c = λ pieces tree shows drives.
    let old = c.args.labels.now in
    let new = c.name.new.self in
    let kind = kind_of c.args.label in
    let text = label_text old.names c.args.label in
    let name = c.in_ok-name.name in
    let kept = c.name.ensures.kept in
    let are = labels_texts old new kept c.requires.texts in
    let named = c.in_ok-name.ensures.text in
    let before = pieces_kept old.names new.names pieces c.args.self.now kept.names shows in
    let drive = shows_kept DriveHasNumbers drive_tree old.names new.names tree c.args.drive kept.names drives in
    let cell = c.in_ok-piece_cell.ensures new.names text tree are named in
    let set = set_shown new.names kind text tree new.texts name c.port_of.result c.args.drive are named c.port_of.ensures drive in
    IfOk-weaker c.push_enable.result _ _
    (λ _ enables.
    one_piece new.names pieces (driven kind text tree) c.args.self.now (record { cells = c.push.new.self; sets = c.push_enable.new.sets }) c.in_ok-piece_cell.field-0 _ c.push-2.new.self.items before
    c.in_ok-push.ensures.items c.in_ok-push-2.ensures.items cell set enables)
    (c.push_enable.ensures new.names text are named)
