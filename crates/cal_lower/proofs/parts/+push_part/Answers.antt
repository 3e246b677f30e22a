use Rattle.std.proofs.Common.{◌≡◌, ℕ, ◌+◌, List, [], ◌∷◌, ◌++◌, Option, None, OnOk, drop, refl, sym, ap, ap₂, subst, ◌∙◌, rules}
use Rattle.std.proofs.lemmas.List.{drop_all}
use Rattle.std.proofs.lemmas.Result.{on_ok_weaker}
use Rattle.hw_names.proofs.NameLemmas.{text_of-KeepsTexts}
use Rattle.hw_names.specs.Name.{Text, text_of}
use Rattle.net_core.specs.Guard.{Negates}
use Rattle.cal_ast.specs.Actors.{GroupNamed}
use Rattle.cal_ast.specs.Plan.{Enables, InTurn, AtOnce, Chooses}
use Rattle.cal_ast.specs.Tree.{port_tree}
use Rattle.cal_ast.specs.declared.tree.Control.{Control, the_lemmas}
use Rattle.cal_ast.specs.declared.tree.Control.TheVariants as controls
use Rattle.cal_token.specs.inside.Tokens.{Starting, size}
use Rattle.cal_lower.specs.inside.Making.{ShowsParts, at_once_made, by_group, choice_made, in_turn_made, later_made, loop_made, part_made, turn_made, with_made}
use Rattle.cal_lower.specs.inside.Parts.{ends_wire, part_ends, tested_guard}
use Rattle.cal_lower.specs.inside.Pieces.{Piece, Register, both, piece, reads, shown, token_name}
use Rattle.cal_lower.specs.inside.Shown.{ShowsPieces, one_when}
use Rattle.cal_lower.specs.inside.Statements.{CanLower}
use Rattle.cal_lower.proofs.ArmLemmas.{by_source, enable_arm, if_arm, other_item, par_arm, seq_arm, while_arm}
use Rattle.cal_lower.proofs.GatherLemmas.{port_later}
use Rattle.cal_lower.proofs.GrownLemmas.{acts_kept, labels_refl, labels_texts, labels_trans, parts_kept, pieces_kept, source_port}
use Rattle.cal_lower.proofs.MakingLemmas.{ended_piece, later_lasts, later_over, one_alike, one_at_once, shows_alike, with_pieces}
use Rattle.cal_lower.proofs.NextLemmas.{at_index, drop_next}
use Rattle.cal_lower.proofs.SizeLemmas.{plan, plans}
use Rattle.cal_lower.proofs.StableLemmas.{KeepsTexts-trans, by_numbers, id_number}
use Rattle.cal_lower.proofs.StatementLemmas.{can_all_later, can_body, can_form, can_later, can_no, can_one, can_par, can_seq, can_yes}
use Rattle.cal_lower.proofs.TurnLemmas.{OnceSoFar, TurnSoFar, once_end, once_lasts, once_over, once_start, turn_end, turn_lasts, turn_over, turn_start}
use Rattle.cal_lower.proofs.parts.+push_part.Goals.{push_at_once-then-not-is_over+in_ok-push_ended+in_ok-push_part, push_at_once-else-not-is_over}
use Rattle.cal_lower.proofs.parts.+push_part.Goals.{push_in_turn-then-not-is_over+in_ok-push_turn, push_in_turn-else-not-is_over}
use Rattle.cal_lower.proofs.parts.+push_part.Goals as goal

-- ---- an enabled group

pub push_part-push_enable-requires-clause-group : goal.push_part-push_enable-requires-clause-group
push_part-push_enable-requires-clause-group t c =
    let (source, can) = c.requires.control in
    let names = c.args.labels.now.names in
    let here = can_form source names c.args.control.now (controls.Enable c.in-Enable.group) c.in-Enable.is can in
    id_number source names here.kept c.in-Enable.group here.numbers

pub push_part-returns-in-Enable-clause-made : goal.push_part-returns-in-Enable-clause-made
push_part-returns-in-Enable-clause-made t c = λ source item begin made can begin_is are.
    let old = c.args.labels.now.names in
    let new = c.push_enable.new.labels.names in
    let control = c.args.control.now in
    let group = c.in-Enable.group in
    let k = c.args.at.number in
    let start = reads begin in
    let here = can_form source old control (controls.Enable group) c.in-Enable.is can in
    let text = text_of-KeepsTexts source old group here.kept here.numbers in
    let parts = c.push_enable.new.parts in
    let more = λ (m : ShowsParts new (with_made made (part_made k (Enables (GroupNamed (text_of old group))) start)) parts).
    enable_arm source item control made k start new parts old group c.in-Enable.is can text m in
    on_ok_weaker c.push_enable.result more (c.push_enable.ensures.made begin made begin_is are)

-- ---- statements in turn

pub push_part-push_in_turn-requires : goal.push_part-push_in_turn-requires
push_part-push_in_turn-requires t c =
    let (source, can) = c.requires.control in
    let old = c.args.labels.now in
    let mid = c.push_turn_end.new.labels in
    let v = c.in-Seq.statements in
    let items = c.deref-in-Seq.result.now in
    let kept = c.push_turn_end.ensures.kept in
    let here = can_seq source old.names v items c.deref-in-Seq.ensures.value (can_form source old.names c.args.control.now (controls.Seq v) c.in-Seq.is can) in
    (search (rules, the_lemmas), (labels_texts old mid kept c.requires.texts, (source, can_all_later source old.names mid.names items kept.names here)))

pub push_part-returns-in_ok-push_turn_end-in-Seq-clause-made : goal.push_part-returns-in_ok-push_turn_end-in-Seq-clause-made
push_part-returns-in_ok-push_turn_end-in-Seq-clause-made t c = λ source item begin made can begin_is are.
    let old = c.args.labels.now.names in
    let mid = c.push_turn_end.new.labels.names in
    let new = c.push_in_turn.new.labels.names in
    let control = c.args.control.now in
    let v = c.in-Seq.statements in
    let items = c.deref-in-Seq.result.now in
    let same = c.deref-in-Seq.ensures.value in
    let k = c.args.at.number in
    let start = reads begin in
    let kept = c.push_turn_end.ensures.kept.names in
    let ends : List Control → List Piece = λ ss. ends_wire k (InTurn (plans source (item + 1) ss)) start ∷ [] in
    let P : List Control → Type 0 = λ ss. ShowsPieces mid (made.pieces ++ ends ss) c.push_turn_end.new.pieces in
    let pieces = subst P (c.deref.ensures.value ∙ sym same) (c.in_ok-push_turn_end-in-Seq.ensures.pushed source (item + 1) start made.pieces are.pieces) in
    let next = with_pieces made (ends items) in
    let here = can_seq source old v items same (can_form source old control (controls.Seq v) c.in-Seq.is can) in
    let inner = c.push_in_turn.ensures.made source (item + 1) begin next (can_all_later source old mid items kept here) (port_later old mid kept begin c.args.at.start begin_is)
    (record { pieces = pieces; acts = acts_kept old mid made.enabled made.tested c.args.parts.now.acts kept are.acts }) in
    let parts = c.push_in_turn.new.parts in
    let more = λ (m : ShowsParts new (with_made next (in_turn_made (k + 1) (plans source (item + 1) items) start)) parts).
    seq_arm source item control made k start new parts v items c.in-Seq.is same m in
    on_ok_weaker c.push_in_turn.result more inner

-- ---- statements at once

pub push_part-push_at_once-requires : goal.push_part-push_at_once-requires
push_part-push_at_once-requires t c =
    let (source, can) = c.requires.control in
    let old = c.args.labels.now in
    let mid = c.push_all_end.new.labels in
    let v = c.in-Par.statements in
    let items = c.deref-in-Par-2.result.now in
    let kept = c.push_all_end.ensures.kept in
    let here = can_par source old.names v items c.deref-in-Par-2.ensures.value (can_form source old.names c.args.control.now (controls.Par v) c.in-Par.is can) in
    (search (rules, the_lemmas), (labels_texts old mid kept c.requires.texts, (source, can_all_later source old.names mid.names items kept.names here)))

pub push_part-returns-in_ok-push_all_end-in-Par-clause-made : goal.push_part-returns-in_ok-push_all_end-in-Par-clause-made
push_part-returns-in_ok-push_all_end-in-Par-clause-made t c = λ source item begin made can begin_is are.
    let old = c.args.labels.now.names in
    let mid = c.push_all_end.new.labels.names in
    let new = c.push_at_once.new.labels.names in
    let control = c.args.control.now in
    let v = c.in-Par.statements in
    let items = c.deref-in-Par-2.result.now in
    let same = c.deref-in-Par-2.ensures.value in
    let k = c.args.at.number in
    let start = reads begin in
    let kept = c.push_all_end.ensures.kept.names in
    let ends : List Control → List Piece = λ ss. ends_wire k (AtOnce (plans source (item + 1) ss)) start ∷ [] in
    let P : List Control → Type 0 = λ ss. ShowsPieces mid (made.pieces ++ ends ss) c.push_all_end.new.pieces in
    let pieces = subst P (c.deref-in-Par.ensures.value ∙ sym same) (c.in_ok-push_all_end-in-Par.ensures.pushed source (item + 1) start made.pieces are.pieces) in
    let next = with_pieces made (ends items) in
    let here = can_par source old v items same (can_form source old control (controls.Par v) c.in-Par.is can) in
    let inner = c.push_at_once.ensures.made source (item + 1) begin next (can_all_later source old mid items kept here) (port_later old mid kept begin c.args.at.start begin_is)
    (record { pieces = pieces; acts = acts_kept old mid made.enabled made.tested c.args.parts.now.acts kept are.acts }) in
    let parts = c.push_at_once.new.parts in
    let more = λ (m : ShowsParts new (with_made next (at_once_made (k + 1) (plans source (item + 1) items) start (part_ends k))) parts).
    par_arm source item control made k start new parts v items c.in-Par.is same m in
    on_ok_weaker c.push_at_once.result more inner

-- ---- choices

pub push_part-push_choice-requires-clause-by : goal.push_part-push_choice-requires-clause-by
push_part-push_choice-requires-clause-by t c =
    let (source, can) = c.requires.control in
    let names = c.args.labels.now.names in
    let here = can_form source names c.args.control.now (controls.If c.in-If.port c.in-If.by c.in-If.yes c.in-If.no) c.in-If.is can in
    by_numbers source names here.kept c.in-If.by here.numbers.1

pub push_part-push_later-requires-in-If : goal.push_part-push_later-requires-in-If
push_part-push_later-requires-in-If t c =
    let (source, can) = c.requires.control in
    let old = c.args.labels.now in
    let mid = c.push_choice.new.labels in
    let new = c.push_later.new.labels in
    let kept = labels_trans old mid new c.push_choice.ensures.kept c.push_later.ensures.kept in
    let port = c.in-If.port in
    let by = c.in-If.by in
    let on = c.in-If.yes in
    let off = c.in-If.no in
    let here = can_no source old.names port by on off (can_form source old.names c.args.control.now (controls.If port by on off) c.in-If.is can) in
    let C : Control → Type 0 = CanLower source new.names in
    (search (rules, the_lemmas), (labels_texts old new kept c.requires.texts, (source, subst C (sym c.deref-in-If-5.ensures) (can_later source old.names new.names off.value kept.names here))))

pub push_part-returns-in_ok-next-in-If-2-clause-made : goal.push_part-returns-in_ok-next-in-If-2-clause-made
push_part-returns-in_ok-next-in-If-2-clause-made t c = λ source item begin made can begin_is are.
    let n0 = c.args.labels.now.names in
    let n1 = c.push_choice.new.labels.names in
    let n2 = c.push_later.new.labels.names in
    let n3 = c.push_later-in-If.new.labels.names in
    let k01 = c.push_choice.ensures.kept.names in
    let k02 = KeepsTexts-trans n0 n1 n2 k01 c.push_later.ensures.kept.names in
    let control = c.args.control.now in
    let k = c.args.at.number in
    let at = c.args.at.start in
    let start = reads begin in
    let port = c.in-If.port in
    let by = c.in-If.by in
    let on = c.in-If.yes in
    let off = c.in-If.no in
    let here = can_form source n0 control (controls.If port by on off) c.in-If.is can in
    let p = port_tree source port in
    let port_is = source_port source n0 port here.kept here.numbers.0 in
    let other = other_item source item on.value in
    let actor = by_group n0 by in
    let s = c.deref-in-If.result.now in
    let r = c.deref-in-If-3.result.now in
    let u = c.deref-in-If-4.result.now in
    let v = c.deref-in-If-5.result.now in
    let m = c.in_ok-after-in-If.field-0 in
    let n = c.in_ok-after_part-in-If.field-0 in
    let m_is : m ≡ k + 1 = c.in_ok-after-in-If.ensures in
    let n_is : n ≡ k + 1 + size (plan source (item + 1) on.value) =
    c.in_ok-after_part-in-If.ensures source (item + 1) ∙ ap₂ (λ (i : ℕ) (x : Control). i + size (plan source (item + 1) x)) m_is c.deref-in-If-2.ensures in
    let s_size = ap (λ (x : Control). k + 1 + size (plan source (item + 1) x)) (sym c.deref-in-If.ensures) in
    let first_made = with_made made (choice_made k (Chooses p actor (plan source (item + 1) s) (plan source other r)) actor start) in
    let first = c.in_ok-push_choice-in-If.ensures.made source (item + 1) other begin p made begin_is port_is (record { on = m_is; off = n_is ∙ s_size }) are in
    let C : List Text → Control → Type 0 = λ names x. CanLower source names x in
    let taken = both start (reads p) in
    let taken_is = c.in_ok-next-in-If.ensures n1 start (reads p) (c.in_ok-reads-in-If.ensures n1 begin (port_later n0 n1 k01 begin at begin_is)) (c.in_ok-reads-in-If-2.ensures n1 p (port_later n0 n1 k01 p port port_is)) in
    let can_on = subst (C n1) (sym c.deref-in-If-4.ensures) (can_later source n0 n1 on.value k01 (can_yes source n0 port by on off here)) in
    let second_made = with_made first_made (later_made m (plan source (item + 1) u) taken) in
    let second = c.in_ok-push_later-in-If.ensures.made source (item + 1) taken first_made can_on taken_is first in
    let left = both start (Negates (reads p)) in
    let left_is = c.in_ok-next-in-If-2.ensures n2 start p (c.in_ok-reads-in-If-3.ensures n2 begin (port_later n0 n2 k02 begin at begin_is)) (port_later n0 n2 k02 p port port_is) in
    let can_off = subst (C n2) (sym c.deref-in-If-5.ensures) (can_later source n0 n2 off.value k02 (can_no source n0 port by on off here)) in
    let third = c.push_later-in-If.ensures.made source other left second_made can_off left_is second in
    let parts = c.push_later-in-If.new.parts in
    let more = λ (h : ShowsParts n3 (with_made second_made (later_made n (plan source other v) left)) parts).
    if_arm source item control made k start n3 parts port by on off c.in-If.is actor (by_source source n0 by here.kept here.numbers.1) m n m_is n_is s u r v c.deref-in-If.ensures c.deref-in-If-4.ensures
    c.deref-in-If-3.ensures c.deref-in-If-5.ensures h in
    on_ok_weaker c.push_later-in-If.result more third

-- ---- loops

pub push_part-push_loop-requires-clause-by : goal.push_part-push_loop-requires-clause-by
push_part-push_loop-requires-clause-by t c =
    let (source, can) = c.requires.control in
    let names = c.args.labels.now.names in
    let here = can_form source names c.args.control.now (controls.While c.in-While.port c.in-While.by c.in-While.body) c.in-While.is can in
    by_numbers source names here.kept c.in-While.by here.numbers.1

pub push_part-returns-in_ok-next-in-While-clause-made : goal.push_part-returns-in_ok-next-in-While-clause-made
push_part-returns-in_ok-next-in-While-clause-made t c = λ source item begin made can begin_is are.
    let n0 = c.args.labels.now.names in
    let n1 = c.push_loop.new.labels.names in
    let n2 = c.tested.new.labels.names in
    let n3 = c.push_later-in-While.new.labels.names in
    let k01 = c.push_loop.ensures.kept.names in
    let k12 = c.tested.ensures.kept.names in
    let k02 = KeepsTexts-trans n0 n1 n2 k01 k12 in
    let control = c.args.control.now in
    let k = c.args.at.number in
    let at = c.args.at.start in
    let start = reads begin in
    let port = c.in-While.port in
    let by = c.in-While.by in
    let body = c.in-While.body in
    let here = can_form source n0 control (controls.While port by body) c.in-While.is can in
    let p = port_tree source port in
    let port_is = source_port source n0 port here.kept here.numbers.0 in
    let actor = by_group n0 by in
    let s = c.deref-in-While.result.now in
    let u = c.deref-in-While-2.result.now in
    let m = c.in_ok-number-in-While.number in
    let m_is : m ≡ k + 1 = c.in_ok-number-in-While.ensures in
    let first_made = with_made made (loop_made k p actor (plan source (item + 1) s) start) in
    let first = c.in_ok-push_loop-in-While.ensures.made source (item + 1) begin p made m_is begin_is port_is are in
    let C : Control → Type 0 = CanLower source n2 in
    let next = both (tested_guard k start) (reads p) in
    let tested_is = c.in_ok-tested-in-While.ensures.guard begin (port_later n0 n1 k01 begin at begin_is) in
    let next_is = c.in_ok-next-in-While.ensures n2 (tested_guard k start) (reads p) tested_is (c.in_ok-reads-in-While.ensures n2 p (port_later n0 n2 k02 p port port_is)) in
    let can_body_now = subst C (sym c.deref-in-While-2.ensures) (can_later source n0 n2 body.value k02 (can_body source n0 port by body here)) in
    let second = c.push_later-in-While.ensures.made source (item + 1) next first_made can_body_now next_is (parts_kept n1 n2 first_made c.push_loop.new.parts k12 first) in
    let parts = c.push_later-in-While.new.parts in
    let more = λ (h : ShowsParts n3 (with_made first_made (later_made m (plan source (item + 1) u) next)) parts).
    while_arm source item control made k start n3 parts port by body c.in-While.is actor (by_source source n0 by here.kept here.numbers.1) m m_is s u c.deref-in-While.ensures c.deref-in-While-2.ensures h in
    on_ok_weaker c.push_later-in-While.result more second

-- ---- a part that starts by its own token

pub push_later-returns-then-is_over-clause-made : goal.push_later-returns-then-is_over-clause-made
push_later-returns-then-is_over-clause-made t c = λ source item next made can guard are.
    let k = c.args.later.number in
    let p = plan source item c.args.control.now in
    let over = sym (c.is_over.ensures source item) ∙ c.if-is_over.true in
    shows_alike c.args.labels.now.names made (with_made made (later_made k p next)) c.args.parts.now (later_over made k p next over) are

pub push_later-returns-clause-made : goal.push_later-returns-clause-made
push_later-returns-clause-made t c = λ source item next made can guard are.
    let n0 = c.args.labels.now.names in
    let n1 = c.push.new.labels.names in
    let n2 = c.port.new.self.names in
    let n3 = c.push_part.new.labels.names in
    let k12 = c.port.ensures.kept.names in
    let k02 = KeepsTexts-trans n0 n1 n2 c.push.ensures.kept.names k12 in
    let k = c.args.later.number in
    let control = c.args.control.now in
    let p = plan source item control in
    let token = piece Register (token_name (Starting k)) next in
    let begin = shown (token_name (Starting k)) in
    let mid = with_pieces made (token ∷ []) in
    let pieces = c.in_ok-push.ensures.pushed made.pieces (one_when next) are.pieces (c.one_when.ensures n0 next guard) in
    let mid_are : ShowsParts n2 mid (record { pieces = c.push.new.self; acts = c.args.parts.now.acts }) = record {
      pieces = pieces_kept n1 n2 mid.pieces c.push.new.self k12 pieces;
      acts = acts_kept n0 n2 made.enabled made.tested c.args.parts.now.acts k02 are.acts;
    } in
    let inner = c.push_part.ensures.made source item begin mid (can_later source n0 n2 control k02 can) c.in_ok-start.ensures.port mid_are in
    let lasts = sym (c.is_over.ensures source item) ∙ c.if-is_over.false in
    let parts = c.push_part.new.parts in
    let more = λ (m : ShowsParts n3 (with_made mid (part_made k p (reads begin))) parts).
    shows_alike n3 (with_made mid (part_made k p (reads begin))) (with_made made (later_made k p next)) parts (later_lasts made k p next lasts) m in
    on_ok_weaker c.push_part.result more inner

-- ---- statements one after another

pub push_in_turn-loop-statement-init : goal.push_in_turn-loop-statement-init
push_in_turn-loop-statement-init t c = record {
  kept = labels_refl c.args.labels.now;
  groups = refl;
  made = λ source item start made can at shown.
      let ss = c.args.statements.now in
      let k = c.args.at.number in
      let names = c.args.labels.now.names in
      let whole = with_made made (in_turn_made (k + 1) (plans source item ss) (reads start)) in
      let N : ℕ → Type 0 = λ n. TurnSoFar source (reads start) whole names c.args.parts.now None n (drop 0 ss) in
      subst N (sym c.in_ok-number.ensures) (turn_start source (reads start) names c.args.parts.now made item (k + 1) ss (drop 0 ss) refl shown);
}

pub push_in_turn-push_turn-requires : goal.push_in_turn-push_turn-requires
push_in_turn-push_turn-requires t c =
    let (source, can) = c.requires.statements in
    let old = c.args.labels.now in
    let mid = c.loop-statement.labels in
    let ss = c.args.statements.now in
    let i = c.loop-statement.statement-index in
    let s = c.statement-item.result in
    let kept = c.loop-statement.invariant.kept in
    let at = at_index ss i s c.loop-statement-test.true c.statement-item.is in
    (search (rules, the_lemmas), (labels_texts old mid kept c.requires.texts, (source, can_later source old.names mid.names s kept.names (can_one source old.names ss i s at can))))

pub push_in_turn-loop-statement-preserved : goal.push_in_turn-loop-statement-preserved
push_in_turn-loop-statement-preserved t c =
    let old = c.args.labels.now in
    let mid = c.loop-statement.labels in
    let ss = c.args.statements.now in
    let i = c.loop-statement.statement-index in
    let s = c.statement-item.result in
    let at = at_index ss i s c.loop-statement-test.true c.statement-item.is in
    let next = drop_next ss i s at in
    let inv = c.loop-statement.invariant in
    let k = c.loop-statement.number in
    let number = c.in_ok-number-2.number in
    elim c.if-not-is_over.branch [
      | push_in_turn-then-not-is_over+in_ok-push_turn w ↦
          rw (w.labels-is, w.parts-is, w.before-is) (record {
            kept = labels_trans old mid w.push_turn.new.labels inv.kept w.push_turn.ensures.kept;
            groups = w.push_turn.ensures.groups ∙ inv.groups;
            made = λ source item begin made can begin_is are.
                let here = can_later source old.names mid.names s inv.kept.names (can_one source old.names ss i s at can) in
                let begin_now = port_later old.names mid.names inv.kept.names begin c.args.at.start begin_is in
                turn_lasts source (reads begin) _ mid.names c.loop-statement.parts c.loop-statement.before k number (drop i ss) (drop (i + 1) ss) s next (λ j. c.in_ok-number-2.ensures source j)
                w.push_turn.new.labels.names w.push_turn.new.parts (λ j. sym (c.is_over.ensures source j) ∙ w.if-not-is_over.true)
                (λ a j a_is. w.in_ok-push_turn.ensures.made source j begin a here begin_now a_is) (inv.made source item begin made can begin_is are);
          })
      | push_in_turn-else-not-is_over w ↦
          rw (w.labels-is, w.parts-is, w.before-is) (record {
            kept = inv.kept;
            groups = inv.groups;
            made = λ source item begin made can begin_is are.
                turn_over source (reads begin) _ mid.names c.loop-statement.parts c.loop-statement.before k number (drop i ss) (drop (i + 1) ss) s next (λ j. c.in_ok-number-2.ensures source j)
                (λ j. sym (c.is_over.ensures source j) ∙ w.if-not-is_over.false) (inv.made source item begin made can begin_is are);
          })
    ]

pub push_in_turn-returns-clause-made : goal.push_in_turn-returns-clause-made
push_in_turn-returns-clause-made t c = λ source item start made can at shown.
    let ss = c.args.statements.now in
    let i = c.loop-statement.statement-index in
    turn_end source (reads start) _ c.loop-statement.labels.names c.loop-statement.parts c.loop-statement.before c.loop-statement.number (drop i ss) (drop_all i ss c.loop-statement-test.false)
    (c.loop-statement.invariant.made source item start made can at shown)

pub push_turn-returns-in_ok-next-in-Some-clause-made : goal.push_turn-returns-in_ok-next-in-Some-clause-made
push_turn-returns-in_ok-next-in-Some-clause-made t c = λ source item start made can at are.
    let old = c.args.labels.now.names in
    let mid = c.part_ends.new.labels.names in
    let new = c.push_later.new.labels.names in
    let kept = c.part_ends.ensures.kept.names in
    let control = c.args.control.now in
    let k = c.args.turn.number in
    let p = plan source item control in
    let before = c.in-Some.before in
    let inner = c.push_later.ensures.made source item (part_ends before) made (can_later source old mid control kept can) c.in_ok-next-in-Some.ensures.guard (parts_kept old mid made c.args.parts.now kept are) in
    let B : Option ℕ → Type 0 = λ b. OnOk c.push_later.result (ShowsParts new (with_made made (turn_made b k p (reads start))) c.push_later.new.parts) in
    subst B (sym c.in-Some.is) inner

pub push_at_once-loop-statement-init : goal.push_at_once-loop-statement-init
push_at_once-loop-statement-init t c = record {
  kept = labels_refl c.args.labels.now;
  groups = refl;
  made = λ source item start made can at shown.
      let ss = c.args.statements.now in
      let k = c.args.at.number in
      let names = c.args.labels.now.names in
      let whole = with_made made (at_once_made (k + 1) (plans source item ss) (reads start) (part_ends k)) in
      let N : ℕ → Type 0 = λ n. OnceSoFar source (reads start) (part_ends k) whole names c.args.parts.now n (drop 0 ss) in
      subst N (sym c.in_ok-number.ensures) (once_start source (reads start) (part_ends k) names c.args.parts.now made item (k + 1) ss (drop 0 ss) refl shown);
}

pub push_at_once-loop-statement-preserved : goal.push_at_once-loop-statement-preserved
push_at_once-loop-statement-preserved t c =
    let old = c.args.labels.now in
    let mid = c.loop-statement.labels in
    let parts = c.loop-statement.parts in
    let ss = c.args.statements.now in
    let i = c.loop-statement.statement-index in
    let s = c.statement-item.result in
    let at = at_index ss i s c.loop-statement-test.true c.statement-item.is in
    let next = drop_next ss i s at in
    let inv = c.loop-statement.invariant in
    let k = c.loop-statement.number in
    let number = c.in_ok-number-2.number in
    let all = part_ends c.args.at.number in
    elim c.if-not-is_over.branch [
      | push_at_once-then-not-is_over+in_ok-push_ended+in_ok-push_part w ↦
          rw (w.labels-is, w.parts-is) (
          let between = w.push_ended.new.labels in
          let new = w.push_part.new.labels in
          let k1 = w.push_ended.ensures.kept in
          let so_far = labels_trans old mid between inv.kept k1 in
          record {
            kept = labels_trans old between new so_far w.push_part.ensures.kept;
            groups = w.push_part.ensures.groups ∙ inv.groups;
            made = λ source item begin made can begin_is are.
                let here = can_later source old.names between.names s so_far.names (can_one source old.names ss i s at can) in
                let begin_now = port_later old.names between.names so_far.names begin c.args.at.start begin_is in
                let start = reads begin in
                once_lasts source start all _ mid.names parts k number (drop i ss) (drop (i + 1) ss) s next (λ j. c.in_ok-number-2.ensures source j) new.names w.push_part.new.parts
                (λ j. sym (c.is_over.ensures source j) ∙ w.if-not-is_over.true)
                (λ a j a_is.
                let one = with_pieces a (ended_piece k all ∷ []) in
                let pieces = w.in_ok-push_ended.ensures.pushed a.pieces a_is.pieces in
                let acts = acts_kept mid.names between.names a.enabled a.tested parts.acts k1.names a_is.acts in
                shows_alike new.names (with_made one (part_made k (plan source j s) start)) (with_made a (one_at_once k (plan source j s) start all)) w.push_part.new.parts
                (one_alike a k (plan source j s) start all)
                (w.in_ok-push_part.ensures.made source j begin one here begin_now (record { pieces = pieces; acts = acts })))
                (inv.made source item begin made can begin_is are);
          })
      | push_at_once-else-not-is_over w ↦
          rw (w.labels-is, w.parts-is) (record {
            kept = inv.kept;
            groups = inv.groups;
            made = λ source item begin made can begin_is are.
                once_over source (reads begin) all _ mid.names parts k number (drop i ss) (drop (i + 1) ss) s next (λ j. c.in_ok-number-2.ensures source j)
                (λ j. sym (c.is_over.ensures source j) ∙ w.if-not-is_over.false) (inv.made source item begin made can begin_is are);
          })
    ]

pub push_at_once-returns-clause-made : goal.push_at_once-returns-clause-made
push_at_once-returns-clause-made t c = λ source item start made can at shown.
    let ss = c.args.statements.now in
    let i = c.loop-statement.statement-index in
    once_end source (reads start) (part_ends c.args.at.number) _ c.loop-statement.labels.names c.loop-statement.parts c.loop-statement.number (drop i ss) (drop_all i ss c.loop-statement-test.false)
    (c.loop-statement.invariant.made source item start made can at shown)
