use Rattle.std.proofs.Common.{◌≡◌, ℕ, ◌+◌, Bool, true, false, List, [], ◌∷◌, ◌++◌, drop, refl, sym, ap, ap₂, subst, ◌∙◌, arith}
use Rattle.std.proofs.lemmas.Result.{on_ok_weaker}
use Rattle.hw_names.specs.Name.{Text, text_of}
use Rattle.cal_ast.specs.Actors.{GroupNamed, InvokeAt}
use Rattle.cal_ast.specs.Plan.{Plan}
use Rattle.cal_ast.specs.declared.tree.Control.{Control}
use Rattle.cal_token.specs.inside.Tokens.{Again, Ended, Going, size}
use Rattle.cal_lower.proofs.NextLemmas.{at_index, drop_next}
use Rattle.cal_lower.proofs.SizeLemmas.{plan, plan_par, plan_seq, plans}
use Rattle.cal_lower.proofs.StableLemmas.{KeepsTexts-trans}
use Rattle.cal_state.specs.inside.Making.{ShowsRegisters, ShowsThread, Walk, at_once_walk, branch_walk, one_place, part_walk, start_walk, turn_walk, turns_walk, with_walk}
use Rattle.cal_state.specs.inside.Threads.{NoState, Thread, ended_state, lasting_states, place_in, thread_of}
use Rattle.cal_state.specs.declared.places.Entry.{Entry}
use Rattle.cal_state.specs.declared.threads.Thread as code
use Rattle.cal_state.proofs.MadeLemmas.{state_shown, thread_kept, thread_push, walk_kept}
use Rattle.cal_state.proofs.WalkArmLemmas.{if_walk, other_item, while_walk}
use Rattle.cal_state.proofs.WalkLemmas.{at_once_arm, enables_arm, in_turn_arm, lasting_branch, lasting_turn, one_thread, over_turn}
use Rattle.cal_state.proofs.WalkLoopLemmas.{once_next, shows_same, turns_next}
use Rattle.cal_state.proofs.places.+push_part.Goals as goal

-- ---- the forms of statements

pub push_part-returns-in-Enable-clause-made : goal.push_part-returns-in-Enable-clause-made
push_part-returns-in-Enable-clause-made t c = λ source item thread walk entry shows.
    let n0 = c.args.names.now in
    let at = c.args.at in
    let p = plan source item c.args.control.now in
    let going = place_in (Going at.number) thread at.state in
    let one = with_walk walk (one_place NoState) in
    let same = enables_arm walk thread at.state at.number p (GroupNamed (text_of source c.in-Enable.field-0)) (ap (plan source item) c.in-Enable.is) in
    let state = state_shown n0 thread at.state at.thread c.first.result c.first.ensures entry in
    on_ok_weaker c.push-in-Enable.result
    (λ h. shows_same n0 (with_walk one (one_place going)) (with_walk walk (part_walk thread at.state at.number p)) c.push-in-Enable.new.self same h)
    (c.push-in-Enable.ensures n0 one going (c.in_ok-push.ensures n0 walk NoState shows tt) state)

pub push_part-returns-in-Invoke-clause-made : goal.push_part-returns-in-Invoke-clause-made
push_part-returns-in-Invoke-clause-made t c = λ source item thread walk entry shows.
    let n0 = c.args.names.now in
    let at = c.args.at in
    let p = plan source item c.args.control.now in
    let going = place_in (Going at.number) thread at.state in
    let one = with_walk walk (one_place NoState) in
    let same = enables_arm walk thread at.state at.number p (InvokeAt item) (ap (plan source item) c.in-Invoke.is) in
    let state = state_shown n0 thread at.state at.thread c.first-in-Invoke.result c.first-in-Invoke.ensures entry in
    on_ok_weaker c.push-in-Invoke.result
    (λ h. shows_same n0 (with_walk one (one_place going)) (with_walk walk (part_walk thread at.state at.number p)) c.push-in-Invoke.new.self same h)
    (c.push-in-Invoke.ensures n0 one going (c.in_ok-push.ensures n0 walk NoState shows tt) state)

pub push_part-returns-in_ok-inner-in-Seq-clause-made : goal.push_part-returns-in_ok-inner-in-Seq-clause-made
push_part-returns-in_ok-inner-in-Seq-clause-made t c = λ source item thread walk entry shows.
    let n0 = c.args.names.now in
    let at = c.args.at in
    let p = plan source item c.args.control.now in
    let items = c.deref.result.now in
    let ps = plans source (item + 1) items in
    let e : Entry = c.in_ok-inner-in-Seq.field-0 in
    let e_is = c.in_ok-inner-in-Seq.ensures in
    let E : Entry → Type 0 = λ x. ShowsThread n0 thread x.thread in
    let one = with_walk walk (one_place NoState) in
    let same =
    in_turn_arm walk thread at.state at.number p ps e.later e.state e.number (ap (λ (x : Entry). x.later) e_is) (ap (λ (x : Entry). x.state) e_is) (ap (λ (x : Entry). x.number) e_is)
    (plan_seq source item c.args.control.now c.in-Seq.statements items c.in-Seq.is c.deref.ensures.value) in
    on_ok_weaker c.push_in_turn.result
    (λ h. shows_same c.push_in_turn.new.names (with_walk one (turns_walk e.later thread e.state e.number ps)) (with_walk walk (part_walk thread at.state at.number p)) c.push_in_turn.new.places same h)
    (c.push_in_turn.ensures.made source (item + 1) thread one (subst E (sym e_is) entry) (c.in_ok-push.ensures n0 walk NoState shows tt))

pub push_part-returns-in_ok-plus-in-Par-clause-made : goal.push_part-returns-in_ok-plus-in-Par-clause-made
push_part-returns-in_ok-plus-in-Par-clause-made t c = λ source item thread walk entry shows.
    let at = c.args.at in
    let p = plan source item c.args.control.now in
    let items = c.deref-in-Par.result.now in
    let ps = plans source (item + 1) items in
    let m : ℕ = c.in_ok-plus-in-Par.field-0 in
    let one = with_walk walk (one_place NoState) in
    let same = at_once_arm walk thread at.state at.number p ps m c.in_ok-plus-in-Par.ensures
    (plan_par source item c.args.control.now c.in-Par.statements items c.in-Par.is c.deref-in-Par.ensures.value) in
    on_ok_weaker c.push_at_once.result
    (λ h. shows_same c.push_at_once.new.names (with_walk one (at_once_walk m ps)) (with_walk walk (part_walk thread at.state at.number p)) c.push_at_once.new.places same h)
    (c.push_at_once.ensures.made source (item + 1) one (c.in_ok-push.ensures c.args.names.now walk NoState shows tt))

pub push_part-returns-in_ok-after-in-If-clause-made : goal.push_part-returns-in_ok-after-in-If-clause-made
push_part-returns-in_ok-after-in-If-clause-made t c = λ source item thread walk entry shows.
    let n0 = c.args.names.now in
    let n1 = c.push_turn.new.names in
    let at = c.args.at in
    let control = c.args.control.now in
    let p = plan source item control in
    let s = c.deref-in-If.result.now in
    let r = c.deref-in-If-2.result.now in
    let u = c.deref-in-If-3.result.now in
    let other = other_item source item c.in-If.yes.value in
    let e : Entry = c.in_ok-on-in-If.on in
    let e_is = c.in_ok-on-in-If.ensures in
    let f : Entry = c.in_ok-after-in-If.field-0 in
    let f_is = c.in_ok-after-in-If.ensures source (item + 1) in
    let same =
    if_walk source item control walk thread at.thread at.state at.number c.in-If.port c.in-If.by c.in-If.yes c.in-If.no c.in-If.is e f s r u
    c.deref-in-If.ensures c.deref-in-If-2.ensures c.deref-in-If-3.ensures e_is f_is in
    let T : code.Thread → Type 0 = ShowsThread n0 thread in
    let U : code.Thread → Type 0 = ShowsThread n1 thread in
    let to_e : at.thread ≡ e.thread = sym (ap (λ (x : Entry). x.thread) e_is) in
    let to_f : at.thread ≡ f.thread = to_e ∙ sym (ap (λ (x : Entry). x.thread) f_is) in
    let one = with_walk walk (one_place NoState) in
    let two = with_walk one (turn_walk e.later thread e.state e.number (plan source (item + 1) s)) in
    let second = c.in_ok-push_turn-in-If.ensures.made source (item + 1) thread one (subst T to_e entry) (c.in_ok-push.ensures n0 walk NoState shows tt) in
    on_ok_weaker c.push_turn-in-If.result
    (λ h. shows_same c.push_turn-in-If.new.names (with_walk two (turn_walk f.later thread f.state f.number (plan source other r))) (with_walk walk (part_walk thread at.state at.number p))
    c.push_turn-in-If.new.places same h)
    (c.push_turn-in-If.ensures.made source other thread two (subst U to_f (thread_kept n0 n1 c.push_turn.ensures.kept thread at.thread entry)) second)

pub push_part-returns-in_ok-inner-in-While-clause-made : goal.push_part-returns-in_ok-inner-in-While-clause-made
push_part-returns-in_ok-inner-in-While-clause-made t c = λ source item thread walk entry shows.
    let n0 = c.args.names.now in
    let at = c.args.at in
    let control = c.args.control.now in
    let p = plan source item control in
    let s = c.deref-in-While.result.now in
    let e : Entry = c.in_ok-inner-in-While.field-0 in
    let e_is = c.in_ok-inner-in-While.ensures in
    let same =
    while_walk source item control walk thread at.thread at.state at.number c.in-While.port c.in-While.by c.in-While.body c.in-While.is e s c.deref-in-While.ensures e_is in
    let E : Entry → Type 0 = λ x. ShowsThread n0 thread x.thread in
    let again = place_in (Again at.number) thread at.state in
    let one = with_walk walk (one_place NoState) in
    let two = with_walk one (one_place again) in
    let state = state_shown n0 thread at.state at.thread c.first-in-While.result c.first-in-While.ensures entry in
    let second = c.in_ok-push-in-While.ensures n0 one again (c.in_ok-push.ensures n0 walk NoState shows tt) state in
    on_ok_weaker c.push_turn-in-While.result
    (λ h. shows_same c.push_turn-in-While.new.names (with_walk two (turn_walk e.later thread e.state e.number (plan source (item + 1) s))) (with_walk walk (part_walk thread at.state at.number p))
    c.push_turn-in-While.new.places same h)
    (c.push_turn-in-While.ensures.made source (item + 1) thread two (subst E (sym e_is) entry) second)

-- ---- parts in turn

pub push_turn-returns-then-is_over-clause-made : goal.push_turn-returns-then-is_over-clause-made
push_turn-returns-then-is_over-clause-made t c = λ source item thread walk entry shows.
    let at = c.args.at in
    let p = plan source item c.args.control.now in
    let over = sym (c.is_over.ensures source item) ∙ c.if-is_over.true in
    shows_same c.args.names.now walk (with_walk walk (turn_walk at.later thread at.state at.number p)) c.args.places.now (over_turn walk thread at.state at.number p at.later over) shows

pub push_turn-returns-clause-made : goal.push_turn-returns-clause-made
push_turn-returns-clause-made t c = λ source item thread walk entry shows.
    let at = c.args.at in
    let p = plan source item c.args.control.now in
    let lasts = sym (c.is_over.ensures source item) ∙ c.if-is_over.false in
    let first = with_walk walk (start_walk at.later thread at.state at.number) in
    let started = c.in_ok-push_start.ensures c.args.names.now thread walk entry shows in
    on_ok_weaker c.push_part.result
    (λ h. shows_same c.push_part.new.names (with_walk first (part_walk thread at.state at.number p)) (with_walk walk (turn_walk at.later thread at.state at.number p)) c.push_part.new.places
    (lasting_turn walk thread at.state at.number p at.later lasts) h)
    (c.push_part.ensures.made source item thread first entry started)

pub push_in_turn-loop-statement-preserved : goal.push_in_turn-loop-statement-preserved
push_in_turn-loop-statement-preserved t c =
    let n0 = c.args.names.now in
    let n1 = c.loop-statement.names in
    let n2 = c.push_turn.new.names in
    let ss = c.args.statements.now in
    let i = c.loop-statement.statement-index in
    let s = c.statement-item.result in
    let next = drop_next ss i s (at_index ss i s c.loop-statement-test.true c.statement-item.is) in
    let first = c.args.first in
    record {
      kept = KeepsTexts-trans n0 n1 n2 c.loop-statement.invariant.kept c.push_turn.ensures.kept;
      so_far = λ source item thread walk entry shows.
          let so = c.loop-statement.invariant.so_far source item thread walk entry shows in
          turns_next source thread (with_walk walk (turns_walk first.later thread first.state first.number (plans source item ss))) n1 n2 c.loop-statement.places c.push_turn.new.places
          c.loop-statement.at c.in_ok-at.at (drop i ss) (drop (i + 1) ss) s c.push_turn.ensures.kept next so (c.in_ok-push_turn.ensures.made source so.item thread so.so_far so.entry so.shows)
          (c.in_ok-at.ensures source so.item);
    }

-- ---- parts at once

pub push_branch-returns-clause-made : goal.push_branch-returns-clause-made
push_branch-returns-clause-made t c = λ source item walk shows.
    let n0 = c.args.names.now in
    let n1 = c.add.new.names in
    let n2 = c.push_part.new.names in
    let k = c.args.number in
    let p = plan source item c.args.control.now in
    let last : ℕ = c.in_ok-last.last in
    let counted = c.in_ok-last.ensures source item in
    let last_is : last ≡ lasting_states p + 1 = omega (arith, counted) in
    let lasts = sym (c.is_over.ensures source item) ∙ c.if-is_over.false in
    let tree = thread_of k p in
    let made : Thread = record { part = k; last = last } in
    let same : made ≡ tree = ap (λ (l : ℕ). record { part = k; last = l }) last_is in
    let T : Thread → Type 0 = λ th. ShowsThread n1 th c.in_ok-thread.thread in
    let R : Thread → Type 0 = λ th. ShowsRegisters n1 (walk.threads ++ th ∷ []) c.add.new.self in
    let thread = subst T same c.in_ok-thread.ensures.thread in
    let registers = subst R same (c.in_ok-thread.ensures.made walk.threads shows.registers) in
    let one = with_walk walk (one_thread tree) in
    let two = with_walk one (one_place (place_in (Ended k) tree ended_state)) in
    let old = c.args.places.now in
    let first = thread_push n1 walk tree old (record { registers = c.add.new.self; pieces = old.pieces }) (walk_kept n0 n1 c.add.ensures.kept walk old shows) registers refl in
    let second = c.in_ok-push.ensures n1 one (place_in (Ended k) tree ended_state) first (state_shown n1 tree ended_state c.in_ok-thread.thread _ refl thread) in
    on_ok_weaker c.push_part.result
    (λ h. shows_same n2 (with_walk two (part_walk tree 2 k p)) (with_walk walk (branch_walk k p)) c.push_part.new.places (lasting_branch walk k p lasts) h)
    (c.push_part.ensures.made source item tree two thread second)

pub push_at_once-loop-statement-preserved : goal.push_at_once-loop-statement-preserved
push_at_once-loop-statement-preserved t c =
    let n0 = c.args.names.now in
    let n1 = c.loop-statement.names in
    let n2 = c.push_branch.new.names in
    let ss = c.args.statements.now in
    let i = c.loop-statement.statement-index in
    let s = c.statement-item.result in
    let next = drop_next ss i s (at_index ss i s c.loop-statement-test.true c.statement-item.is) in
    record {
      kept = KeepsTexts-trans n0 n1 n2 c.loop-statement.invariant.kept c.push_branch.ensures.kept;
      so_far = λ source item walk shows.
          let so = c.loop-statement.invariant.so_far source item walk shows in
          once_next source (with_walk walk (at_once_walk c.args.first (plans source item ss))) n1 n2 c.loop-statement.places c.push_branch.new.places
          c.loop-statement.number c.in_ok-number.number (drop i ss) (drop (i + 1) ss) s next so (c.in_ok-push_branch.ensures.made source so.item so.so_far so.shows)
          (c.in_ok-number.ensures source so.item);
    }
