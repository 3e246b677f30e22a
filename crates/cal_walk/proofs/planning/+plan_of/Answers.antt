use Rattle.std.proofs.Common.{◌≡◌, ◌+◌, ◌<◌, List, [], length, take, sym, subst, arith, rules}
use Rattle.std.proofs.lemmas.List.{take_all}
use Rattle.cal_ast.specs.Items.{statements_in}
use Rattle.cal_ast.specs.Tree.{statement_tree}
use Rattle.cal_ast.specs.declared.tree.Control.{Control, the_lemmas}
use Rattle.cal_ast.specs.declared.tree.Control.TheVariants as controls
use Rattle.cal_walk.specs.declared.plan.Plan.{Plan}
use Rattle.cal_walk.specs.declared.plan.Plan.TheVariants as variants
use Rattle.cal_walk.proofs.ArmLemmas.{PlannedAll, as_form, of_form, read_branch, boxed_branch, empty_branch, branch_can, branch_planned, enable_group, enable_arm, seq_can, seq_arm, par_can, par_arm, if_port, if_tested, if_group, if_yes, if_no, if_arm, while_port, while_tested, while_group, while_body, while_arm, invoke_numbers, invoke_arm, one_can, one_planned, none_planned}
use Rattle.cal_walk.proofs.OverLemmas.{at_index, one_more}
use Rattle.cal_walk.proofs.PlanLemmas.{can_after, group_within}
use Rattle.cal_walk.proofs.WithinLemmas.{read_at}
use Rattle.cal_walk.proofs.planning.+plan_of.Goals as goal

-- ---- an enabled group

pub plan_of-index-requires : goal.plan_of-index-requires
plan_of-index-requires t c =
    let (names, comp, can) = c.requires in
    let old = c.args.planner.now in
    let mid = c.count_item.new.self in
    let name = c.in-Enable.name in
    let here = as_form names comp c.args.control.now (controls.Enable name) old c.in-Enable.is can in
    let named = enable_group names comp name old here in
    let groups = mid.numbers.now.groups in
    let within : name.0 < length groups.items = group_within names comp mid name (can_after names comp old mid can.can c.in_ok-item.ensures.counted) named.0 named.1 in
    omega (arith, within, groups.ok.0)

pub plan_of-returns-in-Enable : goal.plan_of-returns-in-Enable
plan_of-returns-in-Enable t c = λ names comp can.
    let old = c.args.planner.now in
    let mid = c.count_item.new.self in
    let name = c.in-Enable.name in
    let k = c.index.result.now in
    let here = as_form names comp c.args.control.now (controls.Enable name) old c.in-Enable.is can in
    let named = enable_group names comp name old here in
    let counted = c.in_ok-item.ensures.counted in
    let groups = mid.numbers.now.groups in
    let within = group_within names comp mid name (can_after names comp old mid can.can counted) named.0 named.1 in
    of_form names comp c.args.control.now (controls.Enable name) old mid (variants.Enables k) c.in-Enable.is
    (enable_arm names comp name old mid k here counted (read_at groups name.0 k within c.index.ensures))

-- ---- blocks

pub plan_of-plans_of-requires : goal.plan_of-plans_of-requires
plan_of-plans_of-requires t c =
    let (names, comp, can) = c.requires in
    let old = c.args.planner.now in
    let v = c.in-Seq.statements in
    let here = as_form names comp c.args.control.now (controls.Seq v) old c.in-Seq.is can in
    (search (rules, the_lemmas), (names, comp, seq_can names comp v c.deref.result.now old c.count_item.new.self c.deref.ensures.value here c.in_ok-item.ensures.counted))

pub plan_of-returns-in_ok-plans_of-in-Seq : goal.plan_of-returns-in_ok-plans_of-in-Seq
plan_of-returns-in_ok-plans_of-in-Seq t c = λ names comp can.
    let old = c.args.planner.now in
    let mid = c.count_item.new.self in
    let new = c.plans_of.new.planner in
    let v = c.in-Seq.statements in
    let items = c.deref.result.now in
    let plans = c.in_ok-plans_of-in-Seq.field-0 in
    let counted = c.in_ok-item.ensures.counted in
    let here = as_form names comp c.args.control.now (controls.Seq v) old c.in-Seq.is can in
    of_form names comp c.args.control.now (controls.Seq v) old new (variants.InTurn plans) c.in-Seq.is
    (seq_arm names comp v items old mid new plans c.deref.ensures.value here counted (c.in_ok-plans_of-in-Seq.ensures names comp (seq_can names comp v items old mid c.deref.ensures.value here counted)))

pub plan_of-plans_of-requires-in-Par : goal.plan_of-plans_of-requires-in-Par
plan_of-plans_of-requires-in-Par t c =
    let (names, comp, can) = c.requires in
    let old = c.args.planner.now in
    let v = c.in-Par.statements in
    let here = as_form names comp c.args.control.now (controls.Par v) old c.in-Par.is can in
    (search (rules, the_lemmas), (names, comp, par_can names comp v c.deref-in-Par.result.now old c.count_item.new.self c.deref-in-Par.ensures.value here c.in_ok-item.ensures.counted))

pub plan_of-returns-in_ok-plans_of-in-Par : goal.plan_of-returns-in_ok-plans_of-in-Par
plan_of-returns-in_ok-plans_of-in-Par t c = λ names comp can.
    let old = c.args.planner.now in
    let mid = c.count_item.new.self in
    let new = c.plans_of-in-Par.new.planner in
    let v = c.in-Par.statements in
    let items = c.deref-in-Par.result.now in
    let plans = c.in_ok-plans_of-in-Par.field-0 in
    let counted = c.in_ok-item.ensures.counted in
    let here = as_form names comp c.args.control.now (controls.Par v) old c.in-Par.is can in
    of_form names comp c.args.control.now (controls.Par v) old new (variants.AtOnce plans) c.in-Par.is
    (par_arm names comp v items old mid new plans c.deref-in-Par.ensures.value here counted (c.in_ok-plans_of-in-Par.ensures names comp (par_can names comp v items old mid c.deref-in-Par.ensures.value here counted)))

-- ---- choices

pub plan_of-actor_of-by-requires : goal.plan_of-actor_of-by-requires
plan_of-actor_of-by-requires t c =
    let (names, comp, can) = c.requires in
    let old = c.args.planner.now in
    let m1 = c.count_item.new.self in
    let port = c.in-If.port in
    let by = c.in-If.by in
    let yes = c.in-If.yes in
    let no = c.in-If.no in
    let here = as_form names comp c.args.control.now (controls.If port by yes no) old c.in-If.is can in
    let at = c.in_ok-condition-in-If.ensures names comp (can_after names comp old m1 can.can c.in_ok-item.ensures.counted) (if_port names comp port by yes no old here) (if_tested names comp port by yes no old here) in
    (names, comp, at.goes.can, if_group names comp port by yes no old here)

pub plan_of-branch_of-requires : goal.plan_of-branch_of-requires
plan_of-branch_of-requires t c =
    let (names, comp, can) = c.requires in
    let old = c.args.planner.now in
    let m1 = c.count_item.new.self in
    let m2 = c.condition.new.self in
    let port = c.in-If.port in
    let by = c.in-If.by in
    let yes = c.in-If.yes in
    let no = c.in-If.no in
    let here = as_form names comp c.args.control.now (controls.If port by yes no) old c.in-If.is can in
    let at = c.in_ok-condition-in-If.ensures names comp (can_after names comp old m1 can.can c.in_ok-item.ensures.counted) (if_port names comp port by yes no old here) (if_tested names comp port by yes no old here) in
    (search (rules, the_lemmas), (names, comp, read_branch names comp c.deref-in-If.result.now yes.value m2 c.deref-in-If.ensures (if_yes names comp port by yes no old here m2 at.goes.can)))

pub plan_of-branch_of-requires-in-If : goal.plan_of-branch_of-requires-in-If
plan_of-branch_of-requires-in-If t c =
    let (names, comp, can) = c.requires in
    let old = c.args.planner.now in
    let m1 = c.count_item.new.self in
    let m2 = c.condition.new.self in
    let m3 = c.branch_of.new.planner in
    let port = c.in-If.port in
    let by = c.in-If.by in
    let yes = c.in-If.yes in
    let no = c.in-If.no in
    let here = as_form names comp c.args.control.now (controls.If port by yes no) old c.in-If.is can in
    let at = c.in_ok-condition-in-If.ensures names comp (can_after names comp old m1 can.can c.in_ok-item.ensures.counted) (if_port names comp port by yes no old here) (if_tested names comp port by yes no old here) in
    let first = c.in_ok-branch_of-in-If.ensures names comp (read_branch names comp c.deref-in-If.result.now yes.value m2 c.deref-in-If.ensures (if_yes names comp port by yes no old here m2 at.goes.can)) in
    (search (rules, the_lemmas), (names, comp, read_branch names comp c.deref-in-If-2.result.now no.value m3 c.deref-in-If-2.ensures (if_no names comp port by yes no old here m3 first.0.can)))

pub plan_of-returns-in_ok-off-in-If : goal.plan_of-returns-in_ok-off-in-If
plan_of-returns-in_ok-off-in-If t c = λ names comp can.
    let old = c.args.planner.now in
    let m1 = c.count_item.new.self in
    let m2 = c.condition.new.self in
    let m3 = c.branch_of.new.planner in
    let new = c.branch_of-in-If.new.planner in
    let port = c.in-If.port in
    let by = c.in-If.by in
    let yes = c.in-If.yes in
    let no = c.in-If.no in
    let counted = c.in_ok-item.ensures.counted in
    let here = as_form names comp c.args.control.now (controls.If port by yes no) old c.in-If.is can in
    let at = c.in_ok-condition-in-If.ensures names comp (can_after names comp old m1 can.can counted) (if_port names comp port by yes no old here) (if_tested names comp port by yes no old here) in
    let acts = c.actor_of-by.ensures names comp at.goes.can (if_group names comp port by yes no old here) in
    let first = c.in_ok-branch_of-in-If.ensures names comp (read_branch names comp c.deref-in-If.result.now yes.value m2 c.deref-in-If.ensures (if_yes names comp port by yes no old here m2 at.goes.can)) in
    let second = c.in_ok-branch_of-in-If-2.ensures names comp (read_branch names comp c.deref-in-If-2.result.now no.value m3 c.deref-in-If-2.ensures (if_no names comp port by yes no old here m3 first.0.can)) in
    let number = c.in_ok-condition-in-If.condition in
    let actor = c.actor_of-by.result in
    let on = c.in_ok-on-in-If.on in
    let off = c.in_ok-off-in-If.off in
    of_form names comp c.args.control.now (controls.If port by yes no) old new (variants.Chooses number actor on off) c.in-If.is
    (if_arm names comp port by yes no old here m1 m2 m3 new number actor on off counted at acts
    (boxed_branch names comp c.deref-in-If.result.now yes.value m2 m3 c.in_ok-branch_of-in-If.field-0 on c.deref-in-If.ensures c.in_ok-on-in-If.ensures.ok first)
    (boxed_branch names comp c.deref-in-If-2.result.now no.value m3 new c.in_ok-branch_of-in-If-2.field-0 off c.deref-in-If-2.ensures c.in_ok-off-in-If.ensures.ok second))

-- ---- loops

pub plan_of-actor_of-by-requires-in-While : goal.plan_of-actor_of-by-requires-in-While
plan_of-actor_of-by-requires-in-While t c =
    let (names, comp, can) = c.requires in
    let old = c.args.planner.now in
    let m1 = c.count_item.new.self in
    let port = c.in-While.port in
    let by = c.in-While.by in
    let body = c.in-While.body in
    let here = as_form names comp c.args.control.now (controls.While port by body) old c.in-While.is can in
    let at = c.in_ok-condition-in-While.ensures names comp (can_after names comp old m1 can.can c.in_ok-item.ensures.counted) (while_port names comp port by body old here) (while_tested names comp port by body old here) in
    (names, comp, at.goes.can, while_group names comp port by body old here)

pub plan_of-branch_of-requires-in-While : goal.plan_of-branch_of-requires-in-While
plan_of-branch_of-requires-in-While t c =
    let (names, comp, can) = c.requires in
    let old = c.args.planner.now in
    let m1 = c.count_item.new.self in
    let m2 = c.condition-in-While.new.self in
    let port = c.in-While.port in
    let by = c.in-While.by in
    let body = c.in-While.body in
    let here = as_form names comp c.args.control.now (controls.While port by body) old c.in-While.is can in
    let at = c.in_ok-condition-in-While.ensures names comp (can_after names comp old m1 can.can c.in_ok-item.ensures.counted) (while_port names comp port by body old here) (while_tested names comp port by body old here) in
    (search (rules, the_lemmas), (names, comp, read_branch names comp c.deref-in-While.result.now body.value m2 c.deref-in-While.ensures (while_body names comp port by body old here m2 at.goes.can)))

pub plan_of-returns-in_ok-body-in-While : goal.plan_of-returns-in_ok-body-in-While
plan_of-returns-in_ok-body-in-While t c = λ names comp can.
    let old = c.args.planner.now in
    let m1 = c.count_item.new.self in
    let m2 = c.condition-in-While.new.self in
    let new = c.branch_of-in-While.new.planner in
    let port = c.in-While.port in
    let by = c.in-While.by in
    let body = c.in-While.body in
    let counted = c.in_ok-item.ensures.counted in
    let here = as_form names comp c.args.control.now (controls.While port by body) old c.in-While.is can in
    let at = c.in_ok-condition-in-While.ensures names comp (can_after names comp old m1 can.can counted) (while_port names comp port by body old here) (while_tested names comp port by body old here) in
    let acts = c.actor_of-by-in-While.ensures names comp at.goes.can (while_group names comp port by body old here) in
    let turn = c.in_ok-branch_of-in-While.ensures names comp (read_branch names comp c.deref-in-While.result.now body.value m2 c.deref-in-While.ensures (while_body names comp port by body old here m2 at.goes.can)) in
    let number = c.in_ok-condition-in-While.condition in
    let actor = c.actor_of-by-in-While.result in
    let turns = c.in_ok-body-in-While.body in
    of_form names comp c.args.control.now (controls.While port by body) old new (variants.Repeats number actor turns) c.in-While.is
    (while_arm names comp port by body old here m1 m2 new number actor turns counted at acts
    (boxed_branch names comp c.deref-in-While.result.now body.value m2 new c.in_ok-branch_of-in-While.field-0 turns c.deref-in-While.ensures c.in_ok-body-in-While.ensures.ok turn))

-- ---- invokes

pub plan_of-invoke-requires : goal.plan_of-invoke-requires
plan_of-invoke-requires t c =
    let (names, comp, can) = c.requires in
    let old = c.args.planner.now in
    let m1 = c.count_item.new.self in
    let cell = c.in-Invoke.cell in
    let ins = c.in-Invoke.ins in
    let outs = c.in-Invoke.outs in
    let here = as_form names comp c.args.control.now (controls.Invoke cell ins outs) old c.in-Invoke.is can in (
      names,
      comp,
      can_after names comp old m1 can.can c.in_ok-item.ensures.counted,
      invoke_numbers names comp cell ins outs old here c.deref-in-Invoke.result.now c.deref-in-Invoke-2.result.now c.deref-in-Invoke.ensures.value c.deref-in-Invoke-2.ensures.value,
    )

pub plan_of-returns-in_ok-invoke-in-Invoke : goal.plan_of-returns-in_ok-invoke-in-Invoke
plan_of-returns-in_ok-invoke-in-Invoke t c = λ names comp can.
    let old = c.args.planner.now in
    let m1 = c.count_item.new.self in
    let new = c.invoke.new.self in
    let cell = c.in-Invoke.cell in
    let ins = c.in-Invoke.ins in
    let outs = c.in-Invoke.outs in
    let given = c.deref-in-Invoke.result.now in
    let taken = c.deref-in-Invoke-2.result.now in
    let same_ins = c.deref-in-Invoke.ensures.value in
    let same_outs = c.deref-in-Invoke-2.ensures.value in
    let counted = c.in_ok-item.ensures.counted in
    let here = as_form names comp c.args.control.now (controls.Invoke cell ins outs) old c.in-Invoke.is can in
    let puts = c.in_ok-invoke-in-Invoke.ensures names comp (can_after names comp old m1 can.can counted) (invoke_numbers names comp cell ins outs old here given taken same_ins same_outs) in
    of_form names comp c.args.control.now (controls.Invoke cell ins outs) old new (variants.Enables c.in_ok-invoke-in-Invoke.field-0) c.in-Invoke.is
    (invoke_arm names comp cell ins outs old here given taken m1 new c.in_ok-item.item c.in_ok-invoke-in-Invoke.field-0 same_ins same_outs c.in_ok-item.ensures.item counted puts)

-- ---- a branch or a body

pub branch_of-returns-then-is_empty_sequence : goal.branch_of-returns-then-is_empty_sequence
branch_of-returns-then-is_empty_sequence t c = λ names comp can.
    empty_branch names comp c.args.control.now c.args.planner.now c.new.result can.can (c.is_empty_sequence.ensures.nothing names c.if-is_empty_sequence.true) c.new.ensures.items

pub branch_of-plan_of-requires : goal.branch_of-plan_of-requires
branch_of-plan_of-requires t c =
    let (names, comp, can) = c.requires in
    (search (rules, the_lemmas), (names, comp, branch_can names comp c.args.control.now c.args.planner.now (c.is_empty_sequence.ensures.something names _ c.if-is_empty_sequence.false) can))

pub branch_of-returns : goal.branch_of-returns
branch_of-returns t c = λ names comp can.
    let control = c.args.control.now in
    let old = c.args.planner.now in
    let same = c.is_empty_sequence.ensures.something names (statements_in (statement_tree names control)) c.if-is_empty_sequence.false in
    branch_planned names comp control old c.plan_of.new.planner c.plan_of.result same (c.plan_of.ensures names comp (branch_can names comp control old same can))

-- ---- statements in a row

pub plans_of-loop-statement-init : goal.plans_of-loop-statement-init
plans_of-loop-statement-init t c = λ names comp all.
    let planner = c.args.planner.now in
    let P : List Plan → Type 0 = λ ps. PlannedAll names comp [] planner planner ps in
    subst P (sym c.new-plans.ensures.items) (none_planned names comp planner all.can)

pub plans_of-plan_of-requires : goal.plans_of-plan_of-requires
plans_of-plan_of-requires t c =
    let (names, comp, all) = c.requires in
    let statements = c.args.statements.now in
    let old = c.args.planner.now in
    let mid = c.loop-statement.planner in
    let i = c.loop-statement.statement-index in
    let s = c.statement-item.result in
    let at = at_index statements i s c.loop-statement-test.true c.statement-item.is in
    let so_far = c.loop-statement.invariant names comp all in
    (search (rules, the_lemmas), (names, comp, one_can names comp statements old mid all i s at (one_more statements i s at) so_far.0.can))

pub plans_of-loop-statement-preserved : goal.plans_of-loop-statement-preserved
plans_of-loop-statement-preserved t c = λ names comp all.
    let statements = c.args.statements.now in
    let old = c.args.planner.now in
    let mid = c.loop-statement.planner in
    let new = c.plan_of.new.planner in
    let i = c.loop-statement.statement-index in
    let s = c.statement-item.result in
    let plans = c.loop-statement.plans.items in
    let plan = c.in_ok-plan_of.field-0 in
    let at = at_index statements i s c.loop-statement-test.true c.statement-item.is in
    let more = one_more statements i s at in
    let so_far = c.loop-statement.invariant names comp all in
    let one = c.in_ok-plan_of.ensures names comp (one_can names comp statements old mid all i s at more so_far.0.can) in
    let P : List Plan → Type 0 = λ ps. PlannedAll names comp (take (i + 1) statements) old new ps in
    subst P (sym c.in_ok-push.ensures.items) (one_planned names comp statements old mid all i s at more new plans plan so_far one)

pub plans_of-returns : goal.plans_of-returns
plans_of-returns t c = λ names comp all.
    let statements = c.args.statements.now in
    let i = c.loop-statement.statement-index in
    let whole : take i statements ≡ statements = take_all i statements (omega (arith, c.loop-statement-test.false)) in
    let P : List Control → Type 0 = λ ss. PlannedAll names comp ss c.args.planner.now c.loop-statement.planner c.loop-statement.plans.items in
    subst P whole (c.loop-statement.invariant names comp all)
