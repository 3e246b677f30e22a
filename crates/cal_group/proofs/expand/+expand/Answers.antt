use Rattle.std.proofs.Common.{List, refl, subst, rules}
use Rattle.std.proofs.lemmas.List.{take_all}
use Rattle.std.proofs.lemmas.List.Elements.{All-same}
use Rattle.cal_ast.specs.Items.{statements_in}
use Rattle.cal_ast.specs.Numbers.{StatementHasNumbers}
use Rattle.cal_ast.specs.Tree.{statement_tree}
use Rattle.cal_ast.specs.declared.tree.Control.{Control, the_lemmas}
use Rattle.cal_group.specs.declared.expand.Call.{Call}
use Rattle.cal_group.specs.declared.expand.Made.{Made}
use Rattle.cal_group.proofs.BlockLemmas.{at_index, par_numbers, seq_numbers}
use Rattle.cal_group.proofs.ExpandingLemmas.{AreExpanded, empty_branch, enable_arm, if_arm, invoke_arm, none_expanded, one_more, par_arm, seq_arm, some_branch, while_arm}
use Rattle.cal_group.proofs.StableLemmas.{KeepsTexts-trans}
use Rattle.cal_group.proofs.expand.+expand.Goals as goal

-- ---- an enabled group

pub expand_statement-returns-in-Enable : goal.expand_statement-returns-in-Enable
expand_statement-returns-in-Enable t c =
    let at = c.args.cells in
    let old = c.args.made.now in
    let mid : Made = record old { item = c.next_item.new.next } in
    let e = enable_arm at.source.now at.table.now at.ports c.args.statement.now c.in-Enable.group old mid c.in-Enable.is c.requires.numbers (record { names = refl; groups = refl; item = c.in_ok-item.ensures.next }) in
    record { kept = e.0.kept; item = e.0.item; groups = e.0.groups; statement = e.1 }

-- ---- blocks

pub expand_statement-expand_statements-requires : goal.expand_statement-expand_statements-requires
expand_statement-expand_statements-requires t c =
    let source = c.args.cells.source.now in
    let v = c.in-Seq.statements in
    let N : Control → Type 0 = StatementHasNumbers source in (
      search (rules, the_lemmas),
      (All-same N c.deref.result.now v.items c.deref.ensures.value (seq_numbers source v (subst N c.in-Seq.is c.requires.numbers)), c.requires.cells),
    )

pub expand_statement-returns-in_ok-expand_statements-in-Seq : goal.expand_statement-returns-in_ok-expand_statements-in-Seq
expand_statement-returns-in_ok-expand_statements-in-Seq t c =
    let at = c.args.cells in
    let old = c.args.made.now in
    let mid : Made = record old { item = c.next_item.new.next } in
    let new = c.expand_statements.new.made in
    let all = c.in_ok-expand_statements-in-Seq.ensures in
    let e =
    seq_arm at.source.now at.table.now at.ports c.args.statement.now c.in-Seq.statements c.in_ok-expand_statements-in-Seq.field-0 c.deref.result.now old mid new c.in-Seq.is c.deref.ensures.value
    (record { names = refl; groups = refl; item = c.in_ok-item.ensures.next }) (record { kept = all.kept; item = all.item; groups = all.groups }, all.statements) in
    record { kept = e.0.kept; item = e.0.item; groups = e.0.groups; statement = e.1 }

pub expand_statement-expand_statements-requires-in-Par : goal.expand_statement-expand_statements-requires-in-Par
expand_statement-expand_statements-requires-in-Par t c =
    let source = c.args.cells.source.now in
    let v = c.in-Par.statements in
    let N : Control → Type 0 = StatementHasNumbers source in (
      search (rules, the_lemmas),
      (All-same N c.deref-in-Par.result.now v.items c.deref-in-Par.ensures.value (par_numbers source v (subst N c.in-Par.is c.requires.numbers)), c.requires.cells),
    )

pub expand_statement-returns-in_ok-expand_statements-in-Par : goal.expand_statement-returns-in_ok-expand_statements-in-Par
expand_statement-returns-in_ok-expand_statements-in-Par t c =
    let at = c.args.cells in
    let old = c.args.made.now in
    let mid : Made = record old { item = c.next_item.new.next } in
    let new = c.expand_statements-in-Par.new.made in
    let all = c.in_ok-expand_statements-in-Par.ensures in
    let e =
    par_arm at.source.now at.table.now at.ports c.args.statement.now c.in-Par.statements c.in_ok-expand_statements-in-Par.field-0 c.deref-in-Par.result.now old mid new c.in-Par.is c.deref-in-Par.ensures.value
    (record { names = refl; groups = refl; item = c.in_ok-item.ensures.next }) (record { kept = all.kept; item = all.item; groups = all.groups }, all.statements) in
    record { kept = e.0.kept; item = e.0.item; groups = e.0.groups; statement = e.1 }

-- ---- choices and loops

pub expand_statement-returns-in_ok-expand_branch-in-If-2 : goal.expand_statement-returns-in_ok-expand_branch-in-If-2
expand_statement-returns-in_ok-expand_branch-in-If-2 t c =
    let at = c.args.cells in
    let old = c.args.made.now in
    let mid : Made = record old { item = c.next_item.new.next } in
    let one = c.in_ok-expand_branch-in-If.ensures in
    let two = c.in_ok-expand_branch-in-If-2.ensures in
    let e =
    if_arm at.source.now at.table.now at.ports c.args.statement.now c.in-If.port c.in-If.by c.in-If.yes c.in-If.no c.in_ok-expand_branch-in-If.field-0 c.in_ok-expand_branch-in-If-2.field-0 c.deref-in-If.result.now c.deref-in-If-2.result.now
    old mid c.expand_branch.new.made c.expand_branch-in-If.new.made c.in-If.is c.requires.numbers c.deref-in-If.ensures c.deref-in-If-2.ensures (record { names = refl; groups = refl; item = c.in_ok-item.ensures.next })
    (record { kept = one.kept; item = one.item; groups = one.groups }, one.statement) (record { kept = two.kept; item = two.item; groups = two.groups }, two.statement) in
    record { kept = e.0.kept; item = e.0.item; groups = e.0.groups; statement = e.1 }

pub expand_statement-returns-in_ok-expand_branch-in-While : goal.expand_statement-returns-in_ok-expand_branch-in-While
expand_statement-returns-in_ok-expand_branch-in-While t c =
    let at = c.args.cells in
    let old = c.args.made.now in
    let mid : Made = record old { item = c.next_item.new.next } in
    let one = c.in_ok-expand_branch-in-While.ensures in
    let e =
    while_arm at.source.now at.table.now at.ports c.args.statement.now c.in-While.port c.in-While.by c.in-While.body c.in_ok-expand_branch-in-While.field-0 c.deref-in-While.result.now old mid c.expand_branch-in-While.new.made
    c.in-While.is c.requires.numbers c.deref-in-While.ensures (record { names = refl; groups = refl; item = c.in_ok-item.ensures.next }) (record { kept = one.kept; item = one.item; groups = one.groups }, one.statement) in
    record { kept = e.0.kept; item = e.0.item; groups = e.0.groups; statement = e.1 }

-- ---- invokes

pub expand_statement-returns-in_ok-add_group-in-Invoke : goal.expand_statement-returns-in_ok-add_group-in-Invoke
expand_statement-returns-in_ok-add_group-in-Invoke t c =
    let at = c.args.cells in
    let old = c.args.made.now in
    let mid : Made = record old { item = c.next_item.new.next } in
    let new = c.add_group.new.self in
    let call : Call = record { cell = c.in-Invoke.cell; go = c.start_port.result; done = at.ports.done; ins = c.deref-in-Invoke.result; outs = c.deref-in-Invoke-2.result } in
    let made = c.in_ok-add_group-in-Invoke.ensures in
    let e =
    invoke_arm at.source.now at.table.now at.ports c.args.statement.now c.in-Invoke.cell c.in-Invoke.ins c.in-Invoke.outs call c.in_ok-add_group-in-Invoke.field-0 made.group.0 c.in_ok-item.item old mid new c.in-Invoke.is
    c.requires.numbers refl c.deref-in-Invoke.ensures.value c.deref-in-Invoke-2.ensures.value refl c.in_ok-item.ensures.item (record { names = refl; groups = refl; item = c.in_ok-item.ensures.next })
    made.kept made.item made.named made.group.1 made.group.2 c.start_port.ensures in
    record { kept = e.0.kept; item = e.0.item; groups = e.0.groups; statement = e.1 }

-- ---- a branch or a body

pub expand_branch-returns-then-is_nothing : goal.expand_branch-returns-then-is_nothing
expand_branch-returns-then-is_nothing t c =
    let at = c.args.cells in
    let source = at.source.now in
    let e = empty_branch source at.table.now at.ports c.args.statement.now c.new.result c.in_ok-new.field-0 c.args.made.now (c.is_nothing.ensures.nothing source c.if-is_nothing.true) c.new.ensures.items c.in_ok-new.ensures.ok in
    record { kept = e.0.kept; item = e.0.item; groups = e.0.groups; statement = e.1 }

pub expand_branch-returns : goal.expand_branch-returns
expand_branch-returns t c =
    let at = c.args.cells in
    let source = at.source.now in
    let s = c.args.statement.now in
    let one = c.in_ok-branch.ensures in
    let whole = c.is_nothing.ensures.something source (statements_in (statement_tree source s)) c.if-is_nothing.false in
    let e =
    some_branch source at.table.now at.ports s c.in_ok-branch.branch c.in_ok-new-2.field-0 c.args.made.now c.expand_statement.new.made whole c.in_ok-new-2.ensures.ok
    (record { kept = one.kept; item = one.item; groups = one.groups }, one.statement) in
    record { kept = e.0.kept; item = e.0.item; groups = e.0.groups; statement = e.1 }

-- ---- statements in a row

pub expand_statements-loop-statement-init : goal.expand_statements-loop-statement-init
expand_statements-loop-statement-init t c =
    let at = c.args.cells in
    none_expanded at.source.now at.table.now at.ports c.args.made.now c.new-all.result.items c.new-all.ensures.items

pub expand_statements-returns-in_err-expand_statement-clause-kept : goal.expand_statements-returns-in_err-expand_statement-clause-kept
expand_statements-returns-in_err-expand_statement-clause-kept t c =
    KeepsTexts-trans c.args.made.now.names c.loop-statement.made.names c.expand_statement.new.made.names c.loop-statement.invariant.0.kept c.expand_statement.ensures.kept

pub expand_statements-loop-statement-preserved : goal.expand_statements-loop-statement-preserved
expand_statements-loop-statement-preserved t c =
    let at = c.args.cells in
    let statements = c.args.statements.now in
    let i = c.loop-statement.statement-index in
    let s = c.statement-item.result in
    let one = c.in_ok-expand_statement.ensures in
    one_more at.source.now at.table.now at.ports statements i s c.args.made.now c.loop-statement.made c.expand_statement.new.made c.loop-statement.all.items _ c.in_ok-expand_statement.field-0
    (at_index statements i s c.loop-statement-test.true c.statement-item.is) c.in_ok-push.ensures.items c.loop-statement.invariant (record { kept = one.kept; item = one.item; groups = one.groups }, one.statement)

pub expand_statements-returns : goal.expand_statements-returns
expand_statements-returns t c =
    let at = c.args.cells in
    let statements = c.args.statements.now in
    let i = c.loop-statement.statement-index in
    let A : List Control → Type 0 = λ l. AreExpanded at.source.now at.table.now at.ports l c.args.made.now c.loop-statement.made c.loop-statement.all.items in
    let e = subst A (take_all i statements c.loop-statement-test.false) c.loop-statement.invariant in
    record { kept = e.0.kept; item = e.0.item; groups = e.0.groups; statements = e.1 }
