use Rattle.std.proofs.Common.{◌≡◌, ◌<◌, ◌≤◌, List, [], ◌∷◌, ◌++◌, All, length, map, slice_get, Some, refl, rules, sym, ap, ap₂, subst, ◌∙◌, arith}
use Rattle.std.proofs.lemmas.List.{length-map}
use Rattle.cal_ast.specs.Items.{Item, TheStatement, statements_in, statements_of}
use Rattle.cal_ast.specs.Numbers.{StatementHasNumbers}
use Rattle.cal_ast.specs.Tree.{Statement, statement_tree}
use Rattle.cal_ast.specs.declared.tree.Control.{Control, the_lemmas}
use Rattle.cal_place.specs.Around.{names_at}
use Rattle.cal_rules.specs.inside.Walks.{Passes, WalksOver}
use Rattle.cal_place.specs.Statements.{statements_from}
use Rattle.cal_place.proofs.BranchLemmas.{begins, branch_none, branch_some, trees}
use Rattle.cal_place.proofs.FoundLemmas.{to_map}
use Rattle.cal_place.proofs.ListLemmas.{at_mapped}
use Rattle.cal_place.proofs.RowLemmas.{branch_items, items_enable, items_if, items_in, items_invoke, items_of_list, items_par, items_seq, items_while, par_numbers, seq_numbers}
use Rattle.cal_rules.proofs.WalkLemmas.{Ends, ended, ends_first, ends_later, ends_sooner, goes_on, last_section, next_section, passes_both, passes_none, passes_sections, walk_memory, walk_passed, walks_on}
use Rattle.cal_rules.proofs.component.+judge_statement.Goals as goal

-- ---- judge_statement

pub judge_statement-judge_statements-requires : goal.judge_statement-judge_statements-requires
judge_statement-judge_statements-requires t c =
    let names = names_at c.args.place.now in (
      search (rules, the_lemmas),
      subst (λ (ss : List Control). All (StatementHasNumbers names) ss) (sym c.deref.ensures.value) (seq_numbers names c.in-Seq.list (subst (λ (s : Control). StatementHasNumbers names s) c.in-Seq.is c.requires)),
    )

pub judge_statement-judge_statements-requires-in-Par : goal.judge_statement-judge_statements-requires-in-Par
judge_statement-judge_statements-requires-in-Par t c =
    let names = names_at c.args.place.now in (
      search (rules, the_lemmas),
      subst (λ (ss : List Control). All (StatementHasNumbers names) ss) (sym c.deref-in-Par.ensures.value) (par_numbers names c.in-Par.list (subst (λ (s : Control). StatementHasNumbers names s) c.in-Par.is c.requires)),
    )

pub judge_statement-returns-in_err-at_statement : goal.judge_statement-returns-in_err-at_statement
judge_statement-returns-in_err-at_statement t c =
    let p = c.args.place.now in
    walk_memory p (items_in (statement_tree (names_at p) c.args.statement.now)) c.args.walk.now c.args.walk.now c.from_residual.result c.from_residual.ensures.1

pub judge_statement-returns-in_err-pass : goal.judge_statement-returns-in_err-pass
judge_statement-returns-in_err-pass t c =
    let p = c.args.place.now in
    let old = c.args.walk.now in
    let node = statement_tree (names_at p) c.args.statement.now in
    let header = TheStatement node in
    let end = c.in_err-pass.field-0.0 in
    let (rest, is) = begins node in
    walk_passed p (items_in node) old c.pass.new.self c.from_residual-in_err-pass.result end c.from_residual-in_err-pass.ensures.1
    (ends_first p (items_in node) header rest old end is (ended p (Unit {0}) (header ∷ []) old c.pass.new.self end (c.in_err-pass.ensures p header c.in_ok-at_statement.ensures)))

pub judge_statement-returns-in-Enable : goal.judge_statement-returns-in-Enable
judge_statement-returns-in-Enable t c =
    let p = c.args.place.now in
    let names = names_at p in
    let s = c.args.statement.now in
    let header = TheStatement (statement_tree names s) in
    let P : List Item → Type 0 = λ items. Passes p items c.args.walk.now c.pass.new.self in
    subst P (sym (items_enable names s _ (ap (statement_tree names) c.in-Enable.is))) (c.in_ok-pass.ensures p header c.in_ok-at_statement.ensures)

pub judge_statement-returns-in-Invoke : goal.judge_statement-returns-in-Invoke
judge_statement-returns-in-Invoke t c =
    let p = c.args.place.now in
    let names = names_at p in
    let s = c.args.statement.now in
    let header = TheStatement (statement_tree names s) in
    let P : List Item → Type 0 = λ items. Passes p items c.args.walk.now c.pass.new.self in
    subst P (sym (items_invoke names s _ _ _ (ap (statement_tree names) c.in-Invoke.is))) (c.in_ok-pass.ensures p header c.in_ok-at_statement.ensures)

pub judge_statement-returns-in-Seq : goal.judge_statement-returns-in-Seq
judge_statement-returns-in-Seq t c =
    let p = c.args.place.now in
    let names = names_at p in
    let s = c.args.statement.now in
    let header = TheStatement (statement_tree names s) in
    let mid = c.pass.new.self in
    let new = c.judge_statements.new.walk in
    let r = c.judge_statements.result in
    let list = c.in-Seq.list in
    let W : List Control → Type 0 = λ ss. WalksOver p (map TheStatement (statements_of (statements_from (trees names ss)))) mid new r in
    goes_on p (items_in (statement_tree names s)) header (map TheStatement (statements_of (statements_from (trees names list.items)))) c.args.walk.now mid new r (items_seq names s list c.in-Seq.is)
    (c.in_ok-pass.ensures p header c.in_ok-at_statement.ensures) (subst W c.deref.ensures.value c.judge_statements.ensures)

pub judge_statement-returns-in-Par : goal.judge_statement-returns-in-Par
judge_statement-returns-in-Par t c =
    let p = c.args.place.now in
    let names = names_at p in
    let s = c.args.statement.now in
    let header = TheStatement (statement_tree names s) in
    let mid = c.pass.new.self in
    let new = c.judge_statements-in-Par.new.walk in
    let r = c.judge_statements-in-Par.result in
    let list = c.in-Par.list in
    let W : List Control → Type 0 = λ ss. WalksOver p (map TheStatement (statements_of (statements_from (trees names ss)))) mid new r in
    goes_on p (items_in (statement_tree names s)) header (map TheStatement (statements_of (statements_from (trees names list.items)))) c.args.walk.now mid new r (items_par names s list c.in-Par.is)
    (c.in_ok-pass.ensures p header c.in_ok-at_statement.ensures) (subst W c.deref-in-Par.ensures.value c.judge_statements-in-Par.ensures)

pub judge_statement-returns-in_err-judge_branch-in-If : goal.judge_statement-returns-in_err-judge_branch-in-If
judge_statement-returns-in_err-judge_branch-in-If t c =
    let p = c.args.place.now in
    let names = names_at p in
    let s = c.args.statement.now in
    let old = c.args.walk.now in
    let mid = c.pass.new.self in
    let header = TheStatement (statement_tree names s) in
    let first = branch_items names c.deref-in-If.result.now in
    let second = branch_items names c.in-If.no.value in
    let end = c.in_err-judge_branch-in-If.field-0.0 in
    let E : List Item → Type 0 = λ items. Ends p items old end in
    let is = items_if names s _ _ c.in-If.yes.value c.in-If.no.value (ap (statement_tree names) c.in-If.is)
    ∙ ap (λ (yes' : Control). (header ∷ branch_items names yes') ++ second) (sym c.deref-in-If.ensures) in
    walk_passed p (items_in (statement_tree names s)) old c.judge_branch.new.walk c.from_residual-in_err-judge_branch-in-If.result end c.from_residual-in_err-judge_branch-in-If.ensures.1
    (subst E (sym is)
    (ends_sooner p (header ∷ first) second old end
    (ends_later p (header ∷ []) first old mid end (c.in_ok-pass.ensures p header c.in_ok-at_statement.ensures)
    (ended p (Unit {0}) first mid c.judge_branch.new.walk end c.in_err-judge_branch-in-If.ensures))))

pub judge_statement-returns-in_ok-judge_branch-in-If : goal.judge_statement-returns-in_ok-judge_branch-in-If
judge_statement-returns-in_ok-judge_branch-in-If t c =
    let p = c.args.place.now in
    let names = names_at p in
    let s = c.args.statement.now in
    let old = c.args.walk.now in
    let mid = c.pass.new.self in
    let header = TheStatement (statement_tree names s) in
    let first = branch_items names c.deref-in-If.result.now in
    let second = branch_items names c.deref-in-If-2.result.now in
    let between = c.judge_branch.new.walk in
    let new = c.judge_branch-in-If.new.walk in
    let r = c.judge_branch-in-If.result in
    let W : List Item → Type 0 = λ items. WalksOver p items old new r in
    let is = items_if names s _ _ c.in-If.yes.value c.in-If.no.value (ap (statement_tree names) c.in-If.is)
    ∙ ap₂ (λ (yes' no' : Control). (header ∷ branch_items names yes') ++ branch_items names no') (sym c.deref-in-If.ensures) (sym c.deref-in-If-2.ensures) in
    let past = passes_both p (header ∷ []) first old mid between (c.in_ok-pass.ensures p header c.in_ok-at_statement.ensures) c.in_ok-judge_branch-in-If.ensures in
    subst W (sym is) (walks_on p (header ∷ first) second old between new r past c.judge_branch-in-If.ensures)

pub judge_statement-returns-in-While : goal.judge_statement-returns-in-While
judge_statement-returns-in-While t c =
    let p = c.args.place.now in
    let names = names_at p in
    let s = c.args.statement.now in
    let header = TheStatement (statement_tree names s) in
    let body = c.deref-in-While.result.now in
    let is = items_while names s _ _ c.in-While.body.value (ap (statement_tree names) c.in-While.is) ∙ ap (λ (b : Control). header ∷ branch_items names b) (sym c.deref-in-While.ensures) in
    goes_on p (items_in (statement_tree names s)) header (branch_items names body) c.args.walk.now c.pass.new.self c.judge_branch-in-While.new.walk c.judge_branch-in-While.result is
    (c.in_ok-pass.ensures p header c.in_ok-at_statement.ensures) c.judge_branch-in-While.ensures

-- ---- judge_branch

pub judge_branch-returns-then-is_empty_seq : goal.judge_branch-returns-then-is_empty_seq
judge_branch-returns-then-is_empty_seq t c =
    let p = c.args.place.now in
    let walk = c.args.walk.now in
    let node = statement_tree (names_at p) c.args.statement.now in
    let none = branch_none node (statements_in node) c.is_empty_seq.result (c.is_empty_seq.ensures (names_at p) (statements_in node)) c.if-is_empty_seq.true in
    let P : List Statement → Type 0 = λ ss. Passes p (map TheStatement ss) walk walk in
    subst P (sym none) (passes_none p walk)

pub judge_branch-returns : goal.judge_branch-returns
judge_branch-returns t c =
    let p = c.args.place.now in
    let node = statement_tree (names_at p) c.args.statement.now in
    let some = branch_some node (statements_in node) c.is_empty_seq.result (c.is_empty_seq.ensures (names_at p) (statements_in node)) c.if-is_empty_seq.false in
    let W : List Statement → Type 0 = λ ss. WalksOver p (map TheStatement ss) c.args.walk.now c.judge_statement.new.walk c.judge_statement.result in
    subst W (sym some) c.judge_statement.ensures

-- ---- judge_statements

pub judge_statements-loop-statement-init : goal.judge_statements-loop-statement-init
judge_statements-loop-statement-init t c = passes_none c.args.place.now c.args.walk.now

pub judge_statements-loop-statement-preserved : goal.judge_statements-loop-statement-preserved
judge_statements-loop-statement-preserved t c =
    let p = c.args.place.now in
    let tree = statement_tree (names_at p) in
    let list = c.args.list.now in
    let k = c.loop-statement.statement-index in
    let s = tree c.statement-item.result in
    let within : k < length list = omega arith in
    let sections = map items_in (map tree list) in
    let at : slice_get sections k ≡ Some (items_in s) = to_map items_in (map tree list) k s (at_mapped tree list list k c.statement-item.result refl within c.statement-item.is) in
    next_section p sections k (items_in s) at c.args.walk.now c.loop-statement.walk c.loop-statement.invariant c.judge_statement.new.walk c.in_ok-judge_statement.ensures

pub judge_statements-returns-in_err-judge_statement : goal.judge_statements-returns-in_err-judge_statement
judge_statements-returns-in_err-judge_statement t c =
    let p = c.args.place.now in
    let tree = statement_tree (names_at p) in
    let list = c.args.list.now in
    let old = c.args.walk.now in
    let k = c.loop-statement.statement-index in
    let s = tree c.statement-item.result in
    let within : k < length list = omega arith in
    let sections = map items_in (map tree list) in
    let at : slice_get sections k ≡ Some (items_in s) = to_map items_in (map tree list) k s (at_mapped tree list list k c.statement-item.result refl within c.statement-item.is) in
    let end = c.in_err-judge_statement.field-0.0 in
    let E : List Item → Type 0 = λ items. Ends p items old end in
    walk_passed p (map TheStatement (statements_of (statements_from (map tree list)))) old c.judge_statement.new.walk c.from_residual.result end c.from_residual.ensures.1
    (subst E (items_of_list (map tree list))
    (last_section p sections k (items_in s) at old c.loop-statement.walk c.loop-statement.invariant end
    (ended p (Unit {0}) (items_in s) c.loop-statement.walk c.judge_statement.new.walk end c.in_err-judge_statement.ensures)))

pub judge_statements-returns : goal.judge_statements-returns
judge_statements-returns t c =
    let p = c.args.place.now in
    let tree = statement_tree (names_at p) in
    let list = c.args.list.now in
    let sections = map items_in (map tree list) in
    let end : length sections ≤ c.loop-statement.statement-index = omega (arith, length-map (map tree list) items_in, length-map list tree) in
    let P : List Item → Type 0 = λ items. Passes p items c.args.walk.now c.loop-statement.walk in
    subst P (items_of_list (map tree list)) (passes_sections p sections c.loop-statement.statement-index c.args.walk.now c.loop-statement.walk end c.loop-statement.invariant)
