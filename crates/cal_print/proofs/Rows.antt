-- Lists of guards in guards, and of statements in statements.
use Rattle.std.proofs.Common.{◌≡◌, ℕ, ◌<◌, ◌+◌, false, ◌==◌, take, get_or, append_assoc, arith, List, [], ◌∷◌, ◌++◌, length, All, codes, refl, sym, ap, subst, ◌∙◌, Vec, Global}
use Rattle.std.specs.List.{flat_map, AllByRecursion}
use Rattle.std.proofs.lemmas.Bool.{ne_eqb}
use Rattle.std.proofs.lemmas.List.{append-nil, take_more}
use Rattle.std.proofs.lemmas.List.Concat.{flat_map-append}
use Rattle.std.proofs.lemmas.List.Elements.{All-from_recursion}
use mathlib.Core.Former.{Count}
use Rattle.hw_names.specs.Name.{Text}
use Rattle.net_core.specs.declared.net.Guard.{Guard, Row_of-Guard, end_of-Guard, more_of-Guard, items-the_row-Guard, items_hidden-the_row-Guard-0}
use Rattle.net_core.specs.declared.net.Guard as guards
use Rattle.cal_ast.specs.declared.tree.CalPort.{CalPort}
use Rattle.cal_ast.specs.declared.tree.Control.{Control, Row_of-Control, end_of-Control, more_of-Control, items-the_row-Control, items_hidden-the_row-Control-0}
use Rattle.cal_ast.specs.declared.tree.Control as code
use Rattle.cal_ast.specs.Numbers.{GuardHasNumbers, GuardsHaveNumbers, StatementHasNumbers, StatementsHaveNumbers}
use Rattle.cal_ast.specs.Tree.{statement_tree, statement_trees}
use Rattle.cal_ast.specs.Tree as tree
use Rattle.cal_print.specs.Layout.{block_text, deeper, is_empty_seq, statement_text, statements_text}

-- ---- guards

abbrev guard_row : Guard CalPort → (n : Count) × Row_of-Guard CalPort n
guard_row (guards.All' shape r) = (_, r)
guard_row _ = (_, end_of-Guard)

guard_row_numbers : (names : List Text) (n : Count) (r : Row_of-Guard CalPort n) → GuardsHaveNumbers names r → AllByRecursion (GuardHasNumbers names) (items-the_row-Guard CalPort n r)
guard_row_numbers names n end_of-Guard h = tt
guard_row_numbers names n (more_of-Guard g rest) h = (h.0, guard_row_numbers names _ rest h.1)

pub all_numbers : (names : List Text) (v : Vec (Guard CalPort) Global) → GuardHasNumbers names (guards.All v) → All (GuardHasNumbers names) v.items
all_numbers names v h =
    let r = guard_row (guards.All v) in
    All-from_recursion (GuardHasNumbers names) v.items (subst (λ (gs : List (Guard CalPort)). AllByRecursion (GuardHasNumbers names) gs) (items_hidden-the_row-Guard-0 CalPort v) (guard_row_numbers names r.0 r.1 h))

pub any_numbers : (names : List Text) (v : Vec (Guard CalPort) Global) → GuardHasNumbers names (guards.Any v) → All (GuardHasNumbers names) v.items
any_numbers names v h = all_numbers names v h

-- ---- statements

abbrev row_of : Control → (n : Count) × Row_of-Control n
row_of (code.Seq' shape r) = (_, r)
row_of _ = (_, end_of-Control)

row_numbers : (names : List Text) (n : Count) (r : Row_of-Control n) → StatementsHaveNumbers names r → AllByRecursion (StatementHasNumbers names) (items-the_row-Control n r)
row_numbers names n end_of-Control h = tt
row_numbers names n (more_of-Control s rest) h = (h.0, row_numbers names _ rest h.1)

pub seq_numbers : (names : List Text) (v : Vec Control Global) → StatementHasNumbers names (code.Seq v) → All (StatementHasNumbers names) v.items
seq_numbers names v h =
    let r = row_of (code.Seq v) in
    All-from_recursion (StatementHasNumbers names) v.items (subst (λ (ss : List Control). AllByRecursion (StatementHasNumbers names) ss) (items_hidden-the_row-Control-0 v) (row_numbers names r.0 r.1 h))

pub par_numbers : (names : List Text) (v : Vec Control Global) → StatementHasNumbers names (code.Par v) → All (StatementHasNumbers names) v.items
par_numbers names v h = seq_numbers names v h

row_text : (names : List Text) (margin : Text) (n : Count) (r : Row_of-Control n) → statements_text margin (statement_trees names r) ≡ flat_map (λ s. statement_text margin (statement_tree names s)) (items-the_row-Control n r)
row_text names margin n end_of-Control = refl
row_text names margin n (more_of-Control s rest) = ap (λ (t : Text). statement_text margin (statement_tree names s) ++ t) (row_text names margin _ rest)

-- the text of the statements of a block
abbrev pub inner_text : List Text → Text → List Control → Text
inner_text names margin statements = flat_map (λ s. statement_text margin (statement_tree names s)) statements

pub seq_text : (names : List Text) (margin : Text) (v : Vec Control Global) → statement_text margin (statement_tree names (code.Seq v)) ≡ block_text margin (codes "seq") (inner_text names (deeper margin) v.items)
seq_text names margin v =
    let r = row_of (code.Seq v) in
    ap (block_text margin (codes "seq")) (row_text names (deeper margin) r.0 r.1) ∙ ap (λ (ss : List Control). block_text margin (codes "seq") (inner_text names (deeper margin) ss)) (items_hidden-the_row-Control-0 v)

pub par_text : (names : List Text) (margin : Text) (v : Vec Control Global) → statement_text margin (statement_tree names (code.Par v)) ≡ block_text margin (codes "par") (inner_text names (deeper margin) v.items)
par_text names margin v =
    let r = row_of (code.Seq v) in
    ap (block_text margin (codes "par")) (row_text names (deeper margin) r.0 r.1) ∙ ap (λ (ss : List Control). block_text margin (codes "par") (inner_text names (deeper margin) ss)) (items_hidden-the_row-Control-0 v)

not_nil : (statements : List Control) → 0 < length statements → (length statements == 0) ≡ false
not_nil statements some = ne_eqb (length statements) 0 (λ e. omega (arith, e, some))

row_empty : (names : List Text) (n : Count) (r : Row_of-Control n) → (length (items-the_row-Control n r) == 0) ≡ is_empty_seq (tree.Seq (statement_trees names r))
row_empty names n end_of-Control = refl
row_empty names n (more_of-Control s rest) = not_nil (items-the_row-Control _ (more_of-Control s rest)) (omega arith)

pub seq_empty : (names : List Text) (v : Vec Control Global) → (length v.items == 0) ≡ is_empty_seq (statement_tree names (code.Seq v))
seq_empty names v =
    let r = row_of (code.Seq v) in
    ap (λ (ss : List Control). length ss == 0) (sym (items_hidden-the_row-Control-0 v)) ∙ row_empty names r.0 r.1

-- a turn of the loop over the statements of a block
pub statements_step : (names : List Text) (margin inner : Text) (statements : List Control) (i : ℕ) (s : Control) (before out new : Text) → i < length statements → s ≡ get_or statements i s → inner ≡ deeper margin
    → out ≡ before ++ inner_text names (deeper margin) (take i statements) → new ≡ out ++ statement_text inner (statement_tree names s) → new ≡ before ++ inner_text names (deeper margin) (take (i + 1) statements)
statements_step names margin inner statements i s before out new lt item same so_far put =
    let one : Text = statement_text (deeper margin) (statement_tree names s) in
    let front : Text = inner_text names (deeper margin) (take i statements) in
    let next : inner_text names (deeper margin) (take (i + 1) statements) ≡ front ++ one =
    ap (inner_text names (deeper margin)) (take_more statements i s lt ∙ ap (λ (y : Control). take i statements ++ y ∷ []) (sym item))
    ∙ flat_map-append (λ x. statement_text (deeper margin) (statement_tree names x)) (take i statements) (s ∷ [])
    ∙ ap (λ (t : Text). front ++ t) (append-nil one) in
    put ∙ ap (λ (t : Text). out ++ statement_text t (statement_tree names s)) same ∙ ap (λ (t : Text). t ++ one) so_far ∙ append_assoc before front one ∙ ap (λ (t : Text). before ++ t) (sym next)
