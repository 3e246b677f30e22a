-- The expansion of statements, one after another: the names, the items and the groups that it goes on with, and the statement that each becomes.
use Rattle.std.proofs.Common.{◌≡◌, ℕ, ◌+◌, List, [], ◌∷◌, ◌++◌, length, map, take, Option, Some, option_map, IfSome, All, Vec, Global, refl, sym, ap, ap₂, ◌∙◌, subst, append_assoc, arith}
use Rattle.std.specs.Global.{Box}
use Rattle.std.specs.Prelude.{codes, slice_get}
use Rattle.std.proofs.lemmas.List.{append-nil, length-append, length-map, map-append}
use Rattle.std.proofs.lemmas.List.Concat.{flat_map-append}
use Rattle.std.proofs.lemmas.List.Elements.{All-nil, All-cons, Contains-append_left, Contains-append_right}
use Rattle.std.proofs.lemmas.Option.{slice_get_within}
use Rattle.hw_names.proofs.NameLemmas.{text_of-KeepsTexts, text_of-slice_get}
use Rattle.hw_names.specs.Name.{KeepsTexts, Text, text_of}
use Rattle.hw_names.specs.declared.names.NameId.{NameId}
use Rattle.net_core.specs.Numbers.{IsNumberOf}
use Rattle.cal_ast.proofs.ListLemmas.{Contains-here}
use Rattle.cal_ast.specs.Invoking.{InvokeDef, invokes_among, invoke_group, go_of}
use Rattle.cal_ast.specs.Items.{Item, TheStatement, statements_in, statements_of}
use Rattle.cal_ast.specs.Numbers.{GroupHasNumbers, InHasNumbers, OutHasNumbers, PortHasNumbers, StatementHasNumbers}
use Rattle.cal_ast.specs.Tree.{GroupDef, InBinding, OutBinding, Statement, Statements, NoStatements, MoreStatements, Component, Design, group_tree, in_tree, out_tree, port_tree, statement_tree}
use Rattle.cal_ast.specs.Tree as tree
use Rattle.cal_ast.specs.declared.tree.CalPort.{CalPort}
use Rattle.cal_ast.specs.declared.tree.Control.{Control}
use Rattle.cal_ast.specs.declared.tree.Control.TheVariants as controls
use Rattle.cal_ast.specs.declared.tree.Group.{Group}
use Rattle.cal_ast.specs.declared.tree.InBind.{InBind}
use Rattle.cal_ast.specs.declared.tree.OutBind.{OutBind}
use Rattle.cal_copy.proofs.CopyLemmas.{take_next}
use Rattle.cal_group.specs.inside.Expanded.{invoke_name, expanded_from}
use Rattle.cal_group.specs.inside.Expansion.{AddsGroups, AreExpansions, AreNamed, CanStart, HasCells, IsExpansion, IsInvokedGroup, IsLater, counted, groups_of_invokes, statements_listed}
use Rattle.cal_group.specs.declared.expand.Call.{Call}
use Rattle.cal_group.specs.declared.expand.CellTable.{CellTable}
use Rattle.cal_group.specs.declared.expand.Made.{Made}
use Rattle.cal_group.specs.declared.expand.PortNames.{PortNames}
use Rattle.cal_group.proofs.BlockLemmas.{listed_from, par_from, par_tree, seq_from, seq_tree, statements_from, trees}
use Rattle.cal_group.proofs.CountLemmas.{invokes_both}
use Rattle.cal_group.proofs.InvokedLemmas.{adds_invoke}
use Rattle.cal_group.proofs.StableLemmas.{KeepsTexts-refl, KeepsTexts-trans, by_kept, by_numbers, id_number, port_kept, port_numbers}

-- what is later than the new names is later than the old
pub later_before : (old new source later : List Text) → KeepsTexts old new → IsLater new source later → IsLater old source later
later_before old new source later kept is = (KeepsTexts-trans old new later kept is.0, is.1)

pub kept_same : (old new : List Text) → new ≡ old → KeepsTexts old new
kept_same old new same = let K : List Text → Type 0 = KeepsTexts old in subst K (sym same) (KeepsTexts-refl old)

pub named_later : (old new : List Text) (ports : PortNames) → KeepsTexts old new → AreNamed old ports → AreNamed new ports
named_later old new ports kept named = record {
  go = kept ports.go.0 (codes "go") named.go;
  write_en = kept ports.write_en.0 (codes "write_en") named.write_en;
  done = kept ports.done.0 (codes "done") named.done;
}

-- ---- groups that are added

module _ (design : Design) (c : Component) where
  abbrev group_of : InvokeDef → GroupDef
  group_of i = invoke_group design c (invoke_name i.item) i

  groups_both : (k : ℕ) (xs ys : List Statement) → groups_of_invokes design c k (xs ++ ys) ≡ groups_of_invokes design c k xs ++ groups_of_invokes design c (k + length xs) ys
  groups_both k xs ys =
      let first = map TheStatement xs in
      let second = map TheStatement ys in
      ap (λ (items : List Item). map group_of (invokes_among k items)) (map-append TheStatement xs ys)
      ∙ ap (map group_of) (invokes_both k first second)
      ∙ map-append group_of (invokes_among k first) (invokes_among (k + length first) second)
      ∙ ap (λ (n : ℕ). map group_of (invokes_among k first) ++ map group_of (invokes_among (k + n) second)) (length-map xs TheStatement)

  module _ (source : List Text) where
    pub adds_none : (names : List Text) (k : ℕ) (statements : List Statement) (before after : List Group) → after ≡ before → groups_of_invokes design c k statements ≡ [] → AddsGroups design c source names k statements before after
    adds_none names k statements before after same none = record {
      numbers = λ later is all. (let P : List Group → Type 0 = All (GroupHasNumbers later) in subst P (sym same) all);
      trees = λ later is.
          ap (map (group_tree later)) same ∙ sym (append-nil (map (group_tree later) before)) ∙ ap (λ (l : List GroupDef). map (group_tree later) before ++ l) (sym none);
    }

    adds_both : (old new : List Text) → KeepsTexts old new → (k : ℕ) (xs ys : List Statement) (before mid after : List Group)
        → AddsGroups design c source old k xs before mid → AddsGroups design c source new (k + length xs) ys mid after → AddsGroups design c source new k (xs ++ ys) before after
    adds_both old new kept k xs ys before mid after one two = record {
      numbers = λ later is all. two.numbers later is (one.numbers later (later_before old new source later kept is) all);
      trees = λ later is. (
          let first = groups_of_invokes design c k xs in
          let second = groups_of_invokes design c (k + length xs) ys in
          let start = map (group_tree later) before in
          two.trees later is
          ∙ ap (λ (l : List GroupDef). l ++ second) (one.trees later (later_before old new source later kept is))
          ∙ append_assoc start first second
          ∙ ap (λ (l : List GroupDef). start ++ l) (sym (groups_both k xs ys)));
    }

-- ---- what a statement becomes

module _ (source : List Text) where
  expansion_later : (old new : List Text) → KeepsTexts old new → (k : ℕ) (s : Statement) (x : Control) → IsExpansion source old k s x → IsExpansion source new k s x
  expansion_later old new kept k s x e = record {
    numbers = λ later is. e.numbers later (later_before old new source later kept is);
    tree = λ later is. e.tree later (later_before old new source later kept is);
  }

  enable_becomes : (names : List Text) (k : ℕ) (id : NameId) → IsNumberOf source id → IsExpansion source names k (tree.Enable (text_of source id)) (controls.Enable id)
  enable_becomes names k id known = record {
    numbers = λ later is. id_number source later is.1 id known;
    tree = λ later is. ap tree.Enable (text_of-KeepsTexts source later id is.1 known);
  }

  invoke_becomes : (names : List Text) (k : ℕ) (name : NameId) (cell : Text) (ins : List InBinding) (outs : List OutBinding) → slice_get names name.0 ≡ Some (invoke_name k)
      → IsExpansion source names k (tree.Invoke cell ins outs) (controls.Enable name)
  invoke_becomes names k name cell ins outs at = record {
    numbers = λ later is. slice_get_within later name.0 (invoke_name k) (is.0 name.0 (invoke_name k) at);
    tree = λ later is. ap tree.Enable (text_of-slice_get later name (invoke_name k) (is.0 name.0 (invoke_name k) at));
  }

  module _ (port : CalPort) (by : Option NameId) (known : PortHasNumbers source port) (known_by : IfSome by (IsNumberOf source)) where
    if_becomes : (old new : List Text) → KeepsTexts old new → (k : ℕ) (s t : Statement) (on off : Box Control) → IsExpansion source old (k + 1) s on.value
        → IsExpansion source new (k + 1 + length (counted s)) t off.value → IsExpansion source new k (tree.If (port_tree source port) (option_map (text_of source) by) s t) (controls.If port by on off)
    if_becomes old new kept k s t on off first second = record {
      numbers = λ later is. (
        port_numbers source later is.1 port known,
        by_numbers source later is.1 by known_by,
        first.numbers later (later_before old new source later kept is),
        second.numbers later is,
      );
      tree = λ later is. (
          let p = port_kept source later is.1 port known in
          let b = by_kept source later is.1 by known_by in
          let y = first.tree later (later_before old new source later kept is) in
          let n = second.tree later is in
          λ j. tree.If (p j) (b j) (y j) (n j));
    }

    while_becomes : (names : List Text) (k : ℕ) (s : Statement) (body : Box Control) → IsExpansion source names (k + 1) s body.value
        → IsExpansion source names k (tree.While (port_tree source port) (option_map (text_of source) by) s) (controls.While port by body)
    while_becomes names k s body inner = record {
      numbers = λ later is. (port_numbers source later is.1 port known, by_numbers source later is.1 by known_by, inner.numbers later is);
      tree = λ later is. (
          let p = port_kept source later is.1 port known in
          let b = by_kept source later is.1 by known_by in
          let y = inner.tree later is in
          λ j. tree.While (p j) (b j) (y j));
    }

  -- ---- blocks

  module _ (names later : List Text) (is : IsLater names source later) where
    all_numbers : (k : ℕ) (ss : List Statement) (xs : List Control) → AreExpansions source names k ss xs → All (StatementHasNumbers later) xs
    all_numbers k [] [] are = All-nil (StatementHasNumbers later)
    all_numbers k [] (x ∷ xs) are = absurd are
    all_numbers k (s ∷ ss) [] are = absurd are
    all_numbers k (s ∷ ss) (x ∷ xs) are = All-cons (StatementHasNumbers later) x xs (are.0.numbers later is) (all_numbers (k + length (statements_in s)) ss xs are.1)

    all_trees : (k : ℕ) (ss : List Statement) (xs : List Control) → AreExpansions source names k ss xs → statements_from (trees later xs) ≡ expanded_from k (statements_from ss)
    all_trees k [] [] are = refl
    all_trees k [] (x ∷ xs) are = absurd are
    all_trees k (s ∷ ss) [] are = absurd are
    all_trees k (s ∷ ss) (x ∷ xs) are = ap₂ MoreStatements (are.0.tree later is) (all_trees (k + length (statements_in s)) ss xs are.1)

  seq_becomes : (names : List Text) (k : ℕ) (ss : List Statement) (v : Vec Control Global) → AreExpansions source names (k + 1) ss v.items → IsExpansion source names k (tree.Seq (statements_from ss)) (controls.Seq v)
  seq_becomes names k ss v are = record {
    numbers = λ later is. seq_from later v (all_numbers names later is (k + 1) ss v.items are);
    tree = λ later is. seq_tree later v ∙ ap tree.Seq (all_trees names later is (k + 1) ss v.items are);
  }

  par_becomes : (names : List Text) (k : ℕ) (ss : List Statement) (v : Vec Control Global) → AreExpansions source names (k + 1) ss v.items → IsExpansion source names k (tree.Par (statements_from ss)) (controls.Par v)
  par_becomes names k ss v are = record {
    numbers = λ later is. par_from later v (all_numbers names later is (k + 1) ss v.items are);
    tree = λ later is. par_tree later v ∙ ap tree.Par (all_trees names later is (k + 1) ss v.items are);
  }

  -- one more
  expansions_push : (old new : List Text) → KeepsTexts old new → (k : ℕ) (cs xs : List Control) (s x : Control) → AreExpansions source old k (trees source cs) xs
      → IsExpansion source new (k + length (statements_listed source cs)) (statement_tree source s) x → AreExpansions source new k (trees source cs ++ statement_tree source s ∷ []) (xs ++ x ∷ [])
  expansions_push old new kept k [] [] s x are is =
      let same : k + 0 ≡ k = omega arith in
      (subst (λ (n : ℕ). IsExpansion source new n (statement_tree source s) x) same is, tt)
  expansions_push old new kept k [] (y ∷ xs) s x are is = absurd are
  expansions_push old new kept k (c ∷ cs) [] s x are is = absurd are
  expansions_push old new kept k (c ∷ cs) (y ∷ xs) s x are is =
      let first = statements_in (statement_tree source c) in
      let count : k + length (statements_listed source (c ∷ cs)) ≡ (k + length first) + length (statements_listed source cs) = omega (arith, length-append first (statements_listed source cs)) in (
        expansion_later old new kept k (statement_tree source c) y are.0,
        expansions_push old new kept (k + length first) cs xs s x are.1 (subst (λ (n : ℕ). IsExpansion source new n (statement_tree source s) x) count is),
      )

-- ---- how the expansion goes on

module _ (source : List Text) (table : CellTable) (ports : PortNames) where
  -- it has gone over the statements, the first of which is at the next item
  pub record Grows (statements : List Statement) (before after : Made) : Type 0 where
    pub kept : KeepsTexts before.names after.names
    pub item : after.item ≡ before.item + length statements
    pub groups : (design : Design) (c : Component) → HasCells c source table → AreNamed before.names ports → CanStart design c statements →
        AddsGroups design c source after.names before.item statements before.groups.items after.groups.items

  pub grows_none : (a : Made) → Grows [] a a
  grows_none a = record {
    kept = KeepsTexts-refl a.names;
    item = omega arith;
    groups = λ design c has named can. adds_none design c source a.names a.item [] a.groups.items a.groups.items refl refl;
  }

  -- b is a, after one more item
  pub record IsNext (a b : Made) : Type 0 where
    pub names : b.names ≡ a.names
    pub groups : b.groups.items ≡ a.groups.items
    pub item : b.item ≡ a.item + 1

  grows_one : (s : Statement) (a b : Made) → IsNext a b → ((k : ℕ) → invokes_among k (TheStatement s ∷ []) ≡ []) → Grows (s ∷ []) a b
  grows_one s a b next none = record {
    kept = kept_same a.names b.names next.names;
    item = next.item;
    groups = λ design c has named can. adds_none design c source b.names a.item (s ∷ []) a.groups.items b.groups.items next.groups (ap (map (group_of design c)) (none a.item));
  }

  pub grows_both : (xs ys : List Statement) (a b d : Made) → Grows xs a b → Grows ys b d → Grows (xs ++ ys) a d
  grows_both xs ys a b d first second = record {
    kept = KeepsTexts-trans a.names b.names d.names first.kept second.kept;
    item = omega (arith, first.item, second.item, length-append xs ys);
    groups = λ design c has named can. (
        let one = first.groups design c has named (λ cell ins outs there. can cell ins outs (Contains-append_left xs ys (tree.Invoke cell ins outs) there)) in
        let two = second.groups design c has (named_later a.names b.names ports first.kept named) (λ cell ins outs there. can cell ins outs (Contains-append_right xs ys (tree.Invoke cell ins outs) there)) in
        adds_both design c source b.names d.names second.kept a.item xs ys a.groups.items b.groups.items d.groups.items one
        (subst (λ (k : ℕ). AddsGroups design c source d.names k ys b.groups.items d.groups.items) first.item two));
  }

  -- ---- what the expansion of a statement, of a branch and of a block gives

  abbrev pub IsExpanded : Control → Made → Made → Control → Type 0
  IsExpanded s a d x = Grows (statements_in (statement_tree source s)) a d × IsExpansion source d.names a.item (statement_tree source s) x

  abbrev pub IsExpandedBranch : Control → Made → Made → Control → Type 0
  IsExpandedBranch s a d x = Grows (counted (statement_tree source s)) a d × IsExpansion source d.names a.item (statement_tree source s) x

  abbrev pub AreExpanded : List Control → Made → Made → List Control → Type 0
  AreExpanded ss a d xs = Grows (statements_listed source ss) a d × AreExpansions source d.names a.item (trees source ss) xs

  pub enable_arm : (s : Control) (id : NameId) (a b : Made) → s ≡ controls.Enable id → StatementHasNumbers source s → IsNext a b → IsExpanded s a b (controls.Enable id)
  enable_arm s id a b is has next =
      let N : Control → Type 0 = StatementHasNumbers source in
      let P : Control → Type 0 = λ x. IsExpanded x a b (controls.Enable id) in
      subst P (sym is) (grows_one (tree.Enable (text_of source id)) a b next (λ k. refl), enable_becomes source b.names a.item id (subst N is has))

  pub seq_arm : (s : Control) (v w : Vec Control Global) (items : List Control) (a b d : Made) → s ≡ controls.Seq v → items ≡ v.items → IsNext a b → AreExpanded items b d w.items → IsExpanded s a d (controls.Seq w)
  seq_arm s v w items a b d is same next all =
      let P : Control → Type 0 = λ x. IsExpanded x a d (controls.Seq w) in
      let A : List Control → Type 0 = λ l. AreExpanded l b d w.items in
      let whole = subst A same all in
      let ss = statements_from (trees source v.items) in
      let Q : Statement → Type 0 = λ t. Grows (statements_in t) a d × IsExpansion source d.names a.item t (controls.Seq w) in
      let G : List Statement → Type 0 = λ l. Grows l b d in
      let E : ℕ → Type 0 = λ k. AreExpansions source d.names k (trees source v.items) w.items in
      subst P (sym is) (subst Q (sym (seq_tree source v)) (
        grows_both (tree.Seq ss ∷ []) (statements_of ss) a b d (grows_one (tree.Seq ss) a b next (λ k. refl)) (subst G (sym (listed_from source v.items)) whole.0),
        seq_becomes source d.names a.item (trees source v.items) w (subst E next.item whole.1),
      ))

  pub par_arm : (s : Control) (v w : Vec Control Global) (items : List Control) (a b d : Made) → s ≡ controls.Par v → items ≡ v.items → IsNext a b → AreExpanded items b d w.items → IsExpanded s a d (controls.Par w)
  par_arm s v w items a b d is same next all =
      let P : Control → Type 0 = λ x. IsExpanded x a d (controls.Par w) in
      let A : List Control → Type 0 = λ l. AreExpanded l b d w.items in
      let whole = subst A same all in
      let ss = statements_from (trees source v.items) in
      let Q : Statement → Type 0 = λ t. Grows (statements_in t) a d × IsExpansion source d.names a.item t (controls.Par w) in
      let G : List Statement → Type 0 = λ l. Grows l b d in
      let E : ℕ → Type 0 = λ k. AreExpansions source d.names k (trees source v.items) w.items in
      subst P (sym is) (subst Q (sym (par_tree source v)) (
        grows_both (tree.Par ss ∷ []) (statements_of ss) a b d (grows_one (tree.Par ss) a b next (λ k. refl)) (subst G (sym (listed_from source v.items)) whole.0),
        par_becomes source d.names a.item (trees source v.items) w (subst E next.item whole.1),
      ))

  -- a branch as the code reads it, in a box
  boxed : (read s : Control) (a d : Made) (x : Control) → read ≡ s → IsExpandedBranch read a d x → IsExpandedBranch s a d x
  boxed read s a d x same expanded = let P : Control → Type 0 = λ y. IsExpandedBranch y a d x in subst P same expanded

  pub if_arm : (s : Control) (port : CalPort) (by : Option NameId) (on off on' off' : Box Control) (read_on read_off : Control) (a b m d : Made) → s ≡ controls.If port by on off → StatementHasNumbers source s
      → read_on ≡ on.value → read_off ≡ off.value → IsNext a b → IsExpandedBranch read_on b m on'.value → IsExpandedBranch read_off m d off'.value → IsExpanded s a d (controls.If port by on' off')
  if_arm s port by on off on' off' read_on read_off a b m d is has same_on same_off next first second =
      let N : Control → Type 0 = StatementHasNumbers source in
      let P : Control → Type 0 = λ x. IsExpanded x a d (controls.If port by on' off') in
      let known = subst N is has in
      let then_this = statement_tree source on.value in
      let else_this = statement_tree source off.value in
      let whole = statement_tree source (controls.If port by on off) in
      let one = boxed read_on on.value b m on'.value same_on first in
      let two = boxed read_off off.value m d off'.value same_off second in
      let E : ℕ → Type 0 = λ k. IsExpansion source m.names k then_this on'.value in
      let F : ℕ → Type 0 = λ k. IsExpansion source d.names k else_this off'.value in
      let count : m.item ≡ a.item + 1 + length (counted then_this) = omega (arith, one.0.item, next.item) in
      subst P (sym is) (
        grows_both (whole ∷ counted then_this) (counted else_this) a m d (grows_both (whole ∷ []) (counted then_this) a b m (grows_one whole a b next (λ k. refl)) one.0) two.0,
        if_becomes source port by known.0 known.1 m.names d.names two.0.kept a.item then_this else_this on' off' (subst E next.item one.1) (subst F count two.1),
      )

  pub while_arm : (s : Control) (port : CalPort) (by : Option NameId) (body body' : Box Control) (read : Control) (a b d : Made) → s ≡ controls.While port by body → StatementHasNumbers source s → read ≡ body.value
      → IsNext a b → IsExpandedBranch read b d body'.value → IsExpanded s a d (controls.While port by body')
  while_arm s port by body body' read a b d is has same next inner =
      let N : Control → Type 0 = StatementHasNumbers source in
      let P : Control → Type 0 = λ x. IsExpanded x a d (controls.While port by body') in
      let known = subst N is has in
      let of_body = statement_tree source body.value in
      let whole = statement_tree source (controls.While port by body) in
      let one = boxed read body.value b d body'.value same inner in
      let E : ℕ → Type 0 = λ k. IsExpansion source d.names k of_body body'.value in
      subst P (sym is) (
        grows_both (whole ∷ []) (counted of_body) a b d (grows_one whole a b next (λ k. refl)) one.0,
        while_becomes source port by known.0 known.1 d.names a.item of_body body' (subst E next.item one.1),
      )

  -- ---- a branch

  pub empty_branch : (s : Control) (v : Vec Control Global) (box : Box Control) (a : Made) → statement_tree source s ≡ tree.Seq NoStatements → v.items ≡ [] → box.value ≡ controls.Seq v → IsExpandedBranch s a a box.value
  empty_branch s v box a is none same =
      let P : Statement → Type 0 = λ t. Grows (counted t) a a × IsExpansion source a.names a.item t box.value in
      let B : Control → Type 0 = λ x. IsExpansion source a.names a.item (tree.Seq NoStatements) x in
      let E : List Control → Type 0 = λ l. AreExpansions source a.names (a.item + 1) [] l in
      subst P (sym is) (grows_none a, subst B (sym same) (seq_becomes source a.names a.item [] v (subst E (sym none) tt)))

  pub some_branch : (s x : Control) (box : Box Control) (a d : Made) → counted (statement_tree source s) ≡ statements_in (statement_tree source s) → box.value ≡ x → IsExpanded s a d x → IsExpandedBranch s a d box.value
  some_branch s x box a d same boxed expanded =
      let G : List Statement → Type 0 = λ l. Grows l a d in
      let B : Control → Type 0 = λ y. IsExpansion source d.names a.item (statement_tree source s) y in
      (subst G (sym same) expanded.0, subst B (sym boxed) expanded.1)

  -- ---- a block

  pub none_expanded : (a : Made) (xs : List Control) → xs ≡ [] → AreExpanded [] a a xs
  none_expanded a xs none = let E : List Control → Type 0 = λ l. AreExpansions source a.names a.item [] l in (grows_none a, subst E (sym none) tt)

  pub one_more : (cs : List Control) (i : ℕ) (s : Control) (a b d : Made) (xs ys : List Control) (x : Control) → slice_get cs i ≡ Some s → ys ≡ xs ++ x ∷ [] → AreExpanded (take i cs) a b xs → IsExpanded s b d x
      → AreExpanded (take (i + 1) cs) a d ys
  one_more cs i s a b d xs ys x at puts all one =
      let P : List Control → Type 0 = λ l. AreExpanded l a d ys in
      let G : List Statement → Type 0 = λ l. Grows l a d in
      let Y : List Control → Type 0 = λ l. AreExpansions source d.names a.item (trees source (take i cs ++ s ∷ [])) l in
      let T : List Statement → Type 0 = λ l. AreExpansions source d.names a.item l (xs ++ x ∷ []) in
      let E : ℕ → Type 0 = λ k. IsExpansion source d.names k (statement_tree source s) x in
      let first = statements_listed source (take i cs) in
      let here = statements_in (statement_tree source s) in
      let list : statements_listed source (take i cs ++ s ∷ []) ≡ first ++ here =
      flat_map-append (λ (c : Control). statements_in (statement_tree source c)) (take i cs) (s ∷ []) ∙ ap (λ (l : List Statement). first ++ l) (append-nil here) in
      subst P (sym (take_next cs i s at)) (
        subst G (sym list) (grows_both first here a b d all.0 one.0),
        subst Y (sym puts) (subst T (sym (map-append (statement_tree source) (take i cs) (s ∷ [])))
            (expansions_push source b.names d.names one.0.kept a.item (take i cs) xs s x all.1 (subst E all.0.item one.1))),
      )

  -- ---- an invoke

  pub invoke_arm : (s : Control) (cell : NameId) (ins : Vec InBind Global) (outs : Vec OutBind Global) (call : Call) (name : NameId) (group : Group) (item : ℕ) (a b d : Made) → s ≡ controls.Invoke cell ins outs
      → StatementHasNumbers source s → call.cell ≡ cell → call.ins.now ≡ ins.items → call.outs.now ≡ outs.items → call.done ≡ ports.done → item ≡ a.item → IsNext a b
      → KeepsTexts b.names d.names → d.item ≡ b.item → slice_get d.names name.0 ≡ Some (invoke_name item) → d.groups.items ≡ b.groups.items ++ group ∷ [] → IsInvokedGroup call name group
      → ((names : List Text) (design : Design) (c : Component) (go : Text) → HasCells c source table → AreNamed names ports → go_of design c (text_of source cell) ≡ Some go → slice_get names call.go.0 ≡ Some go)
      → IsExpanded s a d (controls.Enable name)
  invoke_arm s cell ins outs call name group item a b d is has same_cell same_ins same_outs same_done at_item next kept counts named puts made starts =
      let N : Control → Type 0 = StatementHasNumbers source in
      let P : Control → Type 0 = λ x. IsExpanded x a d (controls.Enable name) in
      let I : List InBind → Type 0 = All (InHasNumbers source) in
      let O : List OutBind → Type 0 = All (OutHasNumbers source) in
      let C : NameId → Type 0 = IsNumberOf source in
      let whole = statement_tree source (controls.Invoke cell ins outs) in
      let known = subst N is has in
      let all : KeepsTexts a.names d.names = KeepsTexts-trans a.names b.names d.names (kept_same a.names b.names next.names) kept in
      let at : slice_get d.names name.0 ≡ Some (invoke_name a.item) = named ∙ ap (λ (k : ℕ). Some (invoke_name k)) at_item in
      let of_call = tree.Invoke (text_of source call.cell) (map (in_tree source) call.ins.now) (map (out_tree source) call.outs.now) in
      let same : of_call ≡ whole = λ j. tree.Invoke (text_of source (same_cell j)) (map (in_tree source) (same_ins j)) (map (out_tree source) (same_outs j)) in
      subst P (sym is) (
        record {
          kept = all;
          item = omega (arith, counts, next.item);
          groups = λ design c holds names_are can. (
              let start = can (text_of source cell) (map (in_tree source) ins.items) (map (out_tree source) outs.items) (Contains-here whole []) in
              let A : Statement → Type 0 = λ t. AddsGroups design c source d.names a.item (t ∷ []) a.groups.items d.groups.items in
              let of_cell : go_of design c (text_of source call.cell) ≡ Some start.0 = ap (λ (id : NameId). go_of design c (text_of source id)) same_cell ∙ start.1 in
              subst A same (adds_invoke source d.names call start.0 name a.item
              (record {
                cell = subst C (sym same_cell) known.0;
                ins = subst I (sym same_ins) known.1;
                outs = subst O (sym same_outs) known.2;
                starts = all call.go.0 start.0 (starts a.names design c start.0 holds names_are start.1);
                done = all call.done.0 (codes "done") (ap (λ (id : NameId). slice_get a.names id.0) same_done ∙ names_are.done);
                name = at;
              }) group made design c of_cell a.groups.items d.groups.items (puts ∙ ap (λ (l : List Group). l ++ group ∷ []) next.groups)));
        },
        invoke_becomes source d.names a.item name (text_of source cell) (map (in_tree source) ins.items) (map (out_tree source) outs.items) at,
      )
