-- A component's items as walks: what a whole walk says of the component.
use Rattle.std.proofs.Common.{◌≡◌, ℕ, zero, suc, ◌<◌, List, [], ◌∷◌, ◌++◌, length, map, slice_get, All, Some, Result, Ok, Err, IfErr, IsErrAnd, OnOk, refl, sym, ap, subst, ◌∙◌, arith}
use Rattle.std.specs.Prelude.{flat_map}
use Rattle.cal_ast.specs.Items.{Item, TheAssignment, TheCell, TheSignature, TheStatement, control_statements, each_after, each, group_items, items_of}
use Rattle.cal_ast.specs.Naming.{Unreserved}
use Rattle.cal_ast.specs.Rules.{KeepsComponent, all_rules}
use Rattle.cal_place.specs.Around.{Around, KeepsAt, comp_at, design_at, earlier_at}
use Rattle.cal_rules.specs.FirstItem.{TellsItem}
use Rattle.cal_rules.specs.inside.Walks.{KeepItems, WalksOver}
use Rattle.cal_rules.specs.declared.rule.CompEnd.{CompEnd}
use Rattle.cal_rules.specs.declared.rule.CompEnd.TheVariants.{Broken, Memory}
use Rattle.cal_rules.specs.declared.walk.Walk.{Walk}
use Rattle.cal_place.proofs.ListLemmas.{All-at}
use Rattle.cal_place.proofs.EndLemmas.{passed_up}
use Rattle.cal_rules.proofs.WalkLemmas.{Ends, ends_sooner}

-- how many items a list gives
each_after_length : {A B : Type 0} (f : List A → A → B) (before xs : List A) → length (each_after f before xs) ≡ length xs
each_after_length f before [] = refl
each_after_length f before (x ∷ xs) = ap suc (each_after_length f (before ++ x ∷ []) xs)

pub each_length : {A B : Type 0} (f : List A → A → B) (xs : List A) → length (each f xs) ≡ length xs
each_length f xs = each_after_length f [] xs

-- what stands right behind a list
behind : {X : Type 0} (before after : List X) (x : X) → slice_get (before ++ x ∷ after) (length before) ≡ Some x
behind [] after x = refl
behind (y ∷ before) after x = behind before after x

-- what stands before the end of a list stands there in the list alone
in_front : {X : Type 0} (xs ys : List X) (k : ℕ) (x : X) → k < length xs → slice_get (xs ++ ys) k ≡ Some x → slice_get xs k ≡ Some x
in_front [] ys k x less at = absurd (omega arith)
in_front (z ∷ xs) ys zero x less at = at
in_front (z ∷ xs) ys (suc k) x less at = in_front xs ys k x (omega arith) at

module _ (place : Around) where
  -- all items keep the rules
  pub all_kept : KeepItems place (items_of (comp_at place)) → KeepsComponent Unreserved (design_at place) (earlier_at place) (comp_at place)
  all_kept kept k item at = All-at (λ (i : Item). All (KeepsAt place i) all_rules) (items_of (comp_at place)) k item at kept

  -- the first that breaks one
  pub item_told : (old : Walk) (end : CompEnd) → old.item ≡ 0 → Ends place (items_of (comp_at place)) old end → TellsItem place end
  item_told old (Broken number rule) start first =
      let counted : number ≡ length first.before = omega (arith, first.counted, start) in
      let I : List Item → Type 0 = λ items. slice_get items number ≡ Some first.item in
      record {
        items = λ j less item at.
            let below : j < length first.before = omega arith in
            let there = in_front first.before (first.item ∷ first.after) j item below (ap (λ items. slice_get items j) (sym first.parts) ∙ at) in
            All-at (λ (i : Item). All (KeepsAt place i) all_rules) first.before j item there first.kept;
        item = first.item;
        here = subst I (sym first.parts) (ap (slice_get (first.before ++ first.item ∷ first.after)) counted ∙ behind first.before first.after first.item);
        least = first.least;
      }
  item_told old Memory start first = tt

  -- an end of a whole walk that is passed up
  pub end_told : {T : Type 0} (old : Walk) (r : Result T CompEnd) (end : CompEnd) → old.item ≡ 0 → IsErrAnd r (λ other. other ≡ end) → Ends place (items_of (comp_at place)) old end → IfErr r (TellsItem place)
  end_told old r end start is first = passed_up r end (TellsItem place) is (item_told old end start first)

  -- so of a whole walk, however it ends
  pub walk_told : {T : Type 0} (old new : Walk) (r : Result T CompEnd) → old.item ≡ 0 → WalksOver place (items_of (comp_at place)) old new r
      → OnOk r (KeepsComponent Unreserved (design_at place) (earlier_at place) (comp_at place)) × IfErr r (TellsItem place)
  walk_told old new (Ok t) start walked = (all_kept walked.0, tt)
  walk_told old new (Err (Broken number rule)) start walked = (tt, item_told old (Broken number rule) start walked)
  walk_told old new (Err Memory) start walked = (tt, tt)

  -- ---- the parts of a component

  abbrev pub signature_part : List Item
  signature_part = TheSignature ∷ []

  abbrev pub cell_part : List Item
  cell_part = each TheCell (comp_at place).cells

  abbrev pub group_part : List Item
  group_part = flat_map (λ items. items) (each group_items (comp_at place).groups)

  abbrev pub set_part : List Item
  set_part = map TheAssignment (comp_at place).sets

  abbrev pub statement_part : List Item
  statement_part = map TheStatement (control_statements (comp_at place).control)

  abbrev pub to_cells : List Item
  to_cells = signature_part ++ cell_part

  abbrev pub to_groups : List Item
  to_groups = to_cells ++ group_part

  abbrev pub to_sets : List Item
  to_sets = to_groups ++ set_part

  module _ (old : Walk) (end : CompEnd) where
    pub ends_by_sets : Ends place to_sets old end → Ends place (items_of (comp_at place)) old end
    ends_by_sets first = ends_sooner place to_sets statement_part old end first

    pub ends_by_groups : Ends place to_groups old end → Ends place (items_of (comp_at place)) old end
    ends_by_groups first = ends_by_sets (ends_sooner place to_groups set_part old end first)

    pub ends_by_cells : Ends place to_cells old end → Ends place (items_of (comp_at place)) old end
    ends_by_cells first = ends_by_groups (ends_sooner place to_cells group_part old end first)

    pub ends_by_signature : Ends place signature_part old end → Ends place (items_of (comp_at place)) old end
    ends_by_signature first = ends_by_cells (ends_sooner place signature_part cell_part old end first)
