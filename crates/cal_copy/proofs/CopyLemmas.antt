-- Copies of parts of a design, with the same numbers of names.
use Rattle.std.proofs.Common.{◌≡◌, ℕ, zero, suc, ◌+◌, ◌<◌, List, [], ◌∷◌, ◌++◌, map, take, Option, Some, None, Result, IfOk, Ok, Err, Vec, Global, refl, sym, ap, ap₂, ◌∙◌, subst, arith}
use Rattle.std.specs.Prelude.{All, Contains, slice_get}
use Rattle.std.specs.List.{AllByRecursion, AllZip}
use Rattle.std.proofs.lemmas.List.{length-take, take_more}
use Rattle.std.proofs.lemmas.List.Elements.{All-nil, All-cons, All-head, All-tail, All-from_recursion, recursion_from_All}
use Rattle.std.proofs.lemmas.Option.{slice_get-get_or, slice_get_within, get_or_from_slice_get}
use mathlib.Core.Former.{Count}
use Rattle.std.specs.Global.{Box}
use Rattle.hw_names.proofs.NameLemmas.{same_number}
use Rattle.hw_names.specs.Name.{Text, AreDistinct, text_of}
use Rattle.net_core.proofs.GuardLemmas.{guard_tree-All, guard_tree-Any}
use Rattle.net_core.specs.Guard.{GuardTree, Reads, Compares, Negates, AllOf, AnyOf, guards_of, source_tree}
use Rattle.net_core.specs.declared.net.Cmp.{Cmp}
use Rattle.net_core.specs.declared.net.Src.{Src}
use Rattle.net_core.specs.declared.net.Guard.{Guard, Row_of-Guard, end_of-Guard, more_of-Guard, items-the_row-Guard, items_hidden-the_row-Guard-0}
use Rattle.net_core.specs.declared.net.Guard as code
use Rattle.net_core.specs.declared.net.Guard.TheVariants as variants
use Rattle.cal_ast.specs.Numbers.{SourceHasNumbers, GuardHasNumbers, GuardsHaveNumbers, SetHasNumbers, DoneHasNumbers}
use Rattle.cal_ast.specs.Tree.{PortName, Assignment, DoneLine, port_tree, assignment_tree, done_tree}
use Rattle.cal_ast.specs.declared.tree.Assign.{Assign}
use Rattle.cal_ast.specs.declared.tree.CalCell.{CalCell}
use Rattle.cal_ast.specs.declared.tree.CalPort.{CalPort}
use Rattle.cal_ast.specs.declared.tree.DoneSet.{DoneSet}
use Rattle.cal_ast.specs.declared.tree.Group.{Group}
use Rattle.cal_copy.specs.inside.Copies.{IsCopy, IsGuardCopy, IsWhenCopy, IsSetCopy, IsDoneCopy, IsGroupCopy, IsCellCopy, port_guard}
use Rattle.cal_copy.specs.inside.Negations.{negations}

-- ---- parts of lists, and names

pub take_next : {X : Type 0} (xs : List X) (i : ℕ) (x : X) → slice_get xs i ≡ Some x → take (i + 1) xs ≡ take i xs ++ x ∷ []
take_next xs i x at =
    take_more xs i x (slice_get_within xs i x at) ∙ ap (λ y. take i xs ++ y ∷ []) (get_or_from_slice_get xs i x x at)

pub get-take : {X : Type 0} (xs : List X) (k j : ℕ) (x : X) → slice_get (take k xs) j ≡ Some x → (j < k) × (slice_get xs j ≡ Some x)
get-take xs zero j x at = absurd (cc)
get-take [] (suc k) j x at = absurd (cc)
get-take (y ∷ xs) (suc k) zero x at = (omega arith, at)
get-take (y ∷ xs) (suc k) (suc j) x at = let r = get-take xs k j x at in (omega (arith, r.0), r.1)

-- a name stands once
pub absent_before : (names : List Text) (n : ℕ) (text : Text) → AreDistinct names → slice_get names n ≡ Some text → ¬ Contains (take n names) text
absent_before names n text distinct at (k, within, is) =
    let there = slice_get-get_or (take n names) k text within ∙ ap Some is in
    let same : k ≡ n = same_number names k n text distinct (get-take names n k text there).1 at in
    omega (arith, length-take n names, same, within)

-- ---- copies in lists

module _ {X Y : Type 0} (Numbered : List Text → X → Type 0) (tree_of : List Text → X → Y) where
  pub copies_number : (names : List Text) (xs copies : List X) → AllZip (IsCopy Numbered tree_of) xs copies → All (Numbered names) xs → All (Numbered names) copies
  copies_number names [] [] zip all = All-nil (Numbered names)
  copies_number names [] (y ∷ ys) zip all = absurd zip
  copies_number names (x ∷ xs) [] zip all = absurd zip
  copies_number names (x ∷ xs) (y ∷ ys) zip all =
      All-cons (Numbered names) y ys (zip.0.numbers names (All-head (Numbered names) x xs all)) (copies_number names xs ys zip.1 (All-tail (Numbered names) x xs all))

  pub copies_tree : (names : List Text) (xs copies : List X) → AllZip (IsCopy Numbered tree_of) xs copies → map (tree_of names) copies ≡ map (tree_of names) xs
  copies_tree names [] [] zip = refl
  copies_tree names [] (y ∷ ys) zip = absurd zip
  copies_tree names (x ∷ xs) [] zip = absurd zip
  copies_tree names (x ∷ xs) (y ∷ ys) zip = ap₂ ◌∷◌ (zip.0.tree names) (copies_tree names xs ys zip.1)

-- ---- guards

abbrev row_of : Guard CalPort → (n : Count) × Row_of-Guard CalPort n
row_of (code.All' shape row) = (_, row)
row_of (code.Any' shape row) = (_, row)
row_of guard = (_, end_of-Guard)

row_numbers : (names : List Text) (n : Count) (r : Row_of-Guard CalPort n) → GuardsHaveNumbers names r → AllByRecursion (GuardHasNumbers names) (items-the_row-Guard CalPort n r)
row_numbers names n end_of-Guard h = tt
row_numbers names n (more_of-Guard g rest) h = (h.0, row_numbers names _ rest h.1)

all_numbers : (names : List Text) (v : Vec (Guard CalPort) Global) → GuardHasNumbers names (variants.All v) → All (GuardHasNumbers names) v.items
all_numbers names v h =
    let r = row_of (variants.All v) in
    let P : List (Guard CalPort) → Type 0 = AllByRecursion (GuardHasNumbers names) in
    All-from_recursion (GuardHasNumbers names) v.items (subst P (items_hidden-the_row-Guard-0 CalPort v) (row_numbers names r.0 r.1 h))

row_from : (names : List Text) (n : Count) (r : Row_of-Guard CalPort n) → AllByRecursion (GuardHasNumbers names) (items-the_row-Guard CalPort n r) → GuardsHaveNumbers names r
row_from names n end_of-Guard h = tt
row_from names n (more_of-Guard g rest) h = (h.0, row_from names _ rest h.1)

pub numbers_from : (names : List Text) (v : Vec (Guard CalPort) Global) → All (GuardHasNumbers names) v.items → GuardHasNumbers names (variants.All v)
numbers_from names v h =
    let r = row_of (variants.All v) in
    let P : List (Guard CalPort) → Type 0 = AllByRecursion (GuardHasNumbers names) in
    row_from names r.0 r.1 (subst P (sym (items_hidden-the_row-Guard-0 CalPort v)) (recursion_from_All (GuardHasNumbers names) v.items h))

-- sources in boxes of their own
pub copy_read : (s made : Box (Src CalPort)) → made.value ≡ s.value → IsGuardCopy (variants.Read s) (variants.Read made)
copy_read s made same = record {
  numbers = λ names h. let N : Src CalPort → Type 0 = SourceHasNumbers names in subst N (sym same) h;
  tree = λ names. ap (λ (src : Src CalPort). Reads (source_tree (port_tree names) src)) same;
}

pub copy_test : (op : Cmp) (a b left right : Box (Src CalPort)) → left.value ≡ a.value → right.value ≡ b.value → IsGuardCopy (variants.Test op a b) (variants.Test op left right)
copy_test op a b left right same-left same-right = record {
  numbers = λ names h. let N : Src CalPort → Type 0 = SourceHasNumbers names in (subst N (sym same-left) h.0, subst N (sym same-right) h.1);
  tree = λ names. ap₂ (λ (x y : Src CalPort). Compares op (source_tree (port_tree names) x) (source_tree (port_tree names) y)) same-left same-right;
}

-- guards of a list that is to hold whole, and of one of which one is to hold
pub copy_all : (v copies : Vec (Guard CalPort) Global) → AllZip IsGuardCopy v.items copies.items → IsGuardCopy (variants.All v) (variants.All copies)
copy_all v copies zip = record {
  numbers = λ names h. numbers_from names copies (copies_number GuardHasNumbers port_guard names v.items copies.items zip (all_numbers names v h));
  tree = λ names.
      guard_tree-All (port_tree names) copies ∙ ap (λ (gs : List (GuardTree PortName)). AllOf (guards_of gs)) (copies_tree GuardHasNumbers port_guard names v.items copies.items zip)
      ∙ sym (guard_tree-All (port_tree names) v);
}

pub copy_any : (v copies : Vec (Guard CalPort) Global) → AllZip IsGuardCopy v.items copies.items → IsGuardCopy (variants.Any v) (variants.Any copies)
copy_any v copies zip = record {
  numbers = λ names h. numbers_from names copies (copies_number GuardHasNumbers port_guard names v.items copies.items zip (all_numbers names v h));
  tree = λ names.
      guard_tree-Any (port_tree names) copies ∙ ap (λ (gs : List (GuardTree PortName)). AnyOf (guards_of gs)) (copies_tree GuardHasNumbers port_guard names v.items copies.items zip)
      ∙ sym (guard_tree-Any (port_tree names) v);
}

-- one more `!`, and one more inside all
pub not_numbers : (names : List Text) (b : Box (Guard CalPort)) (g : Guard CalPort) → b.value ≡ g → GuardHasNumbers names g → GuardHasNumbers names (variants.Not b)
not_numbers names b g same h = let N : Guard CalPort → Type 0 = GuardHasNumbers names in subst N (sym same) h

pub not_tree : (names : List Text) (n : ℕ) (tree : GuardTree PortName) (b : Box (Guard CalPort)) (g : Guard CalPort) → b.value ≡ g → port_guard names g ≡ negations n tree → port_guard names (variants.Not b) ≡ negations (suc n) tree
not_tree names n tree b g same h = ap Negates (ap (port_guard names) same ∙ h)

pub negations-inside : (n : ℕ) (g : GuardTree PortName) → negations n (Negates g) ≡ negations (suc n) g
negations-inside zero g = refl
negations-inside (suc n) g = ap Negates (negations-inside n g)

-- a copy of what is behind so many `!`, behind as many, is a copy of the whole
pub copy_whole : {E : Type 0} (whole inner made : Guard CalPort) (count : ℕ) (r : Result (Guard CalPort) E)
    → ((names : List Text) → negations count (port_guard names inner) ≡ port_guard names whole) → ((names : List Text) → GuardHasNumbers names whole → GuardHasNumbers names inner)
    → IsGuardCopy inner made
    → ((names : List Text) → GuardHasNumbers names made → IfOk r (GuardHasNumbers names)) → ((names : List Text) → IfOk r (λ negated. port_guard names negated ≡ negations count (port_guard names made)))
    → IfOk r (IsGuardCopy whole)
copy_whole whole inner made count (Ok x) rest numbers copy has tree = record {
  numbers = λ names h. has names (copy.numbers names (numbers names h));
  tree = λ names. tree names ∙ ap (negations count) (copy.tree names) ∙ rest names;
}
copy_whole whole inner made count (Err e) rest numbers copy has tree = tt

-- ---- lines

pub when_none : IsWhenCopy None None
when_none = record { numbers = λ names h. h; tree = λ names. refl }

pub when_some : (g copy : Guard CalPort) → IsGuardCopy g copy → IsWhenCopy (Some g) (Some copy)
when_some g copy is = record { numbers = is.numbers; tree = λ names. ap Some (is.tree names) }

pub set_copied : (a : Assign) (guard : Option (Guard CalPort)) → IsWhenCopy a.guard guard → IsSetCopy a (record { dst = a.dst; guard = guard; src = a.src })
set_copied a guard is = record {
  numbers = λ names h. (h.0, is.numbers names h.1, h.2);
  tree = λ names. ap (λ (g : Option (GuardTree PortName)). record { dst = port_tree names a.dst; guard = g; src = source_tree (port_tree names) a.src }) (is.tree names);
}

pub done_copied : (d : DoneSet) (guard : Option (Guard CalPort)) → IsWhenCopy d.guard guard → IsDoneCopy d (record { of = d.of; guard = guard; src = d.src })
done_copied d guard is = record {
  numbers = λ names h. (h.0, is.numbers names h.1, h.2);
  tree = λ names. ap (λ (g : Option (GuardTree PortName)). record { group = text_of names d.of; guard = g; src = source_tree (port_tree names) d.src }) (is.tree names);
}

pub group_copied : (g : Group) (sets : Vec Assign Global) (dones : Vec DoneSet Global) → AllZip IsSetCopy g.sets.items sets.items → AllZip IsDoneCopy g.dones.items dones.items
    → IsGroupCopy g (record { name = g.name; comb = g.comb; sets = sets; dones = dones })
group_copied g sets dones first later = record {
  numbers = λ names h. record {
    name = h.name;
    sets = copies_number SetHasNumbers assignment_tree names g.sets.items sets.items first h.sets;
    dones = copies_number DoneHasNumbers done_tree names g.dones.items dones.items later h.dones;
  };
  tree = λ names. ap₂ (λ (a : List Assignment) (d : List DoneLine). record { name = text_of names g.name; comb = g.comb; sets = a; dones = d })
      (copies_tree SetHasNumbers assignment_tree names g.sets.items sets.items first) (copies_tree DoneHasNumbers done_tree names g.dones.items dones.items later);
}

pub cell_copied : (cell : CalCell) (params : Vec ℕ Global) → params.items ≡ cell.params.items → IsCellCopy cell (record { name = cell.name; made = cell.made; params = params; external = cell.external })
cell_copied cell params same = record {
  numbers = λ names h. h;
  tree = λ names. ap (λ (ps : List ℕ). record { name = text_of names cell.name; made = text_of names cell.made; params = ps; external = cell.external }) same;
}
