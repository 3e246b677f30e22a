-- Guards over numbers of ports, and what each guard of a list in a guard has.
use Rattle.std.proofs.Common.{◌≡◌, ℕ, zero, suc, ◌+◌, ◌<◌, List, [], ◌∷◌, ◌++◌, length, get_or, map, All, refl, sym, subst, ap, ap₂, ◌∙◌, inl, inr, ◌⊎◌, arith, length-append, Vec, Global, Result, Ok, Err, IfOk}
use Rattle.std.specs.Global.{Box}
use Rattle.std.specs.List.{AllByRecursion}
use Rattle.std.proofs.lemmas.List.{get_or_append_left, get_or-append-add}
use Rattle.std.proofs.lemmas.List.Elements.{All-append, All-cons, All-from_recursion, All-get_or, All-head, All-nil, All-tail}
use mathlib.Core.Former.{Count}
use Rattle.hw_names.specs.Name.{Text}
use Rattle.net_core.proofs.GuardLemmas.{guard_tree-All, guard_tree-Any}
use Rattle.net_core.specs.Graph.{guard_ports, guards_ports, source_ports}
use Rattle.net_core.specs.Guard.{GuardTree, Reads, Compares, Negates, AllOf, AnyOf, guards_of, guard_tree, source_tree}
use Rattle.net_core.specs.declared.net.Cmp.{Cmp}
use Rattle.net_core.specs.declared.net.Src.{Src}
use Rattle.net_core.specs.declared.net.Src.TheVariants.{Port, Lit}
use Rattle.net_core.specs.declared.net.Guard.{Guard, Row_of-Guard, end_of-Guard, more_of-Guard, items-the_row-Guard, items_hidden-the_row-Guard-0}
use Rattle.net_core.specs.declared.net.Guard as code
use Rattle.net_core.specs.declared.net.Guard.TheVariants as variants
use Rattle.cal_ast.specs.Numbers.{GuardHasNumbers, GuardsHaveNumbers}
use Rattle.cal_ast.specs.declared.tree.CalPort.{CalPort}
use Rattle.cal_sched.specs.Watching.{AreGuardsOver, AreWithin, IsGuardOver, IsSourceOver, named, negations, numbers_only, top_port}

-- ---- lists

module _ {X : Type 0} (P : X → Type 0) where
  pub all_left : (xs ys : List X) → All P (xs ++ ys) → All P xs
  all_left xs ys h = λ k d within. subst P (get_or_append_left xs ys d k within) (h k d (omega (arith, length-append xs ys)))

  pub all_right : (xs ys : List X) → All P (xs ++ ys) → All P ys
  all_right xs ys h = λ k d within. subst P (get_or-append-add xs ys k d) (h (length xs + k) d (omega (arith, length-append xs ys)))

  -- what a loop over a list comes to
  pub all_item : (xs : List X) (i : ℕ) (x : X) → i < length xs → x ≡ get_or xs i x → All P xs → P x
  all_item xs i x within is h = subst P (sym is) (All-get_or P xs i x within h)

-- ---- each guard of a list in a guard has numbers where the guard has

row_of : Guard CalPort → (n : Count) × Row_of-Guard CalPort n
row_of (code.All' shape row) = (_, row)
row_of _ = (_, end_of-Guard)

row_numbers : (names : List Text) (n : Count) (r : Row_of-Guard CalPort n) → GuardsHaveNumbers names r → AllByRecursion (GuardHasNumbers names) (items-the_row-Guard CalPort n r)
row_numbers names n end_of-Guard h = tt
row_numbers names n (more_of-Guard g rest) h = (h.0, row_numbers names _ rest h.1)

all_numbers : (names : List Text) (v : Vec (Guard CalPort) Global) → GuardHasNumbers names (variants.All v) → All (GuardHasNumbers names) v.items
unfolding row_of
all_numbers names v h =
    let r = row_of (variants.All v) in
    let P : List (Guard CalPort) → Type 0 = AllByRecursion (GuardHasNumbers names) in
    All-from_recursion (GuardHasNumbers names) v.items (subst P (items_hidden-the_row-Guard-0 CalPort v) (row_numbers names r.0 r.1 h))

pub list_numbers : (names : List Text) (g : Guard CalPort) (v : Vec (Guard CalPort) Global) → (g ≡ variants.All v) ⊎ (g ≡ variants.Any v) → GuardHasNumbers names g → All (GuardHasNumbers names) v.items
list_numbers names g v (inl e) h = let P : Guard CalPort → Type 0 = GuardHasNumbers names in all_numbers names v (subst P e h)
list_numbers names g v (inr e) h = let P : Guard CalPort → Type 0 = GuardHasNumbers names in all_numbers names v (subst P e h)

-- ---- ports that the guards of a list read are those that the guard reads

module _ {P Q : Type 0} (f : P → Q) (C : Q → Type 0) where
  abbrev ReadsOnly : Guard P → Type 0
  ReadsOnly g = All C (guard_ports (guard_tree f g))

  from_whole : (gs : List (Guard P)) → All C (guards_ports (guards_of (map (guard_tree f) gs))) → All ReadsOnly gs
  from_whole [] h = All-nil ReadsOnly
  from_whole (g ∷ gs) h =
      let here = guard_ports (guard_tree f g) in
      let others = guards_ports (guards_of (map (guard_tree f) gs)) in
      All-cons ReadsOnly g gs (all_left C here others h) (from_whole gs (all_right C here others h))

  to_whole : (gs : List (Guard P)) → All ReadsOnly gs → All C (guards_ports (guards_of (map (guard_tree f) gs)))
  to_whole [] h = All-nil C
  to_whole (g ∷ gs) h = All-append C (guard_ports (guard_tree f g)) _ (All-head ReadsOnly g gs h) (to_whole gs (All-tail ReadsOnly g gs h))

  pub list_reads : (g : Guard P) (v : Vec (Guard P) Global) → (g ≡ variants.All v) ⊎ (g ≡ variants.Any v) → All C (guard_ports (guard_tree f g)) → All (λ x. All C (guard_ports (guard_tree f x))) v.items
  list_reads g v (inl e) h = from_whole v.items (subst (λ (t : GuardTree Q). All C (guard_ports t)) (ap (guard_tree f) e ∙ guard_tree-All f v) h)
  list_reads g v (inr e) h = from_whole v.items (subst (λ (t : GuardTree Q). All C (guard_ports t)) (ap (guard_tree f) e ∙ guard_tree-Any f v) h)

  pub reads_all : (v : Vec (Guard P) Global) → All (λ x. All C (guard_ports (guard_tree f x))) v.items → All C (guard_ports (guard_tree f (variants.All v)))
  reads_all v h = subst (λ (t : GuardTree Q). All C (guard_ports t)) (sym (guard_tree-All f v)) (to_whole v.items h)

  pub reads_any : (v : Vec (Guard P) Global) → All (λ x. All C (guard_ports (guard_tree f x))) v.items → All C (guard_ports (guard_tree f (variants.Any v)))
  reads_any v h = subst (λ (t : GuardTree Q). All C (guard_ports t)) (sym (guard_tree-Any f v)) (to_whole v.items h)

-- ---- guards over numbers

-- one more `!` inside is one more in all
pub negations-inside : {P : Type 0} (n : ℕ) (g : GuardTree P) → negations n (Negates g) ≡ negations (suc n) g
negations-inside zero g = refl
negations-inside (suc n) g = ap Negates (negations-inside n g)

same_ports : (src : Src ℕ) → source_ports (source_tree numbers_only src) ≡ source_ports src
same_ports (Port k) = refl
same_ports (Lit width value) = refl

module _ (names ports : List Text) where
  source_within : (src : Src CalPort) (over : Src ℕ) → IsSourceOver names ports src over → AreWithin ports (source_ports (source_tree numbers_only over))
  source_within src over h = subst (λ (ks : List ℕ). AreWithin ports ks) (sym (same_ports over)) h.within

  -- a source over numbers that is put into a box, of one out of a box
  pub over_boxed : (from : Box (Src CalPort)) (made : Box (Src ℕ)) (src : Src CalPort) (over : Src ℕ) → src ≡ from.value → made.value ≡ over → IsSourceOver names ports src over
      → IsSourceOver names ports from.value made.value
  over_boxed from made src over was put h =
      let P : Src CalPort → Type 0 = λ s. IsSourceOver names ports s made.value in
      let Q : Src ℕ → Type 0 = IsSourceOver names ports src in
      subst P was (subst Q (sym put) h)

  pub over_read : (s : Box (Src CalPort)) (made : Box (Src ℕ)) → IsSourceOver names ports s.value made.value → IsGuardOver names ports (variants.Read s) (variants.Read made)
  over_read s made h = record { is = ap Reads h.is; within = source_within s.value made.value h }

  pub over_test : (op : Cmp) (a b : Box (Src CalPort)) (left right : Box (Src ℕ)) → IsSourceOver names ports a.value left.value → IsSourceOver names ports b.value right.value
      → IsGuardOver names ports (variants.Test op a b) (variants.Test op left right)
  over_test op a b left right first second =
      record {
        is = ap₂ (Compares op) first.is second.is;
        within = All-append (λ k. k < length ports) _ _ (source_within a.value left.value first) (source_within b.value right.value second);
      }

  -- guards of a list that is to hold whole, and of one of which one is to hold
  pub over_all : (v : Vec (Guard CalPort) Global) (found : Vec (Guard ℕ) Global) → AreGuardsOver names ports v.items found.items → IsGuardOver names ports (variants.All v) (variants.All found)
  over_all v found h =
      record {
        is = guard_tree-All (named ports) found ∙ ap (λ gs. AllOf (guards_of gs)) h.are ∙ sym (guard_tree-All (top_port names) v);
        within = reads_all numbers_only (λ k. k < length ports) found h.within;
      }

  pub over_any : (v : Vec (Guard CalPort) Global) (found : Vec (Guard ℕ) Global) → AreGuardsOver names ports v.items found.items → IsGuardOver names ports (variants.Any v) (variants.Any found)
  over_any v found h =
      record {
        is = guard_tree-Any (named ports) found ∙ ap (λ gs. AnyOf (guards_of gs)) h.are ∙ sym (guard_tree-Any (top_port names) v);
        within = reads_any numbers_only (λ k. k < length ports) found h.within;
      }

  -- what is behind so many `!` is over numbers, and so is the whole
  pub over_negated : {E : Type 0} (whole inner shape : Guard CalPort) (over : Guard ℕ) (count : ℕ) (r : Result (Guard ℕ) E)
      → negations count (guard_tree (top_port names) inner) ≡ guard_tree (top_port names) whole → inner ≡ shape
      → IsGuardOver names ports shape over
      → IfOk r (λ (g : Guard ℕ). guard_tree (named ports) g ≡ negations count (guard_tree (named ports) over))
      → IfOk r (λ (g : Guard ℕ). guard_ports (guard_tree numbers_only g) ≡ guard_ports (guard_tree numbers_only over))
      → IfOk r (IsGuardOver names ports whole)
  over_negated whole inner shape over count (Ok g) rest same h tree reads =
      record {
        is = tree ∙ ap (negations count) (h.is ∙ ap (guard_tree (top_port names)) (sym same)) ∙ rest;
        within = subst (λ (ks : List ℕ). AreWithin ports ks) (sym reads) h.within;
      }
  over_negated whole inner shape over count (Err e) rest same h tree reads = tt
