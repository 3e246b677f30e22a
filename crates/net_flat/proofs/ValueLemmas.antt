-- What an assignment with full names says in a row, and what drives a port where one of several lists alone does.
use Rattle.std.proofs.Common.{◌≡◌, ℕ, zero, suc, List, [], ◌∷◌, ◌++◌, Bool, true, false, Option, Some, None, option_map, not, refl, ap, ap₂, ◌∙◌, arith}
use Rattle.std.specs.Prelude.{◌&&◌, ◌||◌, ◌==◌, Contains, bytes_eq, flat_map, map, slice_get, if◌then◌else◌}
use Rattle.std.proofs.lemmas.List.{append-nil}
use Rattle.std.proofs.lemmas.Slice.Eq.{bytes_eq-Decides}
use Rattle.hw_names.specs.Name.{Text, Path}
use Rattle.hw_prims.specs.Row.{Row}
use Rattle.net_core.specs.Guard.{GuardTree, GuardTrees, Reads, Compares, Negates, AllOf, AnyOf, NoGuards, MoreGuards, source_tree, source_value, compare_values, holds, all_hold, any_holds, guard_holds}
use Rattle.net_core.specs.NetRun as net
use Rattle.net_core.specs.Netlist.{SetLine}
use Rattle.net_core.specs.declared.net.Src.{Src}
use Rattle.net_core.specs.declared.net.Src.TheVariants.{Port, Lit}
use Rattle.cal_ast.proofs.ListLemmas.{Contains-here, Contains-there}
use Rattle.cal_ast.specs.CalRun.{values_for}
use Rattle.cal_ast.specs.Instances.{port_name}
use Rattle.cal_ast.specs.Tree.{Assignment}
use Rattle.net_flat.specs.Listing.{map_guard, map_guards, flat_set}

module _ {P Q : Type 0} (f : P → Q) (value : Q → ℕ) where
  source_seen : (s : Src P) → source_value value (source_tree f s) ≡ source_value (λ p. value (f p)) s
  source_seen (Port p) = refl
  source_seen (Lit width n) = refl

  mutual
    guard_seen : (g : GuardTree P) → holds value (map_guard f g) ≡ holds (λ p. value (f p)) g
    guard_seen (Reads s) = ap (λ v. v == 1) (source_seen s)
    guard_seen (Compares op a b) = ap₂ (compare_values op) (source_seen a) (source_seen b)
    guard_seen (Negates g) = ap not (guard_seen g)
    guard_seen (AllOf gs) = all_seen gs
    guard_seen (AnyOf gs) = any_seen gs

    all_seen : (gs : GuardTrees P) → all_hold value (map_guards f gs) ≡ all_hold (λ p. value (f p)) gs
    all_seen NoGuards = refl
    all_seen (MoreGuards g gs) = ap₂ ◌&&◌ (guard_seen g) (all_seen gs)

    any_seen : (gs : GuardTrees P) → any_holds value (map_guards f gs) ≡ any_holds (λ p. value (f p)) gs
    any_seen NoGuards = refl
    any_seen (MoreGuards g gs) = ap₂ ◌||◌ (guard_seen g) (any_seen gs)

  option_seen : (g : Option (GuardTree P)) → guard_holds value (option_map (map_guard f) g) ≡ guard_holds (λ p. value (f p)) g
  option_seen None = refl
  option_seen (Some g) = guard_seen g

-- with full names the assignments of an instance drive what they drive in the design
pub values_for-flat_set : (path : Path) (port : Text) (row : Row) (sets : List Assignment) → net.values_for port row (map (flat_set path) sets) ≡ values_for path port row sets
values_for-flat_set path port row [] = refl
values_for-flat_set path port row (a ∷ sets) =
    alike (bytes_eq (port_name path a.dst) port) _ _ _ _ _ _ (option_seen (port_name path) row a.guard) (source_seen (port_name path) row a.src) (values_for-flat_set path port row sets)
  where
    alike : (b on on' : Bool) (v v' : ℕ) (vs vs' : List ℕ) → on ≡ on' → v ≡ v' → vs ≡ vs' → (if b && on then v ∷ vs else vs) ≡ (if b && on' then v' ∷ vs' else vs')
    alike b on on' v v' vs vs' e f g = cc

pub values_for-append : (port : Text) (row : Row) (xs ys : List SetLine) → net.values_for port row (xs ++ ys) ≡ net.values_for port row xs ++ net.values_for port row ys
values_for-append port row [] ys = refl
values_for-append port row (a ∷ xs) ys = more (bytes_eq a.dst port && guard_holds row a.guard) _ _ _ _ (values_for-append port row xs ys)
  where
    more : (b : Bool) (v : ℕ) (all left right : List ℕ) → all ≡ left ++ right → (if b then v ∷ all else all) ≡ (if b then v ∷ left else left) ++ right
    more true v all left right e = ap (λ l. v ∷ l) e
    more false v all left right e = e

-- a port that no assignment drives
pub values_for-none : (path : Path) (port : Text) (row : Row) (sets : List Assignment) → ((a : Assignment) → Contains sets a → port_name path a.dst ≡ port → ⊥) → values_for path port row sets ≡ []
values_for-none path port row [] other = refl
values_for-none path port row (a ∷ sets) other =
    skip (bytes_eq (port_name path a.dst) port) _ _ _ (λ same. other a (Contains-here a sets) ((bytes_eq-Decides (port_name path a.dst) port).0 same)) (values_for-none path port row sets (λ b has. other b (Contains-there a sets b has)))
  where
    skip : (b on : Bool) (v : ℕ) (vs : List ℕ) → (b ≡ true → ⊥) → vs ≡ [] → (if b && on then v ∷ vs else vs) ≡ []
    skip true on v vs apart e = absurd (apart refl)
    skip false on v vs apart e = e

-- where no list drives the port, all together don't
none_in : {X : Type 0} (port : Text) (row : Row) (f : X → List SetLine) (xs : List X) → ((j : ℕ) (y : X) → slice_get xs j ≡ Some y → net.values_for port row (f y) ≡ []) → net.values_for port row (flat_map f xs) ≡ []
none_in port row f [] other = refl
none_in port row f (x ∷ xs) other =
    values_for-append port row (f x) (flat_map f xs) ∙ ap₂ ◌++◌ (other 0 x refl) (none_in port row f xs (λ j y at. other (suc j) y at))

-- where one list alone drives the port, all together do as that one does
pub only_in : {X : Type 0} (port : Text) (row : Row) (f : X → List SetLine) (xs : List X) (k : ℕ) (x : X) → slice_get xs k ≡ Some x → ((j : ℕ) (y : X) → slice_get xs j ≡ Some y → (j ≡ k → ⊥) → net.values_for port row (f y) ≡ []) → net.values_for port row (flat_map f xs) ≡ net.values_for port row (f x)
only_in port row f [] k x at other = absurd (cc)
only_in port row f (y ∷ ys) zero x at other =
    let is : y ≡ x = cc in
    values_for-append port row (f y) (flat_map f ys) ∙ ap₂ ◌++◌ (ap (λ z. net.values_for port row (f z)) is) (none_in port row f ys (λ j z there. other (suc j) z there (λ e. omega (arith, e)))) ∙ append-nil (net.values_for port row (f x))
only_in port row f (y ∷ ys) (suc k) x at other =
    values_for-append port row (f y) (flat_map f ys) ∙ ap₂ ◌++◌ (other 0 y refl (λ e. omega (arith, e))) (only_in port row f ys k x at (λ j z there apart. other (suc j) z there (λ e. apart (omega (arith, e)))))
