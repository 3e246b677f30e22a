-- The values that assignments give a port: those of lists joined, and of assignments with a guard more.
use Rattle.std.proofs.Common.{◌≡◌, ℕ, Bool, true, false, ◌&&◌, List, [], ◌∷◌, ◌++◌, map, Option, Some, None, refl, sym, ap, ap₂, ◌∙◌}
use Rattle.std.specs.Prelude.{Contains, flat_map, bytes_eq, if◌then◌else◌}
use Rattle.hw_names.specs.Name.{Text, Path}
use Rattle.hw_prims.specs.Row.{Row}
use Rattle.net_core.specs.Guard.{GuardTree, holds, guard_holds, source_value}
use Rattle.cal_ast.proofs.ListLemmas.{Contains-here, Contains-there}
use Rattle.cal_ast.specs.CalRun.{look, values_for}
use Rattle.cal_ast.specs.Holes.{with_guard, guarded_set}
use Rattle.cal_ast.specs.Instances.{port_name}
use Rattle.cal_ast.specs.Tree.{PortName, Assignment}

and-true : (b : Bool) → (b && true) ≡ b
and-true true = refl
and-true false = refl

and-false : (b : Bool) → (b && false) ≡ false
and-false true = refl
and-false false = refl

module _ (path : Path) (port : Text) (row : Row) where
  pub values-append : (xs ys : List Assignment) → values_for path port row (xs ++ ys) ≡ values_for path port row xs ++ values_for path port row ys
  values-append [] ys = refl
  values-append (a ∷ xs) ys = by (bytes_eq (port_name path a.dst) port && guard_holds (look path row) a.guard) (values-append xs ys)
    where
      by : (b : Bool) → values_for path port row (xs ++ ys) ≡ values_for path port row xs ++ values_for path port row ys
          → (if b then source_value (look path row) a.src ∷ values_for path port row (xs ++ ys) else values_for path port row (xs ++ ys))
          ≡ (if b then source_value (look path row) a.src ∷ values_for path port row xs else values_for path port row xs) ++ values_for path port row ys
      by true later = ap (λ (values : List ℕ). source_value (look path row) a.src ∷ values) later
      by false later = later

  -- lists that give the same values, joined
  pub values-flat : {X : Type 0} (f g : X → List Assignment) (xs : List X) → ((x : X) → Contains xs x → values_for path port row (f x) ≡ values_for path port row (g x)) → values_for path port row (flat_map f xs) ≡ values_for path port row (flat_map g xs)
  values-flat f g [] same = refl
  values-flat f g (x ∷ xs) same =
      values-append (f x) (flat_map f xs)
      ∙ ap₂ ◌++◌ (same x (Contains-here x xs)) (values-flat f g xs (λ y has. same y (Contains-there x xs y has)))
      ∙ sym (values-append (g x) (flat_map g xs))

  -- a guard more is true where both are
  guard_both : (when : GuardTree PortName) (guard : Option (GuardTree PortName)) → guard_holds (look path row) (with_guard (Some when) guard) ≡ (holds (look path row) when && guard_holds (look path row) guard)
  guard_both when None = sym (and-true (holds (look path row) when))
  guard_both when (Some g) = ap (λ (b : Bool). holds (look path row) when && b) (and-true (holds (look path row) g))

  -- assignments under a guard give what they give where it is true, and nothing where it isn't
  pub values-guarded : (when : GuardTree PortName) (b : Bool) → holds (look path row) when ≡ b → (sets : List Assignment) → values_for path port row (map (guarded_set (Some when)) sets) ≡ values_for path port row (if b then sets else [])
  values-guarded when true is [] = refl
  values-guarded when false is [] = refl
  values-guarded when true is (a ∷ sets) =
      ap₂ (λ (test : Bool) (values : List ℕ). if test then source_value (look path row) a.src ∷ values else values)
      (ap (λ (g : Bool). bytes_eq (port_name path a.dst) port && g) (guard_both when a.guard ∙ ap (λ (h : Bool). h && guard_holds (look path row) a.guard) is))
      (values-guarded when true is sets)
  values-guarded when false is (a ∷ sets) =
      ap (λ (test : Bool). if test then source_value (look path row) a.src ∷ values_for path port row (map (guarded_set (Some when)) sets) else values_for path port row (map (guarded_set (Some when)) sets))
      (ap (λ (g : Bool). bytes_eq (port_name path a.dst) port && g) (guard_both when a.guard ∙ ap (λ (h : Bool). h && guard_holds (look path row) a.guard) is) ∙ and-false (bytes_eq (port_name path a.dst) port))
      ∙ values-guarded when false is sets
