-- The names of the groups of invokes: each is of one invoke, and no group of a component with control has one.
use Rattle.std.proofs.Common.{◌≡◌, ℕ, Bool, true, false, ◌++◌, take, drop, if◌then◌else◌, refl, sym, ap, ◌∙◌, arith}
use Rattle.std.specs.Prelude.{bytes_eq, codes}
use Rattle.std.proofs.lemmas.Slice.Eq.{bytes_eq-Decides}
use Rattle.hw_names.specs.Name.{Text}
use Rattle.cal_ast.specs.Actors.{Actor, GroupNamed, InvokeAt}
use Rattle.cal_ast.specs.Naming.{IsReserved}
use Rattle.cal_group.proofs.NumeralLemmas.{numeral_once}
use Rattle.cal_group.specs.inside.Expanded.{invoke_name}
use Rattle.cal_group.specs.inside.Numeral.{numeral}

abbrev pub is_reserved : Text → Bool
is_reserved name = bytes_eq (take 2 name) (codes "c$")

-- another name for a name that lowering makes, such that no invoke has it
abbrev pub moved : Text → Text
moved name = if is_reserved name then codes "c$" ++ name else name

-- an actor's name where invokes are groups
abbrev pub renamed : Actor → Actor
renamed (GroupNamed name) = GroupNamed (moved name)
renamed (InvokeAt k) = GroupNamed (invoke_name k)

pub reserved_test : (name : Text) → IsReserved name → is_reserved name ≡ true
reserved_test name is = (bytes_eq-Decides (take 2 name) (codes "c$")).1 is

pub reserved_from_test : (name : Text) → is_reserved name ≡ true → IsReserved name
reserved_from_test name is = (bytes_eq-Decides (take 2 name) (codes "c$")).0 is

pub not_reserved : (name : Text) → is_reserved name ≡ false → IsReserved name → ⊥
not_reserved name no' reserved = let yes' = reserved_test name reserved in cc

pub invoke_reserved : (k : ℕ) → IsReserved (invoke_name k)
invoke_reserved k = refl

-- other names stay
pub unmoved : (name : Text) → (IsReserved name → ⊥) → moved name ≡ name
unmoved name free = by (is_reserved name) refl
  where
    by : (b : Bool) → is_reserved name ≡ b → (if b then codes "c$" ++ name else name) ≡ name
    by true is = absurd (free (reserved_from_test name is))
    by false is = refl

moved_once_by : (b d : Bool) (x y : Text) → is_reserved x ≡ b → is_reserved y ≡ d → (if b then codes "c$" ++ x else x) ≡ (if d then codes "c$" ++ y else y) → x ≡ y
moved_once_by true true x y at_x at_y same = ap (λ (text : Text). drop 2 text) same
moved_once_by true false x y at_x at_y same = let yes' = reserved_test y (ap (λ (text : Text). take 2 text) (sym same)) in absurd (cc)
moved_once_by false true x y at_x at_y same = let yes' = reserved_test x (ap (λ (text : Text). take 2 text) same) in absurd (cc)
moved_once_by false false x y at_x at_y same = same

pub moved_once : (x y : Text) → moved x ≡ moved y → x ≡ y
moved_once x y same = moved_once_by (is_reserved x) (is_reserved y) x y refl refl same

-- an invoke's name is none of these
invoke_unmoved_by : (b : Bool) (k : ℕ) (name : Text) → is_reserved name ≡ b → invoke_name k ≡ (if b then codes "c$" ++ name else name) → ⊥
invoke_unmoved_by false k name at same = let yes' = reserved_test name (ap (λ (text : Text). take 2 text) (sym same)) in cc
invoke_unmoved_by true k name at same =
    let rest : codes "invoke" ++ numeral k ≡ name = ap (λ (text : Text). drop 2 text) same in
    let start : codes "in" ≡ codes "c$" = ap (λ (text : Text). take 2 text) rest ∙ reserved_from_test name at in
    let byte : ◌≡◌ {A = ℕ} 105 99 = cc in
    omega (arith, byte)

pub invoke_unmoved : (k : ℕ) (name : Text) → invoke_name k ≡ moved name → ⊥
invoke_unmoved k name same = invoke_unmoved_by (is_reserved name) k name refl same

pub invoke_once : (j k : ℕ) → invoke_name j ≡ invoke_name k → j ≡ k
invoke_once j k same = numeral_once j k (ap (λ (text : Text). drop 8 text) same)

-- actors that differ have different names
pub renamed_once : (a b : Actor) → renamed a ≡ renamed b → a ≡ b
renamed_once (GroupNamed x) (GroupNamed y) same = let names : moved x ≡ moved y = cc in ap GroupNamed (moved_once x y names)
renamed_once (GroupNamed x) (InvokeAt k) same = let names : invoke_name k ≡ moved x = cc in absurd (invoke_unmoved k x names)
renamed_once (InvokeAt j) (GroupNamed y) same = let names : invoke_name j ≡ moved y = cc in absurd (invoke_unmoved j y names)
renamed_once (InvokeAt j) (InvokeAt k) same = let names : invoke_name j ≡ invoke_name k = cc in ap InvokeAt (invoke_once j k names)
