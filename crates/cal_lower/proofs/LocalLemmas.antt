-- Ports of one instance are told apart where their pins alone have plain names: cells may have dots in theirs, as those that lowering names after groups.
use Rattle.std.proofs.Common.{◌≡◌, ℕ, ◌≤◌, List, [], ◌∷◌, ◌++◌, length, Bool, true, false, ◌&&◌, Option, Some, None, refl, sym, ap, ap₂, ◌∙◌, append_assoc, arith}
use Rattle.std.specs.Prelude.{if◌then◌else◌, bytes_eq}
use Rattle.std.proofs.lemmas.Bool.{and_left, cond-false}
use Rattle.std.proofs.lemmas.Slice.Eq.{bytes_eq-Decides}
use Rattle.hw_names.proofs.NameLemmas.{not_dotted}
use Rattle.hw_names.specs.Name.{Text, Path, dot, dotted, full_name, port_at, IsPlain}
use Rattle.hw_prims.specs.Row.{Row}
use Rattle.net_core.specs.Guard.{guard_holds, source_value}
use Rattle.cal_ast.proofs.LocalLemmas.{is_port, is_port-refl, is_port-same}
use Rattle.cal_ast.specs.CalRun.{look, values_for}
use Rattle.cal_ast.specs.Instances.{port_name}
use Rattle.cal_ast.specs.Laws.{local_values}
use Rattle.cal_ast.specs.Tree.{PortName, Assignment}
use Rattle.cal_lower.proofs.ListLemmas.{Each}

same_after : (start x y : Text) → start ++ x ≡ start ++ y → x ≡ y
same_after [] x y e = e
same_after (c ∷ start) x y e = let tails : start ++ x ≡ start ++ y = cc in same_after start x y tails

-- what has one full name at a path has one name
same_below : (path : Path) (x y : Text) → full_name path x ≡ full_name path y → x ≡ y
same_below [] x y e = e
same_below (instance ∷ path) x y e =
    let rest : dot ∷ full_name path x ≡ dot ∷ full_name path y = same_after instance _ _ e in
    let tails : full_name path x ≡ full_name path y = cc in
    same_below path x y tails

-- the name of a port within its component
abbrev name_within : Option Text → Text → Text
name_within None pin = pin
name_within (Some cell) pin = dotted cell pin

full_name-dotted : (path : Path) (cell pin : Text) → full_name path (dotted cell pin) ≡ dotted (full_name path cell) pin
full_name-dotted [] cell pin = refl
full_name-dotted (instance ∷ path) cell pin =
    ap (dotted instance) (full_name-dotted path cell pin) ∙ sym (append_assoc instance (dot ∷ full_name path cell) (dot ∷ pin))

port_at-full_name : (path : Path) (cell : Option Text) (pin : Text) → port_at path cell pin ≡ full_name path (name_within cell pin)
port_at-full_name path None pin = refl
port_at-full_name path (Some cell) pin = sym (full_name-dotted path cell pin)

-- the last dot cuts both texts alike, where what follows it is plain
cut_last : (a b x y : Text) → IsPlain x → IsPlain y → dotted a x ≡ dotted b y → (a ≡ b) × (x ≡ y)
cut_last [] [] x y px py e = (refl, cc)
cut_last [] (c ∷ b) x y px py e = let bad : x ≡ dotted b y = cc in absurd (not_dotted x b y px bad)
cut_last (c ∷ a) [] x y px py e = let bad : dotted a x ≡ y = cc in absurd (not_dotted y a x py (sym bad))
cut_last (c ∷ a) (d ∷ b) x y px py e =
    let heads : c ≡ d = cc in
    let tails : dotted a x ≡ dotted b y = cc in
    let rest = cut_last a b x y px py tails in
    (ap₂ ◌∷◌ heads rest.0, rest.1)

same_within : (a b : Option Text) (x y : Text) → IsPlain x → IsPlain y → name_within a x ≡ name_within b y → (a ≡ b) × (x ≡ y)
same_within None None x y px py e = (refl, e)
same_within None (Some b) x y px py e = absurd (not_dotted x b y px e)
same_within (Some a) None x y px py e = absurd (not_dotted y a x py (sym e))
same_within (Some a) (Some b) x y px py e = let both = cut_last a b x y px py e in (ap Some both.0, both.1)

same_port : (path : Path) (p q : PortName) → IsPlain p.pin → IsPlain q.pin → port_name path p ≡ port_name path q → p ≡ q
same_port path p q hp hq e =
    let within = same_below path _ _ (sym (port_at-full_name path p.cell p.pin) ∙ e ∙ port_at-full_name path q.cell q.pin) in
    let both = same_within p.cell q.cell p.pin q.pin hp hq within in
    ap₂ (λ cell pin. record { cell = cell; pin = pin }) both.0 both.1

is_same : (a b : Bool) → (a ≡ true → b ≡ true) → (b ≡ true → a ≡ true) → a ≡ b
is_same true b f g = sym (f refl)
is_same false true f g = g refl
is_same false false f g = refl

-- the test of full names says the same as that of local ones
port_name-is_port : (path : Path) (p q : PortName) → IsPlain p.pin → IsPlain q.pin → bytes_eq (port_name path p) (port_name path q) ≡ is_port p q
port_name-is_port path p q hp hq =
    is_same _ _
    (λ t. let same = same_port path p q hp hq ((bytes_eq-Decides (port_name path p) (port_name path q)).0 t) in rw (← same) (is_port-refl p))
    (λ t. (bytes_eq-Decides (port_name path p) (port_name path q)).1 (ap (port_name path) (is_port-same p q t)))

abbrev pub HasPlainPin : Assignment → Type 0
HasPlainPin a = IsPlain a.dst.pin

-- what drives a port of an instance is told by the names of its component alone
pub values_are_local : (path : Path) (row : Row) (p : PortName) (sets : List Assignment) → IsPlain p.pin → Each HasPlainPin sets
    → values_for path (port_name path p) row sets ≡ local_values (look path row) p sets
values_are_local path row p [] hp hs = refl
values_are_local path row p (a ∷ sets) hp hs =
    let see : PortName → ℕ = look path row in
    ap₂ (λ (test : Bool) (values : List ℕ). if test && guard_holds see a.guard then source_value see a.src ∷ values else values)
    (port_name-is_port path a.dst p hs.0 hp)
    (values_are_local path row p sets hp hs.1)

-- ---- what drives a port, of several lists of assignments

module _ (see : PortName → ℕ) (p : PortName) where
  push : (b : Bool) (x : ℕ) (xs ys : List ℕ) → (if b then x ∷ (xs ++ ys) else xs ++ ys) ≡ (if b then x ∷ xs else xs) ++ ys
  push true x xs ys = refl
  push false x xs ys = refl

  pub local_values-append : (sets others : List Assignment) → local_values see p (sets ++ others) ≡ local_values see p sets ++ local_values see p others
  local_values-append [] others = refl
  local_values-append (a ∷ sets) others =
      ap (λ (values : List ℕ). if is_port a.dst p && guard_holds see a.guard then source_value see a.src ∷ values else values) (local_values-append sets others)
      ∙ push (is_port a.dst p && guard_holds see a.guard) (source_value see a.src) (local_values see p sets) (local_values see p others)

  -- assignments of other ports don't drive it
  abbrev pub IsOfOther : Assignment → Type 0
  IsOfOther a = is_port a.dst p ≡ false

  pub local_values-none : (sets : List Assignment) → Each IsOfOther sets → local_values see p sets ≡ []
  local_values-none [] none = refl
  local_values-none (a ∷ sets) none =
      cond-false (is_port a.dst p && guard_holds see a.guard) (source_value see a.src ∷ local_values see p sets) (local_values see p sets)
      (and_left (is_port a.dst p) (guard_holds see a.guard) none.0)
      ∙ local_values-none sets none.1

  at_most : (b : Bool) (x : ℕ) → length (if b then x ∷ [] else []) ≤ 1
  at_most true x = omega arith
  at_most false x = omega arith

  pub local_values-one : (a : Assignment) → length (local_values see p (a ∷ [])) ≤ 1
  local_values-one a = at_most (is_port a.dst p && guard_holds see a.guard) (source_value see a.src)

-- ports of other cells are other ports
pub other_port : (p q : PortName) → (p ≡ q → ⊥) → is_port p q ≡ false
other_port p q apart = by (is_port p q) refl
  where
    by : (b : Bool) → is_port p q ≡ b → is_port p q ≡ false
    by true e = absurd (apart (is_port-same p q e))
    by false e = e
