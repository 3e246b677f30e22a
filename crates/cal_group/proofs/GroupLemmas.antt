-- The groups of a component with groups for its invokes: which actor finds which.
use Rattle.std.proofs.Common.{◌≡◌, ℕ, ◌==◌, Bool, true, false, List, [], ◌∷◌, ◌++◌, map, take, Option, Some, None, refl, sym, ap, ap₂, ◌∙◌, subst, eq-eqb, eqb-true}
use Rattle.std.specs.Prelude.{Contains, bytes_eq, codes, find, flat_map, if◌then◌else◌, option_map}
use Rattle.std.proofs.lemmas.Slice.Eq.{bytes_eq-Decides}
use Rattle.hw_names.specs.Name.{Text, Path}
use Rattle.hw_prims.specs.Row.{Row}
use Rattle.cal_ast.proofs.ListLemmas.{Contains-here, Contains-there, Contains-from_map}
use Rattle.cal_ast.specs.Actors.{Actor, GroupNamed, InvokeAt, ActorGroup, same_actor, own_group, invoked_group, actor_groups, group_of}
use Rattle.cal_ast.specs.Controlling.{group_named}
use Rattle.cal_ast.specs.Invoking.{InvokeDef, invokes_in, invoke_group}
use Rattle.cal_ast.specs.Naming.{IsReserved}
use Rattle.cal_ast.specs.Schedule.{is_group_done, sets_of_actor}
use Rattle.cal_ast.specs.Tree.{Assignment, GroupDef, Component, Design}
use Rattle.cal_group.proofs.InvokeNames.{is_reserved, moved, renamed, not_reserved, reserved_from_test, invoke_reserved, unmoved, invoke_unmoved, invoke_once}
use Rattle.cal_group.specs.inside.Expanded.{invoke_name, invoke_groups, expanded, expanded_design}

-- ---- groups by name

-- no group has the name
abbrev IsNowhere : List GroupDef → Text → Type 0
IsNowhere groups name = (g : GroupDef) → Contains groups g → g.name ≡ name → ⊥

pub named-none : (groups : List GroupDef) (name : Text) → IsNowhere groups name → group_named groups name ≡ None
named-none [] name none = refl
named-none (g ∷ groups) name none = by (bytes_eq g.name name) refl (named-none groups name (λ x has. none x (Contains-there g groups x has)))
  where
    by : (b : Bool) → bytes_eq g.name name ≡ b → group_named groups name ≡ None → (if b then Some g else group_named groups name) ≡ None
    by true is later = absurd (none g (Contains-here g groups) ((bytes_eq-Decides g.name name).0 is))
    by false is later = later

named-left : (xs ys : List GroupDef) (name : Text) → group_named ys name ≡ None → group_named (xs ++ ys) name ≡ group_named xs name
named-left [] ys name none = none
named-left (x ∷ xs) ys name none = ap (λ (later : Option GroupDef). if bytes_eq x.name name then Some x else later) (named-left xs ys name none)

pub named-right : (xs ys : List GroupDef) (name : Text) → group_named xs name ≡ None → group_named (xs ++ ys) name ≡ group_named ys name
named-right [] ys name none = refl
named-right (x ∷ xs) ys name none = by (bytes_eq x.name name) none (named-right xs ys name)
  where
    by : (b : Bool) → (if b then Some x else group_named xs name) ≡ None → (group_named xs name ≡ None → group_named (xs ++ ys) name ≡ group_named ys name) → (if b then Some x else group_named (xs ++ ys) name) ≡ group_named ys name
    by true is later = absurd (cc)
    by false is later = later is

-- what is found among the first is found among all
pub named-first : (xs ys : List GroupDef) (name : Text) (g : GroupDef) → group_named xs name ≡ Some g → group_named (xs ++ ys) name ≡ Some g
named-first [] ys name g found = absurd (cc)
named-first (x ∷ xs) ys name g found = by (bytes_eq x.name name) found (named-first xs ys name g)
  where
    by : (b : Bool) → (if b then Some x else group_named xs name) ≡ Some g → (group_named xs name ≡ Some g → group_named (xs ++ ys) name ≡ Some g) → (if b then Some x else group_named (xs ++ ys) name) ≡ Some g
    by true is later = is
    by false is later = later is

-- ---- groups of actors

module _ (design : Design) (c : Component) where
  -- a name finds no invoke
  named_among : (groups : List GroupDef) (invokes : List InvokeDef) (name : Text)
      → option_map (λ (a : ActorGroup). a.group) (find (λ (a : ActorGroup). same_actor a.actor (GroupNamed name)) (map own_group groups ++ map (invoked_group design c) invokes)) ≡ group_named groups name
  named_among [] [] name = refl
  named_among [] (i ∷ invokes) name = named_among [] invokes name
  named_among (g ∷ groups) invokes name = by (bytes_eq g.name name) (named_among groups invokes name)
    where
      by : (b : Bool) → option_map (λ (a : ActorGroup). a.group) (find (λ (a : ActorGroup). same_actor a.actor (GroupNamed name)) (map own_group groups ++ map (invoked_group design c) invokes)) ≡ group_named groups name
          → option_map (λ (a : ActorGroup). a.group) (if b then Some (own_group g) else find (λ (a : ActorGroup). same_actor a.actor (GroupNamed name)) (map own_group groups ++ map (invoked_group design c) invokes))
          ≡ (if b then Some g else group_named groups name)
      by true later = refl
      by false later = later

  pub group_of-named : (name : Text) → group_of design c (GroupNamed name) ≡ group_named c.groups name
  group_of-named name = named_among c.groups (invokes_in c) name

  abbrev invoke_at : List InvokeDef → ℕ → Option InvokeDef
  invoke_at invokes k = find (λ (i : InvokeDef). i.item == k) invokes

  invoked_among : (groups : List GroupDef) (invokes : List InvokeDef) (k : ℕ)
      → option_map (λ (a : ActorGroup). a.group) (find (λ (a : ActorGroup). same_actor a.actor (InvokeAt k)) (map own_group groups ++ map (invoked_group design c) invokes)) ≡ option_map (invoke_group design c []) (invoke_at invokes k)
  invoked_among (g ∷ groups) invokes k = invoked_among groups invokes k
  invoked_among [] [] k = refl
  invoked_among [] (i ∷ invokes) k = by (i.item == k) (invoked_among [] invokes k)
    where
      by : (b : Bool) → option_map (λ (a : ActorGroup). a.group) (find (λ (a : ActorGroup). same_actor a.actor (InvokeAt k)) (map (invoked_group design c) invokes)) ≡ option_map (invoke_group design c []) (invoke_at invokes k)
          → option_map (λ (a : ActorGroup). a.group) (if b then Some (invoked_group design c i) else find (λ (a : ActorGroup). same_actor a.actor (InvokeAt k)) (map (invoked_group design c) invokes))
          ≡ option_map (invoke_group design c []) (if b then Some i else invoke_at invokes k)
      by true later = refl
      by false later = later

  group_of-invoke : (k : ℕ) → group_of design c (InvokeAt k) ≡ option_map (invoke_group design c []) (invoke_at (invokes_in c) k)
  group_of-invoke k = invoked_among c.groups (invokes_in c) k

  -- the group that an invoke has become
  abbrev pub named_group : InvokeDef → GroupDef
  named_group i = invoke_group design c (invoke_name i.item) i

  same_item : (j k : ℕ) → bytes_eq (invoke_name j) (invoke_name k) ≡ (j == k)
  same_item j k = by (bytes_eq (invoke_name j) (invoke_name k)) (j == k) refl refl
    where
      by : (a b : Bool) → bytes_eq (invoke_name j) (invoke_name k) ≡ a → (j == k) ≡ b → a ≡ b
      by true true is is' = refl
      by false false is is' = refl
      by true false is is' = let yes' = eq-eqb j k (invoke_once j k ((bytes_eq-Decides (invoke_name j) (invoke_name k)).0 is)) in cc
      by false true is is' = let yes' = (bytes_eq-Decides (invoke_name j) (invoke_name k)).1 (ap invoke_name (eqb-true j k is')) in cc

  named_invokes : (invokes : List InvokeDef) (k : ℕ) → group_named (map named_group invokes) (invoke_name k) ≡ option_map named_group (invoke_at invokes k)
  named_invokes [] k = refl
  named_invokes (i ∷ invokes) k =
      ap (λ (b : Bool). if b then Some (named_group i) else group_named (map named_group invokes) (invoke_name k)) (same_item i.item k)
      ∙ by (i.item == k) (named_invokes invokes k)
    where
      by : (b : Bool) → group_named (map named_group invokes) (invoke_name k) ≡ option_map named_group (invoke_at invokes k)
          → (if b then Some (named_group i) else group_named (map named_group invokes) (invoke_name k)) ≡ option_map named_group (if b then Some i else invoke_at invokes k)
      by true later = refl
      by false later = later

  -- a group of an invoke has its invoke's name
  pub from_invoke : (g : GroupDef) → Contains (invoke_groups design c) g → (i : InvokeDef) × Contains (invokes_in c) i × (named_group i ≡ g)
  from_invoke g has = Contains-from_map named_group (invokes_in c) g has

  nowhere_moved : (name : Text) → IsNowhere (invoke_groups design c) (moved name)
  nowhere_moved name g has same =
      let i = from_invoke g has in
      invoke_unmoved i.0.item name (ap (λ (x : GroupDef). x.name) i.2 ∙ same)

-- ---- what the groups give

-- no group of the component has a name that lowering makes
abbrev pub HasFreeNames : Component → Type 0
HasFreeNames c = (g : GroupDef) → Contains c.groups g → IsReserved g.name → ⊥

module _ (design : Design) (c : Component) (free : HasFreeNames c) where
  reserved_nowhere : (name : Text) → IsReserved name → IsNowhere c.groups name
  reserved_nowhere name reserved g has same = free g has (subst IsReserved (sym same) reserved)

  moved_own : (name : Text) → group_named c.groups (moved name) ≡ group_named c.groups name
  moved_own name = by (is_reserved name) refl
    where
      by : (b : Bool) → is_reserved name ≡ b → group_named c.groups (moved name) ≡ group_named c.groups name
      by false is = ap (group_named c.groups) (unmoved name (not_reserved name is))
      by true is =
          named-none c.groups (moved name) (reserved_nowhere (moved name) (ap (λ (b : Bool). take 2 (if b then codes "c$" ++ name else name)) is))
          ∙ sym (named-none c.groups name (reserved_nowhere name (reserved_from_test name is)))

  done_of : (path : Path) (row : Row) (o : Option InvokeDef) → is_group_done path row (option_map (named_group design c) o) ≡ is_group_done path row (option_map (invoke_group design c []) o)
  done_of path row None = refl
  done_of path row (Some i) = refl

  -- an actor is done where the group is that it is renamed to
  pub done_same : (path : Path) (row : Row) (a : Actor) → is_group_done path row (group_of (expanded_design design) (expanded design c) (renamed a)) ≡ is_group_done path row (group_of design c a)
  done_same path row (GroupNamed name) =
      ap (is_group_done path row)
      (group_of-named (expanded_design design) (expanded design c) (moved name)
      ∙ named-left c.groups (invoke_groups design c) (moved name) (named-none (invoke_groups design c) (moved name) (nowhere_moved design c name))
      ∙ moved_own name
      ∙ sym (group_of-named design c name))
  done_same path row (InvokeAt k) =
      ap (is_group_done path row)
      (group_of-named (expanded_design design) (expanded design c) (invoke_name k)
      ∙ named-right c.groups (invoke_groups design c) (invoke_name k) (named-none c.groups (invoke_name k) (reserved_nowhere (invoke_name k) (invoke_reserved k)))
      ∙ named_invokes design c (invokes_in c) k)
      ∙ done_of path row (invoke_at design c (invokes_in c) k)
      ∙ ap (is_group_done path row) (sym (group_of-invoke design c k))

  -- ---- the assignments that act

  module _ (acts : Actor → Bool) where
    abbrev before : Actor → Bool
    before a = acts (renamed a)

    invoked_sets : (invokes : List InvokeDef) → flat_map (sets_of_actor before) (map (invoked_group design c) invokes) ≡ flat_map (sets_of_actor acts) (map own_group (map (named_group design c) invokes) ++ [])
    invoked_sets [] = refl
    invoked_sets (i ∷ invokes) = ap (λ (later : List Assignment). sets_of_actor before (invoked_group design c i) ++ later) (invoked_sets invokes)

    all_sets : (groups : List GroupDef) → ((g : GroupDef) → Contains groups g → IsReserved g.name → ⊥)
        → flat_map (sets_of_actor before) (map own_group groups ++ map (invoked_group design c) (invokes_in c)) ≡ flat_map (sets_of_actor acts) (map own_group (groups ++ invoke_groups design c) ++ [])
    all_sets [] each = invoked_sets (invokes_in c)
    all_sets (g ∷ groups) each =
        ap₂ (λ (name : Text) (later : List Assignment). (if acts (GroupNamed name) then g.sets else []) ++ later)
        (unmoved g.name (each g (Contains-here g groups)))
        (all_sets groups (λ x has. each x (Contains-there g groups x has)))

    pub acting_sets : invokes_in (expanded design c) ≡ [] → flat_map (sets_of_actor before) (actor_groups design c) ≡ flat_map (sets_of_actor acts) (actor_groups (expanded_design design) (expanded design c))
    acting_sets none =
        all_sets c.groups free
        ∙ ap (λ (invokes : List InvokeDef). flat_map (sets_of_actor acts) (map own_group (c.groups ++ invoke_groups design c) ++ map (invoked_group (expanded_design design) (expanded design c)) invokes)) (sym none)

-- where nothing acts, no assignment does
pub idle_sets : (acts : Actor → Bool) → ((a : Actor) → acts a ≡ false) → (groups : List ActorGroup) → flat_map (sets_of_actor acts) groups ≡ []
idle_sets acts idle [] = refl
idle_sets acts idle (a ∷ groups) =
    ap (λ (b : Bool). (if b then a.group.sets else []) ++ flat_map (sets_of_actor acts) groups) (idle a.actor) ∙ idle_sets acts idle groups
