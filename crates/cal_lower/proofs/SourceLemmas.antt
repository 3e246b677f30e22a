-- What the rules say of a component of the source: its groups are apart and have one done line each, its control enables them, and no name is reserved.
use Rattle.std.proofs.Common.{◌≡◌, ◌≢◌, ◌⊎◌, inl, inr, ℕ, suc, ◌+◌, ◌<◌, List, [], ◌∷◌, ◌++◌, map, take, length, Bool, true, false, cond, Option, Some, None, refl, sym, ap, subst, ◌∙◌, arith}
use Rattle.std.specs.Prelude.{All, Contains, IfSome, find, flat_map, slice_get, bytes_eq, option_map}
use Rattle.std.proofs.lemmas.List.{length-take, get_or-take}
use Rattle.std.proofs.lemmas.List.Elements.{Contains-append_left, Contains-append_right, All-contains}
use Rattle.std.proofs.lemmas.Option.{slice_get_within, get_or_from_slice_get, slice_get-get_or}
use Rattle.std.proofs.lemmas.Slice.Eq.{bytes_eq-Decides}
use Rattle.hw_names.specs.Name.{Text, IsPlain}
use Rattle.cal_ast.proofs.ItemLemmas.{slice_get-each, new_cell, done_item, done_names_known, drives_destination, assignment_item, group_assignment_item, statement_item}
use Rattle.cal_ast.proofs.ListLemmas.{place_of, Contains-at, Contains-here, Contains-map, Contains-flat_map, find-Some, find-at}
use Rattle.cal_ast.proofs.PlainLemmas.{plain_writable}
use Rattle.cal_ast.proofs.SideLemmas.{destination_pin}
use Rattle.cal_ast.specs.Actors.{Actor, GroupNamed, ActorGroup, own_group, invoked_group, same_actor, actor_groups, group_of}
use Rattle.cal_ast.specs.Controlling.{group_named, EnablesGroup, HasCondition}
use Rattle.cal_ast.specs.Invoking.{InvokeDef, invokes_among, invokes_in}
use Rattle.cal_ast.specs.Items.{Item, TheSignature, TheCell, TheGroup, TheAssignment, TheDone, TheStatement, each, each_after, group_items, unless_empty, statements_in, statements_of, control_statements, items_before_control, items_of}
use Rattle.cal_ast.specs.Naming.{AnyName, IsReserved, group_names}
use Rattle.cal_ast.specs.NoInvoke.{IsNoInvoke, IsPlainDesign}
use Rattle.cal_ast.specs.Plain.{HasPlainTree}
use Rattle.cal_ast.specs.Plan.{Plan, plan_at, plans_from, section_plan, plan_of}
use Rattle.cal_ast.specs.Ports.{is_bare, cell_named}
use Rattle.cal_ast.specs.Rules.{C1, Keeps, all_rules}
use Rattle.cal_ast.specs.Sides.{IsDestination}
use Rattle.cal_ast.specs.Tree.{CellDef, Assignment, DoneLine, GroupDef, Statement, Enable, Seq, Par, If, While, Invoke, Statements, NoStatements, MoreStatements, ControlSection, Absent, Empty, Body, Component, Design}
use Rattle.cal_lower.proofs.ListLemmas.{Each, each_append, each_left, each_right, each_from}
use Rattle.cal_lower.proofs.ExtendedLemmas.{find_left, find_none}
use Rattle.cal_lower.proofs.PartLemmas.{EachEnabled, EachEnabledIn, EachTested, EachTestedIn}

-- an earlier element stands among those before a later one
pub Contains-before : {X : Type 0} (xs : List X) (j k : ℕ) (x : X) → j < k → slice_get xs j ≡ Some x → Contains (take k xs) x
Contains-before xs j k x less at =
    let within = slice_get_within xs j x at in
    (j, omega (arith, less, within, length-take k xs), get_or-take k xs j x less ∙ get_or_from_slice_get xs j x x at)

-- ---- no invokes

abbrev IsOtherItem : Item → Type 0
IsOtherItem (TheStatement s) = IsNoInvoke s
IsOtherItem item = Unit {0}

none_among : (k : ℕ) (items : List Item) → Each IsOtherItem items → invokes_among k items ≡ []
none_among k [] others = refl
none_among k (TheStatement (Invoke cell ins outs) ∷ items) others = absurd others.0
none_among k (item ∷ items) others = none_among (k + 1) items others.1

other_each : {X : Type 0} (f : List X → X → Item) (before xs : List X) → ((ys : List X) (x : X) → IsOtherItem (f ys x)) → Each IsOtherItem (each_after f before xs)
other_each f before [] other = tt
other_each f before (x ∷ xs) other = (other before x, other_each f (before ++ x ∷ []) xs other)

other_sets : (sets : List Assignment) → Each IsOtherItem (map TheAssignment sets)
other_sets [] = tt
other_sets (a ∷ sets) = (tt, other_sets sets)

other_statements : (statements : List Statement) → Each IsNoInvoke statements → Each IsOtherItem (map TheStatement statements)
other_statements [] all = tt
other_statements (s ∷ statements) all = (all.0, other_statements statements all.1)

other_groups : (before gs : List GroupDef) → Each IsOtherItem (flat_map (λ (items : List Item). items) (each_after group_items before gs))
other_groups before [] = tt
other_groups before (g ∷ gs) =
    each_append IsOtherItem (group_items before g) (flat_map (λ (items : List Item). items) (each_after group_items (before ++ g ∷ []) gs))
    (tt, each_append IsOtherItem (map TheAssignment g.sets) (each (TheDone g) g.dones) (other_sets g.sets) (other_each (TheDone g) [] g.dones (λ ys d. tt)))
    (other_groups (before ++ g ∷ []) gs)

-- ---- what control enables

-- the actor is a group of the component, combinational or not
abbrev pub IsOwnGroup : Component → Bool → Actor → Type 0
IsOwnGroup c comb actor = (g : GroupDef) × Contains c.groups g × (actor ≡ GroupNamed g.name) × (g.comb ≡ comb)

abbrev pub IsOwnTest : Component → Option Actor → Type 0
IsOwnTest c None = Unit {0}
IsOwnTest c (Some actor) = IsOwnGroup c true actor

-- no two groups have one name
abbrev pub GroupsApart : List GroupDef → Type 0
GroupsApart [] = Unit {0}
GroupsApart (g ∷ gs) = Each (λ (h : GroupDef). g.name ≢ h.name) gs × GroupsApart gs

groups_apart_from : (gs : List GroupDef)
    → ((j k : ℕ) (g h : GroupDef) → j < k → slice_get gs j ≡ Some g → slice_get gs k ≡ Some h → g.name ≢ h.name) → GroupsApart gs
groups_apart_from [] apart = tt
groups_apart_from (g ∷ gs) apart = (
  each_from (λ (h : GroupDef). g.name ≢ h.name) gs (λ h has. let p = place_of gs h has in apart 0 (suc p.0) g h (omega arith) refl p.1),
  groups_apart_from gs (λ j k x y less one other. apart (suc j) (suc k) x y (omega arith) one other),
)

module _ (source : Design) (c : Component) where
  abbrev IsGood : Statement → Type 0
  IsGood s = EnablesGroup c s × HasCondition source c s × IsNoInvoke s

  abbrev IsOwnPlan : Plan → Type 0
  IsOwnPlan p = EachEnabled (IsOwnGroup c false) p × EachTested (IsOwnTest c) p

  own_named : (comb : Bool) (name : Text) (g : GroupDef) → group_named c.groups name ≡ Some g → g.comb ≡ comb → IsOwnGroup c comb (GroupNamed name)
  own_named comb name g found is =
      let r = find-Some (λ (x : GroupDef). bytes_eq x.name name) c.groups g found in
      (g, r.0, ap GroupNamed (sym ((bytes_eq-Decides g.name name).0 r.1)), is)

  own_condition : (by : Option Text) → IfSome by (λ name. (g : GroupDef) × (group_named c.groups name ≡ Some g) × (g.comb ≡ true)) → IsOwnTest c (option_map GroupNamed by)
  own_condition None has = tt
  own_condition (Some name) has = own_named true name has.0 has.1 has.2

  -- a branch that is an empty sequence has no statements
  branch_of : (k : ℕ) (s : Statement) → (Each IsGood (statements_in s) → IsOwnPlan (plan_at k s)) → Each IsGood (unless_empty s (statements_in s)) → IsOwnPlan (plan_at k s)
  branch_of k (Seq NoStatements) good all = (tt, tt)
  branch_of k s good all = good all

  mutual
    plan_good : (k : ℕ) (s : Statement) → Each IsGood (statements_in s) → IsOwnPlan (plan_at k s)
    plan_good k (Enable name) all = (own_named false name all.0.0.0 all.0.0.1 all.0.0.2, tt)
    plan_good k (Seq ss) all = plans_good (k + 1) ss all.1
    plan_good k (Par ss) all = plans_good (k + 1) ss all.1
    plan_good k (If port by s t) all =
        let first : List Statement = unless_empty s (statements_in s) in
        let second : List Statement = unless_empty t (statements_in t) in
        let one = branch_of (k + 1) s (λ here. plan_good (k + 1) s here) (each_left IsGood first second all.1) in
        let two = branch_of (k + 1 + length first) t (λ here. plan_good (k + 1 + length first) t here) (each_right IsGood first second all.1) in
        ((one.0, two.0), (own_condition by all.0.1.group, one.1, two.1))
    plan_good k (While port by s) all =
        let one = branch_of (k + 1) s (λ here. plan_good (k + 1) s here) all.1 in
        (one.0, (own_condition by all.0.1.group, one.1))
    plan_good k (Invoke cell ins outs) all = absurd all.0.2

    plans_good : (k : ℕ) (ss : Statements) → Each IsGood (statements_of ss)
        → EachEnabledIn (IsOwnGroup c false) (plans_from k ss) × EachTestedIn (IsOwnTest c) (plans_from k ss)
    plans_good k NoStatements all = (tt, tt)
    plans_good k (MoreStatements s ss) all =
        let one = plan_good k s (each_left IsGood (statements_in s) (statements_of ss) all) in
        let rest = plans_good (k + length (statements_in s)) ss (each_right IsGood (statements_in s) (statements_of ss) all) in
        ((one.0, rest.0), (one.1, rest.1))

  section_good : (k : ℕ) (control : ControlSection) → Each IsGood (control_statements control) → IsOwnPlan (section_plan k control)
  section_good k Absent all = (tt, tt)
  section_good k Empty all = (tt, tt)
  section_good k (Body s) all = plan_good k s all

-- ---- a component of the source

module _ (source : Design) (tree : HasPlainTree source) (plain : IsPlainDesign source) (c : Component) (in_design : Contains source c) where
  here : slice_get source in_design.0 ≡ Some c
  here = slice_get-get_or source in_design.0 c in_design.1 ∙ ap Some in_design.2

  pub at_item : (item : Item) → Contains (items_of c) item → All (Keeps AnyName source (take in_design.0 source) c item) all_rules
  at_item item has = let i = place_of (items_of c) item has in plain.keeps in_design.0 c here i.0 item i.1

  -- ---- groups

  pub header_item : (k : ℕ) (g : GroupDef) → slice_get c.groups k ≡ Some g → Contains (items_of c) (TheGroup (take k c.groups) g)
  header_item k g at =
      let item : Item = TheGroup (take k c.groups) g in
      let cells : List Item = TheSignature ∷ each TheCell c.cells in
      let groups : List Item = flat_map (λ (items : List Item). items) (each group_items c.groups) in
      let own : Contains (group_items (take k c.groups) g) item =
      Contains-append_left (item ∷ map TheAssignment g.sets) (each (TheDone g) g.dones) item (Contains-here item (map TheAssignment g.sets)) in
      let there : Contains groups item =
      Contains-flat_map (λ (items : List Item). items) (each group_items c.groups) (group_items (take k c.groups) g) item
      (Contains-at (each group_items c.groups) k (group_items (take k c.groups) g) (slice_get-each group_items c.groups k g at)) own in
      Contains-append_left (items_before_control c) (map TheStatement (control_statements c.control)) item
      (Contains-append_left (cells ++ groups) (map TheAssignment c.sets) item (Contains-append_right cells groups item there))

  pub new_group : (k : ℕ) (g : GroupDef) → slice_get c.groups k ≡ Some g → Contains (group_names (take k c.groups)) g.name → ⊥
  new_group k g at = (at_item (TheGroup (take k c.groups) g) (header_item k g at) 0 C1 (omega arith)).0

  earlier_differs : (j k : ℕ) (g h : GroupDef) → j < k → slice_get c.groups j ≡ Some g → slice_get c.groups k ≡ Some h → g.name ≢ h.name
  earlier_differs j k g h less one other same =
      new_group k h other (subst (λ x. Contains (group_names (take k c.groups)) x) same
      (Contains-map (λ (x : GroupDef). x.name) (take k c.groups) g (Contains-before c.groups j k g less one)))

  pub groups_apart : GroupsApart c.groups
  groups_apart = groups_apart_from c.groups earlier_differs

  differs : (x y : Text) → x ≢ y → bytes_eq x y ≡ false
  differs x y apart = by (bytes_eq x y) refl
    where
      by : (b : Bool) → bytes_eq x y ≡ b → bytes_eq x y ≡ false
      by true e = absurd (apart ((bytes_eq-Decides x y).0 e))
      by false e = e

  -- a group's name finds the group
  pub group_found : (g : GroupDef) → Contains c.groups g → group_named c.groups g.name ≡ Some g
  group_found g has =
      let k = place_of c.groups g has in
      find-at (λ (x : GroupDef). bytes_eq x.name g.name) c.groups k.0 g k.1 ((bytes_eq-Decides g.name g.name).1 refl)
      (λ j h less at. differs h.name g.name (earlier_differs j k.0 h g less at k.1))

  -- groups of one name are one
  pub same_group : (g h : GroupDef) → Contains c.groups g → Contains c.groups h → g.name ≡ h.name → g ≡ h
  same_group g h one other same =
      let e : Some g ≡ Some h = sym (group_found g one) ∙ ap (group_named c.groups) same ∙ group_found h other in
      cc

  -- ---- done lines

  pub record HasOneDone (g : GroupDef) : Type 0 where
    pub line : DoneLine
    pub only : g.dones ≡ line ∷ []
    pub of : line.group ≡ g.name

  pub dones_of : (g : GroupDef) → Contains c.groups g → (g.dones ≡ []) ⊎ HasOneDone g
  dones_of g has = by g.dones refl
    where
      by : (ds : List DoneLine) → g.dones ≡ ds → (g.dones ≡ []) ⊎ HasOneDone g
      by [] e = inl e
      by (d ∷ []) e =
          let at : slice_get g.dones 0 ≡ Some d = ap (λ (xs : List DoneLine). slice_get xs 0) e in
          inr (record { line = d; only = e; of = (done_names_known AnyName source plain.keeps in_design.0 c here g has 0 d at).group })
      by (d ∷ f ∷ ds) e =
          let at : slice_get g.dones 1 ≡ Some f = ap (λ (xs : List DoneLine). slice_get xs 1) e in
          let all = at_item (TheDone g (take 1 g.dones) f) (done_item c g 1 f has at) in
          let none : take 1 g.dones ≡ [] = (all 6 C1 (omega arith) (all 7 C1 (omega arith))).0 in
          let bad : d ∷ [] ≡ [] = sym (ap (take 1) e) ∙ none in
          absurd (cc)

  -- a group that isn't combinational has one
  pub one_done : (g : GroupDef) → Contains c.groups g → g.comb ≡ false → HasOneDone g
  one_done g has full = elim (dones_of g has) [
    | inl none ↦
        let k = place_of c.groups g has in
        absurd (at_item (TheGroup (take k.0 c.groups) g) (header_item k.0 g k.1) 6 C1 (omega arith) full none)
    | inr one ↦ one
  ]

  -- ---- control

  good_statements : Each (IsGood source c) (control_statements c.control)
  good_statements = each_from (IsGood source c) (control_statements c.control) (λ s has.
      let all = at_item (TheStatement s) (statement_item c s has) in
      (all 8 C1 (omega arith), all 9 C1 (omega arith), All-contains IsNoInvoke (control_statements c.control) s (plain.no_invoke c in_design) has))

  pub plan_is_own : EachEnabled (IsOwnGroup c false) (plan_of c) × EachTested (IsOwnTest c) (plan_of c)
  plan_is_own = section_good source c (length (items_before_control c)) c.control good_statements

  pub no_invokes : invokes_in c ≡ []
  no_invokes =
      let cells : List Item = TheSignature ∷ each TheCell c.cells in
      let groups : List Item = flat_map (λ (items : List Item). items) (each group_items c.groups) in
      none_among 0 (items_of c)
      (each_append IsOtherItem (items_before_control c) (map TheStatement (control_statements c.control))
      (each_append IsOtherItem (cells ++ groups) (map TheAssignment c.sets)
      (each_append IsOtherItem cells groups (tt, other_each TheCell [] c.cells (λ ys x. tt)) (other_groups [] c.groups)) (other_sets c.sets))
      (other_statements (control_statements c.control)
      (each_from IsNoInvoke (control_statements c.control) (λ s has. All-contains IsNoInvoke (control_statements c.control) s (plain.no_invoke c in_design) has))))

  pub only_groups : actor_groups source c ≡ map own_group c.groups ++ []
  only_groups = ap (λ (is : List InvokeDef). map own_group c.groups ++ map (invoked_group source c) is) no_invokes

  -- the group that an actor stands for
  pub group_of_own : (g : GroupDef) → Contains c.groups g → group_of source c (GroupNamed g.name) ≡ Some g
  group_of_own g has =
      ap (option_map (λ (a : ActorGroup). a.group))
      (find_left (λ (a : ActorGroup). same_actor a.actor (GroupNamed g.name)) (map own_group c.groups) (map (invoked_group source c) (invokes_in c)) (own_group g)
      (over c.groups ∙ ap (option_map own_group) (group_found g has)))
    where
      over : (gs : List GroupDef) → find (λ (a : ActorGroup). same_actor a.actor (GroupNamed g.name)) (map own_group gs)
          ≡ option_map own_group (find (λ (x : GroupDef). bytes_eq x.name g.name) gs)
      over [] = refl
      over (x ∷ gs) = ap (cond (bytes_eq x.name g.name) (Some (own_group x))) (over gs) ∙ out (bytes_eq x.name g.name) (find (λ (y : GroupDef). bytes_eq y.name g.name) gs)
        where
          out : (b : Bool) (o : Option GroupDef) → cond b (Some (own_group x)) (option_map own_group o) ≡ option_map own_group (cond b (Some x) o)
          out true o = refl
          out false o = refl

  -- ---- cells

  -- a name that lowering makes is no cell's
  pub reserved_absent : is_bare c ≡ false → (name : Text) → IsReserved name → cell_named c.cells name ≡ None
  reserved_absent full name reserved = find_none (λ (x : CellDef). bytes_eq x.name name) c.cells (λ x has.
      differs x.name name (λ same.
      let k = place_of c.cells x has in
      let R : Text → Type 0 = IsReserved in
      (new_cell AnyName source plain.keeps in_design.0 c here k.0 x k.1).1 full (subst R (sym same) reserved)))

  -- ---- assignments

  pub set_destination : (a : Assignment) → Contains c.sets a → IsDestination source c a.dst
  set_destination a has = drives_destination AnyName source plain.keeps in_design.0 c here a (assignment_item c a has)

  pub group_set_destination : (g : GroupDef) (a : Assignment) → Contains c.groups g → Contains g.sets a → IsDestination source c a.dst
  group_set_destination g a of has = drives_destination AnyName source plain.keeps in_design.0 c here a (group_assignment_item c g a of has)

  pub plain_destination : (cell : Option Text) (pin : Text) → IsDestination source c (record { cell = cell; pin = pin }) → IsPlain pin
  plain_destination cell pin is = (plain_writable source c tree in_design cell pin (destination_pin source c cell pin is)).1
