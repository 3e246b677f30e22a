-- The groups of a component: its own, and those that the invokes of its control stand for.
use Rattle.std.proofs.Common.{◌≡◌, ℕ, ◌+◌, List, [], ◌∷◌, ◌++◌, map, refl, sym, ap, ap₂, ◌∙◌, append_assoc, Option}
use Rattle.std.specs.List.{flat_map}
use Rattle.std.proofs.lemmas.List.{append-nil, map-append}
use Rattle.std.proofs.lemmas.List.Concat.{flat_map-append}
use Rattle.cal_ast.specs.Actors.{ActorGroup, own_group, invoked_group}
use Rattle.cal_ast.specs.Invoking.{InvokeDef, invokes_among, invokes_in, invoke_group}
use Rattle.cal_ast.specs.Items.{Item, TheSignature, TheCell, TheGroup, TheAssignment, TheDone, TheStatement, control_statements, each, each_after, group_items, items_before_control, statements_in, statements_of, unless_empty}
use Rattle.cal_ast.specs.Tree.{CellDef, Assignment, DoneLine, GroupDef, PortName, Statement, Enable, Seq, Par, If, While, Invoke, NoStatements, MoreStatements, Component, Design}
use Rattle.cal_ast.specs.Wires.{all_groups}
use Rattle.hw_names.specs.Name.{Text}
use Rattle.cal_wires.specs.Readings.{group_invoked, groups_invoked}
use Rattle.cal_place.specs.Statements.{statements_from}

-- ---- items that are no statements

abbrev IsQuiet : Item → Type 0
IsQuiet (TheStatement s) = ⊥
IsQuiet item = Unit {0}

abbrev AreQuiet : List Item → Type 0
AreQuiet [] = Unit {0}
AreQuiet (item ∷ items) = IsQuiet item × AreQuiet items

quiet_append : (xs ys : List Item) → AreQuiet xs → AreQuiet ys → AreQuiet (xs ++ ys)
quiet_append [] ys quiet_xs quiet_ys = quiet_ys
quiet_append (x ∷ xs) ys quiet_xs quiet_ys = (quiet_xs.0, quiet_append xs ys quiet_xs.1 quiet_ys)

quiet_cells : (before cells : List CellDef) → AreQuiet (each_after TheCell before cells)
quiet_cells before [] = tt
quiet_cells before (cell ∷ cells) = (tt, quiet_cells (before ++ cell ∷ []) cells)

quiet_sets : (sets : List Assignment) → AreQuiet (map TheAssignment sets)
quiet_sets [] = tt
quiet_sets (a ∷ sets) = (tt, quiet_sets sets)

quiet_dones : (g : GroupDef) (before dones : List DoneLine) → AreQuiet (each_after (TheDone g) before dones)
quiet_dones g before [] = tt
quiet_dones g before (d ∷ dones) = (tt, quiet_dones g (before ++ d ∷ []) dones)

quiet_group : (before : List GroupDef) (g : GroupDef) → AreQuiet (group_items before g)
quiet_group before g = (tt, quiet_append (map TheAssignment g.sets) (each (TheDone g) g.dones) (quiet_sets g.sets) (quiet_dones g [] g.dones))

quiet_groups : (before groups : List GroupDef) → AreQuiet (flat_map (λ items. items) (each_after group_items before groups))
quiet_groups before [] = tt
quiet_groups before (g ∷ groups) =
    quiet_append (group_items before g) (flat_map (λ items. items) (each_after group_items (before ++ g ∷ []) groups)) (quiet_group before g) (quiet_groups (before ++ g ∷ []) groups)

quiet_before : (c : Component) → AreQuiet (items_before_control c)
quiet_before c =
    quiet_append ((TheSignature ∷ each TheCell c.cells) ++ flat_map (λ items. items) (each group_items c.groups)) (map TheAssignment c.sets)
    (quiet_append (TheSignature ∷ each TheCell c.cells) (flat_map (λ items. items) (each group_items c.groups)) (tt, quiet_cells [] c.cells) (quiet_groups [] c.groups))
    (quiet_sets c.sets)

-- ---- the groups of invokes

-- an item that is no statement is passed over
module _ (design : Design) (c : Component) where
  pass_over : (k : ℕ) (item : Item) (items : List Item) → IsQuiet item → invokes_among k (item ∷ items) ≡ invokes_among (k + 1) items
  pass_over k TheSignature items quiet = refl
  pass_over k (TheCell before cell) items quiet = refl
  pass_over k (TheGroup before g) items quiet = refl
  pass_over k (TheAssignment a) items quiet = refl
  pass_over k (TheDone g before d) items quiet = refl
  pass_over k (TheStatement s) items quiet = absurd quiet

  of_statements : (k : ℕ) (ss : List Statement) → map (invoke_group design c []) (invokes_among k (map TheStatement ss)) ≡ groups_invoked design c ss
  of_statements k [] = refl
  of_statements k (Invoke cell ins outs ∷ ss) =
      ap (λ (gs : List GroupDef). group_invoked design c (Invoke cell ins outs) ++ gs) (of_statements (k + 1) ss)
  of_statements k (Enable g ∷ ss) = of_statements (k + 1) ss
  of_statements k (Seq inner ∷ ss) = of_statements (k + 1) ss
  of_statements k (Par inner ∷ ss) = of_statements (k + 1) ss
  of_statements k (If port by s t ∷ ss) = of_statements (k + 1) ss
  of_statements k (While port by s ∷ ss) = of_statements (k + 1) ss

  after_quiet : (k : ℕ) (items : List Item) (ss : List Statement) → AreQuiet items → map (invoke_group design c []) (invokes_among k (items ++ map TheStatement ss)) ≡ groups_invoked design c ss
  after_quiet k [] ss quiet = of_statements k ss
  after_quiet k (item ∷ items) ss quiet =
      ap (map (invoke_group design c [])) (pass_over k item (items ++ map TheStatement ss) quiet.0) ∙ after_quiet (k + 1) items ss quiet.1

  own_groups : (gs : List GroupDef) → map (λ (a : ActorGroup). a.group) (map own_group gs) ≡ gs
  own_groups [] = refl
  own_groups (g ∷ gs) = ap (λ (l : List GroupDef). g ∷ l) (own_groups gs)

  invoke_groups : (is : List InvokeDef) → map (λ (a : ActorGroup). a.group) (map (invoked_group design c) is) ≡ map (invoke_group design c []) is
  invoke_groups [] = refl
  invoke_groups (i ∷ is) = ap (λ (l : List GroupDef). invoke_group design c [] i ∷ l) (invoke_groups is)

  -- a component's groups are its own, and then those of its invokes
  pub groups_are : c.groups ++ groups_invoked design c (control_statements c.control) ≡ all_groups design c
  groups_are =
      sym (map-append (λ (a : ActorGroup). a.group) (map own_group c.groups) (map (invoked_group design c) (invokes_in c))
      ∙ ap₂ (λ (xs ys : List GroupDef). xs ++ ys) (own_groups c.groups) (invoke_groups (invokes_in c) ∙ after_quiet 0 (items_before_control c) (control_statements c.control) (quiet_before c)))

  -- ---- statement by statement

  pub groups_of_parts : (ss more : List Statement) → groups_invoked design c ss ++ groups_invoked design c more ≡ groups_invoked design c (ss ++ more)
  groups_of_parts ss more = sym (flat_map-append (group_invoked design c) ss more)

  -- an empty sequence stands for no group
  pub groups_of_branch : (s : Statement) → groups_invoked design c (unless_empty s (statements_in s)) ≡ groups_invoked design c (statements_in s)
  groups_of_branch (Enable g) = refl
  groups_of_branch (Seq NoStatements) = refl
  groups_of_branch (Seq (MoreStatements s ss)) = refl
  groups_of_branch (Par ss) = refl
  groups_of_branch (If port by s t) = refl
  groups_of_branch (While port by s) = refl
  groups_of_branch (Invoke cell ins outs) = refl

  pub groups_of_if : (port : PortName) (by : Option Text) (s t : Statement) → groups_invoked design c (statements_in s) ++ groups_invoked design c (statements_in t) ≡ groups_invoked design c (statements_in (If port by s t))
  groups_of_if port by s t =
      ap₂ (λ (xs ys : List GroupDef). xs ++ ys) (sym (groups_of_branch s)) (sym (groups_of_branch t)) ∙ groups_of_parts (unless_empty s (statements_in s)) (unless_empty t (statements_in t))

  pub groups_of_while : (port : PortName) (by : Option Text) (s : Statement) → groups_invoked design c (statements_in s) ≡ groups_invoked design c (statements_in (While port by s))
  groups_of_while port by s = sym (groups_of_branch s)

  pub groups_of_next : (ss : List Statement) (s : Statement) → groups_invoked design c (statements_of (statements_from ss)) ++ groups_invoked design c (statements_in s) ≡ groups_invoked design c (statements_of (statements_from (ss ++ s ∷ [])))
  groups_of_next ss s = groups_of_parts (statements_of (statements_from ss)) (statements_in s) ∙ ap (groups_invoked design c) (next ss)
    where
      next : (before : List Statement) → statements_of (statements_from before) ++ statements_in s ≡ statements_of (statements_from (before ++ s ∷ []))
      next [] = sym (append-nil (statements_in s))
      next (x ∷ before) =
          append_assoc (statements_in x) (statements_of (statements_from before)) (statements_in s) ∙ ap (λ (l : List Statement). statements_in x ++ l) (next before)
