-- The numbered places of a component at which its rules are judged. This project's.
use Rattle.std.specs.Prelude.{◌≡◌, ℕ, List, [], ◌∷◌, ◌++◌, map, flat_map, slice_get, Some}
use Rattle.cal_ast.specs.Tree.{CellDef, Assignment, DoneLine, GroupDef, ControlSection, Absent, Empty, Body, Component}
use Rattle.cal_ast.specs.Tree.{Statement, Enable, Seq, Par, If, While, Invoke, Statements, NoStatements, MoreStatements}

pub data Item : Type 0 where
  -- item 0
  TheSignature : Item
  -- a cell, and those before it
  TheCell : (before : List CellDef) → CellDef → Item
  -- the header of a group, and the groups before it
  TheGroup : (before : List GroupDef) → GroupDef → Item
  -- an assignment, of a group or continuous
  TheAssignment : Assignment → Item
  -- a done line of a group, and those before it there
  TheDone : GroupDef → (before : List DoneLine) → DoneLine → Item
  TheStatement : Statement → Item

-- each of the list with those before it, after these
abbrev pub each_after : {A B : Type 0} → (List A → A → B) → List A → List A → List B
each_after f before [] = []
each_after f before (x ∷ xs) = f before x ∷ each_after f (before ++ x ∷ []) xs

-- each of the list with those before it
abbrev pub each : {A B : Type 0} → (List A → A → B) → List A → List B
each f xs = each_after f [] xs

-- a group's header, its assignments, its done lines
abbrev pub group_items : List GroupDef → GroupDef → List Item
group_items before g = TheGroup before g ∷ map TheAssignment g.sets ++ each (TheDone g) g.dones

-- a branch or a body that is an empty sequence is no statement
abbrev pub unless_empty : Statement → List Statement → List Statement
unless_empty (Seq NoStatements) statements = []
unless_empty s statements = statements

-- statements in text order, each before those inside it
abbrev mutual
  pub statements_in : Statement → List Statement
  statements_in (Enable g) = Enable g ∷ []
  statements_in (Seq ss) = Seq ss ∷ statements_of ss
  statements_in (Par ss) = Par ss ∷ statements_of ss
  statements_in (If port by s t) = If port by s t ∷ unless_empty s (statements_in s) ++ unless_empty t (statements_in t)
  statements_in (While port by s) = While port by s ∷ unless_empty s (statements_in s)
  statements_in (Invoke cell ins outs) = Invoke cell ins outs ∷ []

  pub statements_of : Statements → List Statement
  statements_of NoStatements = []
  statements_of (MoreStatements s ss) = statements_in s ++ statements_of ss

abbrev pub control_statements : ControlSection → List Statement
control_statements Absent = []
control_statements Empty = []
control_statements (Body s) = statements_in s

-- the signature, the cells, the groups and the continuous assignments
abbrev pub items_before_control : Component → List Item
items_before_control c = TheSignature ∷ each TheCell c.cells ++ flat_map (λ items. items) (each group_items c.groups) ++ map TheAssignment c.sets

-- the items: control statements are the last
abbrev pub items_of : Component → List Item
items_of c = items_before_control c ++ map TheStatement (control_statements c.control)

-- item k of a component
abbrev pub IsItem : Component → ℕ → Item → Type 0
IsItem c k item = slice_get (items_of c) k ≡ Some item
