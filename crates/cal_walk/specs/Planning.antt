-- What code makes of the control of a component: a plan, whose actors are the groups and then the invokes, by their numbers. This project's.
use Rattle.std.specs.Prelude.{◌≡◌, ℕ, ◌+◌, List, [], ◌∷◌, ◌++◌, length, map, flat_map, slice_get, Some, None, Option, IfSome, All, Contains}
use Rattle.hw_names.specs.Name.{Text, text_of}
use Rattle.hw_names.specs.declared.names.NameId.{NameId}
use Rattle.net_core.specs.Numbers.{IsNumberOf}
use Rattle.cal_ast.specs.Actors.{Actor, GroupNamed, InvokeAt, actors_of}
use Rattle.cal_ast.specs.Invoking.{InvokeDef, invokes_among, invokes_in}
use Rattle.cal_ast.specs.Items.{TheStatement, control_statements, statements_in, statements_of, unless_empty}
use Rattle.cal_ast.specs.Numbers.{ControlHasNumbers, InHasNumbers, OutHasNumbers, PortHasNumbers, StatementHasNumbers}
use Rattle.cal_ast.specs.Plan.{Plan, Plans, plan_of}
use Rattle.cal_ast.specs.Ports.{is_bare, cell_named}
use Rattle.cal_ast.specs.Statement.{IfEnable, IfCondition, IfInvoke}
use Rattle.cal_ast.specs.Tree.{PortName, CellDef, GroupDef, Statement, If, While, Statements, NoStatements, MoreStatements, Component}
use Rattle.cal_ast.specs.Tree.{component_tree, control_tree, in_tree, out_tree, port_tree, statement_tree}
use Rattle.cal_ast.specs.declared.tree.CalComp.{CalComp}
use Rattle.cal_ast.specs.declared.tree.CalDesign.{CalDesign}
use Rattle.cal_ast.specs.declared.tree.CalPort.{CalPort}
use Rattle.cal_ast.specs.declared.tree.Control.{Control}
use Rattle.cal_ast.specs.declared.tree.ControlPart.{ControlPart}
use Rattle.cal_ast.specs.declared.tree.InBind.{InBind}
use Rattle.cal_ast.specs.declared.tree.OutBind.{OutBind}
use Rattle.cal_walk.specs.Trees.{plan_tree, slice_trees, IsWithin}
use Rattle.cal_walk.specs.declared.plan.Plan as code
use Rattle.cal_walk.specs.declared.planning.Controlled.{Controlled}
use Rattle.cal_walk.specs.declared.planning.Invoke.{Invoke}
use Rattle.cal_walk.specs.declared.planning.Numbers.{Numbers}
use Rattle.cal_walk.specs.declared.planning.Planner.{Planner}

-- ---- names

-- for each element the table has, at the number of its name, the value of some element of that name
abbrev pub TellsLast : {X V : Type 0} → (X → ℕ) → (ℕ → X → V) → List X → List V → Type 0
TellsLast {X} number value xs table =
    (k : ℕ) (x : X) → slice_get xs k ≡ Some x →
    (j : ℕ) × (y : X) × (slice_get xs j ≡ Some y) × (number y ≡ number x) × (slice_get table (number x) ≡ Some (value j y))

-- group k of the component has the name
abbrev pub IsGroupAt : Component → Text → ℕ → Type 0
IsGroupAt c name k = (g : GroupDef) × (slice_get c.groups k ≡ Some g) × (name ≡ g.name)

-- a group of the component has the name
abbrev pub NamesGroup : Component → Text → Type 0
NamesGroup c name = (k : ℕ) × IsGroupAt c name k

abbrev pub NamesCell : Component → Text → Type 0
NamesCell c name = (cell : CellDef) × (cell_named c.cells name ≡ Some cell)

-- what a cell of this name is made of
pub record IsMadeOf (names : List Text) (c : Component) (cell made : NameId) : Type 0 where
  pub number : IsNumberOf names made
  pub def : CellDef
  pub found : cell_named c.cells (text_of names cell) ≡ Some def
  pub text : text_of names made ≡ def.made

-- the table gives the number of each group of the component, and what each of its cells is made of
pub record ShowsNames (names : List Text) (c : Component) (numbers : Numbers) : Type 0 where
  pub groups : (name : NameId) → IsNumberOf names name → NamesGroup c (text_of names name) →
      (k : ℕ) × (slice_get numbers.groups.items name.0 ≡ Some k) × IsGroupAt c (text_of names name) k
  pub made : (name : NameId) → IsNumberOf names name → NamesCell c (text_of names name) →
      (made : NameId) × (slice_get numbers.made.items name.0 ≡ Some made) × IsMadeOf names c name made

-- the port of a statement's condition, if it has one
abbrev pub tested_ports : Statement → List PortName
tested_ports (If port by s t) = port ∷ []
tested_ports (While port by s) = port ∷ []
tested_ports s = []

-- a condition of the component's control reads the port
abbrev pub IsTestedIn : Component → PortName → Type 0
IsTestedIn c port = Contains (flat_map tested_ports (control_statements c.control)) port

-- the groups and the cells that a statement names are there, and its condition is one of the component's control
pub record IsKnown (c : Component) (s : Statement) : Type 0 where
  pub enable : IfEnable s (NamesGroup c)
  pub condition : IfCondition s (λ port by. IfSome by (NamesGroup c))
  pub invoke : IfInvoke s (λ cell ins outs. NamesCell c cell)
  pub ports : All (IsTestedIn c) (tested_ports s)

-- ---- invokes

abbrev pub invoke_tree : List Text → Invoke → InvokeDef
invoke_tree names i =
    record { item = i.item; cell = text_of names i.cell; ins = map (in_tree names) i.ins.now; outs = map (out_tree names) i.outs.now }

-- the names of an invoke are numbers, and its cell is there
pub record InvokeNumbers (names : List Text) (c : Component) (cell : NameId) (ins : List InBind) (outs : List OutBind) : Type 0 where
  pub number : IsNumberOf names cell
  pub named : NamesCell c (text_of names cell)
  pub inputs : All (InHasNumbers names) ins
  pub outputs : All (OutHasNumbers names) outs

-- the names of an invoke are numbers, and it knows what its cell is made of
pub record IsInvoke (names : List Text) (c : Component) (i : Invoke) : Type 0 where
  pub numbers : InvokeNumbers names c i.cell i.ins.now i.outs.now
  pub made_of : IsMadeOf names c i.cell i.made

-- ---- plans

-- numbers mean these actors and ports: groups come first, and then invokes
pub record AreNumbered (names : List Text) (c : Component) (invokes : List Invoke) (conditions : List CalPort) (f : ℕ → Actor) (h : ℕ → PortName)
    : Type 0 where
  pub grouped : (k : ℕ) (g : GroupDef) → slice_get c.groups k ≡ Some g → f k ≡ GroupNamed g.name
  pub invoked : (k : ℕ) (i : Invoke) → slice_get invokes k ≡ Some i → f (length c.groups + k) ≡ InvokeAt i.item
  pub tested : (k : ℕ) (p : CalPort) → slice_get conditions k ≡ Some p → h k ≡ port_tree names p

-- what planning goes by; what it has so far has numbers
pub record CanPlan (names : List Text) (c : Component) (planner : Planner) : Type 0 where
  pub shows : ShowsNames names c planner.numbers.now
  pub counted : planner.groups ≡ length c.groups
  pub invoked : All (IsInvoke names c) planner.invokes.items
  pub tested : All (PortHasNumbers names) planner.conditions.items
  pub are_tested : All (λ p. IsTestedIn c (port_tree names p)) planner.conditions.items

-- one item more is counted, and nothing else is changed
pub record IsCounted (old new : Planner) : Type 0 where
  pub numbers_are : new.numbers ≡ old.numbers
  pub groups_are : new.groups ≡ old.groups
  pub item_is : new.item ≡ old.item + 1
  pub invokes_are : new.invokes.items ≡ old.invokes.items
  pub conditions_are : new.conditions.items ≡ old.conditions.items

-- planning goes over these statements: it counts them, and puts their invokes and conditions last
pub record GoesOver (names : List Text) (c : Component) (statements : List Statement) (old new : Planner) : Type 0 where
  pub can : CanPlan names c new
  pub counts : new.item ≡ old.item + length statements
  pub adds : map (invoke_tree names) new.invokes.items
      ≡ map (invoke_tree names) old.invokes.items ++ invokes_among old.item (map TheStatement statements)
  pub keeps_invokes : (k : ℕ) (i : Invoke) → slice_get old.invokes.items k ≡ Some i → slice_get new.invokes.items k ≡ Some i
  pub keeps_conditions : (k : ℕ) (p : CalPort) → slice_get old.conditions.items k ≡ Some p → slice_get new.conditions.items k ≡ Some p

-- a condition's port is put last, and has this number
pub record IsConditionAt (names : List Text) (c : Component) (port : CalPort) (old new : Planner) (number : ℕ) : Type 0 where
  pub goes : GoesOver names c [] old new
  pub at : slice_get new.conditions.items number ≡ Some port

-- a condition's group, if it has one, is a group of the component
abbrev pub NamesGroupIfAny : List Text → Component → Option NameId → Type 0
NamesGroupIfAny names c by = IfSome by (λ name. IsNumberOf names name × NamesGroup c (text_of names name))

-- and this is its number
abbrev pub IsActorOf : List Text → Component → Option NameId → Option ℕ → Type 0
IsActorOf names c None actor = actor ≡ None
IsActorOf names c (Some name) actor = (k : ℕ) × (actor ≡ Some k) × IsGroupAt c (text_of names name) k

-- an invoke is put last, and has this number as an actor
pub record PutsInvoke (names : List Text) (c : Component) (item : ℕ) (cell : NameId) (ins : List InBind) (outs : List OutBind)
    (old new : Planner) (number : ℕ) : Type 0 where
  pub can : CanPlan names c new
  pub i : Invoke
  pub is : invoke_tree names i ≡ record { item = item; cell = text_of names cell; ins = map (in_tree names) ins; outs = map (out_tree names) outs }
  pub item_is : new.item ≡ old.item
  pub puts : new.invokes.items ≡ old.invokes.items ++ i ∷ []
  pub conditions_are : new.conditions.items ≡ old.conditions.items
  pub number_is : number ≡ length c.groups + length old.invokes.items

-- the plan is this one, where numbers mean what the planner has
pub record IsPlanOf (names : List Text) (c : Component) (planner : Planner) (tree : Plan) (plan : code.Plan) : Type 0 where
  pub is : (f : ℕ → Actor) (h : ℕ → PortName) → AreNumbered names c planner.invokes.items planner.conditions.items f h → plan_tree f h plan ≡ tree
  pub within : IsWithin (length c.groups + length planner.invokes.items) (length planner.conditions.items) plan

-- the same of plans
pub record ArePlansOf (names : List Text) (c : Component) (planner : Planner) (trees : Plans) (plans : List code.Plan) : Type 0 where
  pub are : (f : ℕ → Actor) (h : ℕ → PortName) → AreNumbered names c planner.invokes.items planner.conditions.items f h → slice_trees f h plans ≡ trees
  pub within : All (IsWithin (length c.groups + length planner.invokes.items) (length planner.conditions.items)) plans

-- statements in a list
abbrev pub statements_from : List Statement → Statements
statements_from [] = NoStatements
statements_from (s ∷ ss) = MoreStatements s (statements_from ss)

-- what planning needs for a statement
pub record CanPlanThis (names : List Text) (c : Component) (control : Control) (planner : Planner) : Type 0 where
  pub can : CanPlan names c planner
  pub numbers : StatementHasNumbers names control
  pub known : All (IsKnown c) (statements_in (statement_tree names control))

-- for a branch or a body
pub record CanPlanBranch (names : List Text) (c : Component) (control : Control) (planner : Planner) : Type 0 where
  pub can : CanPlan names c planner
  pub numbers : StatementHasNumbers names control
  pub known : All (IsKnown c) (unless_empty (statement_tree names control) (statements_in (statement_tree names control)))

-- for statements
pub record CanPlanAll (names : List Text) (c : Component) (statements : List Control) (planner : Planner) : Type 0 where
  pub can : CanPlan names c planner
  pub numbers : All (StatementHasNumbers names) statements
  pub known : All (IsKnown c) (statements_of (statements_from (map (statement_tree names) statements)))

-- for a control section
pub record CanPlanSection (names : List Text) (c : Component) (control : ControlPart) (planner : Planner) : Type 0 where
  pub can : CanPlan names c planner
  pub numbers : ControlHasNumbers names control
  pub known : All (IsKnown c) (control_statements (control_tree names control))

-- ---- components

-- the control of the component with this tree
pub record IsControlOf (names : List Text) (c : Component) (control : Controlled) : Type 0 where
  pub bare_is : control.bare ≡ is_bare c
  pub invokes_are : map (invoke_tree names) control.invokes.items ≡ invokes_in c
  pub are_invokes : All (IsInvoke names c) control.invokes.items
  pub conditions_are : All (PortHasNumbers names) control.conditions.items
  pub are_tested : All (λ p. IsTestedIn c (port_tree names p)) control.conditions.items
  pub plan_is : (f : ℕ → Actor) (h : ℕ → PortName) → AreNumbered names c control.invokes.items control.conditions.items f h →
      plan_tree f h control.plan ≡ plan_of c
  pub within : IsWithin (length (actors_of c)) (length control.conditions.items) control.plan

-- one for each component
pub record AreControlsOf (design : CalDesign) (controls : List Controlled) : Type 0 where
  pub all : length controls ≡ length design.comps.items
  pub each : (k : ℕ) (comp : CalComp) (control : Controlled) → slice_get design.comps.items k ≡ Some comp → slice_get controls k ≡ Some control →
      (control.comp.now ≡ comp) × IsControlOf design.names (component_tree design.names comp) control
