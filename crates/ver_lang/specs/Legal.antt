-- What the names of a module must keep, so that tools take it and its meaning is the one that is told here. IEEE 1364-2005, as said at each rule.
use Rattle.std.specs.Prelude.{◌≡◌, ◌↔◌, ℕ, ◌<◌, ◌≤◌, List, [], ◌∷◌, ◌++◌, map, flat_map, Contains, All, AllPairs}
use Rattle.hw_names.specs.Name.{Text, AreDistinct}
use Rattle.ver_lang.specs.Run.{item_signals}
use Rattle.ver_lang.specs.Tree.{Expr, Name, Literal, Part, Word, Joined, Inverse, Negation, Binary, Choice, Bracketed, Statement, Statements, Keeps, Stores}
use Rattle.ver_lang.specs.Tree.{When, WhenElse, Block, NoStatements, MoreStatements, Signal, Filling, Item, Wire, Register, Memory, Counter, Fill}
use Rattle.ver_lang.specs.Tree.{Assign, Always, Module}

abbrev pub names_of : List Signal → List Text
names_of signals = map (λ (s : Signal). s.name) signals

-- the names that items declare: all; nets alone; registers; memories
abbrev pub item_names : Item → List Text
item_names (Counter i) = i ∷ []
item_names item = names_of (item_signals item)

abbrev pub wire_names : Item → List Text
wire_names (Wire s) = s.name ∷ []
wire_names item = []

abbrev pub register_names : Item → List Text
register_names (Register s c) = s.name ∷ []
register_names item = []

abbrev pub memory_names : Item → List Text
memory_names (Memory s count) = s.name ∷ []
memory_names item = []

abbrev pub declared_names : Module → List Text
declared_names m = m.clock ∷ names_of m.ins ++ names_of m.outs ++ flat_map item_names m.items

-- what an assignment drives: outputs and wires
abbrev pub net_names : Module → List Text
net_names m = names_of m.outs ++ flat_map wire_names m.items

-- what an expression may read: ports but the clock, wires and registers
abbrev pub value_names : Module → List Text
value_names m = names_of m.ins ++ net_names m ++ flat_map register_names m.items

-- the names that an expression reads, and the memories
abbrev pub names_read : Expr → List Text
names_read (Name x) = x ∷ []
names_read (Literal width v) = []
names_read (Part x high low) = x ∷ []
names_read (Word m index) = names_read index
names_read (Joined high low) = names_read high ++ names_read low
names_read (Inverse e) = names_read e
names_read (Negation e) = names_read e
names_read (Binary op a b) = names_read a ++ names_read b
names_read (Choice c a b) = names_read c ++ names_read a ++ names_read b
names_read (Bracketed e) = names_read e

abbrev pub memories_read : Expr → List Text
memories_read (Name x) = []
memories_read (Literal width v) = []
memories_read (Part x high low) = []
memories_read (Word m index) = m ∷ memories_read index
memories_read (Joined high low) = memories_read high ++ memories_read low
memories_read (Inverse e) = memories_read e
memories_read (Negation e) = memories_read e
memories_read (Binary op a b) = memories_read a ++ memories_read b
memories_read (Choice c a b) = memories_read c ++ memories_read a ++ memories_read b
memories_read (Bracketed e) = memories_read e

-- the widths of an expression's literals
abbrev pub literal_widths : Expr → List ℕ
literal_widths (Name x) = []
literal_widths (Literal width v) = width ∷ []
literal_widths (Part x high low) = []
literal_widths (Word m index) = literal_widths index
literal_widths (Joined high low) = literal_widths high ++ literal_widths low
literal_widths (Inverse e) = literal_widths e
literal_widths (Negation e) = literal_widths e
literal_widths (Binary op a b) = literal_widths a ++ literal_widths b
literal_widths (Choice c a b) = literal_widths c ++ literal_widths a ++ literal_widths b
literal_widths (Bracketed e) = literal_widths e

-- the expressions of a statement, and the registers and the memories that it assigns to
abbrev mutual
  pub statement_exprs : Statement → List Expr
  statement_exprs (Keeps r e) = e ∷ []
  statement_exprs (Stores m index e) = index ∷ e ∷ []
  statement_exprs (When e s) = e ∷ statement_exprs s
  statement_exprs (WhenElse e s t) = e ∷ statement_exprs s ++ statement_exprs t
  statement_exprs (Block ss) = statements_exprs ss

  pub statements_exprs : Statements → List Expr
  statements_exprs NoStatements = []
  statements_exprs (MoreStatements s ss) = statement_exprs s ++ statements_exprs ss

abbrev mutual
  pub registers_set : Statement → List Text
  registers_set (Keeps r e) = r ∷ []
  registers_set (Stores m index e) = []
  registers_set (When e s) = registers_set s
  registers_set (WhenElse e s t) = registers_set s ++ registers_set t
  registers_set (Block ss) = all_registers_set ss

  pub all_registers_set : Statements → List Text
  all_registers_set NoStatements = []
  all_registers_set (MoreStatements s ss) = registers_set s ++ all_registers_set ss

abbrev mutual
  pub memories_set : Statement → List Text
  memories_set (Keeps r e) = []
  memories_set (Stores m index e) = m ∷ []
  memories_set (When e s) = memories_set s
  memories_set (WhenElse e s t) = memories_set s ++ memories_set t
  memories_set (Block ss) = all_memories_set ss

  pub all_memories_set : Statements → List Text
  all_memories_set NoStatements = []
  all_memories_set (MoreStatements s ss) = memories_set s ++ all_memories_set ss

abbrev pub item_exprs : Item → List Expr
item_exprs (Assign x e) = e ∷ []
item_exprs (Always s) = statement_exprs s
item_exprs item = []

abbrev pub exprs : Module → List Expr
exprs m = flat_map item_exprs m.items

-- what each continuous assignment drives, in their order
abbrev pub driven_names : Item → List Text
driven_names (Assign x e) = x ∷ []
driven_names item = []

-- the processes, in their order
abbrev pub item_processes : Item → List Statement
item_processes (Always s) = s ∷ []
item_processes item = []

abbrev pub processes : Module → List Statement
processes m = flat_map item_processes m.items

-- the fillings of memories, in their order
abbrev pub item_fillings : Item → List Filling
item_fillings (Fill f) = f ∷ []
item_fillings item = []

-- all of these are among those
abbrev pub AreAmong : List Text → List Text → Type 0
AreAmong names others = (x : Text) → Contains names x → Contains others x

-- no name is in both
abbrev pub AreApart : List Text → List Text → Type 0
AreApart names others = (x : Text) → Contains names x → Contains others x → ⊥

-- two processes assign to no register and no memory in common, so that their order doesn't matter (11.4.2)
abbrev pub AreApartProcesses : Statement → Statement → Type 0
AreApartProcesses s t = AreApart (registers_set s) (registers_set t) × AreApart (memories_set s) (memories_set t)

-- a memory is declared with these words
abbrev pub IsMemoryOf : Module → Filling → Type 0
IsMemoryOf m f = (s : Signal) × Contains m.items (Memory s f.count) × (s.name ≡ f.memory)

-- the continuous assignments have an order in which each reads only what comes before, so that a cycle settles to one value of each net (11.3, 11.6.1)
abbrev pub Settles : Module → Type 0
Settles m =
    (place : Text → ℕ) × ((x : Text) (e : Expr) → Contains m.items (Assign x e) → (y : Text) → Contains (names_read e) y → place y < place x)

pub record IsLegal (m : Module) : Type 0 where
  -- no two declarations have one name (4.11)
  pub once : AreDistinct (declared_names m)
  -- each output and each wire is driven by one assignment, and nothing else is (6.1)
  pub driven : (x : Text) → Contains (net_names m) x ↔ Contains (flat_map driven_names m.items) x
  pub driven_once : AreDistinct (flat_map driven_names m.items)
  -- expressions read what is declared; no memory is read as a whole (4.9.3, 5.2.2), and the clock drives processes alone
  pub reads : AreAmong (flat_map names_read (exprs m)) (value_names m)
  pub reads_words : AreAmong (flat_map memories_read (exprs m)) (flat_map memory_names m.items)
  -- the size of a literal isn't 0 (3.5.1)
  pub literals : All (λ width. 1 ≤ width) (flat_map literal_widths (exprs m))
  -- processes assign to registers and to words of memories (6.2)
  pub sets : AreAmong (flat_map registers_set (processes m)) (flat_map register_names m.items)
  pub sets_words : AreAmong (flat_map memories_set (processes m)) (flat_map memory_names m.items)
  pub sets_apart : AllPairs AreApartProcesses (processes m)
  -- each memory is filled, once, all its words (9.9.1)
  pub filled : AreAmong (flat_map memory_names m.items) (map (λ (f : Filling). f.memory) (flat_map item_fillings m.items))
  pub filled_once : AreDistinct (map (λ (f : Filling). f.memory) (flat_map item_fillings m.items))
  pub fillings : All (IsMemoryOf m) (flat_map item_fillings m.items)
  pub settles : Settles m
