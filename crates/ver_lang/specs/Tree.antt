-- The part of Verilog that netlists are printed in, as trees: one module with one clock. IEEE 1364-2005, whose numbers of clauses stand here.
-- Left out is all that has no case: numbers without a size in expressions, signed values, `x` and `z`, delays, strengths, blocking assignments, tasks,
-- functions, parameters, instances of modules, `generate`, selects of one bit or from a place that is computed, and comments.
use Rattle.std.specs.Prelude.{ℕ, List}
use Rattle.hw_names.specs.Name.{Text}

-- the operators between two operands (5.1, Table 5-1)
pub data Operator : Type 0 where
  -- `+`, `-` and `*`
  Plus : Operator
  Minus : Operator
  Times : Operator
  -- `&`, `|` and `^`, bit by bit
  BitAnd : Operator
  BitOr : Operator
  BitXor : Operator
  -- `==`, `!=`, `<`, `>`, `<=` and `>=`
  Equal : Operator
  Unequal : Operator
  Less : Operator
  Greater : Operator
  AtMost : Operator
  AtLeast : Operator
  -- `<<` and `>>`
  ShiftLeft : Operator
  ShiftRight : Operator
  -- `&&` and `||`
  And : Operator
  Or : Operator

-- an expression (A.8.3, A.8.4), with the brackets that stand in it
pub data Expr : Type 0 where
  -- the value of a net or a register
  Name : Text → Expr
  -- W'dV
  Literal : (width value : ℕ) → Expr
  -- x[H:L], the bits from H down to L
  Part : Text → (high low : ℕ) → Expr
  -- m[E], a word of a memory
  Word : Text → Expr → Expr
  -- {H, L}
  Joined : (high low : Expr) → Expr
  -- ~E
  Inverse : Expr → Expr
  -- !E
  Negation : Expr → Expr
  -- A op B
  Binary : Operator → Expr → Expr → Expr
  -- C ? A : B
  Choice : Expr → Expr → Expr → Expr
  -- (E)
  Bracketed : Expr → Expr

-- a statement of a process (A.6.4)
mutual
  pub data Statement : Type 0 where
    -- r <= E;
    Keeps : Text → Expr → Statement
    -- m[I] <= E;
    Stores : Text → (index value : Expr) → Statement
    -- if (E) S
    When : Expr → Statement → Statement
    -- if (E) S else S
    WhenElse : Expr → Statement → Statement → Statement
    -- begin S S .. end
    Block : Statements → Statement

  pub data Statements : Type 0 where
    NoStatements : Statements
    MoreStatements : Statement → Statements → Statements

-- what is declared: its name and its width in bits; of a memory, the width of a word
pub record Signal : Type 0 where
  pub name : Text
  pub width : ℕ

-- a sized literal, W'dV
pub record Constant : Type 0 where
  pub width : ℕ
  pub value : ℕ

-- the first words of a memory: a variable counts from 0 to the number of the words, and each word is given the constant
pub record Filling : Type 0 where
  pub counter : Text
  pub count : ℕ
  pub memory : Text
  pub word : Constant

-- an item of a module (A.1.4)
pub data Item : Type 0 where
  -- wire [W-1:0] x;
  Wire : Signal → Item
  -- reg [W-1:0] r = C;
  Register : Signal → Constant → Item
  -- reg [W-1:0] m[0:N-1];
  Memory : Signal → (count : ℕ) → Item
  -- integer i;
  Counter : Text → Item
  -- initial for (i = 0; i < N; i = i + 1) m[i] = C;
  Fill : Filling → Item
  -- assign x = E;
  Assign : Text → Expr → Item
  -- always @(posedge clock) S
  Always : Statement → Item

-- a module (A.1.2): its name, the input that is its clock, the other inputs, the outputs, and its items in their order
pub record Module : Type 0 where
  pub name : Text
  pub clock : Text
  pub ins : List Signal
  pub outs : List Signal
  pub items : List Item
