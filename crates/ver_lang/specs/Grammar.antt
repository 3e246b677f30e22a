-- Which tokens spell which tree, rule by rule, and which text spells which module. IEEE 1364-2005, Annex A; of precedence 5.1.2.
use Rattle.std.specs.Prelude.{◌≡◌, ℕ, ◌-◌, Bool, true, false, not, ◌&&◌, nat_le, nat_lt, List, [], ◌∷◌, ◌++◌, flat_map, codes}
use Rattle.std.specs.List.{list_all}
use Rattle.hw_names.specs.Name.{Text}
use Rattle.ver_lang.specs.Token.{Token, Keyword, Mark, Escaped, Number, Sized, AreTokens}
use Rattle.ver_lang.specs.Tree.{Operator, Plus, Minus, Times, BitAnd, BitOr, BitXor, Equal, Unequal, Less, Greater, AtMost, AtLeast, ShiftLeft, ShiftRight}
use Rattle.ver_lang.specs.Tree.{And, Or, Expr, Name, Literal, Part, Word, Joined, Inverse, Negation, Binary, Choice, Bracketed, Statement, Statements, Keeps}
use Rattle.ver_lang.specs.Tree.{Stores, When, WhenElse, Block, NoStatements, MoreStatements, Signal, Constant, Filling, Item, Wire, Register, Memory, Counter}
use Rattle.ver_lang.specs.Tree.{Fill, Assign, Always, Module}

abbrev pub operator_mark : Operator → Text
operator_mark Plus = codes "+"
operator_mark Minus = codes "-"
operator_mark Times = codes "*"
operator_mark BitAnd = codes "&"
operator_mark BitOr = codes "|"
operator_mark BitXor = codes "^"
operator_mark Equal = codes "=="
operator_mark Unequal = codes "!="
operator_mark Less = codes "<"
operator_mark Greater = codes ">"
operator_mark AtMost = codes "<="
operator_mark AtLeast = codes ">="
operator_mark ShiftLeft = codes "<<"
operator_mark ShiftRight = codes ">>"
operator_mark And = codes "&&"
operator_mark Or = codes "||"

-- one token: a mark, a keyword, a number with a size
abbrev pub mark : Text → List Token
mark text = Mark text ∷ []

abbrev pub key : Text → List Token
key text = Keyword text ∷ []

abbrev pub name : Text → List Token
name text = Escaped text ∷ []

abbrev pub constant : Constant → List Token
constant c = Sized c.width c.value ∷ []

-- [high:low]
abbrev pub bounds : ℕ → ℕ → List Token
bounds high low = mark (codes "[") ++ Number high ∷ mark (codes ":") ++ Number low ∷ mark (codes "]")

-- an expression (A.8.1, A.8.3, A.8.4)
abbrev pub expr_tokens : Expr → List Token
expr_tokens (Name x) = name x
expr_tokens (Literal width value) = Sized width value ∷ []
expr_tokens (Part x high low) = name x ++ bounds high low
expr_tokens (Word m index) = name m ++ mark (codes "[") ++ expr_tokens index ++ mark (codes "]")
expr_tokens (Joined high low) = mark (codes "{") ++ expr_tokens high ++ mark (codes ",") ++ expr_tokens low ++ mark (codes "}")
expr_tokens (Inverse e) = mark (codes "~") ++ expr_tokens e
expr_tokens (Negation e) = mark (codes "!") ++ expr_tokens e
expr_tokens (Binary op a b) = expr_tokens a ++ mark (operator_mark op) ++ expr_tokens b
expr_tokens (Choice c a b) = expr_tokens c ++ mark (codes "?") ++ expr_tokens a ++ mark (codes ":") ++ expr_tokens b
expr_tokens (Bracketed e) = mark (codes "(") ++ expr_tokens e ++ mark (codes ")")

-- how tight an operator binds (Table 5-4)
abbrev pub operator_level : Operator → ℕ
operator_level Times = 10
operator_level Plus = 9
operator_level Minus = 9
operator_level ShiftLeft = 8
operator_level ShiftRight = 8
operator_level Less = 7
operator_level Greater = 7
operator_level AtMost = 7
operator_level AtLeast = 7
operator_level Equal = 6
operator_level Unequal = 6
operator_level BitAnd = 5
operator_level BitXor = 4
operator_level BitOr = 3
operator_level And = 2
operator_level Or = 1

-- the same of the outermost operator of an expression; 12 for what A.8.4 calls a primary
abbrev pub level : Expr → ℕ
level (Choice c a b) = 0
level (Binary op a b) = operator_level op
level (Inverse e) = 11
level (Negation e) = 11
level e = 12

-- brackets stand wherever precedence asks for them: what is left of an operator binds as tight as it, what is right of it tighter, for operators between
-- two operands associate left to right, and `?:` right to left; the operand of `~` and `!` is a primary
abbrev pub keeps_precedence : Expr → Bool
keeps_precedence (Word m index) = keeps_precedence index
keeps_precedence (Joined high low) = keeps_precedence high && keeps_precedence low
keeps_precedence (Inverse e) = nat_le 12 (level e) && keeps_precedence e
keeps_precedence (Negation e) = nat_le 12 (level e) && keeps_precedence e
keeps_precedence (Binary op a b) =
    nat_le (operator_level op) (level a) && nat_lt (operator_level op) (level b) && keeps_precedence a && keeps_precedence b
keeps_precedence (Choice c a b) = nat_le 1 (level c) && keeps_precedence c && keeps_precedence a && keeps_precedence b
keeps_precedence (Bracketed e) = keeps_precedence e
keeps_precedence e = true

-- (E)
abbrev pub condition : Expr → List Token
condition e = mark (codes "(") ++ expr_tokens e ++ mark (codes ")")

-- a statement (A.6.2, A.6.3, A.6.4, A.6.6)
abbrev mutual
  pub statement_tokens : Statement → List Token
  statement_tokens (Keeps r e) = name r ++ mark (codes "<=") ++ expr_tokens e ++ mark (codes ";")
  statement_tokens (Stores m index e) =
      name m ++ mark (codes "[") ++ expr_tokens index ++ mark (codes "]") ++ mark (codes "<=") ++ expr_tokens e ++ mark (codes ";")
  statement_tokens (When e s) = key (codes "if") ++ condition e ++ statement_tokens s
  statement_tokens (WhenElse e s t) = key (codes "if") ++ condition e ++ statement_tokens s ++ key (codes "else") ++ statement_tokens t
  statement_tokens (Block ss) = key (codes "begin") ++ statements_tokens ss ++ key (codes "end")

  pub statements_tokens : Statements → List Token
  statements_tokens NoStatements = []
  statements_tokens (MoreStatements s ss) = statement_tokens s ++ statements_tokens ss

-- an `else` that followed would be this statement's
abbrev pub takes_else : Statement → Bool
takes_else (When e s) = true
takes_else (WhenElse e s t) = takes_else t
takes_else s = false

-- expressions keep precedence, and each `else` is that of the closest `if` before it (9.4)
abbrev mutual
  pub is_parsed : Statement → Bool
  is_parsed (Keeps r e) = keeps_precedence e
  is_parsed (Stores m index e) = keeps_precedence index && keeps_precedence e
  is_parsed (When e s) = keeps_precedence e && is_parsed s
  is_parsed (WhenElse e s t) = keeps_precedence e && not (takes_else s) && is_parsed s && is_parsed t
  is_parsed (Block ss) = are_parsed ss

  pub are_parsed : Statements → Bool
  are_parsed NoStatements = true
  are_parsed (MoreStatements s ss) = is_parsed s && are_parsed ss

-- [W-1:0] x
abbrev pub signal : Signal → List Token
signal s = bounds (s.width - 1) 0 ++ name s.name

-- i = 0; i < N; i = i + 1
abbrev pub counting : Filling → List Token
counting f =
    name f.counter ++ mark (codes "=") ++ Number 0 ∷ mark (codes ";")
    ++ name f.counter ++ mark (codes "<") ++ Number f.count ∷ mark (codes ";")
    ++ name f.counter ++ mark (codes "=") ++ name f.counter ++ mark (codes "+") ++ Number 1 ∷ []

-- m[i] = C;
abbrev pub filling_word : Filling → List Token
filling_word f =
    name f.memory ++ mark (codes "[") ++ name f.counter ++ mark (codes "]") ++ mark (codes "=") ++ constant f.word ++ mark (codes ";")

-- an item of the module with this clock (A.2.1.3, A.6.1, A.6.2, A.6.5, A.6.8)
abbrev pub item_tokens : Text → Item → List Token
item_tokens clock (Wire s) = key (codes "wire") ++ signal s ++ mark (codes ";")
item_tokens clock (Register s c) = key (codes "reg") ++ signal s ++ mark (codes "=") ++ constant c ++ mark (codes ";")
item_tokens clock (Memory s count) = key (codes "reg") ++ signal s ++ bounds 0 (count - 1) ++ mark (codes ";")
item_tokens clock (Counter i) = key (codes "integer") ++ name i ++ mark (codes ";")
item_tokens clock (Fill f) =
    key (codes "initial") ++ key (codes "for") ++ mark (codes "(") ++ counting f ++ mark (codes ")") ++ filling_word f
item_tokens clock (Assign x e) = key (codes "assign") ++ name x ++ mark (codes "=") ++ expr_tokens e ++ mark (codes ";")
item_tokens clock (Always s) =
    key (codes "always") ++ mark (codes "@") ++ mark (codes "(") ++ key (codes "posedge") ++ name clock ++ mark (codes ")") ++ statement_tokens s

-- a port after another one (A.1.3, A.2.1.2)
abbrev pub port_tokens : Text → Signal → List Token
port_tokens direction s = mark (codes ",") ++ key direction ++ key (codes "wire") ++ signal s

-- the clock, then the other inputs, then the outputs
abbrev pub ports_tokens : Module → List Token
ports_tokens m =
    key (codes "input") ++ key (codes "wire") ++ name m.clock
    ++ flat_map (port_tokens (codes "input")) m.ins ++ flat_map (port_tokens (codes "output")) m.outs

-- a module (A.1.2)
abbrev pub module_tokens : Module → List Token
module_tokens m =
    key (codes "module") ++ name m.name ++ mark (codes "(") ++ ports_tokens m ++ mark (codes ")") ++ mark (codes ";")
    ++ flat_map (item_tokens m.clock) m.items ++ key (codes "endmodule")

-- a width and a number of words are 1 or more
abbrev pub has_width : Signal → Bool
has_width s = nat_le 1 s.width

abbrev pub is_item : Item → Bool
is_item (Wire s) = has_width s
is_item (Register s c) = has_width s
is_item (Memory s count) = has_width s && nat_le 1 count
is_item (Assign x e) = keeps_precedence e
is_item (Always s) = is_parsed s
is_item item = true

abbrev pub is_module : Module → Bool
is_module m = list_all has_width m.ins && list_all has_width m.outs && list_all is_item m.items

-- the tokens spell the module
abbrev pub TokensSpell : List Token → Module → Type 0
TokensSpell tokens m = (is_module m ≡ true) × (tokens ≡ module_tokens m)

-- the text spells the module
pub record Spells (text : Text) (m : Module) : Type 0 where
  pub tokens : List Token
  pub are_tokens : AreTokens text tokens
  pub spell : TokensSpell tokens m
