-- Sharing on every path, by the source alone: what a legal list gives the instance at a path is one list, and legal. Filament, PLDI 2023; the laws are
-- this project's.
use Rattle.std.specs.Prelude.{◌≡◌, ◌⊎◌, ℕ, ◌+◌, ◌<◌, ◌≤◌, List, take, slice_get, Some, Contains}
use Rattle.hw_names.specs.Name.{Path}
use Rattle.hw_prims.specs.Timed.{AreLegalTransactions, Behaviour, Covers, TimedPort, TimedSignature, Transaction}
use Rattle.fil_ast.specs.Behaviours.{IsGiven, component_behaviour}
use Rattle.fil_ast.specs.Rules.{FilRules}
use Rattle.fil_ast.specs.Scope.{Instance}
use Rattle.fil_ast.specs.Tree.{Component, Design}
use Rattle.fil_promise.specs.Refines.{IsInstanceAt}

-- a legal list of transactions of component n of a design that keeps the rules
pub record IsLegalList (comps : Design) (n : ℕ) (txs : List Transaction) : Type 0 where
  pub rules : FilRules comps
  pub c : Component
  pub at : slice_get comps n ≡ Some c
  pub legal : AreLegalTransactions (component_behaviour (take n comps) c).sig txs

-- what it gives the instance at a path is legal there
abbrev pub GivenListsAreLegal : Type 0
GivenListsAreLegal =
    (comps : Design) (n : ℕ) (txs : List Transaction) → IsLegalList comps n txs →
    (path : Path) (b : Behaviour) (given : List Transaction) → IsGiven comps b given n txs path → AreLegalTransactions b.sig given

-- the transaction holds its event in the row
abbrev pub HoldsIn : ℕ → Transaction → Type 0
HoldsIn row tx = (tx.start ≤ row) × (row < tx.start + tx.hold)

-- two places of the list have transactions that hold one event in one row
pub record HoldTwice (txs : List Transaction) (i j : ℕ) : Type 0 where
  pub one : Transaction
  pub at_one : slice_get txs i ≡ Some one
  pub other : Transaction
  pub at_other : slice_get txs j ≡ Some other
  pub same_event : one.event ≡ other.event
  pub row : ℕ
  pub held_one : HoldsIn row one
  pub held_other : HoldsIn row other

-- so no event of the instance is held twice in a row by what it is given: the two places are one
abbrev pub NothingIsHeldTwice : Type 0
NothingIsHeldTwice =
    (comps : Design) (n : ℕ) (txs : List Transaction) → IsLegalList comps n txs →
    (path : Path) (b : Behaviour) (given : List Transaction) → IsGiven comps b given n txs path →
    (i j : ℕ) → HoldTwice given i j → i ≡ j

-- an input or an output
abbrev pub IsDataPort : TimedSignature → TimedPort → Type 0
IsDataPort sig p = Contains sig.ins p ⊎ Contains sig.outs p

-- two places of the list have transactions for which a port is valid in one row
pub record ShareARow (txs : List Transaction) (p : TimedPort) (i j : ℕ) : Type 0 where
  pub one : Transaction
  pub at_one : slice_get txs i ≡ Some one
  pub other : Transaction
  pub at_other : slice_get txs j ≡ Some other
  pub row : ℕ
  pub covers_one : Covers p one row
  pub covers_other : Covers p other row

-- in each row a port is valid for one transaction at most: the two places are one
abbrev pub RowsAreOfOneTransaction : Type 0
RowsAreOfOneTransaction =
    (comps : Design) (n : ℕ) (txs : List Transaction) → IsLegalList comps n txs →
    (path : Path) (b : Behaviour) (given : List Transaction) → IsGiven comps b given n txs path →
    (p : TimedPort) → IsDataPort b.sig p → (i j : ℕ) → ShareARow given p i j → i ≡ j

-- so no two transactions promise different values at one output in one row
abbrev pub PromisesAgree : Type 0
PromisesAgree =
    (comps : Design) (n : ℕ) (txs : List Transaction) → IsLegalList comps n txs →
    (path : Path) (b : Behaviour) (given : List Transaction) → IsGiven comps b given n txs path →
    (p : TimedPort) → Contains b.sig.outs p → (one other : Transaction) → Contains given one → Contains given other →
    (row : ℕ) → Covers p one row → Covers p other row → b.flow one.values p.name ≡ b.flow other.values p.name

-- at each path at which an instance stands something is given
pub record IsGivenAt (comps : Design) (n : ℕ) (txs : List Transaction) (path : Path) : Type 0 where
  pub promise : Behaviour
  pub given : List Transaction
  pub is : IsGiven comps promise given n txs path

abbrev pub EachInstanceIsGiven : Type 0
EachInstanceIsGiven =
    (comps : Design) (n : ℕ) (txs : List Transaction) (path : Path) (i : Instance) → FilRules comps → IsInstanceAt comps i n path →
    IsGivenAt comps n txs path

-- and it is one thing
abbrev pub WhatIsGivenIsOne : Type 0
WhatIsGivenIsOne =
    (comps : Design) (n : ℕ) (txs : List Transaction) (path : Path) (b b' : Behaviour) (given given' : List Transaction) → FilRules comps →
    IsGiven comps b given n txs path → IsGiven comps b' given' n txs path → (b ≡ b') × (given ≡ given')
