-- The folded form of guards: what no guard has any more. This project's.
use Rattle.std.specs.Prelude.{ℕ, ◌+◌, ◌≤◌, All, Option, None, Some}
use Rattle.hw_names.specs.Name.{Text}
use Rattle.net_core.specs.Guard.{GuardTree, GuardTrees, Reads, Compares, Negates, AllOf, AnyOf, NoGuards, MoreGuards}
use Rattle.net_core.specs.Netlist.{Netlist, SetLine}
use Rattle.net_core.specs.declared.net.Src.TheVariants.{Lit}

-- the guard is no literal alone
abbrev pub IsNoLiteral : GuardTree Text → Type 0
IsNoLiteral (Reads (Lit width value)) = ⊥
IsNoLiteral g = Unit {0}

-- it compares no two literals
abbrev pub ComparesNoLiterals : GuardTree Text → Type 0
ComparesNoLiterals (Compares op (Lit width value) (Lit other_width other)) = ⊥
ComparesNoLiterals g = Unit {0}

-- it is no `!` directly over a `!`
abbrev pub NegatesNoNegation : GuardTree Text → Type 0
NegatesNoNegation (Negates (Negates g)) = ⊥
NegatesNoNegation g = Unit {0}

-- none of the guards is an `&` list
abbrev pub HasNoAll : GuardTrees Text → Type 0
HasNoAll NoGuards = Unit {0}
HasNoAll (MoreGuards (AllOf hs) gs) = ⊥
HasNoAll (MoreGuards g gs) = HasNoAll gs

-- none of the guards is an `|` list
abbrev pub HasNoAny : GuardTrees Text → Type 0
HasNoAny NoGuards = Unit {0}
HasNoAny (MoreGuards (AnyOf hs) gs) = ⊥
HasNoAny (MoreGuards g gs) = HasNoAny gs

-- it is no `&` list directly with an `&` list in it
abbrev pub HasNoAllInAll : GuardTree Text → Type 0
HasNoAllInAll (AllOf gs) = HasNoAll gs
HasNoAllInAll g = Unit {0}

-- it is no `|` list directly with an `|` list in it
abbrev pub HasNoAnyInAny : GuardTree Text → Type 0
HasNoAnyInAny (AnyOf gs) = HasNoAny gs
HasNoAnyInAny g = Unit {0}

abbrev pub count_guards : GuardTrees Text → ℕ
count_guards NoGuards = 0
count_guards (MoreGuards g gs) = count_guards gs + 1

-- if it is a list, it has two guards or more
abbrev pub HasTwoOrMore : GuardTree Text → Type 0
HasTwoOrMore (AllOf gs) = 2 ≤ count_guards gs
HasTwoOrMore (AnyOf gs) = 2 ≤ count_guards gs
HasTwoOrMore g = Unit {0}

-- what holds of a part of a folded guard, apart from the parts in it
pub record IsFoldedPart (g : GuardTree Text) : Type 0 where
  pub literal : IsNoLiteral g
  pub comparison : ComparesNoLiterals g
  pub negation : NegatesNoNegation g
  pub all : HasNoAllInAll g
  pub any : HasNoAnyInAny g
  pub lists : HasTwoOrMore g

-- the guard and each part in it are folded
abbrev mutual
  pub IsFolded : GuardTree Text → Type 0
  IsFolded (Reads s) = IsFoldedPart (Reads s)
  IsFolded (Compares op a b) = IsFoldedPart (Compares op a b)
  IsFolded (Negates g) = IsFoldedPart (Negates g) × IsFolded g
  IsFolded (AllOf gs) = IsFoldedPart (AllOf gs) × AreFolded gs
  IsFolded (AnyOf gs) = IsFoldedPart (AnyOf gs) × AreFolded gs

  pub AreFolded : GuardTrees Text → Type 0
  AreFolded NoGuards = Unit {0}
  AreFolded (MoreGuards g gs) = IsFolded g × AreFolded gs

-- no guard is folded
abbrev pub IsFoldedOption : Option (GuardTree Text) → Type 0
IsFoldedOption None = Unit {0}
IsFoldedOption (Some g) = IsFolded g

-- each guard of the netlist is folded
abbrev pub HasFoldedGuards : Netlist → Type 0
HasFoldedGuards n = All (λ (a : SetLine). IsFoldedOption a.guard) n.sets
