-- Laws of the rules: what transactions of a component hold never meets, where they are legal, or as far apart in whatever order. Filament, PLDI 2023.
use Rattle.std.specs.Prelude.{◌≡◌, ◌⊎◌, ℕ, List, take, slice_get, Some, AllPairs}
use Rattle.fil_ast.specs.Holds.{Start, AreLegalStarts, Follows, NeverMeet, holds_of}
use Rattle.fil_ast.specs.Rules.{FilRules}
use Rattle.fil_ast.specs.Tree.{Component, Design}
use Rattle.fil_ast.specs.Wires.{whole_scope}

-- of what a legal list of transactions of a component holds, each two are apart
abbrev pub OwnHoldsAreApart : Type 0
OwnHoldsAreApart =
    (comps : Design) (n : ℕ) (c : Component) (starts : List Start) → FilRules comps → slice_get comps n ≡ Some c → AreLegalStarts c starts →
    AllPairs NeverMeet (holds_of (whole_scope (take n comps) c) starts)

-- the one follows the other, at least the event's delay after it
abbrev pub AreSpaced : Component → Start → Start → Type 0
AreSpaced c first second = Follows c first second ⊎ Follows c second first

-- starts that are as far apart, in whatever order they are listed
abbrev pub IsSpaced : Component → List Start → Type 0
IsSpaced c starts = AllPairs (AreSpaced c) starts

-- the same of them
abbrev pub SpacedHoldsAreApart : Type 0
SpacedHoldsAreApart =
    (comps : Design) (n : ℕ) (c : Component) (starts : List Start) → FilRules comps → slice_get comps n ≡ Some c → IsSpaced c starts →
    AllPairs NeverMeet (holds_of (whole_scope (take n comps) c) starts)
