-- The first broken rule of a design, with what it shows. Filament, PLDI 2023; order and evidence are this project's.
use Rattle.std.specs.Prelude.{◌≡◌, ℕ, ◌+◌, List, ◌∷◌, take}
use Rattle.hw_names.specs.Name.{Text}
use Rattle.fil_ast.specs.Evidence.{Evidence, Nothing, AnOffset, ACycle, AGap, ALoop, MissesAt, MeetsAt, OverrunsAt}
use Rattle.fil_ast.specs.Items.{Item, TheSignature, TheStatement, TheEnd, scope_after, scope_with}
use Rattle.fil_ast.specs.Rules.{Rule, F8, F11, F12, all_rules, IsFirstBroken, HasFirstLoop}
use Rattle.fil_ast.specs.Scope.{Scope}
use Rattle.fil_ast.specs.Tree.{Statement, Component, Design}

-- what the rule shows where a statement breaks it, in the scope before it and in the scope with it
abbrev pub ShowsAtStatement : Rule → Scope → Scope → Statement → Evidence → Type 0
ShowsAtStatement F8 scope with s evidence = (offset : ℕ) × (evidence ≡ AnOffset offset) × MissesAt scope s offset
ShowsAtStatement F11 scope with s evidence = (cycle : ℕ) × (evidence ≡ ACycle cycle) × MeetsAt with s cycle
ShowsAtStatement F12 scope with s evidence = (gap : ℕ) × (cycle : ℕ) × (evidence ≡ AGap gap cycle) × OverrunsAt with s gap cycle
ShowsAtStatement rule scope with s evidence = evidence ≡ Nothing

-- what the rule shows where it is broken at an item of the component, which stands after these
abbrev pub ShowsBroken : Design → Component → Item → Rule → Evidence → Type 0
ShowsBroken earlier c TheSignature rule evidence = evidence ≡ Nothing
ShowsBroken earlier c (TheStatement before s) rule evidence = ShowsAtStatement rule (scope_after earlier c before) (scope_with earlier c before s) s evidence
ShowsBroken earlier c TheEnd rule evidence = evidence ≡ Nothing

-- the first broken rule, by its number, is broken at this item of component n: F1 to F13 in their order, and F14 after them at item 0
pub data IsRefusal (comps : Design) (name : Text) (item : ℕ) (evidence : Evidence) : ℕ → Type 0 where
  BreaksRule : (n place : ℕ) (first : IsFirstBroken all_rules comps n item place) → first.c.name ≡ name →
      ShowsBroken (take n comps) first.c first.item first.rule evidence → IsRefusal comps name item evidence (place + 1)
  HasLoop : (n : ℕ) (port : Text) (others : List Text) (loop : HasFirstLoop comps n port others) → loop.c.name ≡ name → item ≡ 0 →
      evidence ≡ ALoop (port ∷ others) → IsRefusal comps name item evidence 14
