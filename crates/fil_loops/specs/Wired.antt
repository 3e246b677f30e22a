-- What is known of F14 after some components of a design: there is no loop so far, or this is the first. This project's.
use Rattle.std.specs.Prelude.{◌≡◌, ℕ, ◌<◌, ◌∷◌, List, take, slice_get, Some}
use Rattle.hw_names.specs.Name.{Text, text_of}
use Rattle.fil_ast.specs.Tree.{Component, Design}
use Rattle.fil_ast.specs.Wires.{HasNoLoop, IsLeastLoop}
use Rattle.fil_loops.specs.Wiring.{ShowInsides}
use Rattle.fil_loops.specs.declared.wires.Wired.{Wired}
use Rattle.fil_loops.specs.declared.wires.Wired.TheVariants.{Free, Looped}

-- none of the components has a loop
abbrev pub HaveNoLoop : Design → Type 0
HaveNoLoop comps = (n : ℕ) (c : Component) → slice_get comps n ≡ Some c → HasNoLoop (take n comps) c

-- the component of this name is the first of them that has a loop, and these ports are its least
pub record IsFirstLoop (comps : Design) (name : Text) (ports : List Text) : Type 0 where
  pub number : ℕ
  pub c : Component
  pub at : slice_get comps number ≡ Some c
  pub named : c.name ≡ name
  pub components : (m : ℕ) (earlier : Component) → m < number → slice_get comps m ≡ Some earlier → HasNoLoop (take m comps) earlier
  pub first : Text
  pub others : List Text
  pub are : ports ≡ first ∷ others
  pub loop : IsLeastLoop (take number comps) c first others

abbrev pub IsWired : List Text → Design → Wired → Type 0
IsWired names comps (Free insides) = ShowInsides comps insides.items × HaveNoLoop comps
IsWired names comps (Looped comp ports) = IsFirstLoop comps (text_of names comp) ports.items
