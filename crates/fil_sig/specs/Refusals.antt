-- Why a name with parameters has no signature: by the rules F2, F3 and F5. Filament, PLDI 2023, in this project's profile.
use Rattle.std.specs.Prelude.{◌≡◌, ◌≢◌, ◌⊎◌, ℕ, true, List, [], Option, None, if◌then◌else◌, IsSome, IfSome, Contains}
use Rattle.hw_names.specs.Name.{Text}
use Rattle.fil_ast.specs.Naming.{component_names}
use Rattle.fil_ast.specs.Primitives.{is_filament_primitive}
use Rattle.fil_ast.specs.Scope.{component_named, signature_in}
use Rattle.fil_ast.specs.Tree.{Component, Design}
use Rattle.fil_ast.specs.Typing.{HasWidths, HasShape}
use Rattle.fil_sig.specs.declared.named.SigEnd.{SigEnd}
use Rattle.fil_sig.specs.declared.named.SigEnd.TheVariants.{Refused, Memory}

-- a Filament primitive or a component has the name
abbrev pub IsKnown : Design → Text → Type 0
IsKnown comps name = (is_filament_primitive name ≡ true) ⊎ Contains (component_names comps) name

-- the component that a name means: a primitive's name means none
abbrev pub meant_component : Design → Text → Option Component
meant_component comps name = if is_filament_primitive name then None else component_named comps name

-- number and range of the parameters are right, and so are the component's own widths
pub record HasGoodWidths (comps : Design) (name : Text) (params : List ℕ) : Type 0 where
  pub parameters : IsSome (signature_in comps name params)
  pub own : IfSome (meant_component comps name) HasWidths

-- a component's signature keeps F5
abbrev pub HasGoodShape : Design → Text → Type 0
HasGoodShape comps name = IfSome (meant_component comps name) HasShape

-- the name with these parameters breaks none of the rules
pub record IsUsable (comps : Design) (name : Text) (params : List ℕ) : Type 0 where
  pub known : IsKnown comps name
  pub widths : HasGoodWidths comps name params
  pub shape : HasGoodShape comps name

-- the rule with this number is the first of F2, F3 and F5 that is broken
pub data IsCause (comps : Design) (name : Text) (params : List ℕ) : ℕ → Type 0 where
  ByF2 : ¬ IsKnown comps name → IsCause comps name params 2
  ByF3 : IsKnown comps name → ¬ HasGoodWidths comps name params → IsCause comps name params 3
  ByF5 : IsKnown comps name → HasGoodWidths comps name params → ¬ HasGoodShape comps name → IsCause comps name params 5

-- the refusal tells the cause; want of memory tells nothing
abbrev pub TellsCause : Design → Text → List ℕ → SigEnd → Type 0
TellsCause comps name params (Refused rule) = IsCause comps name params rule
TellsCause comps name params Memory = Unit {0}

-- the first of F3 and F5 that a component breaks where it is used with these parameters
pub data IsFault (c : Component) (params : List ℕ) : ℕ → Type 0 where
  ByParameters : params ≢ [] → IsFault c params 3
  ByWidths : ¬ HasWidths c → IsFault c params 3
  ByShape : params ≡ [] → HasWidths c → ¬ HasShape c → IsFault c params 5

abbrev pub TellsFault : Component → List ℕ → SigEnd → Type 0
TellsFault c params (Refused rule) = IsFault c params rule
TellsFault c params Memory = Unit {0}
