-- The ports of a component, as code keeps them. This project's.
use Rattle.std.specs.Prelude.{◌≡◌, List, map, length}
use Rattle.hw_names.specs.Name.{Text}
use Rattle.cal_ast.specs.Ports.{Side, Input, Output, SidedPin, both_sides, inputs_in, is_bare, outputs_in}
use Rattle.cal_ast.specs.Tree.{Component}
use Rattle.cal_place.specs.FirstPlaces.{ShowsFirsts}
use Rattle.cal_place.specs.declared.signature.Pin as code
use Rattle.cal_place.specs.declared.signature.Side as code_side
use Rattle.cal_place.specs.declared.signature.Side.TheVariants as side
use Rattle.cal_place.specs.declared.signature.Signature.{Signature}

abbrev pub side_of : code_side.Side → Side
side_of side.Input = Input
side_of side.Output = Output

abbrev pub code_of : Side → code_side.Side
code_of Input = side.Input
code_of Output = side.Output

-- the port of a signature, without its name, as code has it
abbrev pub found : SidedPin → code.Pin
found p = record { side = code_of p.side; width = p.pin.width }

-- the port of this name
abbrev pub sided : Text → code.Pin → SidedPin
sided name p = record { side = side_of p.side; pin = record { name = name; width = p.width } }

abbrev pub sided_names : List SidedPin → List Text
sided_names ports = map (λ (p : SidedPin). p.pin.name) ports

-- the signature has these ports so far
pub record ShowsPorts (s : Signature) (ports : List SidedPin) : Type 0 where
  pub names : ShowsFirsts s.names (sided_names ports)
  pub pins : s.pins.items ≡ map found ports

-- the signature is the component's
pub record ShowsSignature (s : Signature) (c : Component) : Type 0 where
  pub bare : s.bare ≡ is_bare c
  pub inputs : s.inputs ≡ length (inputs_in c)
  pub ports : ShowsPorts s (both_sides (inputs_in c) (outputs_in c))
