-- The ports of a component and of its instances, by the numbers of texts, and their full names. This project's.
use Rattle.std.specs.Prelude.{◌≡◌, ◌≢◌, ℕ, ◌<◌, List, [], length, slice_index_or, AllPairs}
use Rattle.hw_graph.specs.ByName.{IsAtMost}
use Rattle.hw_names.specs.Name.{Text, HasNoDot, dotted}
use Rattle.hw_short.specs.declared.full_name.FullName.{FullName}
use Rattle.hw_short.specs.declared.full_name.FullName.TheVariants as full
use Rattle.fil_loops.specs.declared.ports.PortKey.{PortKey}
use Rattle.fil_loops.specs.declared.ports.PortKey.TheVariants.{Own, OfInstance}

-- ports by numbers: the names of the component's instances, and the full name of each port
pub record PortList : Type 0 where
  pub instances : List Text
  pub names : List Text

-- the full name of the port of these numbers
abbrev pub full_name_in : List Text → PortKey → Text
full_name_in texts (Own port) = slice_index_or texts port []
full_name_in texts (OfInstance instance port) = dotted (slice_index_or texts instance []) (slice_index_or texts port [])

-- the number of a text without a dot
pub record IsDotless (texts : List Text) (number : ℕ) : Type 0 where
  pub within : number < length texts
  pub dotless : HasNoDot (slice_index_or texts number [])

-- its numbers are those of texts, of which the last has no dot, so that a full name has one key
abbrev pub IsFit : List Text → PortKey → Type 0
IsFit texts (Own port) = IsDotless texts port
IsFit texts (OfInstance instance port) = (instance < length texts) × IsDotless texts port

abbrev pub AreDifferent : List PortKey → Type 0
AreDifferent keys = AllPairs (λ a b. a ≢ b) keys

-- the same by numbers alone
abbrev pub full_of : PortKey → FullName
full_of (Own port) = full.Own port
full_of (OfInstance instance port) = full.Dotted instance port

-- the order of the names, by the numbers of ports, tells the order of the full names by bytes
pub record TellNames (full_names names : List Text) : Type 0 where
  pub sized : length names ≡ length full_names
  pub each : (i j : ℕ) → i < length full_names → j < length full_names → IsAtMost names i j → IsAtMost full_names i j
