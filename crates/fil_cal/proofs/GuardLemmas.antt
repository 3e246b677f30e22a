-- Guards and sources of lowered assignments can be written where the ports that they read can.
use Rattle.std.proofs.Common.{List, [], ◌∷◌, map, All, Option, lit<}
use Rattle.std.proofs.lemmas.List.Elements.{All-head, All-tail}
use Rattle.net_core.specs.Graph.{guards_ports, option_ports, source_ports}
use Rattle.net_core.specs.Guard.{GuardTree, GuardTrees, Reads, guards_of}
use Rattle.net_core.specs.declared.net.Src.{Src}
use Rattle.net_core.specs.declared.net.Src.TheVariants.{Port, Lit}
use Rattle.cal_ast.specs.Tree.{PortName}
use Rattle.cal_ast.specs.Written.{GuardIsWritten, GuardsAreWritten, PortIsWritten, SourceIsWritten, WhenIsWritten}
use Rattle.fil_lower.specs.Lowers.{AsksForBits, Always, Never, OfOne, OfSome}
use Rattle.fil_net.proofs.GuardLemmas as lowered

pub source_written : (s : Src PortName) → lowered.SourceIsWritten s → All PortIsWritten (source_ports s) → SourceIsWritten s
source_written (Port p) numbers ports = All-head PortIsWritten p [] ports
source_written (Lit width value) numbers ports = numbers

-- the guards that each of the bits is 1
abbrev reads : List PortName → GuardTrees PortName
reads bits = guards_of (map (λ (p : PortName). Reads (Port p)) bits)

bits_written : (bits : List PortName) → All PortIsWritten (guards_ports (reads bits)) → GuardsAreWritten (reads bits)
bits_written [] ports = tt
bits_written (bit ∷ bits) ports = (All-head PortIsWritten bit (guards_ports (reads bits)) ports, bits_written bits (All-tail PortIsWritten bit (guards_ports (reads bits)) ports))

pub when_written : (guard : Option (GuardTree PortName)) → AsksForBits guard → All PortIsWritten (option_ports guard) → WhenIsWritten guard
when_written guard Always ports = tt
when_written guard Never ports = (lit< tt, lit< tt)
when_written guard (OfOne bit) ports = All-head PortIsWritten bit [] ports
when_written guard (OfSome bit next bits) ports = (tt, bits_written (bit ∷ next ∷ bits) ports)
