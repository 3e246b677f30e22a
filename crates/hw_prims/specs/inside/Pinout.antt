-- The pins of a pinout, which the table gives primitive by primitive.
use Rattle.std.specs.Prelude.{List, [], ◌∷◌, codes}
use Rattle.hw_prims.specs.Table.{Pin, pin}
use Rattle.hw_prims.specs.declared.pinout.Pinout.{Pinout}
use Rattle.hw_prims.specs.declared.pinout.Pinout.TheVariants.{Constant, Unary, Binary, Choice, Joined, Register, MemoryD1, MemoryD2, MultPipe, SeqMult}

abbrev pub input_pins : Pinout → List Pin
input_pins (Constant to) = []
input_pins (Unary from to) = pin (codes "in") from ∷ []
input_pins (Binary from to) = pin (codes "left") from ∷ pin (codes "right") from ∷ []
input_pins (Choice w) = pin (codes "sel") 1 ∷ pin (codes "tru") w ∷ pin (codes "fal") w ∷ []
input_pins (Joined high low to) = pin (codes "high") high ∷ pin (codes "low") low ∷ []
input_pins (Register w) = pin (codes "in") w ∷ pin (codes "write_en") 1 ∷ []
input_pins (MemoryD1 w addr0) = pin (codes "addr0") addr0 ∷ pin (codes "write_data") w ∷ pin (codes "write_en") 1 ∷ []
input_pins (MemoryD2 w addr0 addr1) =
    pin (codes "addr0") addr0 ∷ pin (codes "addr1") addr1 ∷ pin (codes "write_data") w ∷ pin (codes "write_en") 1 ∷ []
input_pins (MultPipe w) = pin (codes "go") 1 ∷ pin (codes "left") w ∷ pin (codes "right") w ∷ []
input_pins (SeqMult w) = pin (codes "go") 1 ∷ pin (codes "left") w ∷ pin (codes "right") w ∷ []

abbrev pub output_pins : Pinout → List Pin
output_pins (Constant to) = pin (codes "out") to ∷ []
output_pins (Unary from to) = pin (codes "out") to ∷ []
output_pins (Binary from to) = pin (codes "out") to ∷ []
output_pins (Choice w) = pin (codes "out") w ∷ []
output_pins (Joined high low to) = pin (codes "out") to ∷ []
output_pins (Register w) = pin (codes "out") w ∷ pin (codes "done") 1 ∷ []
output_pins (MemoryD1 w addr0) = pin (codes "read_data") w ∷ pin (codes "done") 1 ∷ []
output_pins (MemoryD2 w addr0 addr1) = pin (codes "read_data") w ∷ pin (codes "done") 1 ∷ []
output_pins (MultPipe w) = pin (codes "out") w ∷ pin (codes "done") 1 ∷ []
output_pins (SeqMult w) = pin (codes "out") w ∷ []
