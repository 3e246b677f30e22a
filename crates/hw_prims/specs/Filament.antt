-- The primitives as Filament's designs use them: how long each is held, when its output comes, its function, and that they keep it. Filament,
-- PLDI 2023, in this project's profile.
use Rattle.std.specs.Prelude.{◌≡◌, ℕ, ◌+◌, Bool, true, false, not, ◌||◌, List, [], ◌∷◌, map, filter, codes, bytes_eq, slice_index, Option, Some, None}
use Rattle.hw_bits.specs.Width.{product_bits}
use Rattle.hw_prims.specs.Cell.{IsCell}
use Rattle.hw_prims.specs.Meaning.{output_values, is_through}
use Rattle.hw_prims.specs.Memory.{keeps_words}
use Rattle.hw_prims.specs.Row.{Text, Trace}
use Rattle.hw_prims.specs.State.{Stateless}
use Rattle.hw_prims.specs.Table.{Pin, inputs_of, outputs_of, pin_names}
use Rattle.hw_prims.specs.Timed.{Delay, Fixed, Chosen, TimedPort, TimedSignature, Behaviour, IsTimed, IsTimedThrough}
use Rattle.hw_prims.specs.declared.prim.Primitive.{Primitive}
use Rattle.hw_prims.specs.declared.prim.Primitive.TheVariants.{StdReg, StdMultPipe, FilDelay, FilFastMult, FilSeqMult}

-- what Filament can use: memories and std_mult_pipe have no fixed interval
unfoldable pub is_timed : Primitive → Bool
is_timed (StdMultPipe w) = false
is_timed prim = not (keeps_words prim)

-- an interface port is no data port, and Filament doesn't see a register's done
abbrev pub is_data_pin : Pin → Bool
is_data_pin p = not (bytes_eq p.name (codes "write_en") || bytes_eq p.name (codes "go") || bytes_eq p.name (codes "done"))

abbrev pub data_inputs : Primitive → List Pin
data_inputs prim = filter is_data_pin (inputs_of prim)

abbrev pub data_outputs : Primitive → List Pin
data_outputs prim = filter is_data_pin (outputs_of prim)

-- how long a use holds the primitive: a register as long as the use says
unfoldable pub delay_of : Primitive → Delay
delay_of (StdReg w) = Chosen
delay_of (FilSeqMult w) = Fixed 3
delay_of prim = Fixed 1

-- the interface port, which is 1 in the rows of the starts
unfoldable pub go_of : Primitive → Option Text
go_of (StdReg w) = Some (codes "write_en")
go_of (FilSeqMult w) = Some (codes "go")
go_of prim = None

-- how many rows after the start the output comes
unfoldable pub latency_of : Primitive → ℕ
latency_of (StdReg w) = 1
latency_of (FilDelay w) = 1
latency_of (FilFastMult w) = 2
latency_of (FilSeqMult w) = 2
latency_of prim = 0

-- inputs are needed in the row of the start
abbrev pub needed : Pin → TimedPort
needed p = record { name = p.name; event = 0; from = 0; to = 1; stays = false }

-- the output is there for one row, but a register's for as long as the register is held
unfoldable pub given : Primitive → Pin → TimedPort
given (StdReg w) p = record { name = p.name; event = 0; from = 1; to = 1; stays = true }
given prim p = record { name = p.name; event = 0; from = latency_of prim; to = latency_of prim + 1; stays = false }

-- what a primitive gives on its data inputs: a register and a delay what they are given, a multiplier the product, whenever it comes
abbrev pub primitive_flow : Primitive → List ℕ → ℕ
primitive_flow (StdReg w) args = slice_index args 0
primitive_flow (FilDelay w) args = slice_index args 0
primitive_flow (FilFastMult w) args = product_bits w (slice_index args 0) (slice_index args 1)
primitive_flow (FilSeqMult w) args = product_bits w (slice_index args 0) (slice_index args 1)
primitive_flow prim args = slice_index (output_values prim Stateless args) 0

abbrev pub timed_signature : Primitive → TimedSignature
timed_signature prim =
    record {
      events = record { delay = delay_of prim; go = go_of prim } ∷ [];
      ins = map needed (data_inputs prim);
      outs = map (given prim) (data_outputs prim);
    }

abbrev pub behaviour_of : Primitive → Behaviour
behaviour_of prim =
    record { sig = timed_signature prim; flow = λ values output. primitive_flow prim (map values (pin_names (data_inputs prim))) }

-- each is timed, from its opening state on
abbrev pub PrimitivesAreTimed : Type 0
PrimitivesAreTimed =
    (prim : Primitive) → is_timed prim ≡ true → (at : Text → Text) (height : ℕ) (trace : Trace) → IsCell prim at height trace →
    IsTimed (behaviour_of prim) at height trace

-- and depends within a row on no other inputs than the table says
abbrev pub PrimitivesAreTimedThrough : Type 0
PrimitivesAreTimedThrough =
    (prim : Primitive) → is_timed prim ≡ true → (at : Text → Text) (height : ℕ) (trace : Trace) → IsCell prim at height trace →
    IsTimedThrough (behaviour_of prim) (is_through prim) at height trace
