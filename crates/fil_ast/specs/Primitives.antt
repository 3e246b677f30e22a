-- Filament's primitives: which primitive of the table each is, and its signature. Filament, PLDI 2023, in this project's profile.
use Rattle.std.specs.Prelude.{ℕ, ◌+◌, Bool, ◌||◌, List, [], ◌∷◌, map, filter, find, codes, bytes_eq, Option, Some, None, option_map, option_and_then}
use Rattle.std.specs.Prelude.{is_some}
use Rattle.std.specs.Option.{option_map_or}
use Rattle.hw_names.specs.Name.{Text}
use Rattle.hw_prims.specs.Filament.{is_data_pin}
use Rattle.hw_prims.specs.Table.{Pin, prim_of, is_primitive, inputs_of, outputs_of}
use Rattle.hw_prims.specs.declared.prim.Primitive.{Primitive}
use Rattle.fil_ast.specs.Signature.{Delay, Fixed, Gap, End, SigEvent, Offset, SigPort, Signature}

-- rows of a use: how long its event is held, and how many rows after the start the output comes
pub record Timing : Type 0 where
  pub events : List SigEvent
  pub from : Offset
  pub to : Offset

abbrev pub event : Text → Delay → Option Text → SigEvent
event name delay go = record { name = name; delay = delay; go = go }

abbrev pub after_start : ℕ → Offset
after_start rows = record { event = 0; plus = rows }

-- one event G; the output comes in the row so many rows after its start
abbrev pub timing : ℕ → Option Text → ℕ → Timing
timing delay go latency =
    record { events = event (codes "G") (Fixed delay) go ∷ []; from = after_start latency; to = after_start (latency + 1) }

-- a register is written at G, and its output stays until L
abbrev pub register_timing : Timing
register_timing =
    record {
      events = event (codes "G") Gap (Some (codes "write_en")) ∷ event (codes "L") End None ∷ [];
      from = after_start 1;
      to = record { event = 1; plus = 0 };
    }

-- a primitive of Filament: its name, the table's name of it, and its timing
pub record FilamentPrimitive : Type 0 where
  pub name : Text
  pub table : Text
  pub timing : Timing

abbrev pub primitive : Text → Text → Timing → FilamentPrimitive
primitive name table timing = record { name = name; table = table; timing = timing }

-- the timing of what is computed in the row of the start
abbrev pub same_row : Timing
same_row = timing 1 None 0

-- Filament's primitives
abbrev pub filament_primitives : List FilamentPrimitive
filament_primitives =
    primitive (codes "Add") (codes "std_add") same_row ∷
    primitive (codes "Sub") (codes "std_sub") same_row ∷
    primitive (codes "And") (codes "std_and") same_row ∷
    primitive (codes "Or") (codes "std_or") same_row ∷
    primitive (codes "Xor") (codes "std_xor") same_row ∷
    primitive (codes "Eq") (codes "std_eq") same_row ∷
    primitive (codes "Lt") (codes "std_lt") same_row ∷
    primitive (codes "Not") (codes "std_not") same_row ∷
    primitive (codes "Mux") (codes "fil_mux") same_row ∷
    primitive (codes "Slice") (codes "fil_slice") same_row ∷
    primitive (codes "Extend") (codes "std_pad") same_row ∷
    primitive (codes "Concat") (codes "fil_concat") same_row ∷
    primitive (codes "Delay") (codes "fil_delay") (timing 1 None 1) ∷
    primitive (codes "FastMult") (codes "fil_fast_mult") (timing 1 None 2) ∷
    primitive (codes "Reg") (codes "std_reg") register_timing ∷
    primitive (codes "SeqMult") (codes "fil_seq_mult") (timing 3 (Some (codes "go")) 2) ∷
    []

-- the primitive of this name
abbrev pub primitive_named : Text → Option FilamentPrimitive
primitive_named name = find (λ (p : FilamentPrimitive). bytes_eq name p.name) filament_primitives

-- the table's name of the primitive of this name
abbrev pub table_name : Text → Option Text
table_name name = option_map (λ (p : FilamentPrimitive). p.table) (primitive_named name)

-- the timing of the primitive of this name; another name has no signature, whatever its timing
abbrev pub timing_of : Text → Timing
timing_of name = option_map_or (λ (p : FilamentPrimitive). p.timing) (primitive_named name) same_row

abbrev pub is_filament_primitive : Text → Bool
is_filament_primitive name = is_some (table_name name)

-- a name in either table of primitives
abbrev pub is_any_primitive : Text → Bool
is_any_primitive name = is_filament_primitive name || is_primitive name

-- a Filament primitive with these parameters, where their number and range are right
abbrev pub filament_primitive : Text → List ℕ → Option Primitive
filament_primitive name params = option_and_then (λ table. prim_of table params) (table_name name)

-- inputs are needed in the row of the start
abbrev pub input_port : Pin → SigPort
input_port p = record { name = p.name; from = after_start 0; to = after_start 1; width = p.width }

abbrev pub output_port : Timing → Pin → SigPort
output_port t p = record { name = p.name; from = t.from; to = t.to; width = p.width }

abbrev pub signature_by : Timing → Primitive → Signature
signature_by t prim =
    record {
      events = t.events;
      ins = map input_port (filter is_data_pin (inputs_of prim));
      outs = map (output_port t) (filter is_data_pin (outputs_of prim));
    }

-- the signature of a Filament primitive with these parameters
abbrev pub primitive_signature : Text → List ℕ → Option Signature
primitive_signature name params = option_map (signature_by (timing_of name)) (filament_primitive name params)
