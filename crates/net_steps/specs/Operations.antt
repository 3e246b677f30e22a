-- What the steps of a row make, whatever they were made from. This project's.
use Rattle.std.specs.Prelude.{◌≡◌, ◌==◌, ℕ, ◌++◌, ◌+◌, ◌-◌, ◌*◌, ◌/◌, ◌%◌, ◌^◌, ◌<◌, ◌≤◌, Bool, not, ◌&&◌, ◌||◌, nat_lt, if◌then◌else◌}
use Rattle.std.specs.Prelude.{List, [], ◌∷◌, length, slice_index, slice_get, slice_range, Some, All, true, false, bit_and, bit_or, bit_xor}
use Rattle.hw_prims.specs.Meaning.{bit}
use Rattle.hw_prims.specs.Table.{outputs_of}
use Rattle.net_core.specs.Circuit.{settled}
use Rattle.net_steps.specs.declared.choice.Choice.{Choice}
use Rattle.net_steps.specs.declared.operation.Operation.{Operation}
use Rattle.net_steps.specs.declared.operation.Operation.TheVariants.{Constant, And, Or, Xor, Both, Either, ButNot, Equal, Less, Choose, Pick, Only, Several}
use Rattle.net_steps.specs.declared.operation.Operation.TheVariants.{Add, Subtract, Multiply, Invert, ShiftLeft, ShiftRight, Cut, Join, Output}
use Rattle.net_steps.specs.Others.{output_of}
use Rattle.net_steps.specs.declared.other.Other.{Other}

-- a slot is true where it is 1
abbrev pub is_on : List ℕ → ℕ → Bool
is_on slots k = slice_index slots k == 1

-- what is left of a number of 64 bits after it is shifted
abbrev pub shifted_up : ℕ → ℕ → ℕ
shifted_up number by = if nat_lt by 64 then (number * 2 ^ by) % 2 ^ 64 else 0

abbrev pub shifted_down : ℕ → ℕ → ℕ
shifted_down number by = if nat_lt by 64 then number / 2 ^ by else 0

-- the value of the one of two that is on; 0 where neither is, or both
abbrev pub picked : Bool → ℕ → Bool → ℕ → ℕ
picked first value second other = if first then (if second then 0 else value) else (if second then other else 0)

-- the values of those choices that are on
abbrev pub values_on : List ℕ → List Choice → List ℕ
values_on slots [] = []
values_on slots (c ∷ choices) = if is_on slots c.on then slice_index slots c.value ∷ values_on slots choices else values_on slots choices

-- two values or more
abbrev pub has_two : List ℕ → Bool
has_two [] = false
has_two (v ∷ []) = false
has_two (v ∷ w ∷ values) = true

-- so many choices of the table, from a number on
abbrev pub part_of : List Choice → (from count : ℕ) → List Choice
part_of choices from count = slice_range choices from (from + count)

-- what a step makes of the slots; `others` are the cells that keep their state by themselves, `choices` is the table of choices
abbrev pub value_of : List Other → List Choice → List ℕ → Operation → ℕ
value_of others choices slots (Constant number) = number
value_of others choices slots (And a b) = bit_and (slice_index slots a) (slice_index slots b)
value_of others choices slots (Or a b) = bit_or (slice_index slots a) (slice_index slots b)
value_of others choices slots (Xor a b) = bit_xor (slice_index slots a) (slice_index slots b)
value_of others choices slots (Both a b) = bit (is_on slots a && is_on slots b)
value_of others choices slots (Either a b) = bit (is_on slots a || is_on slots b)
value_of others choices slots (ButNot a b) = bit (is_on slots a && not (is_on slots b))
value_of others choices slots (Equal a b) = bit (slice_index slots a == slice_index slots b)
value_of others choices slots (Less a b) = bit (nat_lt (slice_index slots a) (slice_index slots b))
value_of others choices slots (Choose on value other) = (if is_on slots on then slice_index slots value else slice_index slots other)
value_of others choices slots (Pick first value second other) =
    picked (is_on slots first) (slice_index slots value) (is_on slots second) (slice_index slots other)
value_of others choices slots (Only from count) = settled (values_on slots (part_of choices from count))
value_of others choices slots (Several from count) = bit (has_two (values_on slots (part_of choices from count)))
value_of others choices slots (Add a b mask) = bit_and ((slice_index slots a + slice_index slots b) % 2 ^ 64) mask
value_of others choices slots (Subtract a b mask) =
    bit_and ((slice_index slots a + (2 ^ 64 - slice_index slots b)) % 2 ^ 64) mask
value_of others choices slots (Multiply a b mask) = bit_and ((slice_index slots a * slice_index slots b) % 2 ^ 64) mask
value_of others choices slots (Invert a mask) = (mask + (2 ^ 64 - slice_index slots a)) % 2 ^ 64
value_of others choices slots (ShiftLeft a by mask) = bit_and (shifted_up (slice_index slots a) (slice_index slots by)) mask
value_of others choices slots (ShiftRight a by) = shifted_down (slice_index slots a) (slice_index slots by)
value_of others choices slots (Cut a low mask) = bit_and (slice_index slots a / 2 ^ low) mask
value_of others choices slots (Join high low shift) = bit_or ((slice_index slots high * 2 ^ shift) % 2 ^ 64) (slice_index slots low)
value_of others choices slots (Output number output first second) =
    output_of slots (slice_get others number) output (first ∷ second ∷ second ∷ second ∷ [])

-- every step makes what is in its slot; the first has the slot `base`
abbrev pub AreMade : List Other → List Choice → ℕ → List Operation → List ℕ → Type 0
AreMade others choices base steps slots =
    (k : ℕ) (step : Operation) → slice_get steps k ≡ Some step → slice_index slots (base + k) ≡ value_of others choices slots step

-- a slot is that of a step
pub record IsStep (base : ℕ) (steps : List Operation) (slot : ℕ) (step : Operation) : Type 0 where
  pub number : ℕ
  pub at : slice_get steps number ≡ Some step
  pub slot_is : slot ≡ base + number

-- the old steps stand, with others after them
abbrev pub KeepsSteps : List Operation → List Operation → Type 0
KeepsSteps old new = (k : ℕ) (step : Operation) → slice_get old k ≡ Some step → slice_get new k ≡ Some step

-- the old choices come first
abbrev pub KeepsChoices : List Choice → List Choice → Type 0
KeepsChoices old new = (more : List Choice) × (new ≡ old ++ more)

-- so many choices are in the table, from a number on, and their slots lie below this one
abbrev pub AreBelowIn : List Choice → (slot from count : ℕ) → Type 0
AreBelowIn choices slot from count =
    (from + count ≤ length choices) × All (λ (choice : Choice). (choice.on < slot) × (choice.value < slot)) (part_of choices from count)

-- each operand lies below this slot, and a shift is by less than a slot's bits
abbrev pub IsBelow : List Other → List Choice → ℕ → Operation → Type 0
IsBelow others choices slot (Constant number) = Unit {0}
IsBelow others choices slot (And a b) = (a < slot) × (b < slot)
IsBelow others choices slot (Or a b) = (a < slot) × (b < slot)
IsBelow others choices slot (Xor a b) = (a < slot) × (b < slot)
IsBelow others choices slot (Both a b) = (a < slot) × (b < slot)
IsBelow others choices slot (Either a b) = (a < slot) × (b < slot)
IsBelow others choices slot (ButNot a b) = (a < slot) × (b < slot)
IsBelow others choices slot (Equal a b) = (a < slot) × (b < slot)
IsBelow others choices slot (Less a b) = (a < slot) × (b < slot)
IsBelow others choices slot (Choose on value other) = (on < slot) × (value < slot) × (other < slot)
IsBelow others choices slot (Pick first value second other) = (first < slot) × (value < slot) × (second < slot) × (other < slot)
IsBelow others choices slot (Only from count) = AreBelowIn choices slot from count
IsBelow others choices slot (Several from count) = AreBelowIn choices slot from count
IsBelow others choices slot (Add a b mask) = (a < slot) × (b < slot)
IsBelow others choices slot (Subtract a b mask) = (a < slot) × (b < slot)
IsBelow others choices slot (Multiply a b mask) = (a < slot) × (b < slot)
IsBelow others choices slot (Invert a mask) = a < slot
IsBelow others choices slot (ShiftLeft a by mask) = (a < slot) × (by < slot)
IsBelow others choices slot (ShiftRight a by) = (a < slot) × (by < slot)
IsBelow others choices slot (Cut a low mask) = (a < slot) × (low < 64)
IsBelow others choices slot (Join high low shift) = (high < slot) × (low < slot) × (shift < 64)
IsBelow others choices slot (Output number output first second) =
    (first < slot) × (second < slot) × (number < length others) ×
    ((other : Other) → slice_get others number ≡ Some other → output < length (outputs_of other.state.prim))

-- the same of each step by its slot; the first has the slot `base`
abbrev pub AreBelow : List Other → List Choice → ℕ → List Operation → Type 0
AreBelow others choices base steps = (k : ℕ) (step : Operation) → slice_get steps k ≡ Some step → IsBelow others choices (base + k) step
