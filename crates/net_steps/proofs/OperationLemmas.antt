-- What a step makes depends on the slots below it alone.
use Rattle.std.proofs.Common.{◌≡◌, ◌≢◌, ℕ, ◌+◌, ◌<◌, ◌≤◌, List, [], ◌∷◌, length, get_or, Option, Some, None, refl, sym, ap, ◌∙◌, arith, All, set, get_or-set_other, get_or-set_same, inl, inr}
use Rattle.std.specs.Prelude.{slice_get, slice_index}
use Rattle.std.proofs.lemmas.Bool.{cases_lt}
use Rattle.std.proofs.lemmas.Option.{same_Some}
use Rattle.hw_prims.specs.Meaning.{bit, output_values}
use Rattle.net_core.specs.Circuit.{settled}
use Rattle.std.proofs.lemmas.List.Elements.{All-head, All-tail}
use Rattle.net_steps.specs.Gathered.{gathered}
use Rattle.net_steps.specs.Operations.{value_of, values_on, has_two, part_of, IsBelow, AreBelow, AreBelowIn}
use Rattle.net_steps.specs.Others.{output_of}
use Rattle.net_steps.specs.declared.choice.Choice.{Choice}
use Rattle.net_steps.specs.declared.operation.Operation.{Operation}
use Rattle.net_steps.specs.declared.operation.Operation.TheVariants.{Constant, And, Or, Xor, Both, Either, ButNot, Equal, Less, Choose, Pick, Only, Several, Add, Subtract, Multiply, Invert, ShiftLeft, ShiftRight, Cut, Join, Output}
use Rattle.net_steps.specs.declared.other.Other.{Other}

below_in_more : (choices : List Choice) (slot more from count : ℕ) → slot ≤ more → AreBelowIn choices slot from count → AreBelowIn choices more from count
below_in_more choices slot more from count le h =
    (h.0, λ k d lt. let below = h.1 k d lt in (let on = below.0 in omega (arith, le, on), let value = below.1 in omega (arith, le, value)))

-- what lies below a slot lies below a greater one
pub below_more : (others : List Other) (choices : List Choice) (slot more : ℕ) (step : Operation) → slot ≤ more → IsBelow others choices slot step → IsBelow others choices more step
below_more others choices slot more (Constant number) le h = tt
below_more others choices slot more (And a b) le h = (omega (arith, le, h.0), omega (arith, le, h.1))
below_more others choices slot more (Or a b) le h = (omega (arith, le, h.0), omega (arith, le, h.1))
below_more others choices slot more (Xor a b) le h = (omega (arith, le, h.0), omega (arith, le, h.1))
below_more others choices slot more (Both a b) le h = (omega (arith, le, h.0), omega (arith, le, h.1))
below_more others choices slot more (Either a b) le h = (omega (arith, le, h.0), omega (arith, le, h.1))
below_more others choices slot more (ButNot a b) le h = (omega (arith, le, h.0), omega (arith, le, h.1))
below_more others choices slot more (Equal a b) le h = (omega (arith, le, h.0), omega (arith, le, h.1))
below_more others choices slot more (Less a b) le h = (omega (arith, le, h.0), omega (arith, le, h.1))
below_more others choices slot more (Choose on value other) le h = (omega (arith, le, h.0), omega (arith, le, h.1), omega (arith, le, h.2))
below_more others choices slot more (Pick first value second other) le h = (omega (arith, le, h.0), omega (arith, le, h.1), omega (arith, le, h.2), omega (arith, le, h.3))
below_more others choices slot more (Only from count) le h = below_in_more choices slot more from count le h
below_more others choices slot more (Several from count) le h = below_in_more choices slot more from count le h
below_more others choices slot more (Add a b mask) le h = (omega (arith, le, h.0), omega (arith, le, h.1))
below_more others choices slot more (Subtract a b mask) le h = (omega (arith, le, h.0), omega (arith, le, h.1))
below_more others choices slot more (Multiply a b mask) le h = (omega (arith, le, h.0), omega (arith, le, h.1))
below_more others choices slot more (Invert a mask) le h = omega (arith, le, h)
below_more others choices slot more (ShiftLeft a by mask) le h = (omega (arith, le, h.0), omega (arith, le, h.1))
below_more others choices slot more (ShiftRight a by) le h = (omega (arith, le, h.0), omega (arith, le, h.1))
below_more others choices slot more (Cut a low mask) le h = (omega (arith, le, h.0), h.1)
below_more others choices slot more (Join high low shift) le h = (omega (arith, le, h.0), omega (arith, le, h.1), h.2)
below_more others choices slot more (Output number output first second) le h = (omega (arith, le, h.0), omega (arith, le, h.1), h.2, h.3)

-- two rows agree below a slot
abbrev pub AgreeBelow : ℕ → List ℕ → List ℕ → Type 0
AgreeBelow slot slots others = (k : ℕ) → k < slot → slice_index slots k ≡ slice_index others k

gathered_same : (slot : ℕ) (slots more : List ℕ) (first second : ℕ) (widths : List ℕ) → slice_index slots first ≡ slice_index more first → slice_index slots second ≡ slice_index more second → gathered slots (first ∷ second ∷ second ∷ second ∷ []) widths ≡ gathered more (first ∷ second ∷ second ∷ second ∷ []) widths
gathered_same slot slots more first second [] e f = refl
gathered_same slot slots more first second (a ∷ []) e f = cc
gathered_same slot slots more first second (a ∷ b ∷ []) e f = cc
gathered_same slot slots more first second (a ∷ b ∷ c ∷ []) e f = cc
gathered_same slot slots more first second (a ∷ b ∷ c ∷ d ∷ []) e f = cc
gathered_same slot slots more first second (a ∷ b ∷ c ∷ d ∷ x ∷ widths) e f = cc

output_same : (slot : ℕ) (slots more : List ℕ) (other : Option Other) (output first second : ℕ) → slice_index slots first ≡ slice_index more first → slice_index slots second ≡ slice_index more second → output_of slots other output (first ∷ second ∷ second ∷ second ∷ []) ≡ output_of more other output (first ∷ second ∷ second ∷ second ∷ [])
output_same slot slots more None output first second e f = refl
output_same slot slots more (Some other) output first second e f =
    ap (λ ins. slice_index (output_values other.state.prim other.state.state ins) output) (gathered_same slot slots more first second other.widths.items e f)

-- what is on of choices in rows that agree on their slots
values_same : (slot : ℕ) (slots more : List ℕ) (choices : List Choice) → AgreeBelow slot slots more → All (λ (choice : Choice). (choice.on < slot) × (choice.value < slot)) choices → values_on slots choices ≡ values_on more choices
values_same slot slots more [] same below = refl
values_same slot slots more (c ∷ choices) same below =
    let here = All-head (λ (choice : Choice). (choice.on < slot) × (choice.value < slot)) c choices below in
    let on = same c.on here.0 in
    let value = same c.value here.1 in
    let rest = values_same slot slots more choices same (All-tail (λ (choice : Choice). (choice.on < slot) × (choice.value < slot)) c choices below) in
    cc

-- what a step makes of rows that agree below it
pub value_same : (others : List Other) (choices : List Choice) (slot : ℕ) (slots more : List ℕ) (step : Operation) → AgreeBelow slot slots more → IsBelow others choices slot step → value_of others choices slots step ≡ value_of others choices more step
value_same others choices slot slots more (Constant number) same h = refl
value_same others choices slot slots more (And a b) same h = let e = same a h.0 in let f = same b h.1 in cc
value_same others choices slot slots more (Or a b) same h = let e = same a h.0 in let f = same b h.1 in cc
value_same others choices slot slots more (Xor a b) same h = let e = same a h.0 in let f = same b h.1 in cc
value_same others choices slot slots more (Both a b) same h = let e = same a h.0 in let f = same b h.1 in cc
value_same others choices slot slots more (Either a b) same h = let e = same a h.0 in let f = same b h.1 in cc
value_same others choices slot slots more (ButNot a b) same h = let e = same a h.0 in let f = same b h.1 in cc
value_same others choices slot slots more (Equal a b) same h = let e = same a h.0 in let f = same b h.1 in cc
value_same others choices slot slots more (Less a b) same h = let e = same a h.0 in let f = same b h.1 in cc
value_same others choices slot slots more (Choose on value other) same h = let e = same on h.0 in let f = same value h.1 in let g = same other h.2 in cc
value_same others choices slot slots more (Pick first value second other) same h = let e = same first h.0 in let f = same value h.1 in let g = same second h.2 in let i = same other h.3 in cc
value_same others choices slot slots more (Only from count) same h = ap settled (values_same slot slots more (part_of choices from count) same h.1)
value_same others choices slot slots more (Several from count) same h = ap (λ vs. bit (has_two vs)) (values_same slot slots more (part_of choices from count) same h.1)
value_same others choices slot slots more (Add a b mask) same h = let e = same a h.0 in let f = same b h.1 in cc
value_same others choices slot slots more (Subtract a b mask) same h = let e = same a h.0 in let f = same b h.1 in cc
value_same others choices slot slots more (Multiply a b mask) same h = let e = same a h.0 in let f = same b h.1 in cc
value_same others choices slot slots more (Invert a mask) same h = let e = same a h in cc
value_same others choices slot slots more (ShiftLeft a by mask) same h = let e = same a h.0 in let f = same by h.1 in cc
value_same others choices slot slots more (ShiftRight a by) same h = let e = same a h.0 in let f = same by h.1 in cc
value_same others choices slot slots more (Cut a low mask) same h = let e = same a h.0 in cc
value_same others choices slot slots more (Join high low shift) same h = let e = same high h.0 in let f = same low h.1 in cc
value_same others choices slot slots more (Output number output first second) same h = output_same slot slots more (slice_get others number) output first second (same first h.0) (same second h.1)

-- the first steps are made
abbrev pub AreMadeUpto : List Other → List Choice → ℕ → ℕ → List Operation → List ℕ → Type 0
AreMadeUpto others choices base number steps slots =
    (k : ℕ) (step : Operation) → k < number → slice_get steps k ≡ Some step → slice_index slots (base + k) ≡ value_of others choices slots step

-- one step more
pub made_more : (others : List Other) (choices : List Choice) (base number : ℕ) (steps : List Operation) (slots : List ℕ) (step : Operation) (value : ℕ) → base + number < length slots → AreBelow others choices base steps → slice_get steps number ≡ Some step → value ≡ value_of others choices slots step → AreMadeUpto others choices base number steps slots → AreMadeUpto others choices base (number + 1) steps (set slots (base + number) value)
made_more others choices base number steps slots step value room below here is made k other lt at =
    let new : List ℕ = set slots (base + number) value in
    let agree : AgreeBelow (base + number) slots new = λ j less. let ne : j ≢ base + number = omega (arith, less) in sym (get_or-set_other slots (base + number) j value 0 ne) in
    elim (cases_lt k number) [
      | inl before ↦
          let ne : base + k ≢ base + number = omega (arith, before) in
          let low : AgreeBelow (base + k) slots new = λ j less. agree j (omega (arith, less, before)) in
          get_or-set_other slots (base + number) (base + k) value 0 ne ∙ made k other before at ∙ value_same others choices (base + k) slots new other low (below k other at)
      | inr beyond ↦
          let last : k ≡ number = omega (arith, lt, beyond) in
          let e : step ≡ other = same_Some step other (sym here ∙ ap (slice_get steps) (sym last) ∙ at) in
          let low : IsBelow others choices (base + number) step = below number step here in
          ap (λ j. get_or new (base + j) 0) last ∙ get_or-set_same slots (base + number) value 0 room ∙ is ∙ value_same others choices (base + number) slots new step agree low
          ∙ ap (value_of others choices new) e
    ]
