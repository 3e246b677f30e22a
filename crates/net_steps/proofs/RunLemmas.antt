-- A row made part by part: what a part made stays, since later steps have other slots.
use Rattle.std.proofs.Common.{◌≡◌, ℕ, ◌+◌, ◌-◌, ◌<◌, ◌≤◌, ◌⊎◌, List, [], ◌∷◌, ◌++◌, length, map, take, drop, get_or, Some, sym, ap, ◌∙◌, refl, arith, inl, inr, subst, length-append, length-drop, length-take}
use Rattle.std.specs.Prelude.{slice_get, slice_index, option_map}
use Rattle.std.proofs.lemmas.Bool.{cases_lt}
use Rattle.std.proofs.lemmas.Grind.{flat_map-append}
use Rattle.std.proofs.lemmas.List.{flat_map_more, get_or-append-add, get_or-append_right, get_or_append_left, take-append-drop, take_more}
use Rattle.std.proofs.lemmas.List.Folds.{length-flat_map-take}
use Rattle.std.proofs.lemmas.Option.{get_or_from_slice_get, slice_get-get_or, slice_get-map, slice_get_within}
use Rattle.std.proofs.Math.Seq.{take-add, take-length}
use Rattle.net_steps.proofs.OperationLemmas.{AgreeBelow, value_same}
use Rattle.net_steps.specs.Operations.{AreBelow, AreMade, IsBelow}
use Rattle.net_steps.specs.Runs.{all_operations, operations_of}
use Rattle.net_steps.specs.declared.choice.Choice.{Choice}
use Rattle.net_steps.specs.declared.operation.Operation.{Operation}
use Rattle.net_steps.specs.declared.other.Other.{Other}
use Rattle.net_steps.specs.declared.runs.Run.{Run}

-- an element of a list as the map of it has it
pub mapped_at : {S : Type 0} (f : S → Operation) (xs : List S) (i : ℕ) (x : S) → i < length xs → x ≡ get_or xs i x → slice_get (map f xs) i ≡ Some (f x)
mapped_at f xs i x lt is = slice_get-map f xs i ∙ ap (option_map f) (slice_get-get_or xs i x lt ∙ ap (λ y. Some y) (sym is))

get-append_left : {X : Type 0} (xs ys : List X) (k : ℕ) (x : X) → slice_get xs k ≡ Some x → slice_get (xs ++ ys) k ≡ Some x
get-append_left xs ys k x at =
    let lt = slice_get_within xs k x at in
    let room : k < length (xs ++ ys) = omega (arith, length-append xs ys, lt) in
    slice_get-get_or (xs ++ ys) k x room ∙ ap (λ y. Some y) (get_or_append_left xs ys x k lt ∙ get_or_from_slice_get xs k x x at)

get-append_right : {X : Type 0} (xs ys : List X) (k : ℕ) (x : X) → slice_get ys k ≡ Some x → slice_get (xs ++ ys) (length xs + k) ≡ Some x
get-append_right xs ys k x at =
    let lt = slice_get_within ys k x at in
    let room : length xs + k < length (xs ++ ys) = omega (arith, length-append xs ys, lt) in
    slice_get-get_or (xs ++ ys) (length xs + k) x room ∙ ap (λ y. Some y) (get_or-append-add xs ys k x ∙ get_or_from_slice_get ys k x x at)

get-append_cases : {X : Type 0} (xs ys : List X) (k : ℕ) (x : X) → slice_get (xs ++ ys) k ≡ Some x → (slice_get xs k ≡ Some x) ⊎ ((length xs ≤ k) × (slice_get ys (k - length xs) ≡ Some x))
get-append_cases xs ys k x at =
    let lt = slice_get_within (xs ++ ys) k x at in
    let there = get_or_from_slice_get (xs ++ ys) k x x at in
    elim (cases_lt k (length xs)) [
      | inl first ↦ inl (slice_get-get_or xs k x first ∙ ap (λ y. Some y) (sym (get_or_append_left xs ys x k first) ∙ there))
      | inr later ↦
          let le : length xs ≤ k = omega (arith, later) in
          let room : k - length xs < length ys = omega (arith, length-append xs ys, lt, le) in
          inr (le, slice_get-get_or ys (k - length xs) x room ∙ ap (λ y. Some y) (sym (get_or-append_right xs ys (length xs) k x refl le) ∙ there))
    ]

-- what lies below, of a part of the steps
pub below_first : (others : List Other) (choices : List Choice) (base : ℕ) (xs ys : List Operation) → AreBelow others choices base (xs ++ ys) → AreBelow others choices base xs
below_first others choices base xs ys below k step at = below k step (get-append_left xs ys k step at)

pub below_next : (others : List Other) (choices : List Choice) (base : ℕ) (xs ys : List Operation) → AreBelow others choices base (xs ++ ys) → AreBelow others choices (base + length xs) ys
below_next others choices base xs ys below k step at =
    let e : base + (length xs + k) ≡ base + length xs + k = omega arith in
    let P : ℕ → Type 0 = λ slot. IsBelow others choices slot step in
    subst P e (below (length xs + k) step (get-append_right xs ys k step at))

pub below_append : (others : List Other) (choices : List Choice) (base : ℕ) (xs ys : List Operation) → AreBelow others choices base xs → AreBelow others choices (base + length xs) ys → AreBelow others choices base (xs ++ ys)
below_append others choices base xs ys first next k step at =
    elim (get-append_cases xs ys k step at) [
      | inl here ↦ first k step here
      | inr there ↦
          let e : base + length xs + (k - length xs) ≡ base + k = (let le = there.0 in omega (arith, le)) in
          let P : ℕ → Type 0 = λ slot. IsBelow others choices slot step in
          subst P e (next (k - length xs) step there.1)
    ]

-- a row whose first steps were made, and then the next ones, with no slot of the first ones touched
pub made_append : (others : List Other) (choices : List Choice) (base : ℕ) (xs ys : List Operation) (old new : List ℕ) → AreBelow others choices base xs → AreMade others choices base xs old → AgreeBelow (base + length xs) new old → AreMade others choices (base + length xs) ys new → AreMade others choices base (xs ++ ys) new
made_append others choices base xs ys old new below first keeps next k step at =
    elim (get-append_cases xs ys k step at) [
      | inl here ↦
          let lt = slice_get_within xs k step here in
          let agree : AgreeBelow (base + k) old new = λ j less. sym (keeps j (omega (arith, less, lt))) in
          keeps (base + k) (omega (arith, lt)) ∙ first k step here ∙ value_same others choices (base + k) old new step agree (below k step here)
      | inr there ↦
          let le = there.0 in
          let e : base + k ≡ base + length xs + (k - length xs) = omega (arith, le) in
          ap (slice_index new) e ∙ next (k - length xs) step there.1
    ]

-- the steps of one run more
pub operations_more : (runs : List Run) (i : ℕ) (run : Run) → i < length runs → run ≡ get_or runs i run → all_operations (take (i + 1) runs) ≡ all_operations (take i runs) ++ operations_of run
operations_more runs i run lt is =
    ap all_operations (take_more runs i run lt ∙ ap (λ (r : Run). take i runs ++ r ∷ []) (sym is)) ∙ sym (flat_map_more operations_of [] (take i runs) run)

-- the steps of all runs, cut after so many runs
operations_cut : (runs : List Run) (i : ℕ) → all_operations runs ≡ all_operations (take i runs) ++ all_operations (drop i runs)
operations_cut runs i = ap all_operations (sym (take-append-drop i runs)) ∙ flat_map-append operations_of (take i runs) (drop i runs)

pub operations_room : (runs : List Run) (i : ℕ) (run : Run) → i < length runs → run ≡ get_or runs i run → length (all_operations (take i runs)) + length (operations_of run) ≤ length (all_operations runs)
operations_room runs i run lt is =
    let P : Run → Type 0 = λ r. length (all_operations (take i runs)) + length (operations_of r) ≤ length (all_operations runs) in
    subst P (sym is) (length-flat_map-take operations_of runs i run lt)

pub runs_below : (others : List Other) (choices : List Choice) (base : ℕ) (runs : List Run) (i : ℕ) → AreBelow others choices base (all_operations runs) → AreBelow others choices base (all_operations (take i runs))
runs_below others choices base runs i below =
    let P : List Operation → Type 0 = λ steps. AreBelow others choices base steps in
    below_first others choices base (all_operations (take i runs)) (all_operations (drop i runs)) (subst P (operations_cut runs i) below)

pub run_below : (others : List Other) (choices : List Choice) (base : ℕ) (runs : List Run) (i : ℕ) (run : Run) → i < length runs → run ≡ get_or runs i run → AreBelow others choices base (all_operations runs) → AreBelow others choices (base + length (all_operations (take i runs))) (operations_of run)
run_below others choices base runs i run lt is below =
    let P : List Operation → Type 0 = λ steps. AreBelow others choices base steps in
    below_next others choices base (all_operations (take i runs)) (operations_of run) (subst P (operations_more runs i run lt is) (runs_below others choices base runs (i + 1) below))

-- what lies below, of one run more
pub below_run : (others : List Other) (choices : List Choice) (base : ℕ) (runs : List Run) (i : ℕ) (run : Run) → i < length runs → run ≡ get_or runs i run → AreBelow others choices base (all_operations (take i runs)) → AreBelow others choices (base + length (all_operations (take i runs))) (operations_of run) → AreBelow others choices base (all_operations (take (i + 1) runs))
below_run others choices base runs i run lt is first next =
    let P : List Operation → Type 0 = λ steps. AreBelow others choices base steps in
    subst P (sym (operations_more runs i run lt is)) (below_append others choices base (all_operations (take i runs)) (operations_of run) first next)

-- the first runs are made, and one run more
pub made_run : (others : List Other) (choices : List Choice) (base : ℕ) (runs : List Run) (i : ℕ) (run : Run) (old new : List ℕ) → i < length runs → run ≡ get_or runs i run → AreBelow others choices base (all_operations runs) → AreMade others choices base (all_operations (take i runs)) old → AgreeBelow (base + length (all_operations (take i runs))) new old → AreMade others choices (base + length (all_operations (take i runs))) (operations_of run) new → AreMade others choices base (all_operations (take (i + 1) runs)) new
made_run others choices base runs i run old new lt is below first keeps next =
    let P : List Operation → Type 0 = λ steps. AreMade others choices base steps new in
    subst P (sym (operations_more runs i run lt is)) (made_append others choices base (all_operations (take i runs)) (operations_of run) old new (runs_below others choices base runs i below) first keeps next)

-- the runs have the first steps, and one run more
pub cut_more : (steps : List Operation) (runs more : List Run) (done number : ℕ) (run : Run) → done ≤ number → all_operations runs ≡ take done steps → all_operations more ≡ all_operations runs ++ take (number - done) (drop done steps) → operations_of run ≡ take (length (operations_of run)) (drop number steps) → all_operations (more ++ run ∷ []) ≡ take (number + length (operations_of run)) steps
cut_more steps runs more done number run le so_far mixed is =
    let e : done + (number - done) ≡ number = omega (arith, le) in
    let front : all_operations more ≡ take number steps = mixed ∙ ap (λ xs. xs ++ take (number - done) (drop done steps)) so_far ∙ sym (take-add done (number - done) steps) ∙ ap (λ n. take n steps) e in
    sym (flat_map_more operations_of [] more run) ∙ ap (λ xs. xs ++ operations_of run) front ∙ ap (λ xs. take number steps ++ xs) is ∙ sym (take-add number (length (operations_of run)) steps)

-- as many elements as a list says of the rest of another are there
pub taken_fits : (xs steps : List Operation) (number : ℕ) → number < length steps → xs ≡ take (length xs) (drop number steps) → number + length xs ≤ length steps
taken_fits xs steps number lt is = let e = ap length is ∙ length-take (length xs) (drop number steps) in omega (arith, lt, e, length-drop number steps)

-- the rest of a list, all of it
pub rest_is : {X : Type 0} (number : ℕ) (xs : List X) → take (length xs - number) (drop number xs) ≡ drop number xs
rest_is number xs = ap (λ n. take n (drop number xs)) (sym (length-drop number xs)) ∙ take-length (drop number xs)
