-- The weight of a component from tables that show its whole body. This project's.
use Rattle.std.specs.Prelude.{◌≡◌, ℕ, ◌+◌, ◌^◌, ◌-◌, max, min, List, map, filter, flat_map, reverse, bytes_eq}
use Rattle.std.specs.List.{sum_by}
use Rattle.hw_names.specs.Name.{Text}
use Rattle.fil_ast.specs.Scope.{Instance}
use Rattle.fil_ast.specs.Signature.{SigPort}
use Rattle.fil_ast.specs.Timeline.{Interval, interval_at}
use Rattle.fil_ast.specs.Tree.{TimeAt, Component, Design}
use Rattle.fil_ast.specs.Weight.{greatest, intervals_listed, own_weight, rows_of, weight_of}
use Rattle.fil_ast.specs.Wires.{whole_scope}
use Rattle.fil_check.specs.declared.weight.Asked.{Asked}

-- sums in the code end here
abbrev pub capped : ℕ → ℕ
capped n = min n (2 ^ 128 - 1)

-- in which intervals the inputs of a callee are needed, where its events are at these times
abbrev pub needs_for : List TimeAt → List SigPort → List Interval
needs_for times ins = flat_map (λ (p : SigPort). intervals_listed (interval_at times p)) ins

-- the greatest among the ends of the needs on an event
abbrev pub last_need : List Interval → Text → ℕ
last_need needs event = greatest (map (λ (i : Interval). i.to) (filter (λ (i : Interval). bytes_eq i.event event) needs))

-- the greatest among the offsets of the times on an event
abbrev pub last_time : List TimeAt → Text → ℕ
last_time times event = greatest (map (λ (t : TimeAt). t.plus) (filter (λ (t : TimeAt). bytes_eq t.event event) times))

abbrev pub last_row : List Interval → List TimeAt → Text → ℕ
last_row needs times event = max (last_need needs event) (last_time times event)

-- this is asked for by arguments with these needs and invocations at these times, on these events
pub record IsAsked (events : List Text) (needs : List Interval) (times : List TimeAt) (asked : Asked) : Type 0 where
  pub rows : asked.rows ≡ capped (sum_by rows_of needs)
  pub greatest : asked.greatest.items ≡ map (last_row needs times) events

-- the weights of the components of these instances
abbrev pub instances_weight : Design → List Instance → ℕ
instances_weight comps instances = sum_by (λ (i : Instance). weight_of (reverse comps) i.made) instances

-- the weight of a component after these
abbrev pub weight_after : Design → Component → ℕ
weight_after comps c = own_weight comps c + instances_weight comps (whole_scope comps c).instances

-- the weight of a component among these, no greater than what a sum ends at
abbrev pub weight_among : Design → Component → ℕ
weight_among comps c = capped (weight_of (reverse comps) c.name)

-- these are the weights of these components
abbrev pub AreWeights : Design → List ℕ → Type 0
AreWeights comps weights = weights ≡ map (weight_among comps) comps
