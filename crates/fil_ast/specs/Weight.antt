-- The weight of a component: what its rows cost, with those of the components of its instances. This project's.
use Rattle.std.specs.Prelude.{ℕ, ◌+◌, ◌-◌, ◌^◌, max, min, List, [], ◌∷◌, map, filter, flat_map, length, reverse, if◌then◌else◌, bytes_eq, Option, Some, None}
use Rattle.std.specs.List.{fold, sum_by}
use Rattle.hw_names.specs.Name.{Text}
use Rattle.fil_ast.specs.Scope.{Scope, Instance, Invocation, instance_signature}
use Rattle.fil_ast.specs.Signature.{SigPort, Signature}
use Rattle.fil_ast.specs.Timeline.{Interval, interval_at}
use Rattle.fil_ast.specs.Tree.{TimeAt, Event, Component, Design}
use Rattle.fil_ast.specs.Wires.{whole_scope}

abbrev pub intervals_listed : Option Interval → List Interval
intervals_listed None = []
intervals_listed (Some i) = i ∷ []

abbrev pub needs_at : List TimeAt → Option Signature → List Interval
needs_at times None = []
needs_at times (Some sig) = flat_map (λ (p : SigPort). intervals_listed (interval_at times p)) sig.ins

-- in which rows an invocation needs its arguments
abbrev pub needs_of : Scope → Invocation → List Interval
needs_of scope v = needs_at v.gives.times (instance_signature scope v.inst)

abbrev pub needs_in : Scope → List Interval
needs_in scope = flat_map (needs_of scope) scope.invocations

abbrev pub times_in : Scope → List TimeAt
times_in scope = flat_map (λ (v : Invocation). v.gives.times) scope.invocations

abbrev pub rows_of : Interval → ℕ
rows_of i = i.to - i.from

abbrev pub greatest : List ℕ → ℕ
greatest numbers = fold max 0 numbers

-- the greatest number among the ends of needs on the event and the offsets of times on it
abbrev pub greatest_on : Scope → Event → ℕ
greatest_on scope e =
    max (greatest (map (λ (i : Interval). i.to) (filter (λ (i : Interval). bytes_eq i.event e.name) (needs_in scope))))
    (greatest (map (λ (t : TimeAt). t.plus) (filter (λ (t : TimeAt). bytes_eq t.event e.name) (times_in scope))))

-- 1, the ports, the statements, the rows in which arguments are needed, and for each event the greatest number on it
abbrev pub own_weight : Design → Component → ℕ
own_weight earlier c =
    1 + (length c.interfaces + length c.ins + length c.outs) + length c.body + sum_by rows_of (needs_in (whole_scope earlier c))
    + sum_by (greatest_on (whole_scope earlier c)) c.events

-- the weight of the component of a name, of these components with the latest first; 0 where there is none, as of a primitive
abbrev pub weight_of : List Component → Text → ℕ
weight_of [] name = 0
weight_of (c ∷ before) name =
    if bytes_eq c.name name then own_weight (reverse before) c + sum_by (λ (i : Instance). weight_of before i.made) (whole_scope (reverse before) c).instances
    else weight_of before name

-- numbers end at 2 ^ 64 - 1
abbrev pub saturated : ℕ → ℕ
saturated n = min n (2 ^ 64 - 1)

-- the weight of a component of the design, told no greater than 2 ^ 64 - 1
abbrev pub told_weight : Design → Component → ℕ
told_weight comps c = saturated (weight_of (reverse comps) c.name)
