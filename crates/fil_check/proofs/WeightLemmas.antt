-- Sums that end at 2 ^ 128 - 1, the greatest rows on events, and weights by name.
use Rattle.std.proofs.Common.{◌≡◌, ℕ, ◌+◌, ◌<◌, get_or, take, zero, suc, max, Bool, true, false, cond, List, [], ◌∷◌, ◌++◌, length, map, reverse, flat_map, slice_get, Contains, Option, Some, None, option_map, refl, sym, ap, ap₂, subst, ◌∙◌, arith}
use Rattle.std.specs.List.{filter, sum, fold, sum_by, slice_set, slice_index_or}
use Rattle.std.specs.Str.{bytes_eq}
use Rattle.std.proofs.lemmas.Bool.{false_from_ne_true}
use Rattle.std.proofs.lemmas.List.{map-append, reverse-append, reverse-reverse}
use Rattle.std.proofs.lemmas.List.Elements.{filter-append}
use Rattle.std.proofs.lemmas.List.Sums.{fold-append, sum-map}
use Rattle.std.specs.List.Sorted.{IsPermutation}
use Rattle.std.proofs.lemmas.List.Sorted.{Contains-permutation, IsPermutation-reverse}
use Rattle.std.proofs.lemmas.Option.{none-some, slice_get-map, slice_get_read, same_Some, slice_get_within, get_or_from_slice_get}
use Rattle.std.proofs.lemmas.Slice.Eq.{bytes_eq-Decides}
use Rattle.hw_names.specs.Name.{Text, AreDistinct}
use Rattle.fil_ast.specs.Timeline.{Interval}
use Rattle.fil_ast.specs.Tree.{TimeAt, Event, Component, Design}
use Rattle.fil_ast.specs.Weight.{greatest, own_weight, weight_of}
use Rattle.fil_ast.specs.Wires.{whole_scope}
use Rattle.std.specs.Prelude.{Vec}
use Rattle.std.specs.declared.alloc.Global.{Global}
use Rattle.std.proofs.lemmas.Grind.{flat_map-append}
use Rattle.fil_ast.specs.Signature as tree
use Rattle.fil_ast.specs.Scope.{Instance, Invocation, Scope}
use Rattle.fil_ast.specs.Timeline.{interval_at}
use Rattle.fil_ast.specs.Weight.{intervals_listed, needs_in, times_in, rows_of, greatest_on}
use Rattle.fil_sig.specs.Seen.{seen_port}
use Rattle.fil_sig.specs.declared.time_sig.SigPort.{SigPort}
use Rattle.fil_sig.proofs.ListLemmas.{map_more}
use Rattle.fil_place.specs.Tables.{Shows, instance_of, times_of, times_shown}
use Rattle.fil_place.specs.Times.{AreTimes, ShowsInterval}
use Rattle.fil_place.specs.declared.times.Interval as numbers
use Rattle.fil_check.specs.declared.weight.Asked.{Asked}
use Rattle.fil_place.specs.declared.earlier.Earlier.{Earlier}
use Rattle.fil_place.specs.declared.tables.Tables.{Tables}
use Rattle.fil_place.specs.declared.times.Offset.{Offset}
use Rattle.fil_share.proofs.ListLemmas.{slice_get-take, take_next}
use Rattle.fil_ast.specs.Naming.{component_names, event_names}
use Rattle.fil_check.specs.inside.Weights.{AreWeights, IsAsked, capped, last_need, last_time, last_row, needs_for, weight_after, weight_among}

same_name : (a b : Text) → a ≡ b → bytes_eq a b ≡ true
same_name a b same = (bytes_eq-Decides a b).1 same

other_name : (a b : Text) → (a ≡ b → ⊥) → bytes_eq a b ≡ false
other_name a b apart = false_from_ne_true (bytes_eq a b) (λ is. apart ((bytes_eq-Decides a b).0 is))

-- the greatest with one more
module _ {X : Type 0} (f : X → ℕ) (p : X → Bool) where
  last : (b : Bool) (x : X) (n : ℕ) → fold max n (map f (cond b (x ∷ []) [])) ≡ cond b (max n (f x)) n
  last true x n = refl
  last false x n = refl

  pub greatest_more : (xs : List X) (x : X) → greatest (map f (filter p (xs ++ x ∷ []))) ≡ cond (p x) (max (greatest (map f (filter p xs))) (f x)) (greatest (map f (filter p xs)))
  greatest_more xs x =
      ap (λ ys. greatest (map f ys)) (filter-append p xs (x ∷ []))
      ∙ ap greatest (map-append f (filter p xs) (filter p (x ∷ [])))
      ∙ fold-append max 0 (map f (filter p xs)) (map f (filter p (x ∷ [])))
      ∙ last (p x) x (greatest (map f (filter p xs)))

left_most : (b : Bool) (m n k : ℕ) → max (cond b (max m k) m) n ≡ cond b (max (max m n) k) (max m n)
left_most true m n k = omega arith
left_most false m n k = refl

right_most : (b : Bool) (m n k : ℕ) → max m (cond b (max n k) n) ≡ cond b (max (max m n) k) (max m n)
right_most true m n k = omega arith
right_most false m n k = refl

pub need_more : (needs : List Interval) (times : List TimeAt) (need : Interval) (event : Text)
    → last_row (needs ++ need ∷ []) times event ≡ cond (bytes_eq need.event event) (max (last_row needs times event) need.to) (last_row needs times event)
need_more needs times need event =
    ap (λ n. max n (last_time times event)) (greatest_more (λ (i : Interval). i.to) (λ (i : Interval). bytes_eq i.event event) needs need)
    ∙ left_most (bytes_eq need.event event) (last_need needs event) (last_time times event) need.to

pub time_more : (needs : List Interval) (times : List TimeAt) (time : TimeAt) (event : Text)
    → last_row needs (times ++ time ∷ []) event ≡ cond (bytes_eq time.event event) (max (last_row needs times event) time.plus) (last_row needs times event)
time_more needs times time event =
    ap (λ n. max (last_need needs event) n) (greatest_more (λ (t : TimeAt). t.plus) (λ (t : TimeAt). bytes_eq t.event event) times time)
    ∙ right_most (bytes_eq time.event event) (last_need needs event) (last_time times event) time.plus

-- a row is reached on the event of this name alone
module _ (f g : Text → ℕ) (name : Text) (row : ℕ) (law : (other : Text) → g other ≡ cond (bytes_eq name other) (max (f other) row) (f other)) where
  kept : (x : Text) → (x ≡ name → ⊥) → f x ≡ g x
  kept x apart = sym (law x ∙ ap (λ b. cond b (max (f x) row) (f x)) (other_name name x (λ same. apart (sym same))))

  changed : (x : Text) → x ≡ name → max (f x) row ≡ g x
  changed x same = sym (law x ∙ ap (λ b. cond b (max (f x) row) (f x)) (same_name name x (sym same)))

  all_kept : (xs : List Text) → (Contains xs name → ⊥) → map f xs ≡ map g xs
  all_kept [] absent = refl
  all_kept (x ∷ xs) absent = ap₂ ◌∷◌ (kept x (λ same. absent (0, omega arith, same))) (all_kept xs (λ (k, below, at). absent (suc k, omega arith, at)))

  later_distinct : (x : Text) (xs : List Text) → AreDistinct (x ∷ xs) → AreDistinct xs
  later_distinct x xs distinct i j d before within = distinct (suc i) (suc j) d (omega arith) (omega arith)

  pub row_reached : (events : List Text) (e : ℕ) → AreDistinct events → slice_get events e ≡ Some name
      → slice_set (map f events) e (max (slice_index_or (map f events) e 0) row) ≡ map g events
  row_reached [] e distinct at = absurd (none-some name at)
  row_reached (x ∷ xs) zero distinct at =
      let same : x ≡ name = same_Some x name at in
      ap₂ ◌∷◌ (changed x same) (all_kept xs (λ (k, below, there). distinct 0 (suc k) name (omega arith) (omega arith) (same ∙ sym there)))
  row_reached (x ∷ xs) (suc e) distinct at =
      let below = slice_get_within (x ∷ xs) (suc e) name at in
      let apart : x ≡ name → ⊥ = λ same. distinct 0 (suc e) name (omega arith) below (same ∙ sym (get_or_from_slice_get xs e name name at)) in
      ap₂ ◌∷◌ (kept x apart) (row_reached xs e (later_distinct x xs distinct) at)

-- the weight goes by the components before, where a component has another name
pub weight_later : (c : Component) (before : List Component) (name : Text) → (c.name ≡ name → ⊥) → weight_of (c ∷ before) name ≡ weight_of before name
weight_later c before name apart =
    let here = own_weight (reverse before) c + sum_by (λ (i : Instance). weight_of before i.made) (whole_scope (reverse before) c).instances in
    ap (λ b. cond b here (weight_of before name)) (other_name c.name name apart)

-- the weight of a component that stands last
pub weight_here : (comps : Design) (c : Component) → weight_of (c ∷ reverse comps) c.name ≡ weight_after comps c
weight_here comps c =
    let whole = λ (d : Design). own_weight d c + sum_by (λ (i : Instance). weight_of (reverse comps) i.made) (whole_scope d c).instances in
    ap (λ b. cond b (whole (reverse (reverse comps))) (weight_of (reverse comps) c.name)) (same_name c.name c.name refl)
    ∙ ap whole (reverse-reverse comps)

-- no component has the name
pub no_weight : (comps : List Component) (name : Text) → (Contains (map (λ (c : Component). c.name) comps) name → ⊥) → weight_of comps name ≡ 0
no_weight [] name absent = refl
no_weight (c ∷ comps) name absent =
    weight_later c comps name (λ same. absent (0, omega arith, same)) ∙ no_weight comps name (λ (k, below, at). absent (suc k, omega arith, at))

map_reverse : {X Y : Type 0} (f : X → Y) (xs : List X) → map f (reverse xs) ≡ reverse (map f xs)
map_reverse f [] = refl
map_reverse f (x ∷ xs) =
    ap (map f) (reverse-append (x ∷ []) xs) ∙ map-append f (reverse xs) (x ∷ []) ∙ ap (λ ys. ys ++ f x ∷ []) (map_reverse f xs)
    ∙ sym (reverse-append (f x ∷ []) (map f xs))

among_reversed : (names : List Text) (name : Text) → Contains (reverse names) name → Contains names name
among_reversed names name = Contains-permutation (reverse names) names name (subst (IsPermutation (reverse names)) (reverse-reverse names) (IsPermutation-reverse (reverse names)))

pub nothing_named : (comps : Design) (name : Text) → (Contains (component_names comps) name → ⊥) → weight_of (reverse comps) name ≡ 0
nothing_named comps name absent =
    no_weight (reverse comps) name (λ there. absent (among_reversed (component_names comps) name
    (subst (λ (ts : List Text). Contains ts name) (map_reverse (λ (c : Component). c.name) comps) there)))

-- what a mapped list has at a place
pub unmapped : {X Y : Type 0} (f : X → Y) (xs : List X) (k : ℕ) (y : Y) → slice_get (map f xs) k ≡ Some y → (x : X) × (slice_get xs k ≡ Some x) × (f x ≡ y)
unmapped f [] k y at = absurd (none-some y at)
unmapped f (x ∷ xs) zero y at = (x, refl, same_Some (f x) y at)
unmapped f (x ∷ xs) (suc k) y at = unmapped f xs k y at

same_map : {X Y : Type 0} (f g : X → Y) (xs : List X) → ((x : X) → Contains xs x → f x ≡ g x) → map f xs ≡ map g xs
same_map f g [] same = refl
same_map f g (x ∷ xs) same = ap₂ ◌∷◌ (same x (0, omega arith, refl)) (same_map f g xs (λ y (k, below, at). same y (suc k, omega arith, at)))

Contains-mapped : {X Y : Type 0} (f : X → Y) (xs : List X) (x : X) → Contains xs x → Contains (map f xs) (f x)
Contains-mapped f [] x (k, below, at) = absurd (omega arith)
Contains-mapped f (y ∷ xs) x (zero, below, at) = (0, omega arith, ap f at)
Contains-mapped f (y ∷ xs) x (suc k, below, at) = let (j, within, there) = Contains-mapped f xs x (k, omega arith, at) in (suc j, omega arith, there)

-- the weight that stands at the place of a name
pub weight_found : (names : List Text) (comps : Design) (weights : List ℕ) → names ≡ component_names comps → AreWeights comps weights
    → (k : ℕ) (name : Text) → slice_get names k ≡ Some name → slice_get weights k ≡ Some (capped (weight_of (reverse comps) name))
weight_found names comps weights named are k name at =
    let (c, here, same) = unmapped (λ (c : Component). c.name) comps k name (ap (λ ts. slice_get ts k) (sym named) ∙ at) in
    ap (λ ws. slice_get ws k) are ∙ slice_get-map (weight_among comps) comps k ∙ ap (option_map (weight_among comps)) here
    ∙ ap (λ t. Some (capped (weight_of (reverse comps) t))) same

-- the weights with one more, whose name is new
pub weights_more : (comps : Design) (c : Component) (weights : List ℕ) (weight : ℕ) → (Contains (component_names comps) c.name → ⊥)
    → AreWeights comps weights → weight ≡ capped (weight_after comps c) → AreWeights (comps ++ c ∷ []) (weights ++ weight ∷ [])
weights_more comps c weights weight absent are is =
    let back : reverse (comps ++ c ∷ []) ≡ c ∷ reverse comps = reverse-append comps (c ∷ []) in
    let new : weight_among (comps ++ c ∷ []) c ≡ weight = ap (λ cs. capped (weight_of cs c.name)) back ∙ ap capped (weight_here comps c) ∙ sym is in
    let old : map (weight_among (comps ++ c ∷ [])) comps ≡ map (weight_among comps) comps =
    same_map (weight_among (comps ++ c ∷ [])) (weight_among comps) comps (λ d there. ap (λ cs. capped (weight_of cs d.name)) back
    ∙ ap capped (weight_later c (reverse comps) d.name (λ same. absent (subst (Contains (component_names comps)) (sym same) (Contains-mapped (λ (c : Component). c.name) comps d there))))) in
    ap₂ ◌++◌ are (ap (λ w. w ∷ []) (sym new)) ∙ ap (λ ws. ws ++ weight_among (comps ++ c ∷ []) c ∷ []) (sym old)
    ∙ sym (map-append (weight_among (comps ++ c ∷ [])) comps (c ∷ []))

-- what stands at a place among the first of a list
pub read_taken : {X : Type 0} (xs ys : List X) (n k : ℕ) (x : X) → ys ≡ xs → k < length (take n ys) → x ≡ get_or (take n ys) k x → slice_get xs k ≡ Some x
read_taken xs ys n k x same within is =
    ap (λ zs. slice_get zs k) (sym same) ∙ slice_get-take n ys k x (slice_get_read (take n ys) (length (take n ys)) k x refl within is)

pub at_taken : {X Y : Type 0} (f : X → Y) (xs ys : List X) (n k : ℕ) (x : X) → ys ≡ xs → k < length (take n ys) → x ≡ get_or (take n ys) k x → slice_get (map f xs) k ≡ Some (f x)
at_taken f xs ys n k x same within is = slice_get-map f xs k ∙ ap (option_map f) (read_taken xs ys n k x same within is)

-- what stands at a place within a list
pub stands : {X : Type 0} (xs : List X) (k : ℕ) (d : X) → k < length xs → slice_get xs k ≡ Some (get_or xs k d)
stands [] k d within = absurd (omega arith)
stands (x ∷ xs) zero d within = refl
stands (x ∷ xs) (suc k) d within = stands xs k d (omega arith)

pub no_more : {X : Type 0} (xs : List X) → xs ++ [] ≡ xs
no_more [] = refl
no_more (x ∷ xs) = ap (λ ys. x ∷ ys) (no_more xs)

three : {X : Type 0} (xs ys zs : List X) → (xs ++ ys) ++ zs ≡ xs ++ (ys ++ zs)
three [] ys zs = refl
three (x ∷ xs) ys zs = ap (λ us. x ∷ us) (three xs ys zs)

-- a list put together, with what one more gives
pub flat_more : {X Y : Type 0} (f : X → List Y) (xs : List X) (x : X) → flat_map f (xs ++ x ∷ []) ≡ flat_map f xs ++ f x
flat_more f xs x = flat_map-append f xs (x ∷ []) ∙ ap (λ ys. flat_map f xs ++ ys) (no_more (f x))

pub needs_more : (needs : List Interval) (gives : List TimeAt) (ins : List SigPort) (k : ℕ) (port : SigPort) → k < length ins → port ≡ get_or ins k port
    → (needs ++ needs_for gives (map seen_port (take k ins))) ++ intervals_listed (interval_at gives (seen_port port)) ≡ needs ++ needs_for gives (map seen_port (take (k + 1) ins))
needs_more needs gives ins k port within is =
    let f = λ (p : tree.SigPort). intervals_listed (interval_at gives p) in
    three needs (needs_for gives (map seen_port (take k ins))) (intervals_listed (interval_at gives (seen_port port)))
    ∙ ap (λ ns. needs ++ ns) (sym (ap (flat_map f) (map_more seen_port ins k port within ∙ ap (λ p. map seen_port (take k ins) ++ seen_port p ∷ []) (sym is)) ∙ flat_more f (map seen_port (take k ins)) (seen_port port)))

pub times_more : (times gives : List TimeAt) (k : ℕ) (t : TimeAt) → slice_get gives k ≡ Some t → (times ++ take k gives) ++ t ∷ [] ≡ times ++ take (k + 1) gives
times_more times gives k t at = three times (take k gives) (t ∷ []) ∙ ap (λ ts. times ++ ts) (sym (take_next gives k t at))

pub invoked_more : {Y : Type 0} (f : Invocation → List Y) (invocations : List Invocation) (k : ℕ) (v : Invocation) → slice_get invocations k ≡ Some v
    → flat_map f (take k invocations) ++ f v ≡ flat_map f (take (k + 1) invocations)
invoked_more f invocations k v at = sym (ap (flat_map f) (take_next invocations k v at) ∙ flat_more f (take k invocations) v)

-- the invocation that the tables show at a place
pub shown_invocation : (earlier : Earlier) (tables : Tables) (scope : Scope) → Shows earlier tables scope → (k instance : ℕ) (at : Vec Offset Global)
    → slice_get tables.invoked.items k ≡ Some instance → slice_get tables.times.items k ≡ Some at
    → (v : Invocation) × (slice_get scope.invocations k ≡ Some v) × (slice_get tables.instances instance ≡ Some v.inst) × AreTimes tables.events at.items v.gives.times
shown_invocation earlier tables scope shows k instance at first second =
    let (v, here, inst) = unmapped instance_of scope.invocations k (slice_get tables.instances instance)
    (ap (λ xs. slice_get xs k) (sym shows.invoked) ∙ slice_get-map (slice_get tables.instances) tables.invoked.items k ∙ ap (option_map (slice_get tables.instances)) first) in
    let (w, there, times) = unmapped times_of scope.invocations k (times_shown tables.events at)
    (ap (λ xs. slice_get xs k) (sym shows.times) ∙ slice_get-map (times_shown tables.events) tables.times.items k ∙ ap (option_map (times_shown tables.events)) second) in
    (v, here, sym inst, sym times ∙ ap times_of (same_Some w v (sym there ∙ here)))

-- what holds of the one need that is shown
pub need_shown : (events : List Text) (i : numbers.Interval) (P : List Interval → Type 0) (o : Option Interval) → ShowsInterval events (Some i) o
    → ((j : Interval) → ShowsInterval events (Some i) (Some j) → P (j ∷ [])) → P (intervals_listed o)
need_shown events i P None shown each = absurd shown
need_shown events i P (Some j) shown each = each j shown

map_twice : {X Y Z : Type 0} (f : Y → Z) (g : X → Y) (xs : List X) → map f (map g xs) ≡ map (λ x. f (g x)) xs
map_twice f g [] = refl
map_twice f g (x ∷ xs) = ap (λ ys. f (g x) ∷ ys) (map_twice f g xs)

-- the weight from what is asked for
pub weighed : (comps : Design) (c : Component) (events : List Text) (asked : Asked) → events ≡ event_names c
    → IsAsked events (needs_in (whole_scope comps c)) (times_in (whole_scope comps c)) asked
    → (asked.rows ≡ capped (sum_by rows_of (needs_in (whole_scope comps c)))) × (sum asked.greatest.items ≡ sum_by (greatest_on (whole_scope comps c)) c.events)
weighed comps c events asked same is =
    let scope = whole_scope comps c in
    let row = last_row (needs_in scope) (times_in scope) in
    (is.rows, ap sum (is.greatest ∙ ap (map row) same) ∙ ap sum (map_twice row (λ (e : Event). e.name) c.events) ∙ sum-map (greatest_on scope) c.events)
