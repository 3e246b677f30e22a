-- What F1 to F13 ask of statements whose callees have one event, which takes a transaction in each row. This project's.
use Rattle.std.proofs.Common.{◌≡◌, ℕ, zero, suc, ◌+◌, ◌<◌, Bool, true, false, ◌||◌, List, [], ◌∷◌, ◌++◌, length, map, take, get_or, codes, Option, None, Some, refl, sym, ap, subst, ◌∙◌, arith, inl, inr, All}
use Rattle.std.specs.Prelude.{bytes_eq, Contains, IfSome, IsSome, is_some, slice_get}
use Rattle.std.specs.List.{AllZip, list_any}
use Rattle.std.proofs.lemmas.List.Elements.{All-contains, All-cons, All-nil}
use Rattle.std.proofs.lemmas.List.{length-map, get_or-map}
use Rattle.std.proofs.lemmas.Option.{same_Some}
use Rattle.std.proofs.lemmas.Slice.Eq.{bytes_eq-Decides}
use Rattle.hw_names.specs.Name.{Text, AreDistinct}
use Rattle.fil_ast.proofs.UseLemmas.{parts_of}
use Rattle.fil_ast.specs.Connections.{ConnectsOnce}
use Rattle.fil_ast.specs.Items.{Item, scope_after, scope_with}
use Rattle.fil_ast.specs.Naming.{GivesKnown, IsKnownValue, IsMadeOf, NamesEvent, instance_names, invocation_names, port_names}
use Rattle.fil_ast.specs.Primitives.{is_filament_primitive}
use Rattle.fil_ast.specs.Rules.{AtEnd, AtSignature, AtStatement, Keeps, KeepsComponent, Rule, F1, F2, F3, F4, F5, F6, F7, F8, F9, F10, F11, F12, F13, all_rules}
use Rattle.fil_ast.specs.Scope.{Instance, Invocation, Scope, instance_named, instance_signature, output_of, signature_in}
use Rattle.fil_ast.specs.Sharing.{HasInterface, IsEarlierUse, IsUseOf, KeepsUsesApart, EndsInTime, TriggersWithInterface}
use Rattle.fil_ast.specs.Signature.{Fixed, Gap, SigEvent, SigPort, Signature}
use Rattle.fil_ast.specs.Timeline.{Covers, HoldsSome, IsUse, hold_of, KeepsDelays, ReadsAvailable, Use, interval_at}
use Rattle.fil_ast.specs.Tree.{Call, Component, Connect, DataPort, Design, Both, Event, Giving, New, Statement, TimeAt, ValueTree}
use Rattle.fil_ast.specs.Typing.{GivesEach, GivesWidths, HasParameters, LiteralFits, value_width}
use Rattle.filc_run.specs.Soaked.{after, given_in, pipeline}
use Rattle.filc_run.proofs.SoakListLemmas.{pairs_more}

-- ---- lists

or_false : (a b : Bool) → (a || b) ≡ false → (a ≡ false) × (b ≡ false)
or_false true b is = absurd (cc is)
or_false false b is = (refl, is)

-- a text that no test finds is not there
pub absent : (name : Text) (names : List Text) → list_any (bytes_eq name) names ≡ false → Contains names name → ⊥
absent name [] none (k, within, is) = absurd (omega arith)
absent name (other ∷ names) none (zero, within, is) =
    let found : bytes_eq name other ≡ true = (bytes_eq-Decides name other).1 (sym is) in
    let missed = (or_false (bytes_eq name other) (list_any (bytes_eq name) names) none).0 in
    cc (found, missed)
absent name (other ∷ names) none (suc k, within, is) =
    absent name names (or_false (bytes_eq name other) (list_any (bytes_eq name) names) none).1 (k, omega arith, is)

-- texts of which none is found among the later ones
abbrev pub Differ : List Text → Type 0
Differ [] = Unit {0}
Differ (name ∷ names) = (list_any (bytes_eq name) names ≡ false) × Differ names

pub differ_so : (names : List Text) → Differ names → AreDistinct names
differ_so [] differ = λ i j d before within. absurd (omega arith)
differ_so (name ∷ names) differ =
    pairs_more (λ (a b : Text). a ≡ b → ⊥) name names
    (λ k d within same. absent name names differ.0 (k, within, at names k d name within ∙ sym same)) (differ_so names differ.1)
  where
    at : (xs : List Text) (k : ℕ) (d e : Text) → k < length xs → get_or xs k e ≡ get_or xs k d
    at [] k d e within = absurd (omega arith)
    at (x ∷ xs) zero d e within = refl
    at (x ∷ xs) (suc k) d e within = at xs k d e (omega arith)

zip_front : {A B : Type 0} (R : A → B → Type 0) (P : A → Type 0) → ((a : A) (b : B) → R a b → P a) → (xs : List A) (ys : List B) → AllZip R xs ys → All P xs
zip_front R P so [] [] zip = All-nil P
zip_front R P so [] (y ∷ ys) zip = absurd zip
zip_front R P so (x ∷ xs) [] zip = absurd zip
zip_front R P so (x ∷ xs) (y ∷ ys) zip = All-cons P x xs (so x y zip.0) (zip_front R P so xs ys zip.1)

pub zip_at : {A B : Type 0} (R : A → B → Type 0) (xs : List A) (ys : List B) → AllZip R xs ys → (k : ℕ) (x : A) (y : B) → slice_get xs k ≡ Some x → slice_get ys k ≡ Some y → R x y
zip_at R [] ys zip k x y here there = absurd (let none : ◌≡◌ {A = Option _} None (Some x) = here in cc none)
zip_at R (a ∷ xs) [] zip k x y here there = absurd zip
zip_at R (a ∷ xs) (b ∷ ys) zip zero x y here there = subst (R x) (same_Some b y there) (subst (λ v. R v b) (same_Some a x here) zip.0)
zip_at R (a ∷ xs) (b ∷ ys) zip (suc k) x y here there = zip_at R xs ys zip.1 k x y here there

zip_length : {A B : Type 0} (R : A → B → Type 0) (xs : List A) (ys : List B) → AllZip R xs ys → length xs ≡ length ys
zip_length R [] [] zip = refl
zip_length R [] (y ∷ ys) zip = absurd zip
zip_length R (x ∷ xs) [] zip = absurd zip
zip_length R (x ∷ xs) (y ∷ ys) zip = let more = zip_length R xs ys zip.1 in omega (arith, more)

pub some_so : {X : Type 0} (P : X → Type 0) (o : Option X) (x : X) → o ≡ Some x → P x → IfSome o P
some_so P o x is holds = subst (λ v. IfSome v P) (sym is) holds

-- ---- callees

-- its one event takes a start in each row
pub record IsSimple (sig : Signature) : Type 0 where
  pub event : SigEvent
  pub events : sig.events ≡ event ∷ []
  pub each : event.delay ≡ Fixed 1

-- an argument is known, has its port's width, and is there when it is needed
pub record IsArgument (scope : Scope) (times : List TimeAt) (arg : ValueTree) (port : SigPort) : Type 0 where
  pub known : IsKnownValue scope arg
  pub literal : LiteralFits arg
  pub width : value_width scope arg ≡ Some port.width
  pub available : IfSome (interval_at times port) (Covers scope arg)

simple_delay : (sig : Signature) → IsSimple sig → (k : ℕ) (e : SigEvent) → slice_get sig.events k ≡ Some e → e.delay ≡ Fixed 1
simple_delay sig simple k e at = by k (sym (ap (λ (events : List SigEvent). slice_get events k) simple.events) ∙ at)
  where
    by : (k : ℕ) → slice_get (simple.event ∷ []) k ≡ Some e → e.delay ≡ Fixed 1
    by zero at = sym (ap (λ (v : SigEvent). v.delay) (same_Some simple.event e at)) ∙ simple.each
    by (suc k) at = absurd (let none : ◌≡◌ {A = Option SigEvent} None (Some e) = at in cc none)

no_gap : (sig : Signature) → IsSimple sig → (k : ℕ) (e : SigEvent) → slice_get sig.events k ≡ Some e → e.delay ≡ Gap → ⊥
no_gap sig simple k e at gap = let one = simple_delay sig simple k e at in cc (one, gap)

-- ---- statements

-- a component with the event `G: 1` and its interface port, after these
module _ (comps : Design) (name : Text) (ins outs : List DataPort) (body : List Statement) where
  abbrev pub comp : Component
  comp = pipeline name ins outs body

  abbrev pub Kept : List Statement → Statement → Type 0
  Kept before s = (rule : Rule) → AtStatement rule (scope_after comps comp before) (scope_with comps comp before s) before s

  only_event : (e : Event) → Contains comp.events e → e.delay ≡ 1
  only_event e (zero, within, is) = sym (ap (λ (v : Event). v.delay) is)
  only_event e (suc k, within, is) = absurd (omega arith)

  time_is : (row k : ℕ) (t : TimeAt) → slice_get (after row ∷ []) k ≡ Some t → t.event ≡ codes "G"
  time_is row zero t at = sym (ap (λ (v : TimeAt). v.event) (same_Some (after row) t at))
  time_is row (suc k) t at = absurd (let none : ◌≡◌ {A = Option TimeAt} None (Some t) = at in cc none)

  has_interface : (event : Text) → event ≡ codes "G" → HasInterface comp event
  has_interface event is = (0, omega arith, sym is)

  -- what is given to a callee at a time, in a scope of the component
  module _ (scope : Scope) (same : scope.comp ≡ comp) (sig : Signature) (simple : IsSimple sig) (inst : Text) (row : ℕ) (args : List ValueTree) (each : AllZip (IsArgument scope (after row ∷ [])) args sig.ins) where
    abbrev gives : Giving
    gives = given_in row args

    known_args : GivesKnown scope gives
    known_args = record {
      times = All-cons (λ (t : TimeAt). NamesEvent scope.comp t.event) (after row) [] (subst (λ (c : Component). Contains (map (λ (e : Event). e.name) c.events) (codes "G")) (sym same) (0, omega arith, refl)) (All-nil (λ (t : TimeAt). NamesEvent scope.comp t.event));
      args = zip_front (IsArgument scope (after row ∷ [])) (IsKnownValue scope) (λ arg port is. is.known) args sig.ins each;
    }

    wide_args : GivesWidths scope sig gives
    wide_args = record {
      literals = zip_front (IsArgument scope (after row ∷ [])) LiteralFits (λ arg port is. is.literal) args sig.ins each;
      widths = λ k arg port here there. (zip_at (IsArgument scope (after row ∷ [])) args sig.ins each k arg port here there).width;
    }

    each_given : GivesEach sig gives
    each_given = record {
      times = sym (ap (λ (events : List SigEvent). length events) simple.events);
      args = zip_length (IsArgument scope (after row ∷ [])) args sig.ins each;
      one_event = λ k e at gap. absurd (no_gap sig simple k e at gap);
    }

    holds_some : HoldsSome sig gives.times
    holds_some = λ k e at gap s t here next. absurd (no_gap sig simple k e at gap)

    reads : ReadsAvailable scope sig gives
    reads = λ k arg port here there. (zip_at (IsArgument scope (after row ∷ [])) args sig.ins each k arg port here there).available

    holds_one : (u : Use) → IsUse sig inst gives.times u → u.hold ≡ 1
    holds_one u is =
        let one = simple_delay sig simple u.event is.event is.of in
        same_Some u.hold 1 (sym (sym (ap (λ (d : _). hold_of d u.at (slice_get gives.times (u.event + 1))) one) ∙ (parts_of is).held))

    keeps_delays : KeepsDelays scope sig inst gives
    keeps_delays = λ u is e has named.
        let one = holds_one u is in
        let delay = only_event e (subst (λ (c : Component). Contains c.events e) same has) in
        omega (arith, one, delay)

  -- ---- sharing: no earlier invocation is of the same instance

  module _ (scope : Scope) (same : scope.comp ≡ comp) (label inst : Text) (row : ℕ) (args : List ValueTree) (new : list_any (bytes_eq inst) (map (λ (w : Invocation). w.inst) scope.invocations) ≡ false) where
    abbrev here : Invocation
    here = record { name = label; inst = inst; gives = given_in row args }

    alone : (earlier : Invocation) → Contains scope.invocations earlier → earlier.inst ≡ inst → ⊥
    alone earlier has is =
        absent inst (map (λ (w : Invocation). w.inst) scope.invocations) new
        (subst (Contains (map (λ (w : Invocation). w.inst) scope.invocations)) is
        (All-contains (λ (w : Invocation). Contains (map (λ (v : Invocation). v.inst) scope.invocations) w.inst) scope.invocations earlier (mapped scope.invocations) has))
      where
        mapped : (xs : List Invocation) → All (λ (w : Invocation). Contains (map (λ (v : Invocation). v.inst) xs) w.inst) xs
        mapped xs = λ k d within. (k, omega (arith, length-map xs (λ (v : Invocation). v.inst)), get_or-map (λ (v : Invocation). v.inst) xs k d (get_or xs k d).inst within)

    no_earlier : (u earlier : Use) → IsUseOf scope here u → IsEarlierUse scope u earlier → ⊥
    no_earlier u earlier is before =
        alone before.invocation before.is_earlier (sym (parts_of before.uses.2).named ∙ before.same_instance ∙ (parts_of is.2).named)

    keeps_apart : KeepsUsesApart scope here
    keeps_apart = λ u earlier is before. absurd (no_earlier u earlier is before)

    ends_in_time : EndsInTime scope here
    ends_in_time = λ u earlier first last is before is_first is_last e has named. absurd (no_earlier u earlier is before)

    triggers : TriggersWithInterface scope here
    triggers = record {
      triggers = λ u is some. subst (λ (c : Component). HasInterface c u.at.event) (sym same) (has_interface u.at.event (time_is row u.event u.at (parts_of is.2).time));
      once = λ earlier u w has is_same is other named. absurd (alone earlier has is_same);
    }

  -- ---- the rules at a statement

  module _ (before : List Statement) where
    abbrev scope : Scope
    scope = scope_after comps comp before

    abbrev taken : List Text
    taken = port_names comp ++ invocation_names scope.invocations

    abbrev pub IsNewInstance : Text → Type 0
    IsNewInstance label = list_any (bytes_eq label) (instance_names scope.instances) ≡ false

    abbrev pub IsNewInvocation : Text → Type 0
    IsNewInvocation label = list_any (bytes_eq label) taken ≡ false

    abbrev pub IsUnused : Text → Type 0
    IsUnused inst = list_any (bytes_eq inst) (map (λ (w : Invocation). w.inst) scope.invocations) ≡ false

    new_instance : (i : Instance) → IsNewInstance i.name → All (λ (j : Instance). ¬ Contains (instance_names scope.instances) j.name) (i ∷ [])
    new_instance i new =
        let P : Instance → Type 0 = λ j. ¬ Contains (instance_names scope.instances) j.name in
        All-cons P i [] (absent i.name (instance_names scope.instances) new) (All-nil P)

    new_invocation : (v : Invocation) → IsNewInvocation v.name → All (λ (w : Invocation). ¬ Contains taken w.name) (v ∷ [])
    new_invocation v new = let P : Invocation → Type 0 = λ w. ¬ Contains taken w.name in All-cons P v [] (absent v.name taken new) (All-nil P)

    module _ (label made : Text) (params : List ℕ) (new : IsNewInstance label) (known : is_filament_primitive made ≡ true) (has : HasParameters scope made params) where
      pub made_kept : Kept before (New label made params)
      made_kept F1 = record { instances = new_instance (record { name = label; made = made; params = params }) new; invocations = All-nil (λ (w : Invocation). ¬ Contains taken w.name) }
      made_kept F2 = inl known
      made_kept F3 = has
      made_kept F4 = tt
      made_kept F5 = tt
      made_kept F6 = tt
      made_kept F7 = tt
      made_kept F8 = tt
      made_kept F9 = tt
      made_kept F10 = tt
      made_kept F11 = All-nil (KeepsUsesApart (scope_with comps comp before (New label made params)))
      made_kept F12 = All-nil (EndsInTime (scope_with comps comp before (New label made params)))
      made_kept F13 = All-nil (TriggersWithInterface (scope_with comps comp before (New label made params)))

    -- an invocation, of an instance that stands or of its own
    module _ (label inst : Text) (row : ℕ) (args : List ValueTree) (sig : Signature) (new : IsNewInvocation label) (unused : IsUnused inst) (simple : IsSimple sig) (each : AllZip (IsArgument scope (after row ∷ [])) args sig.ins) where
      abbrev given : Giving
      given = given_in row args

      abbrev invocation : Invocation
      invocation = record { name = label; inst = inst; gives = given }

      apart_in : (with : Scope) → with.comp ≡ comp → with.invocations ≡ scope.invocations → All (KeepsUsesApart with) (invocation ∷ []) × All (EndsInTime with) (invocation ∷ []) × All (TriggersWithInterface with) (invocation ∷ [])
      apart_in with same seen =
          let alone = subst (λ (vs : List Invocation). list_any (bytes_eq inst) (map (λ (w : Invocation). w.inst) vs) ≡ false) (sym seen) unused in (
            All-cons (KeepsUsesApart with) invocation [] (keeps_apart with same label inst row args alone) (All-nil (KeepsUsesApart with)),
            All-cons (EndsInTime with) invocation [] (ends_in_time with same label inst row args alone) (All-nil (EndsInTime with)),
            All-cons (TriggersWithInterface with) invocation [] (triggers with same label inst row args alone) (All-nil (TriggersWithInterface with)),
          )

      pub called_kept : IsSome (instance_named scope.instances inst) → instance_signature scope inst ≡ Some sig → Kept before (Call label inst given)
      called_kept there means F1 = record { instances = All-nil (λ (j : Instance). ¬ Contains (instance_names scope.instances) j.name); invocations = new_invocation invocation new }
      called_kept there means F2 = (there, known_args scope refl sig simple inst row args each)
      called_kept there means F3 = some_so (λ (s : Signature). GivesWidths scope s given) (instance_signature scope inst) sig means (wide_args scope refl sig simple inst row args each)
      called_kept there means F4 = some_so (λ (s : Signature). GivesEach s given) (instance_signature scope inst) sig means (each_given scope refl sig simple inst row args each)
      called_kept there means F5 = tt
      called_kept there means F6 = tt
      called_kept there means F7 = some_so (λ (s : Signature). HoldsSome s given.times) (instance_signature scope inst) sig means (holds_some scope refl sig simple inst row args each)
      called_kept there means F8 = some_so (λ (s : Signature). ReadsAvailable scope s given) (instance_signature scope inst) sig means (reads scope refl sig simple inst row args each)
      called_kept there means F9 = tt
      called_kept there means F10 = some_so (λ (s : Signature). KeepsDelays scope s inst given) (instance_signature scope inst) sig means (keeps_delays scope refl sig simple inst row args each)
      called_kept there means F11 = (apart_in (scope_with comps comp before (Call label inst given)) refl refl).0
      called_kept there means F12 = (apart_in (scope_with comps comp before (Call label inst given)) refl refl).1
      called_kept there means F13 = (apart_in (scope_with comps comp before (Call label inst given)) refl refl).2

    module _ (label made : Text) (row : ℕ) (args : List ValueTree) (sig : Signature) (new : IsNewInstance label) (new_name : IsNewInvocation label) (unused : IsUnused label) (simple : IsSimple sig) (each : AllZip (IsArgument scope (after row ∷ [])) args sig.ins) where
      pub both_kept : IsMadeOf scope made → signature_in comps made [] ≡ Some sig → Kept before (Both label made [] (given_in row args))
      both_kept is means F1 = record { instances = new_instance (record { name = label; made = made; params = [] }) new; invocations = new_invocation (record { name = label; inst = label; gives = given_in row args }) new_name }
      both_kept is means F2 = (is, known_args scope refl sig simple label row args each)
      both_kept is means F3 = (ap is_some means, some_so (λ (s : Signature). GivesWidths scope s (given_in row args)) (signature_in comps made []) sig means (wide_args scope refl sig simple label row args each))
      both_kept is means F4 = some_so (λ (s : Signature). GivesEach s (given_in row args)) (signature_in comps made []) sig means (each_given scope refl sig simple label row args each)
      both_kept is means F5 = tt
      both_kept is means F6 = tt
      both_kept is means F7 = some_so (λ (s : Signature). HoldsSome s (after row ∷ [])) (signature_in comps made []) sig means (holds_some scope refl sig simple label row args each)
      both_kept is means F8 = some_so (λ (s : Signature). ReadsAvailable scope s (given_in row args)) (signature_in comps made []) sig means (reads scope refl sig simple label row args each)
      both_kept is means F9 = tt
      both_kept is means F10 = some_so (λ (s : Signature). KeepsDelays scope s label (given_in row args)) (signature_in comps made []) sig means (keeps_delays scope refl sig simple label row args each)
      both_kept is means F11 = (apart_in label label row args sig new_name unused simple each (scope_with comps comp before (Both label made [] (given_in row args))) refl refl).0
      both_kept is means F12 = (apart_in label label row args sig new_name unused simple each (scope_with comps comp before (Both label made [] (given_in row args))) refl refl).1
      both_kept is means F13 = (apart_in label label row args sig new_name unused simple each (scope_with comps comp before (Both label made [] (given_in row args))) refl refl).2

    module _ (output : Text) (value : ValueTree) (port : SigPort) (there : output_of scope output ≡ Some port) (known : IsKnownValue scope value) (literal : LiteralFits value) (width : value_width scope value ≡ Some port.width) where
      pub connected_kept : ConnectsOnce scope before (Connect output value) → Kept before (Connect output value)
      connected_kept once F1 = record { instances = All-nil (λ (j : Instance). ¬ Contains (instance_names scope.instances) j.name); invocations = All-nil (λ (w : Invocation). ¬ Contains taken w.name) }
      connected_kept once F2 = (ap is_some there, known)
      connected_kept once F3 = (literal, some_so (λ (p : SigPort). value_width scope value ≡ Some p.width) (output_of scope output) port there width)
      connected_kept once F4 = tt
      connected_kept once F5 = tt
      connected_kept once F6 = tt
      connected_kept once F7 = tt
      connected_kept once F8 = tt
      connected_kept once F9 = once
      connected_kept once F10 = tt
      connected_kept once F11 = All-nil (KeepsUsesApart (scope_with comps comp before (Connect output value)))
      connected_kept once F12 = All-nil (EndsInTime (scope_with comps comp before (Connect output value)))
      connected_kept once F13 = All-nil (TriggersWithInterface (scope_with comps comp before (Connect output value)))

  -- ---- the rules at all places

  pub component_kept : ((rule : Rule) → AtSignature rule comps comp) → ((k : ℕ) (s : Statement) → slice_get body k ≡ Some s → Kept (take k body) s) → ((rule : Rule) → AtEnd rule comp) → KeepsComponent all_rules comps comp
  component_kept first each last zero item is = λ k d within. subst (λ (i : Item). Keeps comps comp i (get_or all_rules k d)) (sym is) (first (get_or all_rules k d))
  component_kept first each last (suc n) item (inl at) = λ k d within. subst (λ (i : Item). Keeps comps comp i (get_or all_rules k d)) (sym at.2) (each n at.0 at.1 (get_or all_rules k d))
  component_kept first each last (suc n) item (inr end) = λ k d within. subst (λ (i : Item). Keeps comps comp i (get_or all_rules k d)) (sym end.1) (last (get_or all_rules k d))
