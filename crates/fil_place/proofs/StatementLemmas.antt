-- F1 to F3 at a statement, part by part.
use Rattle.std.proofs.Common.{◌≡◌, ℕ, Bool, true, false, not, ◌↔◌, List, [], ◌++◌, slice_get, Contains, Option, Some, None, option_map, is_some, refl, sym, ap, subst, ◌∙◌, get_or, All}
use Rattle.std.specs.Bool.{IsTrue}
use Rattle.std.specs.Option.{IfSome, IsSome}
use Rattle.std.proofs.lemmas.List.Elements.{All-cons, All-head, All-nil}
use Rattle.std.proofs.lemmas.Option.{slice_get-get_or}
use Rattle.hw_names.specs.Name.{Text, text_of}
use Rattle.hw_names.specs.declared.names.NameId.{NameId}
use Rattle.hw_names.proofs.NameLemmas.{text_of-slice_get}
use Rattle.fil_ast.specs.Naming.{MakesNewNames, instance_names, invocation_names, port_names, GivesKnown, IsKnownValue, NamesEvent, event_names}
use Rattle.fil_ast.specs.Scope.{Scope, Instance, Invocation, instance_named}
use Rattle.fil_ast.specs.Signature.{SigPort}
use Rattle.fil_ast.specs.Tree.{Giving, New, Call, Both, TimeAt, giving, time_tree, value_tree}
use Rattle.fil_ast.specs.declared.tree.FilComp.{FilComp}
use Rattle.fil_place.specs.Tables.{IsPlace}
use Rattle.fil_place.specs.declared.earlier.Earlier.{Earlier}
use Rattle.fil_place.specs.declared.tables.Tables.{Tables}
use Rattle.fil_place.proofs.GeneralLemmas.{told_no, unmapped}
use Rattle.fil_place.proofs.LookupLemmas.{instance_at, no_instance_named}
use Rattle.fil_ast.specs.declared.tree.Time.{Time}
use Rattle.fil_ast.specs.declared.tree.Value.{Value}
use Rattle.fil_sig.proofs.ListLemmas.{All-mapped, All-unmap}

-- what a search among names answers, of the text of a number
module _ (names : List Text) (id : NameId) (text : Text) (at : slice_get names id.0 ≡ Some text) (listed : List Text) (found : Bool) (present : (found ≡ true) ↔ Contains listed text) where
  pub present_at : (found ≡ true) ↔ Contains listed (text_of names id)
  present_at = let P : Text → Type 0 = λ t. (found ≡ true) ↔ Contains listed t in subst P (sym (text_of-slice_get names id text at)) present

  pub there_at : (some : Bool) → some ≡ found → (some ≡ true) ↔ Contains listed (text_of names id)
  there_at some is = (λ e. present_at.0 (sym is ∙ e), λ there. is ∙ present_at.1 there)

  pub absent_at : (none : Bool) → found ≡ not none → IsTrue none ↔ (Contains listed (text_of names id) → ⊥)
  absent_at true is = (λ t there. let bad : true ≡ false = sym (present_at.1 there) ∙ is in absurd (cc), λ absent. refl)
  absent_at false is = (λ t. let bad : false ≡ true = t in absurd (cc), λ absent. absurd (absent (present_at.0 is)))

-- two parts of a rule
pub both_parts : (A B : Type 0) (a b : Bool) → ((a ≡ true) ↔ A) → a ≡ true → IsTrue b ↔ B → IsTrue b ↔ (A × B)
both_parts A B a b first is second = (λ t. (first.0 is, second.0 t), λ ab. second.1 ab.1)

pub first_fails : (A B : Type 0) (a : Bool) → ((a ≡ true) ↔ A) → a ≡ false → IsTrue a ↔ (A × B)
first_fails A B a first is = told_no (A × B) a is (λ ab. let bad : false ≡ true = sym is ∙ first.1 ab.0 in absurd (cc))

module _ (names : List Text) (earlier : Earlier) (comp : FilComp) (tables : Tables) (scope : Scope) (place : IsPlace names earlier comp tables scope) where
  abbrev NewInstance : Instance → Type 0
  NewInstance i = ¬ Contains (instance_names scope.instances) i.name

  abbrev NewInvocation : Invocation → Type 0
  NewInvocation v = ¬ Contains (port_names scope.comp ++ invocation_names scope.invocations) v.name

  instance_new : (name : Text) → (Contains tables.instances name → ⊥) → ¬ Contains (instance_names scope.instances) name
  instance_new name absent there = absent (subst (λ (ts : List Text). Contains ts name) (sym place.shows.instances) there)

  instance_absent : (name : Text) → (¬ Contains (instance_names scope.instances) name) → Contains tables.instances name → ⊥
  instance_absent name absent there = absent (subst (λ (ts : List Text). Contains ts name) place.shows.instances there)

  invocation_new : (name : Text) → (Contains tables.ports name → ⊥) → ¬ Contains (port_names scope.comp ++ invocation_names scope.invocations) name
  invocation_new name absent there = absent (subst (λ (ts : List Text). Contains ts name) (sym place.shows.ports) there)

  invocation_absent : (name : Text) → (¬ Contains (port_names scope.comp ++ invocation_names scope.invocations) name) → Contains tables.ports name → ⊥
  invocation_absent name absent there = absent (subst (λ (ts : List Text). Contains ts name) place.shows.ports there)

  module _ (name made : Text) (params : List ℕ) where
    pub new_absent : MakesNewNames scope (New name made params) → Contains tables.instances name → ⊥
    new_absent new = instance_absent name (All-head NewInstance (record { name = name; made = made; params = params }) [] new.instances)

    pub new_at_new : (b : Bool) → IsTrue b ↔ (Contains tables.instances name → ⊥) → IsTrue b ↔ MakesNewNames scope (New name made params)
    new_at_new b iff = (
      λ t. record { instances = All-cons NewInstance _ [] (instance_new name (iff.0 t)) (All-nil NewInstance); invocations = All-nil NewInvocation },
      λ new. iff.1 (new_absent new),
    )

    module _ (gives : Giving) where
      pub both_instance : MakesNewNames scope (Both name made params gives) → Contains tables.instances name → ⊥
      both_instance new = instance_absent name (All-head NewInstance (record { name = name; made = made; params = params }) [] new.instances)

      pub both_invocation : MakesNewNames scope (Both name made params gives) → Contains tables.ports name → ⊥
      both_invocation new = invocation_absent name (All-head NewInvocation (record { name = name; inst = name; gives = gives }) [] new.invocations)

      pub new_at_both : (b : Bool) → (Contains tables.instances name → ⊥) → IsTrue b ↔ (Contains tables.ports name → ⊥) → IsTrue b ↔ MakesNewNames scope (Both name made params gives)
      new_at_both b absent iff = (
        λ t. record {
          instances = All-cons NewInstance _ [] (instance_new name absent) (All-nil NewInstance);
          invocations = All-cons NewInvocation _ [] (invocation_new name (iff.0 t)) (All-nil NewInvocation);
        },
        λ new. iff.1 (both_invocation new),
      )

  module _ (name inst : Text) (gives : Giving) where
    pub call_absent : MakesNewNames scope (Call name inst gives) → Contains tables.ports name → ⊥
    call_absent new = invocation_absent name (All-head NewInvocation (record { name = name; inst = inst; gives = gives }) [] new.invocations)

    pub new_at_call : (b : Bool) → IsTrue b ↔ (Contains tables.ports name → ⊥) → IsTrue b ↔ MakesNewNames scope (Call name inst gives)
    new_at_call b iff = (
      λ t. record { instances = All-nil NewInstance; invocations = All-cons NewInvocation _ [] (invocation_new name (iff.0 t)) (All-nil NewInvocation) },
      λ new. iff.1 (call_absent new),
    )

  -- an instance is known where its name is listed
  pub instance_known : (name : Text) → Contains tables.instances name → IsSome (instance_named scope.instances name)
  instance_known name (k, below, here) =
      let at = slice_get-get_or tables.instances k name below ∙ ap Some here in
      let i = unmapped (λ (i : Instance). i.name) scope.instances k name (ap (λ ts. slice_get ts k) (sym place.shows.instances) ∙ at) in
      ap is_some (instance_at names earlier comp tables scope place name k at ∙ i.1)

  pub instance_listed : (found : Bool) (name : Text) → ((found ≡ true) ↔ Contains tables.instances name) → (found ≡ true) ↔ IsSome (instance_named scope.instances name)
  instance_listed true name iff = (λ e. instance_known name (iff.0 e), λ known. refl)
  instance_listed false name iff = (
    λ e. absurd (cc),
    λ known.
        let bad : false ≡ true = sym (ap is_some (no_instance_named names earlier comp tables scope place name (λ there. let t = iff.1 there in absurd (cc)))) ∙ known in
        bad,
  )

-- what a look-up finds, where it sees this
pub seen_listed : {X Y : Type 0} (f : X → Y) (r : Option X) (o : Option Y) (some : Bool) → some ≡ is_some r → option_map f r ≡ o → (some ≡ true) ↔ IsSome o
seen_listed f None o some is e = (λ t. sym (ap is_some e) ∙ sym is ∙ t, λ known. is ∙ ap is_some e ∙ known)
seen_listed f (Some x) o some is e = (λ t. sym (ap is_some e), λ known. is)

-- the width of a connected value, against the output's
pub output_width : (o : Option SigPort) (port : SigPort) (w : Option ℕ) (b : Bool) → Some port ≡ o → IsTrue b ↔ (w ≡ Some port.width) → IsTrue b ↔ IfSome o (λ (p : SigPort). w ≡ Some p.width)
output_width o port w b is iff = let P : Option SigPort → Type 0 = λ o. IsTrue b ↔ IfSome o (λ (p : SigPort). w ≡ Some p.width) in subst P is iff

pub no_output_width : (o : Option SigPort) (w : Option ℕ) → ◌≡◌ {A = Option SigPort} None o → IsTrue true ↔ IfSome o (λ (p : SigPort). w ≡ Some p.width)
no_output_width o w is = let P : Option SigPort → Type 0 = λ o. IsTrue true ↔ IfSome o (λ (p : SigPort). w ≡ Some p.width) in subst P is (λ t. tt, λ u. refl)

-- F2 of an invocation
module _ (names : List Text) (scope : Scope) (events : List Text) (is_events : events ≡ event_names scope.comp) (at : List Time) (args : List Value) where
  abbrev Timed : Time → Type 0
  Timed t = Contains events (text_of names t.event)

  abbrev Named : TimeAt → Type 0
  Named t = NamesEvent scope.comp t.event

  pub known_given : All Timed at → (b : Bool) → IsTrue b ↔ All (λ (arg : Value). IsKnownValue scope (value_tree names arg)) args → IsTrue b ↔ GivesKnown scope (giving names at args)
  known_given timed b iff = (
    λ t. record {
      times = All-mapped Named (time_tree names) at (λ k d within. subst (λ (ts : List Text). Contains ts (text_of names (get_or at k d).event)) is_events (timed k d within));
      args = All-mapped (IsKnownValue scope) (value_tree names) args (iff.0 t);
    },
    λ known. iff.1 (All-unmap (IsKnownValue scope) (value_tree names) args known.args),
  )

  pub times_known : GivesKnown scope (giving names at args) → All Timed at
  times_known known k d within =
      subst (λ (ts : List Text). Contains ts (text_of names (get_or at k d).event)) (sym is_events) (All-unmap Named (time_tree names) at known.times k d within)
