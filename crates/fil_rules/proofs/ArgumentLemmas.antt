-- What an invocation gives, by numbers of names and by texts.
use Rattle.std.proofs.Common.{◌≡◌, ℕ, zero, suc, ◌+◌, ◌<◌, ◌≤◌, min, ◌⊎◌, inl, inr, Bool, true, false, not, ◌↔◌, List, length, map, slice_get, get_or, All, Option, Some, None, option_map, is_some, bytes_eq, refl, sym, ap, ◌∙◌, arith}
use Rattle.std.specs.Bool.{IsTrue}
use Rattle.std.specs.List.{Any, AllPairs}
use Rattle.std.proofs.lemmas.Bool.{cases_lt}
use Rattle.std.proofs.lemmas.List.{length-map, get_or-map}
use Rattle.std.proofs.lemmas.Option.{slice_get_within, slice_get-get_or, get_or_from_slice_get}
use Rattle.std.proofs.lemmas.Slice.Eq.{bytes_eq-Decides}
use Rattle.hw_names.specs.Name.{Text, text_of}
use Rattle.fil_ast.specs.Naming.{IsKnownValue}
use Rattle.fil_ast.specs.Scope.{Scope, Result, input_of, result_of}
use Rattle.fil_ast.specs.Signature as tree
use Rattle.fil_ast.specs.Tree.{TimeAt, ValueTree, InputValue, OutputValue, Literal, giving, time_tree, value_tree}
use Rattle.fil_ast.specs.Typing.{GivesEach, GivesWidths, LiteralFits, value_width}
use Rattle.fil_ast.specs.declared.tree.Time.{Time}
use Rattle.fil_ast.specs.declared.tree.Value.{Value}
use Rattle.fil_sig.specs.Seen.{seen, seen_delay, seen_event, seen_port}
use Rattle.fil_sig.specs.declared.time_sig.SigEvent.{SigEvent}
use Rattle.fil_sig.specs.declared.time_sig.SigPort.{SigPort}
use Rattle.fil_sig.specs.declared.time_sig.TimeSig.{TimeSig}
use Rattle.fil_sig.proofs.ListLemmas.{All-mapped, All-unmap}
use Rattle.fil_rules.specs.inside.Arguments.{AreWide}
use Rattle.fil_place.proofs.GeneralLemmas.{unmapped, mapped_at}

-- texts that a test tells apart
pub texts_differ : (a b : Text) (r : Bool) → r ≡ not (bytes_eq a b) → r ≡ true → a ≡ b → ⊥
texts_differ a b r is told same =
    let tested : bytes_eq a b ≡ true = (bytes_eq-Decides a b).1 same in
    let bad : true ≡ false = sym told ∙ is ∙ ap not tested in absurd (cc)

pub texts_same : (a b : Text) (r : Bool) → r ≡ not (bytes_eq a b) → r ≡ false → a ≡ b
texts_same a b r is told = by (bytes_eq a b) refl
  where
    by : (t : Bool) → bytes_eq a b ≡ t → a ≡ b
    by true e = (bytes_eq-Decides a b).0 e
    by false e = let bad : false ≡ true = sym told ∙ is ∙ ap not e in absurd (cc)

some_map : {X Y : Type 0} (f : X → Y) (o : Option X) → is_some (option_map f o) ≡ true → is_some o ≡ true
some_map f None e = e
some_map f (Some x) e = refl

map_some : {X Y : Type 0} (f : X → Y) (o : Option X) → is_some o ≡ true → is_some (option_map f o) ≡ true
map_some f None e = e
map_some f (Some x) e = refl

-- a value is known where it has a width
pub known_by_width : (scope : Scope) (value : ValueTree) → is_some (value_width scope value) ≡ true → IsKnownValue scope value
known_by_width scope (InputValue name) e = some_map (λ (p : tree.SigPort). p.width) (input_of scope name) e
known_by_width scope (OutputValue invocation port) e = some_map (λ (r : Result). r.port.width) (result_of scope invocation port) e
known_by_width scope (Literal width value) e = tt

pub width_of_known : (scope : Scope) (value : ValueTree) → IsKnownValue scope value → is_some (value_width scope value) ≡ true
width_of_known scope (InputValue name) e = map_some (λ (p : tree.SigPort). p.width) (input_of scope name) e
width_of_known scope (OutputValue invocation port) e = map_some (λ (r : Result). r.port.width) (result_of scope invocation port) e
width_of_known scope (Literal width value) e = refl

-- times that name one event
module _ (names : List Text) (at : List Time) (first : Time) (event : Text) (is_first : ◌≡◌ {A = Option Time} (Some first) (slice_get at 0)) (named : text_of names first.event ≡ event) where
  abbrev OneEvent : Type 0
  OneEvent = AllPairs (λ (s t : TimeAt). s.event ≡ t.event) (map (time_tree names) at)

  pub one_event : All (λ (t : Time). text_of names t.event ≡ event) at → OneEvent
  one_event all i j d before within =
      let each = All-mapped (λ (s : TimeAt). s.event ≡ event) (time_tree names) at all in
      each i d (omega arith) ∙ sym (each j d within)

  pub other_event : (i : ℕ) (d : Time) → i < length at → (text_of names (get_or at i d).event ≡ event → ⊥) → OneEvent → ⊥
  other_event zero d within other pairs = other (ap (λ (t : Time). text_of names t.event) (get_or_from_slice_get at 0 first d (sym is_first)) ∙ named)
  other_event (suc i) d within other pairs =
      let inside : suc i < length (map (time_tree names) at) = omega (arith, length-map at (time_tree names)) in
      let same = pairs 0 (suc i) (time_tree names d) (omega arith) inside in
      let here = ap (λ (s : TimeAt). s.event) (get_or-map (time_tree names) at (suc i) d (time_tree names d) within) in
      let there = ap (λ (s : TimeAt). s.event) (get_or-map (time_tree names) at 0 d (time_tree names d) (omega arith)) in
      other (sym here ∙ sym same ∙ there ∙ ap (λ (t : Time). text_of names t.event) (get_or_from_slice_get at 0 first d (sym is_first)) ∙ named)

-- F4 of an invocation
module _ (names : List Text) (sig : TimeSig) (at : List Time) (args : List Value) (times : length at ≡ length sig.events.items) (arguments : length args ≡ length sig.ins.items) where
  abbrev HasGap : Type 0
  HasGap = Any (λ (e : SigEvent). seen_delay e.delay ≡ tree.Gap) sig.events.items

  abbrev Pairs : Type 0
  Pairs = AllPairs (λ (s t : TimeAt). s.event ≡ t.event) (map (time_tree names) at)

  each_time : length (map (time_tree names) at) ≡ length (map seen_event sig.events.items)
  each_time = length-map at (time_tree names) ∙ times ∙ sym (length-map sig.events.items seen_event)

  each_argument : length (map (value_tree names) args) ≡ length (map seen_port sig.ins.items)
  each_argument = length-map args (value_tree names) ∙ arguments ∙ sym (length-map sig.ins.items seen_port)

  pub each_with_gap : HasGap → (b : Bool) → IsTrue b ↔ Pairs → IsTrue b ↔ GivesEach (seen sig) (giving names at args)
  each_with_gap (k, x, within, is, gap) b iff = (
    λ t. record { times = each_time; args = each_argument; one_event = λ j e there held. iff.0 t },
    λ each. iff.1 (each.one_event k (seen_event x) (mapped_at seen_event sig.events.items k x (slice_get-get_or sig.events.items k x within ∙ ap Some is)) gap),
  )

  pub each_without_gap : (HasGap → ⊥) → GivesEach (seen sig) (giving names at args)
  each_without_gap none = record {
    times = each_time;
    args = each_argument;
    one_event = λ k e there held.
        (let x = unmapped seen_event sig.events.items k e there in
        absurd (none (k, x.0, slice_get_within sig.events.items k x.0 x.1, get_or_from_slice_get sig.events.items k x.0 x.0 x.1, ap (λ (s : tree.SigEvent). s.delay) x.2 ∙ held)));
  }

-- widths of the arguments before a place
module _ (names : List Text) (scope : Scope) (ports : List SigPort) (args : List Value) where
  abbrev pub WideBelow : ℕ → Type 0
  WideBelow n = (k : ℕ) (arg : Value) (port : SigPort) → k < n → slice_get args k ≡ Some arg → slice_get ports k ≡ Some port → value_width scope (value_tree names arg) ≡ Some port.width

  module _ (n : ℕ) (a : Value) (p : SigPort) (is_a : (d : Value) → a ≡ get_or args n d) (is_p : (d : SigPort) → p ≡ get_or ports n d) where
    pub wide_more : WideBelow n → value_width scope (value_tree names a) ≡ Some p.width → WideBelow (n + 1)
    wide_more below here k arg port within arg_at port_at = by (cases_lt k n)
      where
        by : (k < n) ⊎ (n ≤ k) → value_width scope (value_tree names arg) ≡ Some port.width
        by (inl earlier) = below k arg port earlier arg_at port_at
        by (inr later) =
            let same : k ≡ n = omega arith in
            let same_arg = sym (get_or_from_slice_get args k arg arg arg_at) ∙ ap (λ (i : ℕ). get_or args i arg) same ∙ sym (is_a arg) in
            let same_port = is_p port ∙ ap (λ (i : ℕ). get_or ports i port) (sym same) ∙ get_or_from_slice_get ports k port port port_at in
            ap (λ (v : Value). value_width scope (value_tree names v)) same_arg ∙ here ∙ ap (λ (q : SigPort). Some q.width) same_port

    pub wide_fails : n < length args → n < length ports → (value_width scope (value_tree names a) ≡ Some p.width → ⊥) → AreWide scope names ports args → ⊥
    wide_fails in_args in_ports other wide =
        other (wide n a p (slice_get-get_or args n a in_args ∙ ap Some (sym (is_a a))) (slice_get-get_or ports n p in_ports ∙ ap Some (sym (is_p p))))

  pub wide_all : (n : ℕ) → n ≡ min (length args) (length ports) → WideBelow n → AreWide scope names ports args
  wide_all n all below k arg port arg_at port_at =
      let in_args = slice_get_within args k arg arg_at in
      let in_ports = slice_get_within ports k port port_at in
      below k arg port (omega arith) arg_at port_at

-- F3 of an invocation
module _ (names : List Text) (scope : Scope) (sig : TimeSig) (at : List Time) (args : List Value) where
  pub widths_given : All (λ (arg : Value). LiteralFits (value_tree names arg)) args → (b : Bool) → IsTrue b ↔ AreWide scope names sig.ins.items args → IsTrue b ↔ GivesWidths scope (seen sig) (giving names at args)
  widths_given literals b iff = (
    λ t. record {
      literals = All-mapped LiteralFits (value_tree names) args literals;
      widths = λ k arg port arg_at port_at.
          (let a = unmapped (value_tree names) args k arg arg_at in
          let p = unmapped seen_port sig.ins.items k port port_at in
          ap (value_width scope) (sym a.2) ∙ iff.0 t k a.0 p.0 a.1 p.1 ∙ ap (λ (p : tree.SigPort). Some p.width) p.2);
    },
    λ widths. iff.1 (λ k arg port arg_at port_at.
        widths.widths k (value_tree names arg) (seen_port port) (mapped_at (value_tree names) args k arg arg_at) (mapped_at seen_port sig.ins.items k port port_at)),
  )

  pub literals_given : GivesWidths scope (seen sig) (giving names at args) → All (λ (arg : Value). LiteralFits (value_tree names arg)) args
  literals_given widths = All-unmap LiteralFits (value_tree names) args widths.literals
