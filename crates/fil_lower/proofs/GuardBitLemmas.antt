-- The bits of a lowered component are its interface ports and what its registers show, and there are as many as guards want.
use Rattle.std.proofs.Common.{◌≡◌, ℕ, zero, suc, ◌+◌, ◌-◌, ◌<◌, ◌≤◌, Bool, true, false, List, [], ◌∷◌, length, map, flat_map, filter, max, get_or, slice_get, All, Option, Some, None, option_map, refl, sym, ap, subst, ◌∙◌, inl, inr, arith}
use Rattle.std.specs.List.{fold}
use Rattle.std.specs.Option.{option_map_or, option_and_then}
use Rattle.std.specs.Prelude.{Contains, bytes_eq, if◌then◌else◌}
use Rattle.std.proofs.lemmas.Bool.{false≢true}
use Rattle.std.proofs.lemmas.List.{length-map}
use Rattle.std.proofs.lemmas.List.Elements.{All-contains, All-cons, All-nil, Contains-get_or, Contains-append_left, Contains-append_right}
use Rattle.std.proofs.lemmas.Option.{none-some, same_Some, slice_get-map}
use Rattle.std.proofs.lemmas.Slice.Eq.{bytes_eq-Decides}
use Rattle.hw_names.specs.Name.{Text}
use Rattle.net_core.specs.Guard.{GuardTree}
use Rattle.cal_ast.specs.Tree.{PortName, own}
use Rattle.fil_ast.specs.Holds.{uses_of}
use Rattle.fil_ast.specs.Naming.{NamesEvents, event_names}
use Rattle.fil_ast.specs.Scope.{Invocation, instance_signature}
use Rattle.fil_ast.specs.Sharing.{HasInterface}
use Rattle.fil_ast.specs.Signature.{SigPort, Signature, event_number, interface_of}
use Rattle.fil_ast.specs.Timeline.{Interval, Use, interval_at}
use Rattle.fil_ast.specs.Tree.{Event, Interface}
use Rattle.fil_fsm.specs.Chain.{bit_of, chain_bits}
use Rattle.fil_share.proofs.ListLemmas.{Contains-at}
use Rattle.fil_lower.specs.inside.Lowering.{Lowering, HasEnoughBits, all_registers, any_of, bit_at, bits_from, bits_of, during, go_of, inputs_of_callee, last_bit, registers_of, wanted_by, wants_in}
use Rattle.fil_lower.proofs.ListLemmas.{contains_in_flat, contains_in_if, contains_none, first_or_later, in_filter}
use Rattle.fil_lower.proofs.NameLemmas.{from_map, same_name}
use Rattle.fil_lower.proofs.TimedAsLemmas.{contains_map, number_of}

-- a port that is 1 so many rows after a start of an event
pub data IsBit (l : Lowering) : PortName → Type 0 where
  Start : (g : Interface) → Contains l.scope.comp.interfaces g → IsBit l (own g.name)
  Later : (name : Text) → Contains (all_registers l) name → IsBit l (bit_of name)

-- no guard, or that one of these bits is 1
pub data IsGuard (l : Lowering) : Option (GuardTree PortName) → Type 0 where
  Always : IsGuard l None
  Where : (bits : List PortName) → All (IsBit l) bits → IsGuard l (Some (any_of bits))

-- ---- interface ports

pub interface_is : (interfaces : List Interface) (event go : Text) → interface_of interfaces event ≡ Some go → (g : Interface) × Contains interfaces g × (g.name ≡ go) × (g.event ≡ event)
interface_is [] event go is = absurd (none-some go is)
interface_is (g ∷ interfaces) event go is = by (bytes_eq g.event event) refl is (interface_is interfaces event go)
  where
    by : (b : Bool) → bytes_eq g.event event ≡ b → (if b then Some g.name else interface_of interfaces event) ≡ Some go
        → (interface_of interfaces event ≡ Some go → (h : Interface) × Contains interfaces h × (h.name ≡ go) × (h.event ≡ event)) → (h : Interface) × Contains (g ∷ interfaces) h × (h.name ≡ go) × (h.event ≡ event)
    by true here e later = (g, (zero, omega arith, refl), same_Some g.name go e, (bytes_eq-Decides g.event event).0 here)
    by false there e later = let m = later e in (m.0, (suc m.1.0, omega (arith, m.1.1), m.1.2), m.2, m.3)

pub interface_there : (interfaces : List Interface) (event : Text) → Contains (map (λ (g : Interface). g.event) interfaces) event → (go : Text) × (interface_of interfaces event ≡ Some go)
interface_there [] event has = absurd (contains_none event has)
interface_there (g ∷ interfaces) event has = by (bytes_eq g.event event) refl (interface_there interfaces event)
  where
    by : (b : Bool) → bytes_eq g.event event ≡ b → (Contains (map (λ (g : Interface). g.event) interfaces) event → (go : Text) × (interface_of interfaces event ≡ Some go))
        → (go : Text) × ((if b then Some g.name else interface_of interfaces event) ≡ Some go)
    by true here rest = (g.name, refl)
    by false there rest =
        rest (elim (first_or_later g.event (map (λ (g : Interface). g.event) interfaces) event has) [ inl same ↦ absurd (false≢true (sym there ∙ (bytes_eq-Decides g.event event).1 same)) | inr later ↦ later ])

-- ---- the greatest of a list

above_start : (xs : List ℕ) (start : ℕ) → start ≤ fold max start xs
above_start [] start = omega arith
above_start (x ∷ xs) start = let more = above_start xs (max start x) in omega (arith, more)

above_each : (xs : List ℕ) (start x : ℕ) → Contains xs x → x ≤ fold max start xs
above_each [] start x has = absurd (contains_none x has)
above_each (y ∷ xs) start x has =
    elim (first_or_later y xs x has) [
      | inl same ↦ let more = above_start xs (max start y) in omega (arith, more, same)
      | inr later ↦ above_each xs (max start y) x later
    ]

-- ---- bits that are there

module _ (l : Lowering) (enough : HasEnoughBits l) (names : NamesEvents l.scope.comp) where
  -- an event with an interface port has its registers
  record HasBits (event go : Text) : Type 0 where
    registers : List Text
    are : registers_of l event ≡ registers
    count : length registers ≡ last_bit l event
    among : (name : Text) → Contains registers name → Contains (all_registers l) name

  registers_there : (rs : Option (List Text)) (k last : ℕ) → slice_get l.registers k ≡ rs → option_map length rs ≡ Some last → (registers : List Text) × (slice_get l.registers k ≡ Some registers) × (length registers ≡ last)
  registers_there None k last at is = absurd (none-some last is)
  registers_there (Some registers) k last at is = (registers, at, same_Some (length registers) last is)

  has_bits : (event go : Text) → go_of l event ≡ Some go → HasBits event go
  has_bits event go is =
      let g = interface_is l.scope.comp.interfaces event go is in
      let is_event : Contains (event_names l.scope.comp) event = subst (Contains (event_names l.scope.comp)) g.3 (All-contains (λ (g : Interface). Contains (event_names l.scope.comp) g.event) l.scope.comp.interfaces g.0 names.interfaces g.1) in
      let k = event_number l.scope.comp.events event in
      let e = number_of l.scope.comp.events event is_event in
      let last : option_map length (slice_get l.registers k) ≡ Some (last_bit l event) =
      sym (slice_get-map length l.registers k) ∙ ap (λ (ns : List ℕ). slice_get ns k) enough ∙ slice_get-map (λ (e : Event). last_bit l e.name) l.scope.comp.events k
      ∙ ap (option_map (λ (e : Event). last_bit l e.name)) e.1 ∙ ap (λ (name : Text). Some (last_bit l name)) e.2 in
      let r = registers_there (slice_get l.registers k) k (last_bit l event) refl last in
      record {
        registers = r.0;
        are = get_or_at l.registers k r.0 r.1;
        count = r.2;
        among = λ name has. contains_in_flat (λ (names : List Text). names) l.registers r.0 name (Contains-at l.registers k r.0 r.1) has;
      }
    where
      get_or_at : (rss : List (List Text)) (k : ℕ) (rs : List Text) → slice_get rss k ≡ Some rs → get_or rss k [] ≡ rs
      get_or_at [] k rs at = absurd (none-some rs at)
      get_or_at (x ∷ rss) zero rs at = same_Some x rs at
      get_or_at (x ∷ rss) (suc k) rs at = get_or_at rss k rs at

  pub bit_there : (event go : Text) (i : ℕ) → go_of l event ≡ Some go → i ≤ last_bit l event → IsBit l (bit_at l event i)
  bit_there event go i is within =
      let h = has_bits event go is in
      let g = interface_is l.scope.comp.interfaces event go is in
      let bits : bits_of l event ≡ own go ∷ map bit_of h.registers =
      ap (λ (o : Option Text). option_map_or (λ go. chain_bits (own go) (registers_of l event)) o []) is ∙ ap (chain_bits (own go)) h.are in
      let inside : i < length (own go ∷ map bit_of h.registers) = omega (arith, within, h.count, length-map h.registers bit_of) in
      let among = Contains-get_or (own go ∷ map bit_of h.registers) i (own []) inside in
      subst (IsBit l) (ap (λ (ps : List PortName). get_or ps i (own [])) (sym bits))
      (elim (first_or_later (own go) (map bit_of h.registers) (get_or (own go ∷ map bit_of h.registers) i (own [])) among) [
        | inl same ↦ subst (IsBit l) (ap own g.2 ∙ same) (Start g.0 g.1)
        | inr later ↦ let m = from_map bit_of h.registers (get_or (own go ∷ map bit_of h.registers) i (own [])) later in subst (IsBit l) m.2 (Later m.0 (h.among m.0 m.1))
      ])

  pub bits_there : (event go : Text) (from count : ℕ) → go_of l event ≡ Some go → (from + count) - 1 ≤ last_bit l event → All (IsBit l) (bits_from l event from count)
  bits_there event go from zero is within = All-nil (IsBit l)
  bits_there event go from (suc count) is within =
      All-cons (IsBit l) (bit_at l event from) (bits_from l event (suc from) count) (bit_there event go from is (omega (arith, within)))
      (bits_there event go (suc from) count is (omega (arith, within)))

  -- ---- bits that are wanted

  wanted : (event go : Text) (v : Invocation) (last : ℕ) → go_of l event ≡ Some go → Contains l.scope.invocations v → Contains (wanted_by l event v) last → last ≤ last_bit l event
  wanted event go v last is of wants =
      let all = flat_map (wanted_by l event) l.scope.invocations in
      let below : last ≤ fold max 0 all = above_each all 0 last (contains_in_flat (wanted_by l event) l.scope.invocations v last of wants) in
      subst (λ (n : ℕ). last ≤ n) (sym (ap (λ (o : Option Text). option_map_or (λ go. fold max 0 all) o 0) is)) below

  -- the guard of an argument
  pub argument_guard : (v : Invocation) (sig : Signature) (port : SigPort) → Contains l.scope.invocations v → instance_signature l.scope v.inst ≡ Some sig → Contains sig.ins port →
      IsGuard l (option_and_then (during l) (interval_at v.gives.times port))
  argument_guard v sig port of signed in_ins = by (interval_at v.gives.times port) refl
    where
      at : (i : Interval) → interval_at v.gives.times port ≡ Some i → (o : Option Text) → go_of l i.event ≡ o → IsGuard l (option_map (λ go. any_of (bits_from l i.event i.from (i.to - i.from))) o)
      at i is None none = Always
      at i is (Some go) has =
          let ports : inputs_of_callee l v.inst ≡ sig.ins = ap (λ (o : Option Signature). option_map_or (λ (s : Signature). s.ins) o []) signed in
          let wants_of : SigPort → List ℕ = λ p. option_map_or (wants_in l i.event) (interval_at v.gives.times p) [] in
          let here : Contains (wants_in l i.event i) (i.to - 1) = contains_in_if (bytes_eq i.event i.event) ((i.to - 1) ∷ []) (i.to - 1) (same_name i.event i.event refl) (0, omega arith, refl) in
          let one : Contains (wants_of port) (i.to - 1) = subst (λ (o : Option Interval). Contains (option_map_or (wants_in l i.event) o []) (i.to - 1)) (sym is) here in
          let among : Contains (flat_map wants_of (inputs_of_callee l v.inst)) (i.to - 1) =
          subst (λ (ps : List SigPort). Contains (flat_map wants_of ps) (i.to - 1)) (sym ports) (contains_in_flat wants_of sig.ins port (i.to - 1) in_ins one) in
          let last : i.to - 1 ≤ last_bit l i.event = wanted i.event go v (i.to - 1) has of
          (Contains-append_left (flat_map wants_of (inputs_of_callee l v.inst)) (map (λ (u : Use). u.at.plus) (filter (λ (u : Use). bytes_eq u.at.event i.event) (uses_of l.scope v))) (i.to - 1) among) in
          by_count go has (i.to - i.from) refl last
        where
          by_count : (go : Text) → go_of l i.event ≡ Some go → (count : ℕ) → i.to - i.from ≡ count → i.to - 1 ≤ last_bit l i.event → IsGuard l (Some (any_of (bits_from l i.event i.from count)))
          by_count go has zero is last = Where [] (All-nil (IsBit l))
          by_count go has (suc count) is last = Where (bits_from l i.event i.from (suc count)) (bits_there i.event go i.from (suc count) has (omega (arith, last, is)))

      by : (o : Option Interval) → interval_at v.gives.times port ≡ o → IsGuard l (option_and_then (during l) o)
      by None none = Always
      by (Some i) is = at i is (go_of l i.event) refl

  -- the bit at which a use starts an event
  pub use_bit : (v : Invocation) (u : Use) → Contains l.scope.invocations v → Contains (uses_of l.scope v) u → HasInterface l.scope.comp u.at.event → IsBit l (bit_at l u.at.event u.at.plus)
  use_bit v u of used has =
      let event = u.at.event in
      let go = interface_there l.scope.comp.interfaces event has in
      let passing : List Use = filter (λ (w : Use). bytes_eq w.at.event event) (uses_of l.scope v) in
      let passes : Contains passing u = in_filter (λ (w : Use). bytes_eq w.at.event event) (uses_of l.scope v) u used (same_name event event refl) in
      let last : u.at.plus ≤ last_bit l event = wanted event go.0 v u.at.plus go.1 of
      (Contains-append_right (flat_map (λ (port : SigPort). option_map_or (wants_in l event) (interval_at v.gives.times port) []) (inputs_of_callee l v.inst)) (map (λ (w : Use). w.at.plus) passing) u.at.plus
      (contains_map (λ (w : Use). w.at.plus) passing u passes)) in
      bit_there event go.0 u.at.plus go.1 last
