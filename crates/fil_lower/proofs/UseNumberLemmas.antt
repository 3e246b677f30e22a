-- The uses of an instance, by their numbers, and the bits at which they start.
use Rattle.std.proofs.Common.{◌≡◌, ℕ, zero, suc, ◌+◌, ◌<◌, ◌==◌, ◌&&◌, Bool, true, false, cond, List, [], ◌∷◌, ◌++◌, length, map, filter, flat_map, take, slice_get, bytes_eq, Contains, Option, Some, None, option_map, refl, sym, ap, ap₂, subst, ◌∙◌, add-one, append_assoc, append-nil, arith}
use Rattle.std.specs.Option.{option_map_or}
use Rattle.std.proofs.lemmas.Bool.Decides.{Decides-eqb}
use Rattle.std.proofs.lemmas.List.{map-append}
use Rattle.std.proofs.lemmas.List.Elements.{filter-append}
use Rattle.std.proofs.lemmas.Option.{none-some, same_Some, slice_get-map}
use Rattle.std.proofs.lemmas.Slice.Eq.{bytes_eq-Decides}
use Rattle.hw_names.proofs.NameLemmas.{Contains-slice_get, same_number}
use Rattle.hw_names.specs.Name.{AreDistinct, Text, text_of}
use Rattle.hw_graph.specs.Groups.{has_key, with_key}
use Rattle.hw_graph.specs.declared.groups.Entry.{Entry}
use Rattle.cal_ast.specs.Tree.{PortName, port_of}
use Rattle.net_core.specs.declared.net.Src.TheVariants.{Lit}
use Rattle.fil_ast.specs.Holds.{uses_of}
use Rattle.fil_ast.specs.Naming.{NamesEvent}
use Rattle.fil_ast.specs.Scope.{Invocation}
use Rattle.fil_ast.specs.Signature.{SigEvent}
use Rattle.fil_ast.specs.Timeline as timeline
use Rattle.fil_share.proofs.MakesLemmas.{take_next}
use Rattle.fil_share.specs.Uses.{Held, held, held_by, shown_use}
use Rattle.fil_share.specs.declared.uses.Use.{Use}
use Rattle.fil_lower.specs.inside.Lowering.{Lowering, any_of, bit_at, bits_of, start_set, start_sets_from, starting_bits, starts_of}
use Rattle.fil_lower.specs.inside.Place.{Starts, is_of}
use Rattle.fil_lower.proofs.KnownLemmas.{among_map}
use Rattle.fil_lower.proofs.ListLemmas.{from_flat}
use Rattle.fil_lower.proofs.NameLemmas.{from_map, other_name, same_name}

-- ---- uses by the numbers of their instances

-- a use is of the instance exactly where it has the instance's number
same_test : (texts : List Text) (key n : ℕ) (text inst : Text) → AreDistinct texts → slice_get texts key ≡ Some text → slice_get texts n ≡ Some inst → (b : Bool) → (key == n) ≡ b → bytes_eq text inst ≡ b
same_test texts key n text inst distinct at_key at_n true is =
    let same : key ≡ n = (Decides-eqb key n).0 is in
    same_name text inst (same_Some text inst (sym at_key ∙ ap (slice_get texts) same ∙ at_n))
same_test texts key n text inst distinct at_key at_n false is =
    other_name text inst (λ same.
    let number : key ≡ n = same_number texts key n inst distinct (at_key ∙ ap Some same) at_n in
    let yes : (key == n) ≡ true = (Decides-eqb key n).1 number in
    absurd (cc))

module _ (names : List Text) (uses : List Use) (j : ℕ) (u : Use) (at : slice_get uses j ≡ Some u) where
  abbrev of_inst : Text → ℕ → List (Option Use)
  of_inst inst i = map (λ (u : Use). Some u) (filter (is_of names inst) (take i uses))

  next_of : (inst : Text) (b : Bool) → bytes_eq (text_of names u.inst) inst ≡ b → of_inst inst (j + 1) ≡ of_inst inst j ++ cond b (Some u ∷ []) []
  next_of inst b is =
      ap (λ us. map (λ (u : Use). Some u) (filter (is_of names inst) us)) (take_next uses j u at)
      ∙ ap (map (λ (u : Use). Some u)) (filter-append (is_of names inst) (take j uses) (u ∷ []))
      ∙ map-append (λ (u : Use). Some u) (filter (is_of names inst) (take j uses)) (filter (is_of names inst) (u ∷ []))
      ∙ ap (λ us. of_inst inst j ++ us) (one b is)
    where
      one : (b : Bool) → bytes_eq (text_of names u.inst) inst ≡ b → map (λ (u : Use). Some u) (filter (is_of names inst) (u ∷ [])) ≡ cond b (Some u ∷ []) []
      one true is = ap (λ (c : Bool). map (λ (u : Use). Some u) (cond c (u ∷ []) [])) is
      one false is = ap (λ (c : Bool). map (λ (u : Use). Some u) (cond c (u ∷ []) [])) is

  -- a use that has its instance's number as its key
  pub keyed_more : (texts : List Text) (entries : List Entry) (key n : ℕ) (inst : Text) → AreDistinct texts → slice_get texts key ≡ Some (text_of names u.inst) → slice_get texts n ≡ Some inst
      → map (slice_get uses) (with_key n entries) ≡ of_inst inst j → map (slice_get uses) (with_key n (entries ++ record { key = key; value = j } ∷ [])) ≡ of_inst inst (j + 1)
  keyed_more texts entries key n inst distinct at_key at_n before =
      let e : Entry = record { key = key; value = j } in
      let b = (key == n) in
      let value_of : Entry → ℕ = λ e. e.value in
      ap (λ es. map (slice_get uses) (map value_of es)) (filter-append (has_key n) entries (e ∷ []))
      ∙ ap (map (slice_get uses)) (map-append value_of (filter (has_key n) entries) (filter (has_key n) (e ∷ [])))
      ∙ map-append (slice_get uses) (with_key n entries) (map value_of (filter (has_key n) (e ∷ [])))
      ∙ ap₂ ◌++◌ before (one b refl)
      ∙ sym (next_of inst b (same_test texts key n (text_of names u.inst) inst distinct at_key at_n b refl))
    where
      one : (b : Bool) → (key == n) ≡ b → map (slice_get uses) (map (λ (e : Entry). e.value) (filter (has_key n) (record { key = key; value = j } ∷ []))) ≡ cond b (Some u ∷ []) []
      one true is = ap (λ (c : Bool). map (slice_get uses) (map (λ (e : Entry). e.value) (cond c (record { key = key; value = j } ∷ []) []))) is ∙ ap (λ o. o ∷ []) at
      one false is = ap (λ (c : Bool). map (slice_get uses) (map (λ (e : Entry). e.value) (cond c (record { key = key; value = j } ∷ []) []))) is

  -- a use of no instance
  pub keyed_same : (texts : List Text) (entries : List Entry) (n : ℕ) (inst : Text) → ¬ Contains texts (text_of names u.inst) → slice_get texts n ≡ Some inst
      → map (slice_get uses) (with_key n entries) ≡ of_inst inst j → map (slice_get uses) (with_key n entries) ≡ of_inst inst (j + 1)
  keyed_same texts entries n inst absent at_n before =
      let other = other_name (text_of names u.inst) inst (λ same. absent (subst (Contains texts) (sym same) (Contains-slice_get texts n inst at_n))) in
      before ∙ sym (next_of inst false other ∙ append-nil (of_inst inst j))

-- ---- the bits at which uses start

module _ (l : Lowering) (names : List Text) (inst : Text) (k : ℕ) where
  abbrev bit_of_use : Use → PortName
  bit_of_use u = bit_at l (text_of names u.on) u.from

  abbrev is_event : Use → Bool
  is_event u = u.event == k

  -- the bits of the uses of an instance that trigger the event
  abbrev pub bits_at : List Use → List PortName
  bits_at us = map bit_of_use (filter is_event us)

  abbrev bit_of_held : Held → PortName
  bit_of_held h = bit_at l h.on h.from

  abbrev of_instance : Held → Bool
  of_instance h = bytes_eq h.inst inst

  abbrev of_event : Held → Bool
  of_event h = h.event == k

  abbrev held_bits : List Held → List PortName
  held_bits hs = map bit_of_held (filter of_event (filter of_instance hs))

  held_bits-append : (xs ys : List Held) → held_bits (xs ++ ys) ≡ held_bits xs ++ held_bits ys
  held_bits-append xs ys =
      ap (λ hs. map bit_of_held (filter of_event hs)) (filter-append of_instance xs ys) ∙ ap (map bit_of_held) (filter-append of_event (filter of_instance xs) (filter of_instance ys))
      ∙ map-append bit_of_held (filter of_event (filter of_instance xs)) (filter of_event (filter of_instance ys))

  shown_bits : (us : List Use) → bits_at (filter (is_of names inst) us) ≡ held_bits (map (shown_use names) us)
  shown_bits [] = refl
  shown_bits (u ∷ us) = by (is_of names inst u) (shown_bits us)
    where
      event_too : (b : Bool) → bits_at (filter (is_of names inst) us) ≡ held_bits (map (shown_use names) us)
          → map bit_of_use (cond b (u ∷ filter is_event (filter (is_of names inst) us)) (filter is_event (filter (is_of names inst) us)))
          ≡ map bit_of_held (cond b (shown_use names u ∷ filter of_event (filter of_instance (map (shown_use names) us))) (filter of_event (filter of_instance (map (shown_use names) us))))
      event_too true rest = ap (λ bits. bit_of_use u ∷ bits) rest
      event_too false rest = rest

      by : (a : Bool) → bits_at (filter (is_of names inst) us) ≡ held_bits (map (shown_use names) us)
          → map bit_of_use (filter is_event (cond a (u ∷ filter (is_of names inst) us) (filter (is_of names inst) us)))
          ≡ map bit_of_held (filter of_event (cond a (shown_use names u ∷ filter of_instance (map (shown_use names) us)) (filter of_instance (map (shown_use names) us))))
      by true rest = event_too (u.event == k) rest
      by false rest = rest

  abbrev is_both : timeline.Use → Bool
  is_both u = bytes_eq u.inst inst && u.event == k

  held_starts : (name : Text) (us : List timeline.Use) → map (λ (u : timeline.Use). bit_at l u.at.event u.at.plus) (filter is_both us) ≡ held_bits (map (held name) us)
  held_starts name [] = refl
  held_starts name (u ∷ us) = by (bytes_eq u.inst inst) (held_starts name us)
    where
      event_too : (b : Bool) → map (λ (u : timeline.Use). bit_at l u.at.event u.at.plus) (filter is_both us) ≡ held_bits (map (held name) us)
          → map (λ (u : timeline.Use). bit_at l u.at.event u.at.plus) (cond b (u ∷ filter is_both us) (filter is_both us))
          ≡ map bit_of_held (cond b (held name u ∷ filter of_event (filter of_instance (map (held name) us))) (filter of_event (filter of_instance (map (held name) us))))
      event_too true rest = ap (λ bits. bit_at l u.at.event u.at.plus ∷ bits) rest
      event_too false rest = rest

      by : (a : Bool) → map (λ (u : timeline.Use). bit_at l u.at.event u.at.plus) (filter is_both us) ≡ held_bits (map (held name) us)
          → map (λ (u : timeline.Use). bit_at l u.at.event u.at.plus) (cond (a && u.event == k) (u ∷ filter is_both us) (filter is_both us))
          ≡ map bit_of_held (filter of_event (cond a (held name u ∷ filter of_instance (map (held name) us)) (filter of_instance (map (held name) us))))
      by true rest = event_too (u.event == k) rest
      by false rest = rest

  starts_held : (vs : List Invocation) → flat_map (starts_of l inst k) vs ≡ held_bits (flat_map (held_by l.scope) vs)
  starts_held [] = refl
  starts_held (v ∷ vs) = ap₂ ◌++◌ (held_starts v.name (uses_of l.scope v)) (starts_held vs) ∙ sym (held_bits-append (held_by l.scope v) (flat_map (held_by l.scope) vs))

  pub starting : (uses : List Use) → map (shown_use names) uses ≡ flat_map (held_by l.scope) l.scope.invocations → bits_at (filter (is_of names inst) uses) ≡ starting_bits l inst k
  starting uses are = shown_bits uses ∙ ap held_bits are ∙ sym (starts_held l.scope.invocations)

-- a use of the instance's event starts at a bit that is there
pub use_starts : (l : Lowering) (names : List Text) (uses : List Use) (inst : Text) (k : ℕ) (u : Use) → map (shown_use names) uses ≡ flat_map (held_by l.scope) l.scope.invocations
    → Starts l inst k → Contains uses u → text_of names u.inst ≡ inst → u.event ≡ k → NamesEvent l.scope.comp (text_of names u.on) × (u.from < length (bits_of l (text_of names u.on)))
use_starts l names uses inst k u are starts among same_inst same_event =
    let C : List Held → Type 0 = λ hs. Contains hs (shown_use names u) in
    let (v, has_v, has_h) = from_flat (held_by l.scope) l.scope.invocations (shown_use names u) (subst C are (among_map (shown_use names) uses u among)) in
    let (w, has_w, is_w) = from_map (held v.name) (uses_of l.scope v) (shown_use names u) has_h in
    let found = starts v w has_v has_w (ap (λ (h : Held). h.inst) is_w ∙ same_inst) (ap (λ (h : Held). h.event) is_w ∙ same_event) in
    let on : w.at.event ≡ text_of names u.on = ap (λ (h : Held). h.on) is_w in
    let from : w.at.plus ≡ u.from = ap (λ (h : Held). h.from) is_w in
    (subst (NamesEvent l.scope.comp) on found.0, omega (arith, found.1, from, ap (λ t. length (bits_of l t)) on))

-- ---- starts of events, one after another

pub start_alone : (inst go : Text) (bits : List PortName) → 0 < length bits → start_set inst go bits ≡ record { dst = port_of inst go; guard = Some (any_of bits); src = Lit 1 1 } ∷ []
start_alone inst go [] some = absurd (omega (arith, some))
start_alone inst go (bit ∷ bits) some = refl

pub start_next : (l : Lowering) (inst : Text) (es : List SigEvent) (i : ℕ) (e : SigEvent) → slice_get es i ≡ Some e
    → start_sets_from l inst 0 (take (i + 1) es) ≡ start_sets_from l inst 0 (take i es) ++ option_map_or (λ go. start_set inst go (starting_bits l inst i)) e.go []
start_next l inst es i e at =
    ap (λ n. start_sets_from l inst 0 (take n es)) (add-one i) ∙ next 0 es i at
    ∙ ap (λ n. start_sets_from l inst 0 (take i es) ++ option_map_or (λ go. start_set inst go (starting_bits l inst n)) e.go []) (let shift : 0 + i ≡ i = omega arith in shift)
  where
    next : (k : ℕ) (es : List SigEvent) (i : ℕ) → slice_get es i ≡ Some e
        → start_sets_from l inst k (take (suc i) es) ≡ start_sets_from l inst k (take i es) ++ option_map_or (λ go. start_set inst go (starting_bits l inst (k + i))) e.go []
    next k [] i at = absurd (none-some e at)
    next k (d ∷ es) zero at =
        let shift : k ≡ k + 0 = omega arith in
        append-nil _ ∙ ap₂ (λ (x : SigEvent) n. option_map_or (λ go. start_set inst go (starting_bits l inst n)) x.go []) (same_Some d e at) shift
    next k (d ∷ es) (suc i) at =
        let shift : suc k + i ≡ k + suc i = omega arith in
        let first = option_map_or (λ go. start_set inst go (starting_bits l inst k)) d.go [] in
        ap (λ sets. first ++ sets) (next (suc k) es i at ∙ ap (λ n. start_sets_from l inst (suc k) (take i es) ++ option_map_or (λ go. start_set inst go (starting_bits l inst n)) e.go []) shift)
        ∙ sym (append_assoc first (start_sets_from l inst (suc k) (take i es)) (option_map_or (λ go. start_set inst go (starting_bits l inst (k + suc i))) e.go []))

-- ---- uses by their numbers

-- a number of the list is that of a use
pub use_at : (uses us : List Use) (numbers : List ℕ) (i number : ℕ) → map (slice_get uses) numbers ≡ map (λ (u : Use). Some u) us → slice_get numbers i ≡ Some number
    → (u : Use) × (slice_get uses number ≡ Some u) × (slice_get us i ≡ Some u)
use_at uses us numbers i number are at = by (slice_get us i) refl both
  where
    both : Some (slice_get uses number) ≡ option_map (λ (u : Use). Some u) (slice_get us i)
    both = sym (ap (option_map (slice_get uses)) at) ∙ sym (slice_get-map (slice_get uses) numbers i) ∙ ap (λ os. slice_get os i) are ∙ slice_get-map (λ (u : Use). Some u) us i

    by : (o : Option Use) → slice_get us i ≡ o → Some (slice_get uses number) ≡ option_map (λ (u : Use). Some u) o → (u : Use) × (slice_get uses number ≡ Some u) × (slice_get us i ≡ Some u)
    by None there is = absurd (none-some (slice_get uses number) (sym is))
    by (Some u) there is = (u, same_Some (slice_get uses number) (Some u) is, there)

-- a use of an instance's list is of the instance
passes : (test : Use → Bool) (us : List Use) (i : ℕ) (u : Use) → slice_get (filter test us) i ≡ Some u → test u ≡ true
passes test [] i u at = absurd (none-some u at)
passes test (w ∷ us) i u at = by (test w) refl at (passes test us)
  where
    here : (i : ℕ) → test w ≡ true → slice_get (w ∷ filter test us) i ≡ Some u → ((i : ℕ) (u : Use) → slice_get (filter test us) i ≡ Some u → test u ≡ true) → test u ≡ true
    here zero is at' rest = ap test (sym (same_Some w u at')) ∙ is
    here (suc i) is at' rest = rest i u at'

    by : (b : Bool) → test w ≡ b → slice_get (cond b (w ∷ filter test us) (filter test us)) i ≡ Some u → ((i : ℕ) (u : Use) → slice_get (filter test us) i ≡ Some u → test u ≡ true) → test u ≡ true
    by true is at' rest = here i is at' rest
    by false is at' rest = rest i u at'

pub is_of_instance : (names : List Text) (uses : List Use) (inst : Text) (i : ℕ) (u : Use) → slice_get (filter (is_of names inst) uses) i ≡ Some u → text_of names u.inst ≡ inst
is_of_instance names uses inst i u at = (bytes_eq-Decides (text_of names u.inst) inst).0 (passes (is_of names inst) uses i u at)

-- the bits so far, with those of the next use
pub bits_next : (l : Lowering) (names : List Text) (inst : Text) (k : ℕ) (us : List Use) (i : ℕ) (u : Use) (b : Bool) → slice_get us i ≡ Some u → (u.event == k) ≡ b
    → bits_at l names inst k (take (i + 1) us) ≡ bits_at l names inst k (take i us) ++ cond b (bit_at l (text_of names u.on) u.from ∷ []) []
bits_next l names inst k us i u b at is =
    ap (bits_at l names inst k) (take_next us i u at) ∙ ap (map (λ (u : Use). bit_at l (text_of names u.on) u.from)) (filter-append (λ (u : Use). u.event == k) (take i us) (u ∷ [])) ∙ map-append (λ (u : Use). bit_at l (text_of names u.on) u.from) (filter (λ (u : Use). u.event == k) (take i us)) (filter (λ (u : Use). u.event == k) (u ∷ [])) ∙ ap (λ bits. bits_at l names inst k (take i us) ++ bits) (one b is)
  where
    one : (b : Bool) → (u.event == k) ≡ b → map (λ (u : Use). bit_at l (text_of names u.on) u.from) (filter (λ (u : Use). u.event == k) (u ∷ [])) ≡ cond b (bit_at l (text_of names u.on) u.from ∷ []) []
    one true is = ap (λ (c : Bool). map (λ (u : Use). bit_at l (text_of names u.on) u.from) (cond c (u ∷ []) [])) is
    one false is = ap (λ (c : Bool). map (λ (u : Use). bit_at l (text_of names u.on) u.from) (cond c (u ∷ []) [])) is
