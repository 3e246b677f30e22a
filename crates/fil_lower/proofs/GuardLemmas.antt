-- The bits of a lowered component in its rows: there are enough, each shows a start so many rows before, and so do guards of them.
use Rattle.std.proofs.Common.{◌≡◌, ◌⊎◌, ℕ, ◌+◌, ◌-◌, ◌<◌, ◌≤◌, Bool, true, false, cond, List, [], ◌∷◌, length, map, flat_map, filter, take, get_or, slice_get, Option, Some, None, option_map, refl, sym, ap, subst, ◌∙◌, inl, inr, arith}
use Rattle.std.specs.List.{fold}
use Rattle.std.specs.Option.{option_and_then, option_map_or}
use Rattle.std.specs.Prelude.{◌==◌, ◌&&◌, Contains, bytes_eq, if◌then◌else◌, max}
use Rattle.std.proofs.lemmas.Bool.{cases_lt, false≢true, le-leb, lt-leb}
use Rattle.std.proofs.lemmas.List.{length-map}
use Rattle.std.proofs.lemmas.List.Elements.{Contains-append_left, Contains-append_right}
use Rattle.std.proofs.lemmas.Option.{slice_get-get_or}
use Rattle.hw_names.specs.Name.{Text, full_name}
use Rattle.net_core.specs.Guard.{guard_holds}
use Rattle.cal_ast.specs.CalRun.{look}
use Rattle.cal_ast.specs.Instances.{port_name}
use Rattle.cal_ast.specs.Tree.{PortName, own}
use Rattle.fil_ast.specs.Holds.{uses_of}
use Rattle.fil_ast.specs.Scope.{Invocation}
use Rattle.fil_ast.specs.Signature.{SigPort}
use Rattle.fil_ast.specs.Timeline.{Interval, Use, interval_at}
use Rattle.fil_ast.specs.Tree.{Event}
use Rattle.fil_fsm.specs.Chain.{bit_of, chain_bits}
use Rattle.fil_fsm.specs.Delays.{IsDelayed}
use Rattle.fil_fsm.proofs.DelayLemmas.{chains_delay}
use Rattle.fil_lower.specs.inside.Lowering.{Lowering, any_of, bit_at, bits_from, bits_of, during, go_of, inputs_of_callee, last_bit, lowered_component, lowering_with, registers_of, wanted_by, wants_in}
use Rattle.fil_lower.proofs.BitLemmas.{any_of_holds, bits_were_on, was_on, was_on_in}
use Rattle.fil_lower.proofs.ChainLemmas.{has_chain, plain_registers, registers_at}
use Rattle.fil_lower.proofs.ListLemmas.{contains_in_flat, contains_none, first_or_later}
use Rattle.fil_lower.proofs.LoweredParts.{LoweredComp, StandingComp}
use Rattle.fil_lower.proofs.NameLemmas.{same_name}
use Rattle.fil_lower.proofs.TimedAsLemmas.{contains_map}
use Rattle.fil_share.proofs.ListLemmas.{Contains-here, Contains-there}

-- ---- the greatest of some numbers

fold_from : (a : ℕ) (xs : List ℕ) → a ≤ fold max a xs
fold_from a [] = omega arith
fold_from a (x ∷ xs) = let later = fold_from (max a x) xs in omega (arith, later)

fold_greatest : (a : ℕ) (xs : List ℕ) (x : ℕ) → Contains xs x → x ≤ fold max a xs
fold_greatest a [] x has = absurd (contains_none x has)
fold_greatest a (y ∷ xs) x has =
    elim (first_or_later y xs x has) [
      | inl same ↦ let later = fold_from (max a y) xs in omega (arith, later, same)
      | inr later ↦ fold_greatest (max a y) xs x later
    ]

pub filtered_has : {X : Type 0} (test : X → Bool) (xs : List X) (x : X) → Contains xs x → test x ≡ true → Contains (filter test xs) x
filtered_has test [] x has passes = absurd (contains_none x has)
filtered_has test (y ∷ xs) x has passes = by (test y) refl (first_or_later y xs x has) (filtered_has test xs x)
  where
    by : (b : Bool) → test y ≡ b → (y ≡ x) ⊎ Contains xs x → (Contains xs x → test x ≡ true → Contains (filter test xs) x) → Contains (cond b (y ∷ filter test xs) (filter test xs)) x
    by true is (inl same) rest = (0, omega arith, same)
    by true is (inr later) rest = Contains-there y (filter test xs) x (rest later passes)
    by false is (inl same) rest = absurd (false≢true (sym is ∙ ap test same ∙ passes))
    by false is (inr later) rest = rest later passes

-- ---- what is wanted of an event's bits

module _ (l : Lowering) (event go : Text) (is_go : go_of l event ≡ Some go) (v : Invocation) (has : Contains l.scope.invocations v) where
  wanted_most : (x : ℕ) → Contains (wanted_by l event v) x → x ≤ last_bit l event
  wanted_most x wanted =
      subst (λ (o : Option Text). x ≤ option_map_or (λ go. fold max 0 (flat_map (wanted_by l event) l.scope.invocations)) o 0) (sym is_go)
      (fold_greatest 0 (flat_map (wanted_by l event) l.scope.invocations) x (contains_in_flat (wanted_by l event) l.scope.invocations v x has wanted))

  pub argument_wants : (q : SigPort) → Contains (inputs_of_callee l v.inst) q → (i : Interval) → interval_at v.gives.times q ≡ Some i → i.event ≡ event → i.to - 1 ≤ last_bit l event
  argument_wants q has_q i is_i same =
      let wants : SigPort → List ℕ = λ port. option_map_or (wants_in l event) (interval_at v.gives.times port) [] in
      let here : Contains (wants q) (i.to - 1) =
      subst (λ (o : Option Interval). Contains (option_map_or (wants_in l event) o []) (i.to - 1)) (sym is_i)
      (subst (λ (b : Bool). Contains (if b then (i.to - 1) ∷ [] else []) (i.to - 1)) (sym (same_name i.event event same)) (Contains-here (i.to - 1) [])) in
      wanted_most (i.to - 1)
      (Contains-append_left (flat_map wants (inputs_of_callee l v.inst)) (map (λ (u : Use). u.at.plus) (filter (λ (u : Use). bytes_eq u.at.event event) (uses_of l.scope v))) (i.to - 1)
      (contains_in_flat wants (inputs_of_callee l v.inst) q (i.to - 1) has_q here))

  pub use_wants : (u : Use) → Contains (uses_of l.scope v) u → u.at.event ≡ event → u.at.plus ≤ last_bit l event
  use_wants u has_u same =
      let wants : SigPort → List ℕ = λ port. option_map_or (wants_in l event) (interval_at v.gives.times port) [] in
      let test : Use → Bool = λ u. bytes_eq u.at.event event in
      wanted_most u.at.plus
      (Contains-append_right (flat_map wants (inputs_of_callee l v.inst)) (map (λ (u : Use). u.at.plus) (filter test (uses_of l.scope v))) u.at.plus
      (contains_map (λ (u : Use). u.at.plus) (filter test (uses_of l.scope v)) u (filtered_has test (uses_of l.scope v) u has_u (same_name u.at.event event same))))

-- ---- in the rows of an instance of the component

module _ (comp : LoweredComp) (standing : StandingComp comp) where
  open comp use {pair, pair.{comps, rules, plain, design, lowered}, n, c, here, registers, enough, new}
  open standing use {below_top, below_top.{top, asked, inputs, loads, height, trace, run}, path, at, plain_sets}

  abbrev l : Lowering
  l = lowering_with (take n comps) c registers

  -- the value of an interface port, row by row
  abbrev pub go_in : Text → ℕ → ℕ
  go_in go u = trace u (full_name path go)

  delayed_on : (source port : Text) (i r : ℕ) → r < height → IsDelayed trace height source i port → (trace r port == 1) ≡ was_on (λ u. trace u source) r i
  delayed_on source port i r below delayed =
      elim (cases_lt r i) [
        | inl early ↦
            ap (λ (v : ℕ). v == 1) (delayed.opens r below early) ∙ sym (ap (λ (b : Bool). b && (trace (r - i) source == 1)) (lt-leb i r early))
        | inr late ↦
            let row : r - i + i ≡ r = omega (arith, late) in
            ap (λ (u : ℕ). trace u port == 1) (sym row)
            ∙ ap (λ (v : ℕ). v == 1) (delayed.follows (r - i) (omega (arith, row, below)))
            ∙ sym (ap (λ (b : Bool). b && (trace (r - i) source == 1)) (le-leb i r late))
      ]

  -- a bit of an event is 1 exactly so many rows after its interface port
  pub bit_was_on : (k : ℕ) (e : Event) → slice_get c.events k ≡ Some e → (go : Text) → go_of l e.name ≡ Some go → (i : ℕ) → i ≤ last_bit l e.name → (r : ℕ) → r < height →
      (look path (trace r) (bit_at l e.name i) == 1) ≡ was_on (go_in go) r i
  bit_was_on k e at_k go is_go i within r below =
      let names = registers_of l e.name in
      let bits : bits_of l e.name ≡ chain_bits (own go) names = ap (λ (o : Option Text). option_map_or (λ go. chain_bits (own go) names) o []) is_go in
      let bit : bit_at l e.name i ≡ get_or (chain_bits (own go) names) i (own []) = ap (λ (ps : List PortName). get_or ps i (own [])) bits in
      let long : length names ≡ last_bit l e.name = (registers_at comp k e at_k).1 in
      let count = length-map names bit_of in
      let there = slice_get-get_or (chain_bits (own go) names) i (own []) (omega (arith, long, within, count)) in
      let delayed = chains_delay design top asked inputs loads height trace run path (lowered_component l) at (own go) names
      (has_chain comp k e at_k go is_go) (plain_registers comp e.name) plain_sets i (get_or (chain_bits (own go) names) i (own [])) there in
      ap (λ (p : PortName). trace r (port_name path p) == 1) bit
      ∙ delayed_on (port_name path (own go)) (port_name path (get_or (chain_bits (own go) names) i (own []))) i r below delayed

  -- whether an interval after a start of an event covers the row; one of an event without an interface port covers all
  abbrev pub is_open : Option Text → ℕ → ℕ → ℕ → Bool
  is_open go r from to = option_map_or (λ go. was_on_in (go_in go) r from (to - from)) go true

  -- the guard of an argument is true exactly in its interval
  pub guard_is_open : (k : ℕ) (e : Event) → slice_get c.events k ≡ Some e → (v : Invocation) → Contains l.scope.invocations v → (q : SigPort) → Contains (inputs_of_callee l v.inst) q →
      (i : Interval) → interval_at v.gives.times q ≡ Some i → i.event ≡ e.name → (r : ℕ) → r < height →
      guard_holds (look path (trace r)) (option_and_then (during l) (interval_at v.gives.times q)) ≡ is_open (go_of l e.name) r i.from i.to
  guard_is_open k e at_k v has_v q has_q i is_i on r below =
      ap (λ (o : Option Interval). guard_holds (look path (trace r)) (option_and_then (during l) o)) is_i
      ∙ ap (λ (event : Text). guard_holds (look path (trace r)) (option_map (λ go. any_of (bits_from l event i.from (i.to - i.from))) (go_of l event))) on
      ∙ by (go_of l e.name) refl
    where
      by : (o : Option Text) → go_of l e.name ≡ o → guard_holds (look path (trace r)) (option_map (λ go. any_of (bits_from l e.name i.from (i.to - i.from))) o) ≡ is_open o r i.from i.to
      by None none = refl
      by (Some go) is_go =
          any_of_holds (look path (trace r)) (bits_from l e.name i.from (i.to - i.from))
          ∙ bits_were_on (look path (trace r)) (go_in go) r l e.name i.from (i.to - i.from) (λ j low high.
          let most = argument_wants l e.name go is_go v has_v q has_q i is_i on in
          bit_was_on k e at_k go is_go j (omega (arith, low, high, most)) r below)
