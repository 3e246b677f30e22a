-- What a legal list gives the instance at a path: it is legal there, and a port is valid for one transaction at a time.
use Rattle.std.proofs.Common.{◌≡◌, ℕ, zero, suc, ◌+◌, ◌-◌, ◌≤◌, false, List, map, take, slice_get, Contains, Some, option_map, sym, ap, subst, ◌∙◌, inl, inr, arith}
use Rattle.std.proofs.lemmas.List.Elements.{All-contains}
use Rattle.std.proofs.lemmas.Option.{none-some, same_Some, slice_get-map}
use Rattle.hw_names.specs.Name.{Path, Text}
use Rattle.hw_prims.specs.Filament as filament
use Rattle.hw_prims.specs.Filament.{behaviour_of, data_outputs, delay_of, given, go_of}
use Rattle.hw_prims.specs.Timed.{AreLegalTransactions, Behaviour, Covers, Delay, Fixed, HasDelay, NeverOverlap, TimedEvent, TimedPort, TimedSignature, Transaction, end_of}
use Rattle.hw_prims.specs.declared.prim.Primitive.{Primitive}
use Rattle.hw_prims.specs.declared.prim.Primitive.TheVariants.{StdReg}
use Rattle.fil_ast.specs.Behaviours.{IsGiven, Itself, OfPrimitive, Below, component_behaviour, inner_transactions, timed_event, timed_port, timed_signature}
use Rattle.fil_ast.specs.Naming.{event_names}
use Rattle.fil_ast.specs.Primitives.{Timing, timing_of}
use Rattle.fil_ast.specs.Rules.{FilRules}
use Rattle.fil_ast.specs.Signature.{component_signature, event_number, sig_event, sig_port}
use Rattle.fil_ast.specs.Timeline as timeline
use Rattle.fil_ast.specs.Tree.{Component, DataPort, Design}
use Rattle.fil_share.proofs.ListLemmas.{Contains-at}
use Rattle.fil_lower.specs.inside.PlanOf.{callee_of, plan_of}
use Rattle.fil_lower.specs.inside.PlanRules.{given_transactions}
use Rattle.fil_lower.proofs.AlikeLemmas.{alike_legal}
use Rattle.fil_lower.proofs.CallLemmas.{sound_at}
use Rattle.fil_lower.proofs.DesignLemmas.{component_promises, primitive_promises}
use Rattle.fil_lower.proofs.GivenLemmas.{given_legal}
use Rattle.fil_lower.proofs.NameLemmas.{from_map}
use Rattle.fil_lower.proofs.PlanLemmas.{plans_give}
use Rattle.fil_lower.proofs.TimedAsLemmas.{IsSound, component_timed, number_of, primitive_timed}
use Rattle.fil_lower.proofs.TimingLemmas.{IsTiming, Plain, Register, filament_timing}
use Rattle.fil_lower.proofs.WellLemmas.{plans_well_timed}
use Rattle.fil_laws.proofs.PlaceLemmas.{one_place, place_of}
use Rattle.fil_laws.specs.Paths.{GivenListsAreLegal, HoldTwice, IsDataPort, IsLegalList, NothingIsHeldTwice, PromisesAgree, RowsAreOfOneTransaction}

-- ---- legal lists

module _ (comps : Design) (rules : FilRules comps) (n : ℕ) (c : Component) (here : slice_get comps n ≡ Some c) where
  inner_legal : (txs : List Transaction) → AreLegalTransactions (component_behaviour (take n comps) c).sig txs → (inst : Text) →
      AreLegalTransactions (callee_of (take n comps) c inst).sig (inner_transactions (take n comps) c txs inst)
  inner_legal txs legal inst =
      let plan = plan_of (take n comps) c in
      alike_legal (callee_of (take n comps) c inst) (given_transactions plan txs inst) (inner_transactions (take n comps) c txs inst) (plans_give comps rules n c here txs inst)
      (given_legal plan (plans_well_timed comps rules n c here) txs legal inst)

path_legal : (comps : Design) → FilRules comps → (b : Behaviour) (given : List Transaction) (n : ℕ) (txs : List Transaction) (path : Path) → IsGiven comps b given n txs path →
    (c : Component) → slice_get comps n ≡ Some c → AreLegalTransactions (component_behaviour (take n comps) c).sig txs → AreLegalTransactions b.sig given
path_legal comps rules b given n txs path (Itself k c' here' is) c here legal =
    let same : c' ≡ c = same_Some c' c (sym here' ∙ here) in
    subst (λ (x : Behaviour). AreLegalTransactions x.sig given) (sym (is ∙ ap (component_behaviour (take k comps)) same)) legal
path_legal comps rules b given n txs path (OfPrimitive k us c' inst i prim here' found is b_is given_is) c here legal =
    let same : c' ≡ c = same_Some c' c (sym here' ∙ here) in
    let inner = inner_legal comps rules k c' here' us (subst (λ (x : Component). AreLegalTransactions (component_behaviour (take k comps) x).sig us) (sym same) legal) inst in
    subst (λ (x : Behaviour). AreLegalTransactions x.sig given) (primitive_promises comps rules k c' here' inst i prim found is ∙ sym b_is)
    (subst (λ (xs : List Transaction). AreLegalTransactions (callee_of (take k comps) c' inst).sig xs) (sym given_is) inner)
path_legal comps rules b given n txs path (Below k m us c' d inst i deeper here' found none below at_m named rest) c here legal =
    let same : c' ≡ c = same_Some c' c (sym here' ∙ here) in
    let inner = inner_legal comps rules k c' here' us (subst (λ (x : Component). AreLegalTransactions (component_behaviour (take k comps) x).sig us) (sym same) legal) inst in
    path_legal comps rules b given m (inner_transactions (take k comps) c' us inst) deeper rest d at_m
    (subst (λ (x : Behaviour). AreLegalTransactions x.sig (inner_transactions (take k comps) c' us inst)) (component_promises comps rules k c' here' inst i m d found none below at_m named) inner)

pub given_lists_are_legal : GivenListsAreLegal
given_lists_are_legal comps n txs list path b given is = path_legal comps list.rules b given n txs path is list.c list.at list.legal

apart_in_rows : (txs : List Transaction) (i j : ℕ) (two : HoldTwice txs i j) → ¬ NeverOverlap two.one two.other
apart_in_rows txs i j two apart =
    let a = two.held_one in
    let b = two.held_other in
    elim (apart two.same_event) [
      | inl first ↦ (let x = a.1 in let y = b.0 in omega arith)
      | inr second ↦ (let x = a.0 in let y = b.1 in omega arith)
    ]

turned : (txs : List Transaction) (i j : ℕ) → HoldTwice txs i j → HoldTwice txs j i
turned txs i j two =
    record { one = two.other; at_one = two.at_other; other = two.one; at_other = two.at_one; same_event = sym two.same_event; row = two.row; held_one = two.held_other; held_other = two.held_one }

pub nothing_is_held_twice : NothingIsHeldTwice
unfolding turned
nothing_is_held_twice comps n txs list path b given is i j two =
    let legal = given_lists_are_legal comps n txs list path b given is in
    one_place NeverOverlap given i j two.one two.other legal.apart two.at_one two.at_other (apart_in_rows given i j two) (apart_in_rows given j i (turned given i j two))

-- ---- ports

-- the port is valid for no longer than its event is held
abbrev IsBrief : TimedSignature → TimedPort → Type 0
IsBrief sig p = (event : TimedEvent) → slice_get sig.events p.event ≡ Some event → (hold : ℕ) → HasDelay event.delay hold → end_of p hold ≤ p.from + hold

one_event : (prim : Primitive) (k : ℕ) (event : TimedEvent) → slice_get (filament.timed_signature prim).events k ≡ Some event → delay_of prim ≡ event.delay
one_event prim zero event at = ap (λ (e : TimedEvent). e.delay) (same_Some (record { delay = delay_of prim; go = go_of prim }) event at)
one_event prim (suc k) event at = absurd (none-some event at)

-- an output of a primitive
given_brief : (t : Timing) (prim : Primitive) → IsTiming t prim → (p : TimedPort) → Contains (map (given prim) (data_outputs prim)) p → IsBrief (filament.timed_signature prim) p
unfolding given
given_brief t prim (Plain rows latency go prim' some timed fixed is_go port) p has event at hold held =
    let m = from_map (given prim') (data_outputs prim') p has in
    let brief : TimedPort = record { name = m.0.name; event = 0; from = latency; to = latency + 1; stays = false } in
    let same : brief ≡ p = sym (port m.0) ∙ m.2 in
    let delay : event.delay ≡ Fixed rows = sym (one_event prim' p.event event at) ∙ fixed in
    let long : hold ≡ rows = subst (λ (d : Delay). HasDelay d hold) delay held in
    subst (λ (x : TimedPort). end_of x hold ≤ x.from + hold) same (omega (arith, some, long))
given_brief t prim (Register w) p has event at hold held =
    let m = from_map (given (StdReg w)) (data_outputs (StdReg w)) p has in
    subst (λ (x : TimedPort). end_of x hold ≤ x.from + hold) m.2 (omega arith)

primitive_brief : (made : Timing) (prim : Primitive) → IsTiming made prim → (p : TimedPort) → IsDataPort (behaviour_of prim).sig p → IsBrief (behaviour_of prim).sig p
primitive_brief t prim timing p (inl input) = λ event at hold held. (primitive_timed t prim timing).short p input event at hold held
primitive_brief t prim timing p (inr output) = given_brief t prim timing p output

-- an output of a component
output_brief : (d : Component) → IsSound d → (p : TimedPort) → Contains (timed_signature (component_signature d)).outs p → IsBrief (timed_signature (component_signature d)) p
output_brief d sound p has event at hold held =
    let m = from_map timed_port (component_signature d).outs p has in
    let q = from_map (sig_port d.events) d.outs m.0 m.1 in
    let is : timed_port (sig_port d.events q.0) ≡ p = ap timed_port q.2 ∙ m.2 in
    let number = event_number d.events q.0.from.event in
    let named = (All-contains (λ (p : DataPort). Contains (event_names d) p.from.event × Contains (event_names d) p.to.event) d.outs q.0 sound.names.outs q.1).0 in
    let e = number_of d.events q.0.from.event named in
    let signed = slice_get-map (sig_event d.interfaces) d.events number ∙ ap (option_map (sig_event d.interfaces)) e.1 in
    let there : slice_get (timed_signature (component_signature d)).events p.event ≡ Some (timed_event (sig_event d.interfaces e.0)) =
    ap (slice_get (timed_signature (component_signature d)).events) (sym (ap (λ (x : TimedPort). x.event) is))
    ∙ slice_get-map timed_event (component_signature d).events number ∙ ap (option_map timed_event) signed in
    let same : timed_event (sig_event d.interfaces e.0) ≡ event = same_Some (timed_event (sig_event d.interfaces e.0)) event (sym there ∙ at) in
    let is_hold : hold ≡ e.0.delay = subst (λ (x : TimedEvent). HasDelay x.delay hold) (sym same) held in
    let within : q.0.to.plus - q.0.from.plus ≤ e.0.delay = All-contains (timeline.IsShort d) d.outs q.0 sound.short.outs q.1 e.0 (Contains-at d.events number e.0 e.1) e.2 in
    subst (λ (x : TimedPort). end_of x hold ≤ x.from + hold) is (omega (arith, within, is_hold))

component_brief : (d : Component) → IsSound d → (p : TimedPort) → IsDataPort (timed_signature (component_signature d)) p → IsBrief (timed_signature (component_signature d)) p
component_brief d sound p (inl input) = λ event at hold held. (component_timed d sound).short p input event at hold held
component_brief d sound p (inr output) = output_brief d sound p output

-- each port of what promises at a path is brief
path_brief : (comps : Design) → FilRules comps → (b : Behaviour) (given : List Transaction) (n : ℕ) (txs : List Transaction) (path : Path) → IsGiven comps b given n txs path →
    (p : TimedPort) → IsDataPort b.sig p → IsBrief b.sig p
path_brief comps rules b given n txs path (Itself k c here is) p port =
    subst (λ (x : Behaviour). IsDataPort x.sig p → IsBrief x.sig p) (sym is) (component_brief c (sound_at comps rules k c here) p) port
path_brief comps rules b given n txs path (OfPrimitive k us c inst i prim here found is b_is given_is) p port =
    subst (λ (x : Behaviour). IsDataPort x.sig p → IsBrief x.sig p) (sym b_is) (primitive_brief (timing_of i.made) prim (filament_timing i.made i.params prim is) p) port
path_brief comps rules b given n txs path (Below k m us c d inst i deeper here found none below at_m named rest) p port =
    path_brief comps rules b given m (inner_transactions (take k comps) c us inst) deeper rest p port

-- of a legal list, transactions for which a brief port is valid in one row overlap
never_both : (sig : TimedSignature) (txs : List Transaction) → AreLegalTransactions sig txs → (p : TimedPort) → IsBrief sig p → (one other : Transaction) → Contains txs one → Contains txs other →
    (row : ℕ) → Covers p one row → Covers p other row → ¬ NeverOverlap one other
never_both sig txs legal p brief one other has_one has_other row on_one on_other apart =
    let a = legal.held one has_one in
    let b = legal.held other has_other in
    let short_one = brief a.0 (ap (slice_get sig.events) on_one.0 ∙ a.1) one.hold a.2 in
    let short_other = brief b.0 (ap (slice_get sig.events) on_other.0 ∙ b.1) other.hold b.2 in
    let from_one = on_one.1 in
    let to_one = on_one.2 in
    let from_other = on_other.1 in
    let to_other = on_other.2 in
    elim (apart (sym on_one.0 ∙ on_other.0)) [
      | inl first ↦ omega (arith, first, short_one, to_one, from_other)
      | inr second ↦ omega (arith, second, short_other, to_other, from_one)
    ]

pub rows_are_of_one_transaction : RowsAreOfOneTransaction
rows_are_of_one_transaction comps n txs list path b given is p port i j two =
    let legal = given_lists_are_legal comps n txs list path b given is in
    let brief = path_brief comps list.rules b given n txs path is p port in
    let has_one = Contains-at given i two.one two.at_one in
    let has_other = Contains-at given j two.other two.at_other in
    one_place NeverOverlap given i j two.one two.other legal.apart two.at_one two.at_other
    (never_both b.sig given legal p brief two.one two.other has_one has_other two.row two.covers_one two.covers_other)
    (never_both b.sig given legal p brief two.other two.one has_other has_one two.row two.covers_other two.covers_one)

-- transactions for which a port is valid in one row are one
pub one_transaction : (comps : Design) (n : ℕ) (txs : List Transaction) → IsLegalList comps n txs → (path : Path) (b : Behaviour) (given : List Transaction) → IsGiven comps b given n txs path →
    (p : TimedPort) → IsDataPort b.sig p → (one other : Transaction) → Contains given one → Contains given other → (row : ℕ) → Covers p one row → Covers p other row → one ≡ other
one_transaction comps n txs list path b given is p port one other has_one has_other row on_one on_other =
    let i = place_of given one has_one in
    let j = place_of given other has_other in
    let place = rows_are_of_one_transaction comps n txs list path b given is p port i.0 j.0
    (record { one = one; at_one = i.1; other = other; at_other = j.1; row = row; covers_one = on_one; covers_other = on_other }) in
    same_Some one other (sym i.1 ∙ ap (slice_get given) place ∙ j.1)

pub promises_agree : PromisesAgree
promises_agree comps n txs list path b given is p output one other has_one has_other row on_one on_other =
    ap (λ (x : Transaction). b.flow x.values p.name) (one_transaction comps n txs list path b given is p (inr output) one other has_one has_other row on_one on_other)
