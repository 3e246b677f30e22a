-- What a transaction's outputs are depends on its values alone.
use Rattle.std.proofs.Common.{◌≡◌, ℕ, ◌+◌, ◌<◌, Bool, false, List, [], map, reverse, take, Contains, All, refl, sym, ap, ◌∙◌, arith}
use Rattle.std.specs.Prelude.{if◌then◌else◌}
use Rattle.std.proofs.lemmas.List.Elements.{All-contains, All-map}
use Rattle.hw_names.specs.Name.{Text}
use Rattle.hw_prims.specs.Row.{Trace}
use Rattle.hw_prims.specs.Timed.{Covers, TimedPort, Transaction, Values, end_of}
use Rattle.net_core.specs.Netlist.{Netlist}
use Rattle.fil_ast.specs.Behaviours.{Itself, component_behaviour, timed_port}
use Rattle.fil_ast.specs.Flow.{component_flow, flow_of, value_named}
use Rattle.fil_ast.specs.Signature.{sig_port}
use Rattle.fil_ast.specs.Tree.{DataPort, Component, Design}
use Rattle.fil_promise.specs.Refines.{Refines}
use Rattle.fil_driven.specs.Laws.{IsRunWith, NothingElseMatters}
use Rattle.fil_driven.proofs.ListLemmas.{map_agree}

-- on equal values the flow is equal
same_flow : (earlier : Design) (c : Component) (v w : Values) (output : Text) → ((p : Text) → v p ≡ w p) → (component_behaviour earlier c).flow v output ≡ (component_behaviour earlier c).flow w output
same_flow earlier c v w output same =
    ap (λ (args : List ℕ). value_named (component_flow (flow_of (reverse earlier)) c args) output)
    (map_agree (λ (p : DataPort). v p.name) (λ (p : DataPort). w p.name) c.ins (λ p. same p.name))

-- no output of a component stays
ends : (c : Component) → All (λ (p : TimedPort). p.stays ≡ false) (map timed_port (map (sig_port c.events) c.outs))
ends c = All-map (λ (p : TimedPort). p.stays ≡ false) timed_port (map (sig_port c.events) c.outs) (λ k d within. refl)

-- it is valid for transactions alike in the same rows after their starts
covered_alike : (p : TimedPort) (a b : Transaction) (k : ℕ) → p.stays ≡ false → a.event ≡ b.event → Covers p a (a.start + k) → Covers p b (b.start + k)
covered_alike p a b k ends event (of, from, to) =
    let short : (hold : ℕ) → end_of p hold ≡ p.to = λ hold. ap (λ (stays : Bool). p.to + (if stays then hold else 0)) ends ∙ omega arith in
    let of_a = short a.hold in
    let of_b = short b.hold in (
      of ∙ event,
      omega (arith, from),
      omega (arith, to, of_a, of_b),
    )

-- in a run with these transactions an output has the value of the flow
has_value : {comps : Design} {n : Netlist} (refines : Refines comps n) (txs : List Transaction) (height : ℕ) (trace : Trace) → IsRunWith refines txs height trace →
    (a : Transaction) → Contains txs a → (p : TimedPort) → Contains (component_behaviour (take refines.number comps) refines.c).sig.outs p → (r : ℕ) → r < height → Covers p a r →
    trace r p.name ≡ (component_behaviour (take refines.number comps) refines.c).flow a.values p.name
has_value {comps} refines txs height trace run a has p output r within covered =
    let b = component_behaviour (take refines.number comps) refines.c in
    let carried = refines.carries txs run.legal run.own run.asked run.inputs run.loads height trace run.is_run run.given in
    (carried.carries [] b txs (Itself refines.number refines.c refines.at refl) r within).1 a has p output covered

pub nothing_else_matters : NothingElseMatters
nothing_else_matters comps n refines txs others height height' trace trace' run run' a b has_a has_b alike p output k covered within within' =
    let earlier = take refines.number comps in
    let stops : p.stays ≡ false = All-contains (λ (p : TimedPort). p.stays ≡ false) (component_behaviour earlier refines.c).sig.outs p (ends refines.c) output in
    has_value refines txs height trace run a has_a p output (a.start + k) within covered
    ∙ same_flow earlier refines.c a.values b.values p.name alike.values
    ∙ sym (has_value refines others height' trace' run' b has_b p output (b.start + k) within' (covered_alike p a b k stops alike.event covered))
