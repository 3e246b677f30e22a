-- An order rules loops out: along a loop the places in the order would fall without end.
use Rattle.std.proofs.Common.{◌≡◌, ℕ, zero, suc, ◌<◌, List, [], ◌∷◌, Some, arith, length, subst}
use Rattle.std.specs.Prelude.{slice_get}
use Rattle.hw_names.specs.Name.{Text}
use Rattle.net_core.specs.Graph.{ReadsPort, ByAssignment, ByCell, ReadsAlong, set_ports}
use Rattle.net_core.specs.Netlist.{Netlist}
use Rattle.net_core.specs.Rules.{IsValid}
use Rattle.net_sim.proofs.OneRunLemmas.{number_of, input_number}
use Rattle.net_sim.proofs.CoverLemmas.{cover}
use Rattle.net_sim.proofs.AgreeLemmas.{set_reads}
use Rattle.hw_graph.proofs.MemberLemmas.{in_of}
use Rattle.net_sim.specs.OneRun.{OrderRulesLoopsOut}
use Rattle.net_sim.specs.Order.{IsNamed, IsOrderOf}
use Rattle.std.proofs.lemmas.Option.{slice_get_within}
use Rattle.net_core.specs.Rules.{ports_of}

module _ (n : Netlist) (valid : IsValid n) where
  -- the number of a port that is read
  pub read_number : (port other : Text) → ReadsPort n port other → (m : ℕ) × IsNamed n m other
  read_number port other (ByAssignment k a at dst has) =
      number_of n other (set_reads n valid k a at other (in_of (set_ports a) other has))
  read_number port other (ByCell cell prim input output is takes gives through out into) =
      let number = input_number n cell prim is input takes in
      (number.0, subst (λ x. IsNamed n number.0 x) into number.1)

module _ (n : Netlist) (valid : IsValid n) (ports : List ℕ) (ordered : IsOrderOf n ports) where
  -- a place of the port in the order
  abbrev PlaceOf : Text → Type 0
  PlaceOf port = (i : ℕ) × (m : ℕ) × (slice_get ports i ≡ Some m) × IsNamed n m port

  read_place : (port other : Text) → ReadsPort n port other → PlaceOf other
  read_place port other reads =
      let number = read_number n valid port other reads in
      let place = cover ports (length (ports_of n)) ordered.all ordered.in_range ordered.once number.0 (slice_get_within (ports_of n) number.0 number.1.0 number.1.1) in
      (place.0, number.0, place.1, number.1)

  earlier : (port other : Text) (p : PlaceOf port) (reads : ReadsPort n port other) → (read_place port other reads).0 < p.0
  earlier port other p reads = let q = read_place port other reads in ordered.after p.0 q.0 p.1 q.1 port other p.2 q.2 p.3 q.3 reads

  -- along a list of reads the places fall
  falls : (port : Text) (others : List Text) (back : Text) → ReadsAlong n (port ∷ others) back → (p : PlaceOf port) → (q : PlaceOf back) × (q.0 < p.0)
  falls port [] back reads p = (read_place port back reads, earlier port back p reads)
  falls port (other ∷ others) back along p =
      let q = read_place port other along.0 in
      let r = falls other others back along.1 q in
      (r.0, omega (arith, r.1, earlier port other p along.0))

  last_read : (port : Text) (others : List Text) (back : Text) → ReadsAlong n (port ∷ others) back → PlaceOf back
  last_read port [] back reads = read_place port back reads
  last_read port (other ∷ others) back along = last_read other others back along.1

  never : (bound : ℕ) (first : Text) (others : List Text) → ReadsAlong n (first ∷ others) first → (p : PlaceOf first) → p.0 < bound → ⊥
  never zero first others along p below = absurd (omega (arith, below))
  never (suc bound) first others along p below =
      let q = falls first others first along p in
      never bound first others along q.0 (omega (arith, q.1, below))

pub order_rules_loops_out : OrderRulesLoopsOut
order_rules_loops_out = λ n valid ports ordered first others loop.
    let p = last_read n valid ports ordered first others first loop.along in
    never n valid ports ordered (suc p.0) first others loop.along p (omega arith)
