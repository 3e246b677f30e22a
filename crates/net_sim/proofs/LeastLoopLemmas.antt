-- The least loop of the graph of numbers is the least loop of the netlist.
use Rattle.std.proofs.Common.{◌≡◌, ◌≢◌, ℕ, List, [], ◌∷◌, sym, ◌∙◌, arith, subst, subst₂}
use Rattle.std.specs.Cmp.Lexicographic.{slice_cmp}
use Rattle.std.specs.Ordering.{nat_cmp}
use Rattle.std.specs.declared.cmp.Ordering.TheVariants.{Greater}
use Rattle.std.specs.Prelude.{length}
use Rattle.hw_names.specs.Name.{Text, AreDistinct}
use Rattle.net_core.specs.Graph.{ReadsPort, ReadsAlong}
use Rattle.net_core.specs.Netlist.{Netlist}
use Rattle.net_core.specs.Rules.{IsValid}
use Rattle.net_sim.proofs.NoLoopLemmas.{read_number}
use Rattle.net_sim.proofs.OrderLemmas.{graph_has, named_is, named_within, same_port, loop_is}
use Rattle.hw_graph.specs.Groups.{IsGathered}
use Rattle.net_sim.specs.Layout.{port_names, name_of}
use Rattle.net_sim.specs.Order.{IsNamed, IsLeastLoopOf}
use Rattle.hw_graph.specs.Graph.{HasRead, Reaches, Directly, Through, IsLeastCycle}
use Rattle.net_sim.specs.inside.Wires.{net_readings, AreEntriesOf}
use Rattle.hw_graph.specs.declared.groups.Entry.{Entry}

module _ (n : Netlist) (valid : IsValid n) (entries : List Entry) (reads : List (List ℕ)) (distinct : AreDistinct (port_names n)) (are : AreEntriesOf (port_names n) (net_readings n) entries) (gathered : IsGathered entries (length (port_names n)) reads) where
  has_name : (port : ℕ) (name : Text) → IsNamed n port name → name_of n port ≡ name
  has_name = named_is n entries reads distinct are gathered

  edge : (port other : ℕ) (name read : Text) → IsNamed n port name → IsNamed n other read → ReadsPort n name read → HasRead reads port other
  edge port other name read named named' reads' =
      graph_has n entries reads distinct are gathered port other (named_within n entries reads distinct are gathered port name named) (named_within n entries reads distinct are gathered other read named')
      (subst₂ (ReadsPort n) (sym (has_name port name named)) (sym (has_name other read named')) reads')

  -- along a list of reads one number reaches another
  reaches_along : (port : ℕ) (name : Text) (others : List Text) (back : Text) → IsNamed n port name → ReadsAlong n (name ∷ others) back → (last : ℕ) × IsNamed n last back × Reaches reads port last
  reaches_along port name [] back named read =
      let q = read_number n valid name back read in
      (q.0, q.1, Directly port q.0 (edge port q.0 name back named q.1 read))
  reaches_along port name (other ∷ others) back named along =
      let q = read_number n valid name other along.0 in
      let r = reaches_along q.0 other others back q.1 along.1 in
      (r.0, r.1, Through port q.0 r.0 (edge port q.0 name other named q.1 along.0) r.2)

  last_number : (name : Text) (others : List Text) (back : Text) → ReadsAlong n (name ∷ others) back → (last : ℕ) × IsNamed n last back
  last_number name [] back read = read_number n valid name back read
  last_number name (other ∷ others) back along = last_number other others back along.1

  -- a port on a loop reaches itself
  reaches_itself : (name : Text) (others : List Text) → ReadsAlong n (name ∷ others) name → (port : ℕ) × IsNamed n port name × Reaches reads port port
  reaches_itself name others along =
      let m = last_number name others name along in
      let r = reaches_along m.0 name others name m.1 along in
      let same = same_port n entries reads distinct are gathered r.0 m.0 (named_within n entries reads distinct are gathered r.0 name r.1) (named_within n entries reads distinct are gathered m.0 name m.1) (has_name r.0 name r.1 ∙ sym (has_name m.0 name m.1)) in
      (m.0, m.1, subst (Reaches reads m.0) same r.2)

  pub least_loop_is : (ports : List ℕ) → IsLeastCycle reads (port_names n) ports → IsLeastLoopOf n ports
  least_loop_is [] least = absurd (omega (arith, least.is_cycle.some))
  least_loop_is (port ∷ ports) least =
      let loop = loop_is n entries reads distinct are gathered (port ∷ ports) least.is_cycle in (
        loop.0,
        record {
          is_loop = loop.1;
          least = λ first others other.
              let m = reaches_itself first others other.along in
              subst (λ name. slice_cmp nat_cmp (name_of n port) name ≢ Greater) (has_name m.0 first m.1) (least.least m.0 m.2);
        },
      )
