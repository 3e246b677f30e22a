-- What the components that have cells of a component need to know of it: its graph, and the nodes of its ports.
use Rattle.std.proofs.Common.{◌≡◌, ◌↔◌, inl, inr, ℕ, ◌+◌, ◌<◌, List, [], ◌∷◌, ◌++◌, Option, Some, None, length, slice_get, Contains, refl, sym, ap, subst, ◌∙◌, arith}
use Rattle.std.specs.Prelude.{IfSome, IsSome}
use Rattle.std.proofs.lemmas.Bool.{cases_lt}
use Rattle.std.proofs.lemmas.List.{length-append}
use Rattle.std.proofs.lemmas.Option.{none-some, same_Some, slice_get_within}
use Rattle.hw_names.proofs.NameLemmas.{Contains-slice_get, same_number}
use Rattle.hw_names.specs.Name.{AreDistinct, Text}
use Rattle.cal_ast.specs.Ports.{inputs_in}
use Rattle.cal_ast.specs.Tree.{Component, Design, PortName, own}
use Rattle.cal_ast.specs.Wires.{Reaches}
use Rattle.cal_loops.specs.inside.Cells.{LeadsAsRead}
use Rattle.cal_wires.specs.Nodes.{APort, key_of, ports_in}
use Rattle.hw_cells.specs.Cells.{HasOwnNodes}
use Rattle.hw_cells.specs.PartGraph.{Leads, LeadsAlike}
use Rattle.hw_cells.specs.declared.part_graph.PartGraph.{PartGraph}
use Rattle.cal_loops.specs.inside.Wiring.{AreNodes, ShowsReached}
use Rattle.cal_place.proofs.FirstLemmas.{slice_get-front, slice_get-last}
use Rattle.cal_place.proofs.GraphLemmas.{exists_at}
use Rattle.cal_wires.proofs.FullNameLemmas.{same_port}
use Rattle.cal_loops.proofs.NumberLemmas.{first_of, last_of, leads, reach_nodes}

-- ---- the nodes of own ports

-- the node of the own port of a name, if it has one
abbrev pub IsNodeOf : List Text → Text → Option ℕ → Type 0
IsNodeOf keys name found = (node : ℕ) → found ≡ Some node ↔ slice_get keys node ≡ Some (key_of (APort (own name)))

pub node_found : (keys : List Text) (name : Text) (found : Option ℕ) → AreDistinct keys → IfSome found (λ n. slice_get keys n ≡ Some (key_of (APort (own name)))) → IsSome found ↔ Contains keys (key_of (APort (own name))) → IsNodeOf keys name found
node_found keys name None distinct at present node = (
  λ e. absurd (none-some node e),
  λ there. (let bad = present.1 (Contains-slice_get keys node (key_of (APort (own name))) there) in absurd (cc)),
)
node_found keys name (Some n) distinct at present node = (
  λ e. subst (λ (k : ℕ). slice_get keys k ≡ Some (key_of (APort (own name)))) (same_Some n node e) at,
  λ there. ap Some (same_number keys n node (key_of (APort (own name))) distinct at there),
)

-- so by a port that is the own one
pub own_node_found : (keys : List Text) (port : PortName) (name : Text) (found : Option ℕ) → port ≡ own name → AreDistinct keys → IfSome found (λ n. slice_get keys n ≡ Some (key_of (APort port))) → IsSome found ↔ Contains keys (key_of (APort port)) → IsNodeOf keys name found
own_node_found keys port name found same distinct at present =
    node_found keys name found distinct (subst (λ (p : PortName). IfSome found (λ n. slice_get keys n ≡ Some (key_of (APort p)))) same at)
    (subst (λ (p : PortName). IsSome found ↔ Contains keys (key_of (APort p))) same present)

front_is : {X : Type 0} (xs ys : List X) (n : ℕ) → n < length xs → slice_get (xs ++ ys) n ≡ slice_get xs n
front_is xs ys n lt = let x = exists_at xs n lt in slice_get-front xs ys n x.0 x.1 ∙ sym x.1

module _ (c : Component) (keys : List Text) where
  -- those of so many ports
  pub record AreNodesTo (end : ℕ) (nodes : List (Option ℕ)) : Type 0 where
    pub sized : length nodes ≡ end
    pub each : (n node : ℕ) (port : Text) → n < end → slice_get (ports_in c) n ≡ Some port → slice_get nodes n ≡ Some (Some node) ↔ slice_get keys node ≡ Some (key_of (APort (own port)))

  pub nodes_more : (end : ℕ) (nodes : List (Option ℕ)) (name : Text) (found : Option ℕ) → slice_get (ports_in c) end ≡ Some name → IsNodeOf keys name found → AreNodesTo end nodes → AreNodesTo (end + 1) (nodes ++ found ∷ [])
  nodes_more end nodes name found at tells so_far = record {
    sized = length-append nodes (found ∷ []) ∙ ap (λ k. k + 1) so_far.sized;
    each = λ n node port less at_n. elim (cases_lt n end) [
      | inl before ↦
          (let old = so_far.each n node port before at_n in
          let front = front_is nodes (found ∷ []) n (omega (arith, before, so_far.sized)) in
          (λ e. old.0 (sym front ∙ e), λ there. front ∙ old.1 there))
      | inr past ↦
          (let here : n ≡ end = omega (arith, less, past) in
          let named : name ≡ port = same_Some name port (sym at ∙ ap (slice_get (ports_in c)) (sym here) ∙ at_n) in
          let last : slice_get (nodes ++ found ∷ []) n ≡ Some found = ap (slice_get (nodes ++ found ∷ [])) (here ∙ sym so_far.sized) ∙ slice_get-last nodes found in
          let told = subst (λ (t : Text). found ≡ Some node ↔ slice_get keys node ≡ Some (key_of (APort (own t)))) named (tells node) in
          (λ e. told.0 (same_Some found (Some node) (sym last ∙ e)), λ there. last ∙ ap Some (told.1 there)))
    ];
  }

  pub nodes_none : AreNodesTo 0 []
  nodes_none = record { sized = refl; each = λ n node port less at. absurd (omega (arith, less)) }

  pub nodes_all : (end : ℕ) (nodes : List (Option ℕ)) → end ≡ length (ports_in c) → AreNodesTo end nodes → AreNodes c keys nodes
  nodes_all end nodes all are = record { all = are.sized ∙ all; each = λ n node port at. are.each n node port (omega (arith, slice_get_within (ports_in c) n port at, all)) at }

-- ---- the graph leads from outputs to inputs as they reach them

-- own ports have nodes of the graph
pub nodes_within : (design : Design) (c : Component) (keys : List Text) (reads : List (List ℕ)) (nodes : List (Option ℕ)) → LeadsAsRead design c keys reads → AreNodes c keys nodes → HasOwnNodes reads nodes
nodes_within design c keys reads nodes is are n node at =
    let port = exists_at (ports_in c) n (omega (arith, slice_get_within nodes n (Some node) at, are.all)) in
    let there = (are.each n node port.0 port.1).0 at in
    omega (arith, slice_get_within keys node (key_of (APort (own port.0))) there, is.all)

module _ (design : Design) (c : Component) (keys : List Text) (old : PartGraph) (is : LeadsAsRead design c keys old.reads) (distinct : AreDistinct (ports_in c)) (are : AreNodes c keys old.nodes.items) where
  module _ (n m : ℕ) (output input : Text) (at_n : slice_get (ports_in c) n ≡ Some output) (at_m : slice_get (ports_in c) m ≡ Some input) where
    -- one node is that of one port
    one_port : (node other : ℕ) → slice_get keys node ≡ Some (key_of (APort (own output))) → slice_get keys other ≡ Some (key_of (APort (own input))) → node ≡ other → n ≡ m
    one_port node other at_node at_other same =
        let key : key_of (APort (own output)) ≡ key_of (APort (own input)) = same_Some (key_of (APort (own output))) (key_of (APort (own input))) (sym at_node ∙ ap (slice_get keys) same ∙ at_other) in
        let name : output ≡ input = ap (λ (p : PortName). p.pin) (same_port (own output) (own input) key) in
        same_number (ports_in c) n m output distinct at_n (at_m ∙ ap Some (sym name))

    to_reaches : (n ≡ m → ⊥) → Leads old n m → Reaches design c (own output) (own input)
    to_reaches apart l =
        let at_node = (are.each n l.node output at_n).0 l.is_node in
        let at_other = (are.each m l.other input at_m).0 l.is_other in
        elim l.leads [
          | inl same ↦ absurd (apart (one_port l.node l.other at_node at_other same))
          | inr reaches ↦
              leads design c (APort (own output)) (APort (own input)) (own input)
              ((is.reaches (APort (own output)) (APort (own input)) l.node l.other (record { has_key = tt; at = at_node }) (record { has_key = tt; at = at_other })).0 reaches) refl
        ]

    from_reaches : Reaches design c (own output) (own input) → Leads old n m
    from_reaches reaches =
        let way = reach_nodes design c (own output) (own input) reaches in
        let first = first_of design c (APort (own output)) (APort (own input)) way in
        let last = last_of design c (APort (own output)) (APort (own input)) way in
        let i = is.own_port output first.0 (inl first.1) in
        let j = is.own_port input last.0 (inr last.1) in
        record {
          node = i.0;
          other = j.0;
          is_node = (are.each n i.0 output at_n).1 (i.1).at;
          is_other = (are.each m j.0 input at_m).1 (j.1).at;
          leads = inr ((is.reaches (APort (own output)) (APort (own input)) i.0 j.0 i.1 j.1).1 way);
        }

  shows_reached : ShowsReached design c old
  shows_reached n m output input at_n at_m from to = (to_reaches n m output input at_n at_m (λ same. omega (arith, same, from, to)), from_reaches n m output input at_n at_m)

  -- and so does one that leads alike
  pub reached_alike : (new : PartGraph) → old.inputs ≡ length (inputs_in c) → LeadsAlike old new → ShowsReached design c new
  reached_alike new inputs alike n m output input at_n at_m from to =
      let same = alike.leads n m (omega (arith, from, inputs)) (omega (arith, to, inputs)) in
      let shown = shows_reached n m output input at_n at_m from to in
      (λ l. shown.0 (same.0 l), λ r. same.1 (shown.1 r))
