-- A search that gathers what a node reaches in a list without double nodes, which is also its queue.
use Rattle.std.proofs.Common.{◌≡◌, ◌↔◌, ◌⊎◌, inl, inr, ℕ, ◌+◌, ◌<◌, ◌≤◌, Bool, true, false, eqb, List, [], ◌∷◌, ◌++◌, length, get_or, slice_get, Some, refl, sym, ap, subst, ◌∙◌, if◌then◌else◌, arith}
use Rattle.std.specs.Prelude.{Contains, IsTrue}
use Rattle.std.specs.List.{list_any}
use Rattle.std.proofs.lemmas.Bool.{cases_lt}
use Rattle.std.proofs.lemmas.Bool.Decides.{Decides-eqb}
use Rattle.std.proofs.lemmas.List.{get_or_append_left, length-append, take_all}
use Rattle.std.proofs.lemmas.List.Elements.{Contains-push_cases}
use Rattle.std.proofs.lemmas.List.Folds.{list_any_at}
use Rattle.indexmap.proofs.CallerLemmas.{Contains-insert_key, Contains-list_any}
use Rattle.indexmap.specs.IndexSet.{insert_all, insert_key}
use Rattle.hw_graph.proofs.ComponentLemmas.{read_of}
use Rattle.hw_graph.proofs.MemberLemmas.{In, contains_of, in_of}
use Rattle.hw_graph.proofs.ReachLemmas.{reach_on}
use Rattle.hw_graph.proofs.SearchLemmas.{contained_at, contains_at}
use Rattle.hw_graph.specs.declared.groups.Entry.{Entry}
use Rattle.hw_graph.specs.Graph.{AreInRange, HasRead, Reaches, Directly, Through}
use Rattle.hw_cells.specs.Cells.{IsOrReaches}
use Rattle.hw_cells.specs.inside.Pairs.{AddsFirst, AddsPairs, AreReached, is_reached}
use Rattle.hw_cells.specs.declared.cell.Pin.{Pin}
use Rattle.hw_cells.specs.declared.pairs.Start.{Start}
use Rattle.hw_cells.proofs.TogetherLemmas.{has_read}

-- ---- nodes are added, each once

same_nodes : (x y : ℕ) → eqb x y ≡ true → x ≡ y
same_nodes x y is = (Decides-eqb x y).0 is

-- the list goes on with some of the nodes, and has them all
pub record HasAll (more old new : List ℕ) : Type 0 where
  pub longer : length old ≤ length new
  pub kept : (i : ℕ) → i < length old → get_or new i 0 ≡ get_or old i 0
  pub from : (node : ℕ) → Contains new node → Contains old node ⊎ In more node
  pub all : (node : ℕ) → In more node → Contains new node

-- the node stands at the same place where the list goes on
stays : (old new : List ℕ) → length old ≤ length new → ((i : ℕ) → i < length old → get_or new i 0 ≡ get_or old i 0) → (node : ℕ) → Contains old node → Contains new node
stays old new longer kept node has = contains_at new has.0 node (omega (arith, has.1, longer)) (kept has.0 has.1 ∙ contained_at old node has)

-- the list, where the node is known, or else with it
abbrev list_with : Bool → List ℕ → ℕ → List ℕ
list_with known old node = if known then old else old ++ node ∷ []

insert_adds : (old : List ℕ) (node : ℕ) → HasAll (node ∷ []) old (insert_key eqb old node)
insert_adds old node = record { longer = longer (list_any (eqb node) old); kept = kept (list_any (eqb node) old); from = from (list_any (eqb node) old); all = all }
  where
    longer : (known : Bool) → length old ≤ length (list_with known old node)
    longer true = omega arith
    longer false = omega (arith, length-append old (node ∷ []))

    kept : (known : Bool) (i : ℕ) → i < length old → get_or (list_with known old node) i 0 ≡ get_or old i 0
    kept true i lt = refl
    kept false i lt = get_or_append_left old (node ∷ []) 0 i lt

    from : (known : Bool) (other : ℕ) → Contains (list_with known old node) other → Contains old other ⊎ In (node ∷ []) other
    from true other has = inl has
    from false other has = elim (Contains-push_cases old node other has) [ inl early ↦ inl early | inr same ↦ inr (inl same) ]

    all : (other : ℕ) → In (node ∷ []) other → Contains (insert_key eqb old node) other
    all other (inl same) = subst (Contains (insert_key eqb old node)) same (Contains-insert_key eqb same_nodes old node)
    all other (inr none) = absurd none

pub all_added : (more old : List ℕ) → HasAll more old (insert_all eqb old more)
all_added [] old = record { longer = omega arith; kept = λ i lt. refl; from = λ node has. inl has; all = λ node none. absurd none }
all_added (next ∷ more) old =
    let one = insert_adds old next in
    let now = insert_key eqb old next in
    let rest = all_added more now in
    record {
      longer = omega (arith, one.longer, rest.longer);
      kept = λ i lt. rest.kept i (omega (arith, lt, one.longer)) ∙ one.kept i lt;
      from = λ node has. elim (rest.from node has) [
        | inl early ↦ elim (one.from node early) [
          | inl first ↦ inl first
          | inr (inl same) ↦ inr (inl same)
          | inr (inr none) ↦ absurd none
        ]
        | inr late ↦ inr (inr late)
      ];
      all = λ node has. elim has [
        | inl same ↦ stays now (insert_all eqb now more) rest.longer rest.kept node (one.all node (inl same))
        | inr late ↦ rest.all node late
      ];
    }

-- ---- the search

-- all nodes are the start or reached from it; the reads of the first are among them
pub record IsSearched (reads : List (List ℕ)) (start : ℕ) (nodes : List ℕ) (next : ℕ) : Type 0 where
  pub has_start : Contains nodes start
  pub are_reached : (node : ℕ) → Contains nodes node → IsOrReaches reads start node
  pub of_first : (i read : ℕ) → i < next → HasRead reads (get_or nodes i 0) read → Contains nodes read

pub searched_start : (reads : List (List ℕ)) (start : ℕ) (old nodes : List ℕ) → old ≡ [] → nodes ≡ insert_key eqb old start → IsSearched reads start nodes 0
searched_start reads start old nodes empty is = record {
  has_start = subst (λ (list : List ℕ). Contains list start) (sym only) (contains_of (start ∷ []) start (inl refl));
  are_reached = are_reached;
  of_first = λ i read lt. absurd (omega (arith, lt));
}
  where
    only : nodes ≡ start ∷ []
    only = is ∙ ap (λ (list : List ℕ). insert_key eqb list start) empty

    are_reached : (node : ℕ) → Contains nodes node → IsOrReaches reads start node
    are_reached node has = elim (in_of (start ∷ []) node (subst (λ (list : List ℕ). Contains list node) only has)) [
      | inl same ↦ inl same
      | inr none ↦ absurd none
    ]

-- a step on from what is reached
step_on : (reads : List (List ℕ)) (start node read : ℕ) → IsOrReaches reads start node → HasRead reads node read → IsOrReaches reads start read
step_on reads start node read (inl same) has = inr (Directly start read (subst (λ (n : ℕ). HasRead reads n read) (sym same) has))
step_on reads start node read (inr reaches) has = inr (reach_on reads start node read reaches has)

module _ (reads : List (List ℕ)) (start : ℕ) (nodes : List ℕ) (next : ℕ) (so_far : IsSearched reads start nodes next) where
  -- a node that is reached is one of the graph's
  pub node_within : AreInRange reads → start < length reads → next < length nodes → get_or nodes next 0 < length reads
  node_within range within lt = by (so_far.are_reached node (contains_at nodes next node lt refl))
    where
      node : ℕ
      node = get_or nodes next 0

      ends_within : (port other : ℕ) → Reaches reads port other → other < length reads
      ends_within port other (Directly p o has) = range p o has
      ends_within port other (Through p via o has rest) = ends_within via o rest

      by : IsOrReaches reads start node → node < length reads
      by (inl same) = omega (arith, same, within)
      by (inr reaches) = ends_within start node reaches

  pub searched_more : (got new : List ℕ) → next < length nodes → slice_get reads (get_or nodes next 0) ≡ Some got → new ≡ insert_all eqb nodes got → IsSearched reads start new (next + 1)
  searched_more got new lt at is = record {
    has_start = early start so_far.has_start;
    are_reached = are_reached;
    of_first = of_first;
  }
    where
      node : ℕ
      node = get_or nodes next 0

      added : HasAll got nodes new
      added = subst (HasAll got nodes) (sym is) (all_added got nodes)

      early : (other : ℕ) → Contains nodes other → Contains new other
      early = stays nodes new added.longer added.kept

      are_reached : (other : ℕ) → Contains new other → IsOrReaches reads start other
      are_reached other has = elim (added.from other has) [
        | inl before ↦ so_far.are_reached other before
        | inr read ↦ step_on reads start node other (so_far.are_reached node (contains_at nodes next node lt refl)) (has_read reads node got at other (contains_of got other read))
      ]

      of_first : (i read : ℕ) → i < next + 1 → HasRead reads (get_or new i 0) read → Contains new read
      of_first i read below has =
          let before : HasRead reads (get_or nodes i 0) read = subst (λ (n : ℕ). HasRead reads n read) (added.kept i (omega (arith, below, lt))) has in
          elim (cases_lt i next) [
            | inl earlier ↦ early read (so_far.of_first i read earlier before)
            | inr past ↦
                let last : i ≡ next = omega (arith, below, past) in
                added.all read (in_of got read (read_of reads node got at read (subst (λ (k : ℕ). HasRead reads (get_or nodes k 0) read) last before)))
          ]

  -- no node is left whose reads are to be looked at
  pub searched_all : length nodes ≤ next → AreReached reads start nodes
  searched_all over node = (so_far.are_reached node, whole)
    where
      on : (port : ℕ) → Contains nodes port → (read : ℕ) → HasRead reads port read → Contains nodes read
      on port has read reading = so_far.of_first has.0 read (omega (arith, has.1, over)) (subst (λ (n : ℕ). HasRead reads n read) (sym (contained_at nodes port has)) reading)

      along : (port other : ℕ) → Contains nodes port → Reaches reads port other → Contains nodes other
      along port other has (Directly p o read) = on p has o read
      along port other has (Through p via o read rest) = along via o (on p has via read) rest

      whole : IsOrReaches reads start node → Contains nodes node
      whole (inl same) = subst (Contains nodes) same so_far.has_start
      whole (inr reaches) = along start node so_far.has_start reaches

-- the nodes tell which inputs are reached
pub nodes_tell : (reads : List (List ℕ)) (start : ℕ) (nodes : List ℕ) → AreReached reads start nodes → (input : Pin) → (is_reached nodes input ≡ true) ↔ IsOrReaches reads start input.node
nodes_tell reads start nodes reached input =
    (λ is. (reached input.node).0 (Contains-list_any eqb same_nodes nodes input.node is), λ reaches. is_among ((reached input.node).1 reaches))
  where
    is_among : Contains nodes input.node → list_any (eqb input.node) nodes ≡ true
    is_among has = list_any_at (eqb input.node) nodes has.0 0 has.1 ((Decides-eqb input.node (get_or nodes has.0 0)).1 (sym (contained_at nodes input.node has)))

-- where all starts are searched from, the list has what all their outputs read
pub all_first : (reads : List (List ℕ)) (starts : List Start) (old new : List Entry) (all : Bool) → AddsFirst reads starts old new all → IsTrue all → AddsPairs reads starts old new
all_first reads starts old new all first is = subst (λ (list : List Start). AddsPairs reads list old new) (take_all first.count starts (first.whole is)) first.adds
