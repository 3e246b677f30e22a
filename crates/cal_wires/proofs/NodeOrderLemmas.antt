-- Names that tell the order of ports and holes.
use Rattle.std.proofs.Common.{◌≡◌, ◌≢◌, ℕ, List, [], Some, length, map, get_or, slice_get, sym, ap, subst, subst₂, ◌∙◌}
use Rattle.std.specs.Prelude.{All}
use Rattle.std.specs.Cmp.Lexicographic.{slice_cmp}
use Rattle.std.specs.Ordering.{nat_cmp}
use Rattle.std.specs.declared.cmp.Ordering.TheVariants.{Greater}
use Rattle.std.proofs.lemmas.List.{length-map}
use Rattle.std.proofs.lemmas.List.Elements.{All-map}
use Rattle.std.proofs.lemmas.Option.{get_or_from_slice_get, slice_get_within}
use Rattle.hw_graph.specs.ByName.{IsAtMost}
use Rattle.hw_names.specs.Name.{Text}
use Rattle.hw_short.specs.Order as full
use Rattle.hw_short.specs.Order.{TellOrder, text_in}
use Rattle.hw_short.specs.declared.full_name.FullName.{FullName}
use Rattle.cal_wires.specs.Nodes.{Node, APort, AHole, IsFit, key_of, node_in}
use Rattle.cal_wires.specs.NodeOrder.{IsUpTo, TellNodes, full_name_in}
use Rattle.cal_wires.specs.declared.ports.NodeKey.{NodeKey}
use Rattle.cal_wires.specs.declared.ports.NodeKey.TheVariants.{Own, OfCell, Hole}
use Rattle.cal_place.proofs.FoundLemmas.{from_map, to_map}
use Rattle.cal_wires.proofs.FullNameLemmas.{key_order, port_before_hole, same_node}
use Rattle.cal_wires.proofs.PortLemmas.{key_fits}

-- ---- full names of keys

-- the order of full names is that of the nodes
up_to : (texts : List Text) (k l : NodeKey) → full.IsUpTo (text_in texts (full_name_in k)) (text_in texts (full_name_in l)) → IsUpTo (node_in texts k) (node_in texts l)
up_to texts (Own p) (Own q) h = h
up_to texts (Own p) (OfCell d q) h = h
up_to texts (Own p) (Hole j) h = tt
up_to texts (OfCell c p) (Own q) h = h
up_to texts (OfCell c p) (OfCell d q) h = h
up_to texts (OfCell c p) (Hole j) h = tt
up_to texts (Hole i) (Own q) h = h
up_to texts (Hole i) (OfCell d q) h = h
up_to texts (Hole i) (Hole j) h = tt

fits : (count : ℕ) (k : NodeKey) → IsFit count k → full.IsFit count (full_name_in k)
fits count (Own pin) fit = fit
fits count (OfCell cell pin) fit = fit
fits count (Hole k) fit = tt

pub all_fit : (count : ℕ) (keys : List NodeKey) (names : List FullName) → names ≡ map full_name_in keys → All (IsFit count) keys → All (full.IsFit count) names
all_fit count keys names are fit = subst (All (full.IsFit count)) (sym are) (All-map (full.IsFit count) full_name_in keys (λ i d lt. fits count (get_or keys i d) (fit i d lt)))

-- names that tell the order of the full names tell that of the nodes
pub tell_nodes : (texts : List Text) (keys : List NodeKey) (named : List FullName) (seen names : List Text) → named ≡ map full_name_in keys → map (λ k. key_of (node_in texts k)) keys ≡ seen → All (IsFit (length texts)) keys → TellOrder texts named names
    → TellNodes seen names
tell_nodes texts keys named seen names are view fit tell = record {
  sized = tell.sized ∙ ap length are ∙ length-map keys full_name_in ∙ sym (length-map keys (λ k. key_of (node_in texts k))) ∙ ap length view;
  each = λ i j n m has_n has_m at at' le.
      let k = from_map (λ k. key_of (node_in texts k)) keys i (key_of n) (ap (λ (l : List Text). slice_get l i) view ∙ at) in
      let l = from_map (λ k. key_of (node_in texts k)) keys j (key_of m) (ap (λ (l : List Text). slice_get l j) view ∙ at') in
      let is_n = same_node (node_in texts k.0) n (key_fits texts k.0 (fit_at i k.0 k.1)) has_n k.2 in
      let is_m = same_node (node_in texts l.0) m (key_fits texts l.0 (fit_at j l.0 l.1)) has_m l.2 in
      subst₂ IsUpTo is_n is_m (up_to texts k.0 l.0 (tell.each i j (full_name_in k.0) (full_name_in l.0) (named_at i k.0 k.1) (named_at j l.0 l.1) le));
}
  where
    fit_at : (i : ℕ) (k : NodeKey) → slice_get keys i ≡ Some k → IsFit (length texts) k
    fit_at i k at = subst (IsFit (length texts)) (get_or_from_slice_get keys i k k at) (fit i k (slice_get_within keys i k at))

    named_at : (i : ℕ) (k : NodeKey) → slice_get keys i ≡ Some k → slice_get named i ≡ Some (full_name_in k)
    named_at i k at = ap (λ (l : List FullName). slice_get l i) are ∙ to_map full_name_in keys i k at

-- ---- keys

-- keys tell the order too
pub keys_tell : (keys names : List Text) → names ≡ keys → TellNodes keys names
keys_tell keys names same = record {
  sized = ap length same;
  each = λ i j n m has_n has_m at at' le.
      by n m
      (subst₂ (λ (s t : Text). slice_cmp nat_cmp s t ≢ Greater) (get_or_from_slice_get keys i (key_of n) [] at) (get_or_from_slice_get keys j (key_of m) [] at') (subst (λ (l : List Text). IsAtMost l i j) same le));
}
  where
    by : (n m : Node) → slice_cmp nat_cmp (key_of n) (key_of m) ≢ Greater → IsUpTo n m
    by (APort p) (APort q) h = key_order p q h
    by (APort p) (AHole j) h = tt
    by (AHole k) (APort q) h = h (port_before_hole q k)
    by (AHole k) (AHole j) h = tt
