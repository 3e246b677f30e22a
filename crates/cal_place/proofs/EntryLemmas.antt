-- Entries of graphs of components, cell by cell and component by component.
use Rattle.std.proofs.Common.{◌≡◌, ℕ, ◌+◌, ◌<◌, ◌≤◌, List, [], ◌∷◌, ◌++◌, length, map, take, slice_get, All, Vec, Option, Some, None, option_and_then, option_to_list, sym, ap, subst, ◌∙◌, append-nil, arith}
use Rattle.std.specs.declared.alloc.Global.{Global}
use Rattle.std.proofs.lemmas.List.{length-take-le, take_all}
use Rattle.std.proofs.lemmas.Option.{slice_get_within}
use Rattle.hw_graph.specs.Graph.{AreInRange}
use Rattle.hw_graph.specs.Groups.{IsGathered}
use Rattle.hw_graph.specs.declared.groups.Entry.{Entry}
use Rattle.cal_ast.specs.Tree.{Design}
use Rattle.cal_place.specs.inside.Entries.{IsOrderOf, entries_from, holder_read, part_in, part_read, parts_in}
use Rattle.cal_place.specs.Prototypes.{made_component}
use Rattle.cal_place.specs.Nesting.{ShowsNesting}
use Rattle.cal_place.specs.Tables.{AreMade}
use Rattle.cal_place.specs.declared.prototype.Prototype.{Prototype}
use Rattle.cal_place.specs.declared.nesting.PartOrder.{PartOrder}
use Rattle.cal_place.proofs.GraphLemmas.{entries_push, holders_below, parts_below, reads_holders, reads_parts}
use Rattle.cal_place.proofs.HolderLemmas.{shows_order}
use Rattle.cal_place.proofs.ListLemmas.{one_more}

-- the entry of one cell, if it is made of a component
module _ (entry : ℕ → Entry) (made : Option Prototype) (told : Option ℕ) (is : told ≡ option_and_then made_component made) (old new : List Entry) where
  pub no_entry : told ≡ None → new ≡ old → new ≡ old ++ map entry (part_in made)
  no_entry none same = same ∙ sym (append-nil old) ∙ ap (λ (o : Option ℕ). old ++ map entry (option_to_list o)) (sym none ∙ is)

  pub one_entry : (part : ℕ) → told ≡ Some part → new ≡ old ++ entry part ∷ [] → new ≡ old ++ map entry (part_in made)
  one_entry part some put = put ∙ ap (λ (o : Option ℕ). old ++ map entry (option_to_list o)) (sym some ∙ is)

-- those of one more component
pub entries_next : (entry : ℕ → ℕ → Entry) (made : List (Vec (Option Prototype) Global)) (k : ℕ) (cells : Vec (Option Prototype) Global) (listed : List (Option Prototype)) (old new : List Entry) → slice_get made k ≡ Some cells → listed ≡ cells.items
    → old ≡ entries_from entry 0 (take k made) → new ≡ old ++ map (entry k) (parts_in listed) → new ≡ entries_from entry 0 (take (k + 1) made)
entries_next entry made k cells listed old new at same so_far put =
    let front = take k made in
    let counted : 0 + length front ≡ k = omega (arith, length-take-le k made (omega (arith, slice_get_within made k cells at))) in
    put
    ∙ ap (λ (l : List (Option Prototype)). old ++ map (entry k) (parts_in l)) same
    ∙ ap (λ (es : List Entry). es ++ map (entry k) (parts_in cells.items)) so_far
    ∙ ap (λ (i : ℕ). entries_from entry 0 front ++ map (entry i) (parts_in cells.items)) (sym counted)
    ∙ sym (entries_push entry 0 front cells)
    ∙ ap (entries_from entry 0) (sym (one_more made k cells at))

-- those of all components
pub entries_all : (entry : ℕ → ℕ → Entry) (made : List (Vec (Option Prototype) Global)) (k : ℕ) (entries listed : List Entry) → length made ≤ k → listed ≡ entries → entries ≡ entries_from entry 0 (take k made) → listed ≡ entries_from entry 0 made
entries_all entry made k entries listed end same so_far = same ∙ so_far ∙ ap (entries_from entry 0) (take_all k made end)

-- ---- the graphs of a design

module _ (design : Design) (made : List (Vec (Option Prototype) Global)) (are : AreMade design made) (count : ℕ) (counted : count ≡ length made) where
  whole : count ≡ length design
  whole = counted ∙ are.sized

  pub parts_fit : (listed : List Entry) → listed ≡ entries_from part_read 0 made → All (λ (e : Entry). e.key < count) listed
  parts_fit listed same = subst (All (λ (e : Entry). e.key < count)) (sym same) (parts_below design made are count [] whole)

  pub holders_fit : (listed : List Entry) → listed ≡ entries_from holder_read 0 made → All (λ (e : Entry). e.key < count) listed
  holders_fit listed same = subst (All (λ (e : Entry). e.key < count)) (sym same) (holders_below design made are count [] whole)

  module _ (listed : List Entry) (reads : List (List ℕ)) (gathered : IsGathered listed count reads) (same : listed ≡ entries_from part_read 0 made) where
    parts_gathered : IsGathered (entries_from part_read 0 made) count reads
    parts_gathered = subst (λ (l : List Entry). IsGathered l count reads) same gathered

    pub reads_in_range : AreInRange reads
    reads_in_range n m has =
        let part = (reads_parts design made are count reads whole parts_gathered n m).0 has in
        omega (arith, slice_get_within design m part.part part.there, gathered.all, whole)

    -- the nesting of the design
    pub nesting_shown : (held : List Entry) (holders : List (List ℕ)) (order : PartOrder) → IsGathered held count holders → held ≡ entries_from holder_read 0 made → IsOrderOf reads order
        → ShowsNesting design (record { holders = holders; order = order })
    nesting_shown held holders order held_gathered same_held is =
        let turned : IsGathered (entries_from holder_read 0 made) count holders = subst (λ (l : List Entry). IsGathered l count holders) same_held held_gathered in
        record {
          sized = turned.all ∙ whole;
          in_range = λ m n has.
              let part = (reads_holders design made are count holders whole turned n m).0 has in
              omega (arith, slice_get_within design n part.c part.at, turned.all, whole);
          holders = reads_holders design made are count holders whole turned;
          order = shows_order design reads (reads_parts design made are count reads whole parts_gathered) (gathered.all ∙ whole) order is;
        }
