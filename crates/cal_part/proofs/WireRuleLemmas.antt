-- The rules of a component of wires alone: it has no items but its signature, its cells and its assignments.
use Rattle.std.proofs.Common.{◌≡◌, inl, inr, ℕ, suc, ◌<◌, List, [], ◌∷◌, ◌++◌, map, take, true, false, Some, refl, sym, ap, ◌∙◌, subst, append_assoc, arith}
use Rattle.std.specs.Prelude.{All, Contains, flat_map, slice_get}
use Rattle.std.proofs.lemmas.List.{append-nil}
use Rattle.std.proofs.lemmas.List.Elements.{All-nil, All-cons, Contains-append_cases}
use Rattle.cal_ast.proofs.ListLemmas.{Contains-at, Contains-none, Contains-cases_first, Contains-from_map}
use Rattle.cal_ast.specs.Items.{Item, TheSignature, TheCell, TheAssignment, TheStatement, each, each_after, group_items, control_statements, items_before_control, items_of}
use Rattle.cal_ast.specs.Naming.{Unreserved}
use Rattle.cal_ast.specs.Ports.{is_bare}
use Rattle.cal_ast.specs.Rules.{Rule, C1, C2, C3, C4, C5, C6, C7, C8, C9, C10, C11, Keeps, all_rules}
use Rattle.cal_ast.specs.Tree.{PortName, CellDef, GroupDef, Statement, Component, Design}
use Rattle.cal_ast.specs.Wires.{ReadsAlong}
use Rattle.cal_part.specs.Laws.{RanksShowNoLoop, WiresKeepRules}
use Rattle.cal_part.specs.WireRules.{FallsInRank, KeepsAsWires}
use Rattle.cal_part.proofs.WiredLemmas.{no_statements}

-- a rule is one of eleven
each_rule : (P : Rule → Type 0) → P C1 → P C2 → P C3 → P C4 → P C5 → P C6 → P C7 → P C8 → P C9 → P C10 → P C11 → All P all_rules
each_rule P c1 c2 c3 c4 c5 c6 c7 c8 c9 c10 c11 =
    All-cons P C1 (C2 ∷ C3 ∷ C4 ∷ C5 ∷ C6 ∷ C7 ∷ C8 ∷ C9 ∷ C10 ∷ C11 ∷ []) c1
    (All-cons P C2 (C3 ∷ C4 ∷ C5 ∷ C6 ∷ C7 ∷ C8 ∷ C9 ∷ C10 ∷ C11 ∷ []) c2
    (All-cons P C3 (C4 ∷ C5 ∷ C6 ∷ C7 ∷ C8 ∷ C9 ∷ C10 ∷ C11 ∷ []) c3
    (All-cons P C4 (C5 ∷ C6 ∷ C7 ∷ C8 ∷ C9 ∷ C10 ∷ C11 ∷ []) c4
    (All-cons P C5 (C6 ∷ C7 ∷ C8 ∷ C9 ∷ C10 ∷ C11 ∷ []) c5
    (All-cons P C6 (C7 ∷ C8 ∷ C9 ∷ C10 ∷ C11 ∷ []) c6
    (All-cons P C7 (C8 ∷ C9 ∷ C10 ∷ C11 ∷ []) c7
    (All-cons P C8 (C9 ∷ C10 ∷ C11 ∷ []) c8
    (All-cons P C9 (C10 ∷ C11 ∷ []) c9
    (All-cons P C10 (C11 ∷ []) c10
    (All-cons P C11 [] c11
    (All-nil P)))))))))))

-- a cell with those before it
record IsCellAfter (before cells : List CellDef) (item : Item) : Type 0 where
  k : ℕ
  cell : CellDef
  at : slice_get cells k ≡ Some cell
  is : TheCell (before ++ take k cells) cell ≡ item

cell_after : (before cells : List CellDef) (item : Item) → Contains (each_after TheCell before cells) item → IsCellAfter before cells item
cell_after before [] item has = absurd (Contains-none item has)
cell_after before (x ∷ cells) item has =
    elim (Contains-cases_first (TheCell before x) (each_after TheCell (before ++ x ∷ []) cells) item has) [
      | inl same ↦ record { k = 0; cell = x; at = refl; is = ap (λ (l : List CellDef). TheCell l x) (append-nil before) ∙ same }
      | inr there ↦ (let r = cell_after (before ++ x ∷ []) cells item there in
          record { k = suc r.k; cell = r.cell; at = r.at; is = ap (λ (l : List CellDef). TheCell l r.cell) (sym (append_assoc before (x ∷ []) (take r.k cells))) ∙ r.is })
    ]

module _ (design earlier : Design) (c : Component) (bare : is_bare c ≡ true) (no_groups : c.groups ≡ []) (keeps : KeepsAsWires design earlier c) where
  abbrev Good : Item → Type 0
  Good item = All (Keeps Unreserved design earlier c item) all_rules

  at_signature : Good TheSignature
  at_signature = each_rule (Keeps Unreserved design earlier c TheSignature) keeps.names tt tt keeps.widths tt tt tt tt tt tt tt

  at_cell : (item : Item) → IsCellAfter [] c.cells item → Good item
  at_cell item is =
      let k = keeps.cells is.k is.cell is.at in
      subst Good is.is
      (each_rule (Keeps Unreserved design earlier c (TheCell (take is.k c.cells) is.cell)) (k.new, λ control. let apart : true ≡ false = sym bare ∙ control in absurd (cc)) k.known k.parameters tt tt tt tt tt tt tt tt)

  at_set : (item : Item) → Contains (map TheAssignment c.sets) item → Good item
  at_set item has =
      let a = Contains-from_map TheAssignment c.sets item has in
      let k = keeps.sets a.0 a.1 in
      subst Good a.2 (each_rule (Keeps Unreserved design earlier c (TheAssignment a.0)) tt k.known tt k.widths k.drives k.reads tt tt tt tt tt)

  at_item : (item : Item) → Contains (items_of c) item → Good item
  at_item item has =
      let cells = each TheCell c.cells in
      let groups = flat_map (λ (items : List Item). items) (each group_items c.groups) in
      elim (Contains-append_cases (items_before_control c) (map TheStatement (control_statements c.control)) item has) [
        | inr statement ↦ absurd (Contains-none item (subst (λ (statements : List Statement). Contains (map TheStatement statements) item) (no_statements c.control c.sets bare) statement))
        | inl before ↦ elim (Contains-append_cases (TheSignature ∷ cells ++ groups) (map TheAssignment c.sets) item before) [
          | inr set ↦ at_set item set
          | inl first ↦ elim (Contains-append_cases (TheSignature ∷ cells) groups item first) [
            | inr group ↦
                absurd (Contains-none item (subst (λ (gs : List GroupDef). Contains (flat_map (λ (items : List Item). items) (each group_items gs)) item) no_groups group))
            | inl cell ↦ elim (Contains-cases_first TheSignature cells item cell) [
              | inl same ↦ subst Good same at_signature
              | inr later ↦ at_cell item (cell_after [] c.cells item later)
            ]
          ]
        ]
      ]

pub wires_keep_rules : WiresKeepRules
wires_keep_rules design earlier c bare no_groups keeps k item is = at_item design earlier c bare no_groups keeps item (Contains-at (items_of c) k item is)

-- the last of ports that read one another falls below the first
falls_along : (design : Design) (c : Component) (rank : PortName → ℕ) → FallsInRank design c rank → (first : PortName) (others : List PortName) (back : PortName) → ReadsAlong design c (first ∷ others) back → rank back < rank first
falls_along design c rank falls first [] back along = falls first back along
falls_along design c rank falls first (next ∷ others) back along =
    let step = falls first next along.0 in
    let rest = falls_along design c rank falls next others back along.1 in
    omega (arith, step, rest)

pub ranks_show_no_loop : RanksShowNoLoop
ranks_show_no_loop design c rank falls first others loop = let below = falls_along design c rank falls first others first loop.along in omega (arith, below)
